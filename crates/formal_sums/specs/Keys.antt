-- What the keys of formal sums bring: a test for equality, and a strict order.
use Rattle.std.specs.Prelude.{◌≡◌, Bool, ◌⊎◌, IsTrue}

-- the test is true exactly of equal keys
pub record IsEqualityTest {K : Type 0} (eq : K → K → Bool) : Type 0 where
  pub sound : (a b : K) → IsTrue (eq a b) → a ≡ b
  pub reflexive : (a : K) → IsTrue (eq a a)

-- a strict total order
pub record IsStrictOrder {K : Type 0} (Below : K → K → Type 0) : Type 0 where
  pub irreflexive : (a : K) → Below a a → ⊥
  pub transitive : (a b c : K) → Below a b → Below b c → Below a c
  pub total : (a b : K) → (a ≡ b) ⊎ (Below a b ⊎ Below b a)
