-- Values of formal sums: each key gets a value, and the multiples of the values by the coefficients
-- are added up.
use Rattle.std.specs.Prelude.{ℤ, pos, ◌+ℤ◌, ◌*ℤ◌, [], ◌∷◌, ◌++◌}
use Rattle.formal_sums.specs.FormalSum.{FormalSum, scale}

-- what adding up takes: the sum of two values, the value of the empty sum, and integer multiples
pub record Addition (C : Type 0) : Type 0 where
  pub plus : C → C → C
  pub unit : C
  pub times : ℤ → C → C

-- the laws of a commutative monoid with integer multiples, where Alike counts as equality
pub record IsAdditive {C : Type 0} (addition : Addition C) (Alike : C → C → Type 0) : Type 0 where
  pub reflexive : (a : C) → Alike a a
  pub symmetric : (a b : C) → Alike a b → Alike b a
  pub transitive : (a b c : C) → Alike a b → Alike b c → Alike a c
  pub plus_congruent : (a b c d : C) →
      Alike a b → Alike c d → Alike (addition.plus a c) (addition.plus b d)
  pub plus_assoc : (a b c : C) →
      Alike (addition.plus (addition.plus a b) c) (addition.plus a (addition.plus b c))
  pub plus_comm : (a b : C) → Alike (addition.plus a b) (addition.plus b a)
  pub unit-plus : (a : C) → Alike (addition.plus addition.unit a) a
  pub zero-times : (a : C) → Alike (addition.times (pos 0) a) addition.unit
  pub add-times : (p q : ℤ) (a : C) →
      Alike (addition.times (p +ℤ q) a) (addition.plus (addition.times p a) (addition.times q a))

-- the value of a sum, where each key k has the value f k
abbrev pub evaluate : {K C : Type 0} → Addition C → (K → C) → FormalSum K → C
evaluate addition f [] = addition.unit
evaluate addition f (t ∷ v) = addition.plus (addition.times t.0 (f t.1)) (evaluate addition f v)

-- the map g of sums is additive, and takes a term q·k to q times f k
pub record Extends {K C : Type 0} (addition : Addition C) (Alike : C → C → Type 0)
    (f : K → C) (g : FormalSum K → C) : Type 0 where
  pub empty : Alike (g []) addition.unit
  pub append : (v w : FormalSum K) → Alike (g (v ++ w)) (addition.plus (g v) (g w))
  pub single : (q : ℤ) (k : K) → Alike (g ((q, k) ∷ [])) (addition.times q (f k))

-- integers are added as integers
abbrev pub integer_addition : Addition ℤ
integer_addition = record { plus = λ a b. a +ℤ b; unit = pos 0; times = λ q a. q *ℤ a }

-- formal sums are added as lists
abbrev pub sum_addition : {J : Type 0} → Addition (FormalSum J)
sum_addition = record { plus = λ v w. v ++ w; unit = []; times = λ q v. scale q v }
