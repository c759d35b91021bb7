-- Lists of the pairs that pass a test.
use Rattle.std.proofs.Common.{◌≡◌, ℕ, zero, suc, ◌<◌, Bool, true, false, if◌then◌else◌, List, [], ◌∷◌, ◌++◌, ◌⊎◌, inl, inr, ◌↔◌, IsTrue, refl, sym, ap, subst}
use Rattle.std.proofs.Common.{◌∙◌, arith}
use Rattle.std.specs.List.{AllByRecursion, Contains}
use Rattle.std.proofs.lemmas.List.Elements.{Contains-append_left, Contains-append_right}
use Rattle.chain_rule.specs.ClosedPairs.{pairs_with, pairs_where}
use Rattle.chain_rule.proofs.ClosedPairs.{contained}

pub all_append : {X : Type 0} (P : X → Type 0) (xs ys : List X) → AllByRecursion P xs → AllByRecursion P ys → AllByRecursion P (xs ++ ys)
all_append P [] ys h g = g
all_append P (x ∷ xs) ys h g = (h.0, all_append P xs ys h.1 g)

first_of : {X : Type 0} (xs : List X) (x : X) → Contains (x ∷ xs) x
first_of xs x = (0, omega arith, refl)

behind_first : {X : Type 0} (xs : List X) (y x : X) → Contains xs x → Contains (y ∷ xs) x
behind_first xs y x (k, h, e) = (suc k, omega (arith, h), e)

last_or_below : (i n : ℕ) → i < suc n → (i ≡ n) ⊎ (i < n)
last_or_below i n h = grind arith

module _ (test : ℕ → ℕ → Bool) where
  with_all : (P : ℕ × ℕ → Type 0) (j n : ℕ) → ((i : ℕ) → i < n → test i j ≡ true → P (i, j)) → AllByRecursion P (pairs_with test j n)
  with_all P j zero h = tt
  with_all P j (suc n) h = by (test n j) refl (with_all P j n (λ i l e. h i (omega (arith, l)) e))
    where
      by : (r : Bool) → test n j ≡ r → AllByRecursion P (pairs_with test j n)
          → AllByRecursion P (if r then (n, j) ∷ pairs_with test j n else pairs_with test j n)
      by true e rest = (h n (omega arith) e, rest)
      by false e rest = rest

  pub where_all : (P : ℕ × ℕ → Type 0) (n : ℕ) → ((i j : ℕ) → i < j → j < n → test i j ≡ true → P (i, j)) → AllByRecursion P (pairs_where test n)
  where_all P zero h = tt
  where_all P (suc j) h = all_append P (pairs_with test j j) (pairs_where test j) (with_all P j j (λ i l e. h i j l (omega arith) e))
      (where_all P j (λ i k l m e. h i k l (omega (arith, m)) e))

  with_contains : (i j n : ℕ) → i < n → test i j ≡ true → Contains (pairs_with test j n) (i, j)
  with_contains i j zero h e = absurd (omega (arith, h))
  with_contains i j (suc n) h e = by (test n j) refl (last_or_below i n h) (λ l. with_contains i j n l e)
    where
      by : (r : Bool) → test n j ≡ r → (i ≡ n) ⊎ (i < n) → (i < n → Contains (pairs_with test j n) (i, j))
          → Contains (if r then (n, j) ∷ pairs_with test j n else pairs_with test j n) (i, j)
      by true f (inl s) others = subst (λ m. Contains ((m, j) ∷ pairs_with test j n) (i, j)) s (first_of (pairs_with test j n) (i, j))
      by true f (inr l) others = behind_first (pairs_with test j n) (n, j) (i, j) (others l)
      by false f (inl s) others = absurd (let wrong : true ≡ false = sym e ∙ ap (λ m. test m j) s ∙ f in cc)
      by false f (inr l) others = others l

  where_contains : (i j n : ℕ) → i < j → j < n → test i j ≡ true → Contains (pairs_where test n) (i, j)
  where_contains i j zero h l e = absurd (omega (arith, l))
  where_contains i j (suc n) h l e = by (last_or_below j n l) (λ k. where_contains i j n h k e)
    where
      by : (j ≡ n) ⊎ (j < n) → (j < n → Contains (pairs_where test n) (i, j)) → Contains (pairs_where test (suc n)) (i, j)
      by (inl s) others = Contains-append_left (pairs_with test n n) (pairs_where test n) (i, j)
          (subst (λ m. Contains (pairs_with test m m) (i, j)) s (with_contains i j j h e))
      by (inr k) others = Contains-append_right (pairs_with test n n) (pairs_where test n) (i, j) (others k)

  pub selected : (n i j : ℕ) → Contains (pairs_where test n) (i, j) ↔ ((i < j) × (j < n) × IsTrue (test i j))
  selected n i j = (
    contained (λ p. (p.0 < p.1) × (p.1 < n) × IsTrue (test p.0 p.1)) (pairs_where test n) (where_all (λ p. (p.0 < p.1) × (p.1 < n)
        × IsTrue (test p.0 p.1)) n (λ k l h g e. (h, g, e))) (i, j),
    λ h. where_contains i j n h.0 h.1 h.2,
  )
