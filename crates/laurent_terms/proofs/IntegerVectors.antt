-- The monomial of an integer vector, number by number.
use Rattle.std.proofs.Common.{◌≡◌, ℕ, zero, suc, ◌+◌, ◌-◌, ◌-ℤ◌, ◌⊎◌, inl, inr, slice_index, ◌*◌, ◌<◌, ◌≤◌, true, false, List, [], ◌∷◌, ◌++◌, length, take}
use Rattle.std.proofs.Common.{replicate, slice_set, slice_index_or, sum_by, ℤ, pos, negsuc, refl, sym, ap, ◌∙◌, arith, append_assoc}
use Rattle.std.specs.Prelude.{unsigned_abs, int_lt, nat_lt}
use borrow.Author.Differences.{ints}
use Rattle.std.proofs.lemmas.List.{set-append_right, length-append, length-replicate, length-take-le, take_more}
use Rattle.std.proofs.lemmas.List.Sums.{sum_by-cons, sum_by-append}
use Rattle.std.proofs.lemmas.List.Folds.{sum_by-replicate}
use Rattle.laurent_terms.specs.declared.TheConstants.{VARIABLES, DEGREE}
use Rattle.laurent_terms.specs.Monomials.{degree, IsMonomial, positive_part, negative_part, both_parts, monomial_of}

pub length-both_parts : (p : List ℤ) → length (both_parts p) ≡ 2 * length p
length-both_parts [] = refl
length-both_parts (z ∷ p) = omega (arith, length-both_parts p)

pub both_parts-append : (p q : List ℤ) → both_parts (p ++ q) ≡ both_parts p ++ both_parts q
both_parts-append [] q = refl
both_parts-append (z ∷ p) q = ap (λ t. positive_part z ∷ negative_part z ∷ t) (both_parts-append p q)

pub length-monomial_of : (p : List ℤ) → 2 * length p ≤ VARIABLES → length (monomial_of p) ≡ VARIABLES
length-monomial_of p h = omega (
  arith,
  length-append (both_parts p) (replicate (VARIABLES - 2 * length p) 0),
  length-both_parts p,
  length-replicate {A =
      ℕ} (VARIABLES - 2 * length p) 0,
)

parts_add_up : (z : ℤ) → positive_part z + negative_part z ≡ unsigned_abs z
parts_add_up (pos n) = omega arith
parts_add_up (negsuc n) = omega arith

degree-both_parts : (p : List ℤ) → degree (both_parts p) ≡ sum_by unsigned_abs p
degree-both_parts [] = refl
degree-both_parts (z ∷ p) =
    let rest = both_parts p in
    omega (
      arith,
      parts_add_up z,
      degree-both_parts p,
      sum_by-cons unsigned_abs z p,
      sum_by-cons (λ v. v) (positive_part z) (negative_part z ∷ rest),
      sum_by-cons (λ v. v) (negative_part z) rest,
    )

pub degree-monomial_of : (p : List ℤ) → degree (monomial_of p) ≡ sum_by unsigned_abs p
degree-monomial_of p =
    let n = VARIABLES - 2 * length p in
    omega (arith, sum_by-append (λ v. v) (both_parts p) (replicate n 0), sum_by-replicate (λ v. v) n 0, degree-both_parts p)

-- one more number, where there is room for its two exponents
module _ (p : List ℤ) (m : ℕ) (room : VARIABLES - 2 * length p ≡ suc (suc m)) where
  before : monomial_of p ≡ both_parts p ++ 0 ∷ 0 ∷ replicate m 0
  before = ap (λ n. both_parts p ++ replicate n 0) room

  after : (z : ℤ) → monomial_of (p ++ z ∷ []) ≡ both_parts p ++ positive_part z ∷ negative_part z ∷ replicate m 0
  after z =
      let left : VARIABLES - 2 * length (p ++ z ∷ []) ≡ m = omega (arith, length-append p (z ∷ [])) in
      rw (left, both_parts-append p (z ∷ []), append_assoc) refl

  written : (at k a : ℕ) → at ≡ 2 * length p + k → slice_set (monomial_of p) at a ≡ both_parts p ++ slice_set (0 ∷ 0 ∷ replicate m 0) k a
  written at k a e =
      let off : at - 2 * length p ≡ k = omega arith in
      rw before (set-append_right (both_parts p) (0 ∷ 0 ∷ replicate m 0) (2 * length p) at a (length-both_parts p) (omega arith)
      ∙ ap (λ n. both_parts p ++ slice_set (0 ∷ 0 ∷ replicate m 0) n a) off)

  pub positive_next : (z : ℤ) (at : ℕ) → int_lt z (pos 0) ≡ false → at ≡ 2 * length p
      → slice_set (monomial_of p) at (unsigned_abs z) ≡ monomial_of (p ++ z ∷ [])
  positive_next (pos n) at s e = written at 0 n (omega arith) ∙ sym (after (pos n))
  positive_next (negsuc n) at s e = absurd cc

  pub negative_next : (z : ℤ) (at : ℕ) → int_lt z (pos 0) ≡ true → at ≡ 2 * length p + 1
      → slice_set (monomial_of p) at (unsigned_abs z) ≡ monomial_of (p ++ z ∷ [])
  negative_next (pos n) at s e = let none : nat_lt n 0 ≡ false = grind arith in absurd cc
  negative_next (negsuc n) at s e = written at 1 (suc n) e ∙ sym (after (negsuc n))

-- the same at a list of which g numbers are done
module _ (p : List ℤ) (g : ℕ) (short : 2 * length p ≤ VARIABLES) (h : g < length p) where
  abbrev done : List ℤ
  done = take g p

  room : VARIABLES - 2 * length done ≡ suc (suc (VARIABLES - 2 * length done - 2))
  room = omega (arith, length-take-le g p (omega arith))

  pub positive_turn : (at : ℕ) → int_lt (slice_index_or p g (pos 0)) (pos 0) ≡ false → at ≡ 2 * g
      → slice_set (monomial_of (take g p)) at (unsigned_abs (slice_index_or p g (pos 0))) ≡ monomial_of (take (g + 1) p)
  positive_turn at s e = rw (take_more p g (pos 0) h) (positive_next done (VARIABLES - 2 * length done - 2) room (slice_index_or p g (pos 0)) at s
      (omega (arith, length-take-le g p (omega arith))))

  pub negative_turn : (at : ℕ) → int_lt (slice_index_or p g (pos 0)) (pos 0) ≡ true → at ≡ 2 * g + 1
      → slice_set (monomial_of (take g p)) at (unsigned_abs (slice_index_or p g (pos 0))) ≡ monomial_of (take (g + 1) p)
  negative_turn at s e = rw (take_more p g (pos 0) h) (negative_next done (VARIABLES - 2 * length done - 2) room (slice_index_or p g (pos 0)) at s
      (omega (arith, length-take-le g p (omega arith))))

pub monomial_of_is : (p : List ℤ) → 2 * length p ≤ VARIABLES → sum_by unsigned_abs p ≤ DEGREE → IsMonomial (monomial_of p)
monomial_of_is p short small = record { variables = length-monomial_of p short; most = omega (arith, degree-monomial_of p) }

-- ---- reading the exponents

zero_at : (n k : ℕ) → slice_index (replicate n 0) k ≡ 0
zero_at zero k = refl
zero_at (suc n) zero = refl
zero_at (suc n) (suc k) = zero_at n k

positive_from : (p : List ℤ) (m g : ℕ) → slice_index (both_parts p ++ replicate m 0) (2 * g) ≡ positive_part (slice_index_or p g (pos 0))
positive_from [] m g = zero_at m (2 * g)
positive_from (z ∷ p) m zero = refl
positive_from (z ∷ p) m (suc g) = let e : 2 * suc g ≡ suc (suc (2 * g)) = omega arith in rw e (positive_from p m g)

negative_from : (p : List ℤ) (m g : ℕ) → slice_index (both_parts p ++ replicate m 0) (2 * g + 1) ≡ negative_part (slice_index_or p g (pos 0))
negative_from [] m g = zero_at m (2 * g + 1)
negative_from (z ∷ p) m zero = refl
negative_from (z ∷ p) m (suc g) = let e : 2 * suc g + 1 ≡ suc (suc (2 * g + 1)) = omega arith in rw e (negative_from p m g)

pub positive_at : (p : List ℤ) (g : ℕ) → slice_index (monomial_of p) (2 * g) ≡ positive_part (slice_index_or p g (pos 0))
positive_at p g = positive_from p (VARIABLES - 2 * length p) g

pub negative_at : (p : List ℤ) (g : ℕ) → slice_index (monomial_of p) (2 * g + 1) ≡ negative_part (slice_index_or p g (pos 0))
negative_at p g = negative_from p (VARIABLES - 2 * length p) g

pub difference : (z : ℤ) → pos (positive_part z) -ℤ pos (negative_part z) ≡ z
difference (pos n) = omega (arith, ints)
difference (negsuc n) = omega (arith, ints)

pub apart : (z : ℤ) → (positive_part z ≡ 0) ⊎ (negative_part z ≡ 0)
apart (pos n) = inr refl
apart (negsuc n) = inl refl
