-- Coefficients of sums, multiples and renamed sums, and what keeps the equality of formal sums.
use Rattle.std.proofs.Common.{◌≡◌, ◌≢◌, ◌+◌, Bool, true, false, cond, ℤ, pos, negsuc, ◌+ℤ◌, ◌*ℤ◌, [], ◌∷◌, ◌++◌, refl, sym, ap, ◌∙◌, arith}
use Rattle.std.proofs.lemmas.List.{map-append}
use Rattle.std.specs.Prelude.{sum_by}
use Rattle.std.specs.List.Sorted.{IsPermutation}
use Rattle.std.proofs.lemmas.List.Sums.{sum_by-cons}
use Rattle.std.proofs.lemmas.List.Sorted.{sum_by-IsPermutation}
use borrow.Author.Differences.{up, down, ints, same_in}
use Rattle.formal_sums.specs.FormalSum.{FormalSum, coefficient, Same, scale, rename}
use Rattle.formal_sums.specs.Keys.{IsEqualityTest}
use Rattle.formal_sums.proofs.Keys.{eq-apart}
use Rattle.std.proofs.Math.IntN.{+ℤ_idr}
use Rattle.formal_sums.proofs.Integers.{*ℤ-+ℤ, *ℤ_assoc}

module _ {K : Type 0} (eq : K → K → Bool) where
  pub coefficient-append : (v w : FormalSum K) (k : K) → coefficient eq (v ++ w) k ≡ coefficient eq v k +ℤ coefficient eq w k
  coefficient-append [] w k = omega (arith, ints)
  coefficient-append (t ∷ v) w k = omega (arith, ints, coefficient-append v w k)

  cond-scale : (q a : ℤ) (b : Bool) → cond b (q *ℤ a) (pos 0) ≡ q *ℤ cond b a (pos 0)
  cond-scale q a true = refl
  cond-scale q a false = omega (arith, ints)

  pub coefficient-scale : (q : ℤ) (v : FormalSum K) (k : K) → coefficient eq (scale q v) k ≡ q *ℤ coefficient eq v k
  coefficient-scale q [] k = omega (arith, ints)
  coefficient-scale q (t ∷ v) k =
      (λ i. cond-scale q t.0 (eq t.1 k) i +ℤ coefficient-scale q v k i)
      ∙ sym (*ℤ-+ℤ q (cond (eq t.1 k) t.0 (pos 0)) (coefficient eq v k))

  pub Same-append : (v v' w w' : FormalSum K) → Same eq v v' → Same eq w w' → Same eq (v ++ w) (v' ++ w')
  Same-append v v' w w' h g k = coefficient-append v w k ∙ (λ i. h k i +ℤ g k i) ∙ sym (coefficient-append v' w' k)

  pub Same-scale : (q : ℤ) (v w : FormalSum K) → Same eq v w → Same eq (scale q v) (scale q w)
  Same-scale q v w h k = coefficient-scale q v k ∙ ap (λ z. q *ℤ z) (h k) ∙ sym (coefficient-scale q w k)

  -- v and w are the same where their difference is 0
  pub difference_same : (v w : FormalSum K) → Same eq (v ++ scale (negsuc 0) w) [] → Same eq v w
  difference_same v w h k = omega (arith, ints, h k, coefficient-append v (scale (negsuc 0) w) k, coefficient-scale (negsuc 0) w k)

  pub same_difference : (v w : FormalSum K) → Same eq v w → Same eq (v ++ scale (negsuc 0) w) []
  same_difference v w h k = omega (arith, ints, h k, coefficient-append v (scale (negsuc 0) w) k, coefficient-scale (negsuc 0) w k)

  -- the coefficient as a difference of two sums over ℕ, which a permutation keeps
  here : K → ℤ × K → ℤ
  here k t = cond (eq t.1 k) t.0 (pos 0)

  split : (v : FormalSum K) (k : K) → up (coefficient eq v k) + sum_by (λ t. down (here k t)) v ≡ down (coefficient eq v k) + sum_by (λ t. up (here k t)) v
  unfolding here
  split [] k = refl
  split (t ∷ v) k = omega (arith, ints, split v k, sum_by-cons (λ u. down (here k u)) t v, sum_by-cons (λ u. up (here k u)) t v)

  pub Same-permutation : (v w : FormalSum K) → IsPermutation v w → Same eq v w
  Same-permutation v w h k = same_in (coefficient eq v k) (coefficient eq w k)
      (omega (arith, split v k, split w k, sum_by-IsPermutation (λ t. down (here k t)) v w h, sum_by-IsPermutation (λ t. up (here k t)) v w h))

-- ---- a single term
module _ {K : Type 0} {eq : K → K → Bool} (test : IsEqualityTest eq) where
  pub coefficient_own : (q : ℤ) (k : K) → coefficient eq ((q, k) ∷ []) k ≡ q
  coefficient_own q k = rw (test.reflexive k) (+ℤ_idr q)

  pub coefficient_other : (q : ℤ) (k m : K) → k ≢ m → coefficient eq ((q, k) ∷ []) m ≡ pos 0
  coefficient_other q k m h = rw (eq-apart test k m h) refl

-- ---- equations of lists
pub scale-append : {K : Type 0} (q : ℤ) (v w : FormalSum K) → scale q (v ++ w) ≡ scale q v ++ scale q w
scale-append q v w = map-append _ v w

pub rename-append : {K J : Type 0} (f : K → J) (v w : FormalSum K) → rename f (v ++ w) ≡ rename f v ++ rename f w
rename-append f v w = map-append _ v w

pub scale-scale : {K : Type 0} (p q : ℤ) (v : FormalSum K) → scale p (scale q v) ≡ scale (p *ℤ q) v
scale-scale p q [] = refl
scale-scale p q (t ∷ v) = λ i. (sym (*ℤ_assoc p q t.0) i, t.1) ∷ scale-scale p q v i

pub rename-scale : {K J : Type 0} (f : K → J) (q : ℤ) (v : FormalSum K) → rename f (scale q v) ≡ scale q (rename f v)
rename-scale f q [] = refl
rename-scale f q (t ∷ v) = ap (λ l. (q *ℤ t.0, f t.1) ∷ l) (rename-scale f q v)

pub rename-rename : {K J I : Type 0} (g : J → I) (f : K → J) (v : FormalSum K) → rename g (rename f v) ≡ rename (λ k. g (f k)) v
rename-rename g f [] = refl
rename-rename g f (t ∷ v) = ap (λ l. (t.0, g (f t.1)) ∷ l) (rename-rename g f v)
