-- The factors of a pair as the program computes them.
use Rattle.std.proofs.Common.{◌≡◌, ℕ, zero, suc, ◌*◌, ◌/◌, ◌<◌, ◌≤◌, refl, sym, ap, subst, ◌∙◌, arith, ℤ, pos, negsuc, neg_ℤ, ◌*ℤ◌, ◌-ℤ◌, to_z, of_z}
use borrow.Author.Differences.{ints}
use lib.Signed.{quot_z}
use Rattle.std.specs.Prelude.{unsigned_abs, ◌<ℤ◌, ◌≤ℤ◌, FitsSigned}
use Rattle.std.specs.Int.{◌∣◌}
use mir.Syntax.{w128}
use Rattle.std.proofs.Math.Nat.{div-mul_cancel}
use Rattle.std.proofs.lemmas.Int.{to_z-of_z, fits_signed_from_abs}
use Rattle.formal_sums.proofs.Integers.{neg_ℤ-*ℤ}
use Rattle.laurent_terms.specs.Factors.{IsBezout}
use Rattle.module_vec.specs.Vectors.{InRange}
use Rattle.outcomes.specs.declared.kinds.PairKind.TheVariants.{S}
use Rattle.strong_pairs.specs.Pairs.{AreFactors}

abbrev pub word : ℤ → ℤ
word z = to_z w128 (of_z w128 z)

abbrev pub IsQuotient : ℤ → ℤ → ℤ → Type 0
IsQuotient l d q = (q *ℤ pos (unsigned_abs d) ≡ l) × (unsigned_abs q ≤ unsigned_abs l)

le_multiple : (a d : ℕ) → 0 < d → a ≤ a * d
le_multiple a (suc d) h = omega arith
le_multiple a zero h = absurd (omega (arith, h))

pub quotient_of : (l d : ℤ) → pos 0 <ℤ l → pos 0 <ℤ d → unsigned_abs d ∣ unsigned_abs l → IsQuotient l d (quot_z l d)
quotient_of (pos l) (pos d) h g u =
    let whole : (l / d) * d ≡ l = div-mul_cancel d u in
    (omega (arith, ints, whole), omega (arith, le_multiple (l / d) d (omega (arith, ints, g)), whole))
quotient_of (negsuc l) d h g u = absurd (omega (arith, ints, h))
quotient_of (pos l) (negsuc d) h g u = absurd (omega (arith, ints, g))

abs_neg : (z : ℤ) → unsigned_abs (neg_ℤ z) ≡ unsigned_abs z
abs_neg (pos zero) = refl
abs_neg (pos (suc n)) = refl
abs_neg (negsuc n) = refl

-- a positive number of 128 bits is in range
pub in_range : (z : ℤ) → pos 0 <ℤ z → FitsSigned w128 z → InRange z
in_range (pos n) h f = omega (arith, ints, f)
in_range (negsuc n) h f = absurd (omega (arith, ints, h))

pub fits : (z : ℤ) → InRange z → FitsSigned w128 z
fits z h = fits_signed_from_abs w128 z (omega (arith, h))

pub InRange-neg : (z : ℤ) → InRange z → InRange (neg_ℤ z)
InRange-neg z h = omega (arith, h, abs_neg z)

-- the negative as 128 bits give it
pub word-neg : (z : ℤ) → InRange z → word (pos 0 -ℤ word z) ≡ neg_ℤ z
word-neg z h =
    let sign : pos 0 -ℤ z ≡ neg_ℤ z = omega (arith, ints) in
    ap (λ n. word (pos 0 -ℤ n)) (to_z-of_z w128 z (fits z h)) ∙ ap word sign ∙ to_z-of_z w128 (neg_ℤ z) (fits (neg_ℤ z) (InRange-neg z h))

module _ (k l d u v : ℤ) (k-pos : pos 0 <ℤ k) (l-pos : pos 0 <ℤ l) (k_fits : FitsSigned w128 k) (l_fits : FitsSigned w128 l) (bezout : IsBezout k l d u v) where
  of_first : IsQuotient k d (quot_z k d)
  of_first = quotient_of k d k-pos bezout.positive bezout.divisor.0

  of_second : IsQuotient l d (quot_z l d)
  of_second = quotient_of l d l-pos bezout.positive bezout.divisor.1

  first_range : InRange (quot_z k d)
  first_range = omega (arith, of_first.1, in_range k k-pos k_fits)

  second_range : InRange (quot_z l d)
  second_range = omega (arith, of_second.1, in_range l l-pos l_fits)

  divisor_fits : FitsSigned w128 d → word d ≡ d
  divisor_fits = to_z-of_z w128 d

  module _ (d_fits : FitsSigned w128 d) where
    first_word : word (quot_z (word l) (word d)) ≡ quot_z l d
    first_word = ap word (λ i. quot_z (to_z-of_z w128 l l_fits i) (to_z-of_z w128 d d_fits i)) ∙ to_z-of_z w128 (quot_z l d) (fits (quot_z l d) second_range)

    second_word : word (pos 0 -ℤ word (quot_z (word k) (word d))) ≡ neg_ℤ (quot_z k d)
    second_word = ap (λ n. word (pos 0 -ℤ word n)) (λ i. quot_z (to_z-of_z w128 k k_fits i) (to_z-of_z w128 d d_fits i)) ∙ word-neg (quot_z k d) first_range

    pub s_factors : AreFactors S k l (word (quot_z (word l) (word d))) (word (pos 0 -ℤ word (quot_z (word k) (word d))))
    s_factors = (
      unsigned_abs d,
      bezout.divisor,
      ap (λ n. n *ℤ pos (unsigned_abs d)) first_word ∙ of_second.0,
      ap (λ n. n *ℤ pos (unsigned_abs d)) second_word ∙ neg_ℤ-*ℤ (quot_z k d) (pos (unsigned_abs d)) ∙ ap neg_ℤ of_first.0,
    )

    pub s_range : InRange (word (quot_z (word l) (word d))) × InRange (word (pos 0 -ℤ word (quot_z (word k) (word d))))
    s_range = (subst InRange (sym first_word) second_range, subst InRange (sym second_word) (InRange-neg (quot_z k d) first_range))

  abs-pos : (z : ℤ) → pos 0 <ℤ z → 0 < unsigned_abs z
  abs-pos (pos n) h = omega (arith, ints, h)
  abs-pos (negsuc n) h = absurd (omega (arith, ints, h))

  first_small : (u d l : ℤ) → pos 0 ≤ℤ u → pos 0 <ℤ d → (u *ℤ d) <ℤ l → unsigned_abs u ≤ unsigned_abs l
  first_small (pos u) (pos d) (pos l) h g e = omega (arith, ints, e, le_multiple u d (omega (arith, ints, g)))
  first_small (negsuc u) d l h g e = absurd (omega (arith, ints, h))
  first_small (pos u) (negsuc d) l h g e = absurd (omega (arith, ints, g))
  first_small (pos u) (pos d) (negsuc l) h g e = absurd (omega (arith, ints, e))

  pub g_range : InRange u × InRange v
  g_range = (
    omega (arith, first_small u d l bezout.natural bezout.positive bezout.below, in_range l l-pos l_fits),
    omega (arith, bezout.within, le_multiple (unsigned_abs v) (unsigned_abs d) (abs-pos d bezout.positive), in_range k k-pos k_fits),
  )
