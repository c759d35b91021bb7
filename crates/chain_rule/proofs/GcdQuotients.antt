-- Quotients by a greatest common divisor as the program computes them.
use Rattle.std.proofs.Common.{◌≡◌, zero, suc, sym, ap, ◌∙◌, arith, ℤ, pos, negsuc, ◌*ℤ◌, FitsSigned}
use borrow.Author.Differences.{ints}
use lib.Signed.{quot_z}
use mir.Syntax.{w128}
use Rattle.std.specs.Prelude.{◌<ℤ◌}
use Rattle.std.proofs.lemmas.Int.{to_z-of_z}
use Rattle.laurent_terms.specs.Factors.{IsBezout}
use Rattle.module_vec.specs.Vectors.{InRange}
use Rattle.strong_pairs.proofs.Quotients.{word, IsQuotient, quotient_of, in_range, fits}
use Rattle.chain_rule.proofs.Gauss.{positive_is}
use Rattle.chain_rule.proofs.CommonMultiples.{IsPart}

factor_positive : (q d k : ℤ) → pos 0 <ℤ k → pos 0 <ℤ d → k ≡ q *ℤ d → pos 0 <ℤ q
factor_positive (pos zero) d k hk hd e = absurd (nothing d k hk e)
  where
    nothing : (d k : ℤ) → pos 0 <ℤ k → k ≡ pos 0 *ℤ d → ⊥
    nothing d k hk e = omega (arith, ints, hk, e)
factor_positive (pos (suc q)) d k hk hd e = omega (arith, ints)
factor_positive (negsuc q) (pos d) k hk hd e = absurd (omega (arith, ints, hk, e))
factor_positive (negsuc q) (negsuc d) k hk hd e = absurd (omega (arith, ints, hd))

module _ (k l d u v : ℤ) (hk : pos 0 <ℤ k) (hl : pos 0 <ℤ l) (k_fits : FitsSigned w128 k) (d_fits : FitsSigned w128 d) (bezout : IsBezout k l d u v) where
  quotient : IsQuotient k d (quot_z k d)
  quotient = quotient_of k d hk bezout.positive bezout.divisor.0

  quotient_range : InRange (quot_z k d)
  quotient_range = omega (arith, quotient.1, in_range k hk k_fits)

  same : word (quot_z (word k) (word d)) ≡ quot_z k d
  same = ap word (λ i. quot_z (to_z-of_z w128 k k_fits i) (to_z-of_z w128 d d_fits i)) ∙ to_z-of_z w128 (quot_z k d) (fits (quot_z k d) quotient_range)

  whole : k ≡ word (quot_z (word k) (word d)) *ℤ d
  whole = sym quotient.0 ∙ λ i. sym same i *ℤ positive_is d bezout.positive i

  pub part_is : IsPart k l (word (quot_z (word k) (word d)))
  part_is = (d, bezout.positive, bezout.divisor, whole)

  pub part_positive : pos 0 <ℤ word (quot_z (word k) (word d))
  part_positive = factor_positive (word (quot_z (word k) (word d))) d k hk bezout.positive whole
