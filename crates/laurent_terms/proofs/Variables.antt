-- The monomials `one` and the variables.
use Rattle.std.proofs.Common.{◌≡◌, ℕ, zero, suc, ◌+◌, ◌*◌, ◌<◌, ◌≤◌, Bool, true, false, length, replicate, slice_set, slice_index, refl, arith}
use Rattle.std.proofs.Math.ListN.{length-set}
use Rattle.std.proofs.lemmas.List.Sums.{sum_by-set}
use Rattle.laurent_terms.specs.declared.TheConstants.{VARIABLES}
use Rattle.laurent_terms.specs.Monomials.{degree, one, variable, IsMonomial}

zero_at : (n k : ℕ) → slice_index (replicate n 0) k ≡ 0
zero_at zero k = refl
zero_at (suc n) zero = refl
zero_at (suc n) (suc k) = zero_at n k

pub degree-variable : (at : ℕ) → at < VARIABLES → degree (variable at) ≡ 1
degree-variable at h =
    let whole : degree (variable at) + slice_index one at ≡ degree one + 1 = sum_by-set (λ v. v) one at 1 0 h in
    omega (arith, whole, zero_at 48 at)

pub variable_is_monomial : (at : ℕ) → at < VARIABLES → IsMonomial (variable at)
variable_is_monomial at h = record { variables = length-set one at 1; most = omega (arith, degree-variable at h) }
