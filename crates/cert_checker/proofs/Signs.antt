-- The negative of a vector.
use Rattle.std.proofs.Common.{◌≡◌, Bool, true, false, ℤ, negsuc, neg_ℤ, ◌*ℤ◌, List, ap, ◌∙◌, arith}
use borrow.Author.Differences.{ints}
use Rattle.formal_sums.specs.FormalSum.{coefficient, scale}
use Rattle.formal_sums.proofs.Coefficients.{coefficient-scale}
use Rattle.module_vec.specs.declared.places.Place.{Place}
use Rattle.module_vec.specs.declared.places.Term.{Term}
use Rattle.module_vec.specs.Places.{same_place}
use Rattle.module_vec.specs.Vectors.{sum_of, coefficient_at}
use Rattle.cert_checker.specs.Checking.{signed}

minus_one : (z : ℤ) → negsuc 0 *ℤ z ≡ neg_ℤ z
minus_one z = omega (arith, ints)

pub negative : (old new : List Term) → sum_of new ≡ scale (negsuc 0) (sum_of old) → (x : Place) → coefficient_at new x ≡ neg_ℤ (coefficient_at old x)
negative old new e x = ap (λ v. coefficient same_place v x) e ∙ coefficient-scale same_place (negsuc 0) (sum_of old) x ∙ minus_one (coefficient_at old x)

pub turned_sign : (negated : Bool) (v old new : List Term) → negated ≡ true → old ≡ v → sum_of new ≡ scale (negsuc 0) (sum_of old) → (x : Place)
    → coefficient_at new x ≡ signed negated v x
turned_sign true v old new t is e x = negative old new e x ∙ ap (λ w. neg_ℤ (coefficient_at w x)) is
turned_sign false v old new t is e x = absurd cc
