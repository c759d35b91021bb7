-- A presentation has one number of generator entries.
use Rattle.std.proofs.Common.{◌≡◌, ◌≢◌, suc, List, [], ◌∷◌, length, ◌∙◌, ap, arith, refl, ℤ}
use Rattle.std.proofs.lemmas.List.{length-map}
use Rattle.presentation.specs.Presented.{Presented}
use Rattle.formal_sums.specs.FormalSum.{FormalSum, Same}
use Rattle.formal_sums.proofs.Shortest.{falling_shortest}
use Rattle.module_vec.specs.declared.places.Place.{Place}
use Rattle.module_vec.specs.declared.places.Term.{Term}
use Rattle.module_vec.specs.Places.{same_place}
use Rattle.module_vec.specs.Vectors.{sum_of}
use Rattle.module_vec.proofs.Order.{test, order}
use Rattle.fox_calculus.specs.Generators.{AreWritten, IsZero, IsWritten}
use Rattle.fox_calculus.specs.Generators.AreWritten.{nothing, left_out, written}
use Rattle.fox_calculus.proofs.Short.{nonzero}
use Rattle.basis_entry.specs.Base.{AreBase}
use Rattle.basis_entry.specs.Entries.{BasisEntry}
use Rattle.legal_report.specs.Seats.{IsBaseCount}

-- a vector with a term isn't zero
not_zero : (f : FormalSum Place) (g : List Term) → IsZero f → IsWritten f g → g ≢ [] → ⊥
not_zero f [] zero is some = some refl
not_zero f (t ∷ g) zero is some =
    let none : Same same_place (sum_of (t ∷ g)) [] = λ x. is.same x ∙ zero x in
    let le = falling_shortest test order (sum_of (t ∷ g)) [] is.sparse.falling (nonzero (t ∷ g) is.sparse.terms) none in
    let l : length (sum_of (t ∷ g)) ≡ length (t ∷ g) = length-map {B = ℤ × Place} (t ∷ g) (λ x. (x.k, x.at)) in
    absurd (omega (arith, le, l))

-- two lists of the generators are of one length
same_count : (fs : List (FormalSum Place)) (gs hs : List (List Term)) → AreWritten fs gs → AreWritten fs hs → length gs ≡ length hs
same_count [] _ _ nothing nothing = refl
same_count (_ ∷ _) _ _ (left_out f fs gs zero are) (left_out _ _ hs none too) = same_count fs gs hs are too
same_count (_ ∷ _) _ _ (left_out f fs gs zero are) (written _ h _ hs some is too) = absurd (not_zero f h zero is some)
same_count (_ ∷ _) _ _ (written f g fs gs some is are) (left_out _ _ hs zero too) = absurd (not_zero f g zero is some)
same_count (_ ∷ _) _ _ (written f g fs gs some is are) (written _ h _ hs more same too) = ap suc (same_count fs gs hs are too)

pub base_count : (p : Presented) (es : List BasisEntry) → AreBase p es → IsBaseCount p (length es)
base_count p es base fs other =
    let gens = same_count _ base.gens other.gens base.generators other.generators in
    let here = base.count in
    let there = other.count in
    omega (arith, gens, here, there)
