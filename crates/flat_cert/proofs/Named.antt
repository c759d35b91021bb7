-- What follows from an answer: that the word is trivial, or that the place that is named is over the generators.
use Rattle.std.proofs.Common.{◌≡◌, ◌≢◌, ℕ, zero, suc, ℤ, pos, negsuc, ◌+ℤ◌, ◌-ℤ◌, Bool, true, false, List, [], ◌∷◌, length, slice_index, refl}
use Rattle.std.proofs.Common.{subst, ◌∙◌, arith, ◌⊎◌, inl, inr}
use Rattle.std.specs.Prelude.{Result, Ok, Err, IfOk, IfErr}
use Rattle.std.specs.List.{AllByRecursion}
use borrow.Author.Differences.{ints}
use Rattle.free_words.specs.declared.letter.Letter.{Letter}
use Rattle.presentation.specs.Presented.{Presented, IsPresented}
use Rattle.derivation.specs.Moves.{IsWordOver, Trivial}
use Rattle.formal_sums.specs.FormalSum.{FormalSum, Same, coefficient}
use Rattle.module_vec.specs.declared.places.Place.{Place}
use Rattle.module_vec.specs.Places.{same_place}
use Rattle.module_vec.proofs.Order.{test}
use Rattle.vector_text.specs.Over.{PlaceIsOver}
use Rattle.fox_calculus.specs.Fox.{fox}
use Rattle.flat_cert.specs.declared.faults.FlatSumFault.{FlatSumFault}
use Rattle.flat_cert.specs.declared.faults.FlatSumFault.TheVariants.{Beyond, NotZero, NoMemory}
use Rattle.flat_cert.specs.declared.lines.Flat.{Flat}
use Rattle.flat_cert.specs.Images.{cancelled, flat_image, IsSumOver}
use Rattle.flat_cert.specs.Certificates.{AreFlat, certificate_sum}
use Rattle.flat_cert.specs.Checking.{Answers, FaultIsOver}
use Rattle.flat_cert.proofs.Answering.{images_same}
use Rattle.flat_cert.proofs.Certified.{fox_is_over, certificate_is_over, certified_is_trivial}

pub equal_images : (p : Presented) (w : List Letter) (ls : List Flat) (r : Result (Unit {0}) FlatSumFault) → Answers p w ls r
    → IfOk r (λ _. Same same_place (flat_image (fox w)) (flat_image (certificate_sum p ls)))
equal_images p w ls (Ok _) answers = images_same p w ls answers.0
equal_images p w ls (Err e) answers = tt

pub shown_trivial : (p : Presented) (w : List Letter) (ls : List Flat) (r : Result (Unit {0}) FlatSumFault) → IsPresented p → IsWordOver p w
    → AreFlat p ls → Answers p w ls r → IfOk r (λ _. Trivial p w)
shown_trivial p w ls (Ok _) known over are answers = certified_is_trivial p w ls known over are (images_same p w ls answers.0)
shown_trivial p w ls (Err e) known over are answers = tt

-- ---- the place that is named

cancelled_at : (s : List ℕ) (v : ℕ) → slice_index s v ≡ 0 → slice_index (cancelled s) v ≡ 0
cancelled_at [] v h = h
cancelled_at (a ∷ []) v h = h
cancelled_at (a ∷ b ∷ s) zero h = let none : a ≡ 0 = h in omega (arith, none)
cancelled_at (a ∷ b ∷ s) (suc zero) h = let none : b ≡ 0 = h in omega (arith, none)
cancelled_at (a ∷ b ∷ s) (suc (suc v)) h = cancelled_at s v h

flat_over : (n : ℕ) (v : FormalSum Place) → IsSumOver n v → AllByRecursion (λ t. PlaceIsOver n t.1) (flat_image v)
flat_over n [] all = tt
flat_over n ((k, x) ∷ v) all = (
  record { mono = λ at le. cancelled_at x.m at (all.0.over.mono at le); component = all.0.over.component },
  flat_over n v all.1,
)

-- a place with a coefficient stands in the sum
stands : (n : ℕ) (f : FormalSum Place) (x : Place) → AllByRecursion (λ t. PlaceIsOver n t.1) f → coefficient same_place f x ≢ pos 0 → PlaceIsOver n x
stands n [] x h some = absurd (some refl)
stands n (t ∷ f) x h some = by (same_place t.1 x) refl (stands n f x h.1)
  where
    skipped : (z : ℤ) → pos 0 +ℤ z ≡ z
    skipped z = omega (arith, ints)

    by : (b : Bool) → same_place t.1 x ≡ b → (coefficient same_place f x ≢ pos 0 → PlaceIsOver n x) → PlaceIsOver n x
    by true e again = subst (PlaceIsOver n) (test.sound t.1 x e) h.0
    by false e again = again (λ z. some (rw e (skipped (coefficient same_place f x) ∙ z)))

apart : (a b : ℤ) → a -ℤ b ≢ pos 0 → (a ≢ pos 0) ⊎ (b ≢ pos 0)
apart a (pos zero) h = inl (λ e. h (omega (arith, ints, e)))
apart a (pos (suc n)) h = inr (λ e. absurd (omega (arith, ints, e)))
apart a (negsuc n) h = inr (λ e. absurd (omega (arith, ints, e)))

module _ (p : Presented) (w : List Letter) (ls : List Flat) (known : IsPresented p) (over : IsWordOver p w) (are : AreFlat p ls) where
  abbrev n : ℕ
  n = length p.names

  abbrev word : FormalSum Place
  word = flat_image (fox w)

  abbrev sum : FormalSum Place
  sum = flat_image (certificate_sum p ls)

  left_over : (at : Place) → (coefficient same_place word at ≢ pos 0) ⊎ (coefficient same_place sum at ≢ pos 0) → PlaceIsOver n at
  left_over at (inl some) = stands n word at (flat_over n (fox w) (fox_is_over n w over)) some
  left_over at (inr some) = stands n sum at (flat_over n (certificate_sum p ls) (certificate_is_over p known ls are)) some

  pub named_over : (r : Result (Unit {0}) FlatSumFault) → Answers p w ls r → IfErr r (FaultIsOver n)
  named_over (Ok _) answers = tt
  named_over (Err Beyond) answers = tt
  named_over (Err NoMemory) answers = tt
  named_over (Err (NotZero at)) answers =
      left_over at (apart (coefficient same_place word at) (coefficient same_place sum at) answers.0.here)
