-- What is left of a Fox vector, and that no limit is passed.
use Rattle.std.proofs.Common.{◌≡◌, ◌≢◌, ◌+◌, pos, List, [], ◌∷◌, refl, sym, ap, ◌∙◌, arith}
use Rattle.std.specs.Prelude.{Ok, Err}
use Rattle.std.specs.List.{AllByRecursion}
use borrow.Author.Differences.{ints}
use Rattle.free_words.specs.declared.letter.Letter.{Letter}
use Rattle.presentation.specs.Presented.{Presented}
use Rattle.formal_sums.specs.FormalSum.{FormalSum, Same, coefficient, rename}
use Rattle.formal_sums.specs.Span.{multiple}
use Rattle.formal_sums.proofs.Spans.{scale-one}
use Rattle.laurent_terms.specs.Monomials.{one}
use Rattle.laurent_terms.proofs.Division.{product-one}
use Rattle.module_vec.specs.declared.places.Place.{Place}
use Rattle.module_vec.specs.declared.places.Term.{Term}
use Rattle.module_vec.specs.Places.{same_place, moved}
use Rattle.module_vec.specs.Vectors.{sum_of, IsTerm}
use Rattle.module_vec.specs.Results.{IsGreatest}
use Rattle.fox_calculus.specs.Fox.{fox}
use Rattle.fox_calculus.specs.Generators.{IsWritten}
use Rattle.flat_cert.specs.declared.faults.FlatFault.{FlatFault}
use Rattle.flat_cert.specs.declared.faults.FlatFault.TheVariants.{Beyond, NoMemory}
use Rattle.flat_cert.specs.declared.faults.FlatSumFault.TheVariants.{NotZero}
use Rattle.flat_cert.specs.declared.lines.Flat.{Flat}
use Rattle.flat_cert.specs.Images.{flat_image}
use Rattle.flat_cert.specs.Certificates.{certificate_sum}
use Rattle.flat_cert.specs.Weights.{weight}
use Rattle.flat_cert.specs.Checking.{Vectors, AreVectors, lines_weight, whole_weight, left_at, IsWithin, Answers, sum_fault}
use Rattle.flat_cert.specs.Adding.{sum_at, weight_at, AreTotals, Adds, TakesLines}
use Rattle.flat_cert.proofs.Weights.{beyond_more}
use Rattle.flat_cert.proofs.Entries.{Entries, not_beyond}
use Rattle.flat_cert.proofs.Taking.{written_same, flat_same}

moved_by_one : (v : List Term) → AllByRecursion IsTerm v → rename (moved one) (sum_of v) ≡ sum_of v
moved_by_one [] all = refl
moved_by_one (t ∷ v) all = λ i. (t.k, record { m = product-one t.at.m all.0.place.variables i; c = t.at.c }) ∷ moved_by_one v all.1 i

itself : (v : List Term) → AllByRecursion IsTerm v → flat_image (multiple moved (pos 1) one (sum_of v)) ≡ flat_image (sum_of v)
itself v all = ap flat_image (scale-one (rename (moved one) (sum_of v)) ∙ moved_by_one v all)

module _ (p : Presented) (w : List Letter) (ls : List Flat) (v : List Term) (is : IsWritten (fox w) v) where
  abbrev start : FormalSum Place
  start = flat_image (multiple moved (pos 1) one (sum_of v))

  begun : (x : Place) → weight start x ≡ weight (flat_image (sum_of v)) x
  begun x = ap (λ s. weight s x) (itself v is.sparse.terms)

  own : (vs : Vectors) → AreVectors p w vs → (x : Place) → weight (flat_image (sum_of v)) x ≡ weight (flat_image (sum_of vs.word)) x
  own vs are x = ap (λ g. weight (flat_image (sum_of g)) x) (written_same (fox w) v vs.word is are.word)

  pub begin_fails : (new : Entries) (e : FlatFault) → Adds [] start new (Err e) → Answers p w ls (Err (sum_fault e))
  begin_fails new Beyond h = λ vs are.
      beyond_more (λ x. weight_at [] x + weight start x) (whole_weight vs ls) (λ x. omega (arith, begun x, own vs are x)) h
  begin_fails new NoMemory h = tt

  module _ (first : Entries) (begins : Adds [] start first (Ok tt)) where
    pub lines_fail : (new : Entries) (e : FlatFault) → TakesLines p first ls new (Err e) → Answers p w ls (Err (sum_fault e))
    lines_fail new Beyond h = λ vs are.
        beyond_more (λ x. weight_at first x + lines_weight vs ls x) (whole_weight vs ls) (λ x. omega (arith, begins.1 x, begun x, own vs are x))
        (h.weights vs are.of)
    lines_fail new NoMemory h = tt

    module _ (last : Entries) (known : AreTotals last) (takes : TakesLines p first ls last (Ok tt)) where
      left : (x : Place) → sum_at last x ≡ left_at p w ls x
      left x =
          let all : coefficient same_place start x ≡ coefficient same_place (flat_image (fox w)) x =
          ap (λ s. coefficient same_place s x) (itself v is.sparse.terms) ∙ flat_same (sum_of v) (fox w) is.same x in
          omega (arith, ints, takes.sums x, begins.0 x, all)

      within : IsWithin p w ls
      within vs are beyond =
          not_beyond last known
          (beyond_more (whole_weight vs ls) (weight_at last) (λ x. omega (arith, takes.weights vs are.of x, begins.1 x, begun x, own vs are x)) beyond)

      pub nothing_left : ((x : Place) → sum_at last x ≡ pos 0) → Answers p w ls (Ok tt)
      nothing_left none = (λ x. sym (left x) ∙ none x, within)

      pub something_left : (at : Place) → IsGreatest (λ x. sum_at last x ≢ pos 0) at → Answers p w ls (Err (NotZero at))
      something_left at greatest = (
        record {
          here = λ none. greatest.here (left at ∙ none);
          above = λ x b some. greatest.above x b (λ none. some (sym (left x) ∙ none));
        },
        within,
      )

-- where nothing is left the two images are the same
pub images_same : (p : Presented) (w : List Letter) (ls : List Flat) → ((x : Place) → left_at p w ls x ≡ pos 0)
    → Same same_place (flat_image (fox w)) (flat_image (certificate_sum p ls))
images_same p w ls none x = omega (arith, ints, none x)
