-- The place of a stop is over the generators of the entries.
use Rattle.std.proofs.Common.{◌≢◌, ◌⊎◌, inl, inr, ℕ, pos, ℤ, List, length, arith}
use borrow.Author.Differences.{ints}
use Rattle.std.specs.List.{AllByRecursion}
use Rattle.presentation.specs.Presented.{Presented}
use Rattle.module_vec.specs.declared.places.Place.{Place}
use Rattle.module_vec.specs.declared.places.Term.{Term}
use Rattle.module_vec.specs.declared.steps.Step.{Step}
use Rattle.module_vec.specs.declared.faults.Stop.TheVariants.{Wide}
use Rattle.module_vec.specs.Chains.{ChainStops, taken_at, after}
use Rattle.module_vec.specs.Reducers.{AreEntries}
use Rattle.module_vec.specs.Vectors.{Coefficients, coefficient_at, IsWide}
use Rattle.outcomes.specs.declared.tasks.Task.{Task}
use Rattle.strong_pairs.specs.Pairs.{both_at}
use Rattle.strong_pairs.specs.Results.{BothStop, StopsPair}
use Rattle.vector_text.specs.Over.{MonoIsOver, PlaceIsOver, VectorIsOver}
use Rattle.basis_entry.specs.Entries.{BasisEntry, IsBasisEntry, AreOf, vectors_of}
use Rattle.basis_entry.proofs.Over.{entries_over}
use Rattle.basis_entry.proofs.Vectors.{are_entries}
use Rattle.pair_work.specs.Works.{Halts, Stops}
use Rattle.pair_work.proofs.OverSteps.{IsSupported, taken_supported, first_over, second_over, both_supported, pair_supported, after_supported, next_over}
use Rattle.pair_work.proofs.OverSteps.{end_supported}

some : (z : ℤ) → IsWide z → z ≢ pos 0
some z wide e = absurd (omega (arith, ints, wide, e))

wide_over : (n : ℕ) (f : Coefficients) (x : Place) → IsSupported n f → IsWide (f x) → PlaceIsOver n x
unfolding IsSupported
wide_over n f x supported wide = supported x (some (f x) wide)

either_over : (n : ℕ) (f g : Coefficients) (x : Place) → IsSupported n f → IsSupported n g → IsWide (f x) ⊎ IsWide (g x) → PlaceIsOver n x
either_over n f g x h k (inl wide) = wide_over n f x h wide
either_over n f g x h k (inr wide) = wide_over n g x k wide

module _ (n : ℕ) (b : List (List Term)) (entries : AreEntries b) (over : AllByRecursion (VectorIsOver n) b) where
  chain_over : (f : Coefficients) (p : Place) (step : ℕ) → IsSupported n f → ChainStops b f (Wide p step) → PlaceIsOver n p
  chain_over f p step supported c =
      let last : IsSupported n c.last = end_supported n b entries over f c.last c.steps supported c.runs in
      let h : MonoIsOver n c.step.t = next_over n b entries over c.last c.step last c.next in
      either_over n (taken_at b c.step) (after b c.last c.step) p (taken_supported n b entries over c.step h)
      (after_supported n b entries over c.last c.step last h) c.stops.1.1.here

  both_over : (first second : Step) (p : Place) (step : ℕ) → MonoIsOver n first.t → MonoIsOver n second.t → BothStop b first second (Wide p step)
      → PlaceIsOver n p
  both_over first second p step h k (inl stops) = wide_over n (taken_at b first) p (taken_supported n b entries over first h) stops.1.here
  both_over first second p step h k (inr stops) =
      either_over n (taken_at b second) (both_at b first second) p (taken_supported n b entries over second k)
      (both_supported n b entries over first second h k) stops.1.1.here

  pair_over : (t : Task) (p : Place) (step : ℕ) → StopsPair t.kind b t.i t.j (Wide p step) → PlaceIsOver n p
  pair_over t p step s = both_over s.first s.second p step (first_over n b entries over t s.first s.second s.steps)
      (second_over n b entries over t s.first s.second s.steps) s.stops

  halt_over : (t : Task) (p : Place) (step : ℕ) → Halts b t (Wide p step) → PlaceIsOver n p
  halt_over t p step (inl pair) = pair_over t p step pair
  halt_over t p step (inr (v, pair, stops)) = chain_over (coefficient_at v) p step (pair_supported n b entries over t v pair) stops

pub stop_over : (p : Presented) (es : List BasisEntry) (t : Task) (place : Place) (step : ℕ) → AllByRecursion IsBasisEntry es → AreOf p es
    → Stops (vectors_of es) t (Wide place step)
    → PlaceIsOver (length p.names) place
stop_over p es t place step all of stops = halt_over (length p.names) (vectors_of es) (are_entries es all) (entries_over p es all of) t place step stops.1
