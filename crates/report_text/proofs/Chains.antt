-- Chains by vectors over some generators stay over them: their steps, their rests and the places of their stops.
use Rattle.std.proofs.Common.{◌≡◌, ◌≢◌, ◌⊎◌, inl, inr, ℕ, zero, suc, ◌≤◌, Bool, true, false, ℤ, pos, negsuc, ◌+ℤ◌, ◌-ℤ◌, ◌<ℤ◌, unsigned_abs, if◌then◌else◌}
use Rattle.std.proofs.Common.{List, [], ◌∷◌, ◌++◌, length, slice_get, Some, refl, sym, subst, ◌∙◌, arith}
use borrow.Author.Differences.{ints}
use Rattle.std.proofs.Math.IntN.{+ℤ_idl}
use Rattle.std.specs.Int.{int_div_euclid}
use Rattle.std.specs.List.{AllByRecursion}
use Rattle.free_words.specs.declared.letter.Letter.{Letter}
use Rattle.free_words.specs.declared.TheConstants.{COMPOSED}
use Rattle.free_words.specs.Words.{IsOver}
use Rattle.formal_sums.specs.FormalSum.{FormalSum, coefficient}
use Rattle.formal_sums.proofs.Floors.{zero_floor}
use Rattle.module_vec.specs.declared.places.Place.{Place}
use Rattle.module_vec.specs.declared.places.Term.{Term}
use Rattle.module_vec.specs.declared.steps.Step.{Step}
use Rattle.module_vec.specs.declared.faults.Stop.{Stop}
use Rattle.module_vec.specs.declared.faults.Stop.TheVariants.{Wide, Long, Deep, Steep}
use Rattle.module_vec.specs.Places.{same_place}
use Rattle.module_vec.specs.Vectors.{Coefficients, coefficient_at, multiple, InRange, IsWide}
use Rattle.module_vec.specs.Modules.{vector_at}
use Rattle.module_vec.specs.Reducers.{AreEntries, IsEntry}
use Rattle.module_vec.specs.Results.{DifferenceIsWide}
use Rattle.module_vec.specs.Chains.{IsNext, Goes, Runs, ChainStops, after, taken_at}
use Rattle.module_vec.proofs.Order.{test}
use Rattle.reduce_cofactor.specs.Answers.{IsRest}
use Rattle.reduce_cofactor.proofs.Resting.{entry_at, lead_positive, floor_in_range}
use Rattle.vector_text.specs.Over.{MonoIsOver, PlaceIsOver, VectorIsOver}
use Rattle.vector_text.proofs.Over.{product_over, quotient_over, coefficients_over}
use Rattle.step_text.specs.Over.{StepIsOver, StepsAreOver}
use Rattle.report_lines.specs.Lines.{StopIsOver}
use Rattle.fox_calculus.specs.Fox.{letter_term, fox_after, fox}
use Rattle.fox_calculus.proofs.Over.{fox_over}
use Rattle.hom_check.specs.Shown.{fox_at}

-- each place with a coefficient is over n generators
pub IsSupported : ℕ → Coefficients → Type 0
IsSupported n f = (x : Place) → f x ≢ pos 0 → PlaceIsOver n x

-- a place whose coefficient isn't 0 stands in the sum
stands : (P : Place → Type 0) (f : FormalSum Place) (x : Place) → AllByRecursion (λ t. P t.1) f → coefficient same_place f x ≢ pos 0 → P x
stands P [] x h some = absurd (some refl)
stands P (t ∷ f) x h some = by (same_place t.1 x) refl (stands P f x h.1) where
  by : (b : Bool) → same_place t.1 x ≡ b → (coefficient same_place f x ≢ pos 0 → P x) → P x
  by true e again = subst P (test.sound t.1 x e) h.0
  by false e again = again (λ z. some (rw e (+ℤ_idl (coefficient same_place f x) ∙ z)))

-- ---- Fox vectors

sign_by : (u : List Letter) (l : Letter) (b : Bool) → l.inv ≡ b → unsigned_abs (letter_term u l).0 ≤ 1
sign_by u l true e = rw e (omega arith)
sign_by u l false e = rw e (omega arith)

grows : (b : Bool) (q c : ℤ) (n : ℕ) → unsigned_abs q ≤ 1 → unsigned_abs c ≤ n → unsigned_abs ((if b then q else pos 0) +ℤ c) ≤ suc n
grows true q c n one le = omega (arith, ints)
grows false q c n one le = omega (arith, ints)

fox_small : (u w : List Letter) (x : Place) → unsigned_abs (coefficient same_place (fox_after u w) x) ≤ length w
fox_small u [] x = omega arith
fox_small u (l ∷ w) x = grows (same_place (letter_term u l).1 x) (letter_term u l).0 (coefficient same_place (fox_after (u ++ l ∷ []) w) x) (length w)
    (sign_by u l l.inv refl) (fox_small (u ++ l ∷ []) w x)

pub fox_supported : (n : ℕ) (w : List Letter) → IsOver n w → IsSupported n (fox_at w)
unfolding IsSupported
fox_supported n w over x some = stands (PlaceIsOver n) (fox w) x (fox_over n [] w tt over) some

pub fox_in_range : (w : List Letter) → length w ≤ COMPOSED → (x : Place) → InRange (fox_at w x)
fox_in_range w short x = let small = fox_small [] w x in omega (arith, small, short)

-- ---- multiples

multiple_over : (n : ℕ) (q : ℤ) (t : List ℕ) (g : List Term) → MonoIsOver n t → VectorIsOver n g → AllByRecursion (λ u. PlaceIsOver n u.1) (multiple q t g)
multiple_over n q t [] h over = tt
multiple_over n q t (u ∷ g) h over = (record { mono = product_over n t u.at.m h over.0.mono; component = over.0.component }, multiple_over n q t g h over.1)

taken_supported : (n : ℕ) (b : List (List Term)) (s : Step) → MonoIsOver n s.t → VectorIsOver n (vector_at b s.by) → IsSupported n (taken_at b s)
unfolding IsSupported
taken_supported n b s h over x some = stands (PlaceIsOver n) (multiple s.q s.t (vector_at b s.by)) x (multiple_over n s.q s.t (vector_at b s.by) h over) some

difference_some : (a b : ℤ) → a -ℤ b ≢ pos 0 → (a ≢ pos 0) ⊎ (b ≢ pos 0)
difference_some a b some = by a refl
  where
    by : (c : ℤ) → a ≡ c → (a ≢ pos 0) ⊎ (b ≢ pos 0)
    by (pos zero) e = inr (λ z. some (omega (arith, ints, e, z)))
    by (pos (suc k)) e = inl (λ z. absurd (omega (arith, ints, e, z)))
    by (negsuc k) e = inl (λ z. absurd (omega (arith, ints, e, z)))

difference_supported : (n : ℕ) (f g : Coefficients) → IsSupported n f → IsSupported n g → IsSupported n (λ x. f x -ℤ g x)
unfolding IsSupported
difference_supported n f g h k x some = by (difference_some (f x) (g x) some)
  where
    by : (f x ≢ pos 0) ⊎ (g x ≢ pos 0) → PlaceIsOver n x
    by (inl one) = h x one
    by (inr one) = k x one

-- ---- steps

vector_over : (n : ℕ) (b : List (List Term)) (i : ℕ) → AllByRecursion (VectorIsOver n) b → VectorIsOver n (vector_at b i)
vector_over n [] i over = tt
vector_over n (v ∷ b) zero over = over.0
vector_over n (v ∷ b) (suc i) over = vector_over n b i over.1

entry_over : (n : ℕ) (b : List (List Term)) (i : ℕ) (v : List Term) → AllByRecursion (VectorIsOver n) b → slice_get b i ≡ Some v → VectorIsOver n v
entry_over n [] i v over is = absurd cc
entry_over n (u ∷ b) zero v over is = let e : u ≡ v = cc in subst (VectorIsOver n) e over.0
entry_over n (u ∷ b) (suc i) v over is = entry_over n b i v over.1 is

floor_of_zero : (k l : ℤ) → pos 0 <ℤ l → k ≡ pos 0 → int_div_euclid k l ≡ pos 0
floor_of_zero k l less e = zero_floor k l (omega (arith, ints, e)) (omega (arith, ints, e, less))

module _ (n : ℕ) (b : List (List Term)) (entries : AreEntries b) (over : AllByRecursion (VectorIsOver n) b) where
  next_over : (f : Coefficients) (s : Step) → IsSupported n f → ((x : Place) → InRange (f x)) → IsNext b f s → StepIsOver n s
  unfolding IsSupported
  next_over f s supported range next =
      let lead : IsEntry (next.lead ∷ next.others) = entry_at b s.by next.lead next.others entries next.due.reducer.entry in
      let positive : pos 0 <ℤ next.lead.k = lead_positive next.lead next.others lead in
      let here : PlaceIsOver n next.place = supported next.place (λ z. next.due.moves (floor_of_zero (f next.place) next.lead.k positive z)) in
      let of : VectorIsOver n (next.lead ∷ next.others) = entry_over n b s.by (next.lead ∷ next.others) over next.due.reducer.entry in
      record {
        nonzero = λ z. next.due.moves (sym next.factor ∙ z);
        range = subst InRange (sym next.factor) (floor_in_range (f next.place) next.lead.k positive (range next.place));
        mono = subst (MonoIsOver n) (sym next.monomial) (quotient_over n next.place.m next.lead.at.m here.mono of.0.mono);
      }

  after_supported : (f : Coefficients) (s : Step) → IsSupported n f → StepIsOver n s → IsSupported n (after b f s)
  after_supported f s supported step = difference_supported n f (taken_at b s) supported (taken_supported n b s step.mono (vector_over n b s.by over))

  narrow_range : (z : ℤ) → (IsWide z → ⊥) → InRange z
  narrow_range z not = grind arith

  after_in_range : (f : Coefficients) (s : Step) → Goes b f s → (x : Place) → InRange (after b f s x)
  after_in_range f s goes x = narrow_range (after b f s x) (λ wide. goes.narrow x (inr wide))

  -- what holds of the end of a run
  pub record IsRunOver (ss : List Step) (g : Coefficients) : Type 0 where
    pub steps : StepsAreOver n ss
    pub supported : IsSupported n g
    pub range : (x : Place) → InRange (g x)

  same_supported : (f g : Coefficients) → ((x : Place) → g x ≡ f x) → IsSupported n f → IsSupported n g
  unfolding IsSupported
  same_supported f g is supported x some = supported x (λ z. some (is x ∙ z))

  pub run_over : (f g : Coefficients) (ss : List Step) → IsSupported n f → ((x : Place) → InRange (f x)) → Runs b f ss g → IsRunOver ss g
  run_over f g [] supported range run = record { steps = tt; supported = same_supported f g run supported; range = λ x. subst InRange (sym (run x)) (range x) }
  run_over f g (s ∷ ss) supported range run =
      let step : StepIsOver n s = next_over f s supported range run.0 in
      let rest : IsRunOver ss g = run_over (after b f s) g ss (after_supported f s supported step) (after_in_range f s run.1) run.2 in
      record { steps = (step, rest.steps); supported = rest.supported; range = rest.range }

  -- ---- chains of Fox vectors

  module _ (w : List Letter) (word : IsOver n w) (short : length w ≤ COMPOSED) where
    pub steps_over : (rest : List Term) (ss : List Step) → IsRest b (fox_at w) rest ss → StepsAreOver n ss
    steps_over rest ss is = (run_over (fox_at w) (coefficient_at rest) ss (fox_supported n w word) (fox_in_range w short) is.runs).steps

    pub rest_over : (rest : List Term) (ss : List Step) → IsRest b (fox_at w) rest ss → VectorIsOver n rest
    unfolding IsSupported
    rest_over rest ss is =
        let run : IsRunOver ss (coefficient_at rest) = run_over (fox_at w) (coefficient_at rest) ss (fox_supported n w word) (fox_in_range w short) is.runs in
        coefficients_over n (coefficient_at rest) rest is.vector.sparse (λ x. refl) run.supported

    wide_over : (f g : Coefficients) (x : Place) → IsSupported n f → IsSupported n g → DifferenceIsWide f g x → PlaceIsOver n x
    unfolding IsSupported
    wide_over f g x h k (inl wide) = k x (λ z. absurd (omega (arith, ints, wide, z)))
    wide_over f g x h k (inr wide) = difference_supported n f g h k x (λ z. absurd (omega (arith, ints, wide, z)))

    pub stop_over : (stop : Stop) → ChainStops b (fox_at w) stop → StopIsOver n stop
    stop_over (Wide p step) c =
        let run : IsRunOver c.steps c.last = run_over (fox_at w) c.last c.steps (fox_supported n w word) (fox_in_range w short) c.runs in
        let next : StepIsOver n c.step = next_over c.last c.step run.supported run.range c.next in
        wide_over c.last (taken_at b c.step) p run.supported (taken_supported n b c.step next.mono (vector_over n b c.step.by over)) c.stops.1.1.here
    stop_over (Long terms step) c = tt
    stop_over Deep c = tt
    stop_over (Steep degree) c = tt
