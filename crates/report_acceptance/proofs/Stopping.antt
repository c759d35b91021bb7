-- The stop of a chain of a Fox vector can be written and read.
use Rattle.std.proofs.Common.{◌≡◌, ◌≢◌, ◌⊎◌, inl, inr, ℕ, zero, suc, ◌+◌, ◌≤◌, ℤ, pos, negsuc, ◌-ℤ◌, ◌*ℤ◌, List, [], ◌∷◌, ◌++◌, length, refl, sym, subst, ◌∙◌}
use Rattle.std.proofs.Common.{length-append, arith}
use borrow.Author.Differences.{ints}
use Rattle.std.proofs.lemmas.List.{length-map}
use Rattle.std.proofs.lemmas.Option.{slice_get_within}
use Rattle.std.specs.List.{AllByRecursion}
use Rattle.free_words.specs.declared.letter.Letter.{Letter}
use Rattle.free_words.specs.declared.TheConstants.{COMPOSED}
use Rattle.free_words.specs.Words.{IsOver}
use Rattle.formal_sums.specs.FormalSum.{FormalSum, coefficient, scale}
use Rattle.formal_sums.proofs.Shortest.{falling_shortest}
use Rattle.formal_sums.proofs.Coefficients.{coefficient-scale, coefficient-append}
use Rattle.laurent_terms.specs.declared.TheConstants.{DEGREE}
use Rattle.laurent_terms.specs.Monomials.{degree, product, IsMonomial}
use Rattle.laurent_terms.proofs.Combining.{sum-product, length-combined}
use Rattle.module_vec.specs.declared.TheConstants.{TERMS}
use Rattle.module_vec.specs.declared.places.Place.{Place}
use Rattle.module_vec.specs.declared.places.Term.{Term}
use Rattle.module_vec.specs.declared.steps.Step.{Step}
use Rattle.module_vec.specs.declared.faults.Stop.{Stop}
use Rattle.module_vec.specs.declared.faults.Stop.TheVariants.{Wide, Long, Deep, Steep}
use Rattle.module_vec.specs.Places.{same_place, moved, IsPlace}
use Rattle.module_vec.specs.Vectors.{Coefficients, sum_of, multiple, HasRoom, IsTerm, IsVector}
use Rattle.module_vec.specs.Modules.{vector_at}
use Rattle.module_vec.specs.Reducers.{IsEntry, AreEntries}
use Rattle.module_vec.specs.Results.{DifferenceIsWide, HasTerms}
use Rattle.module_vec.specs.Chains.{IsNext, Goes, Runs, ChainStops, after, taken_at}
use Rattle.module_vec.proofs.Order.{test, order}
use Rattle.module_vec.proofs.FallingTerms.{room_each}
use Rattle.fox_calculus.specs.Fox.{fox}
use Rattle.fox_calculus.proofs.Short.{fox_length, nonzero}
use Rattle.reduce_cofactor.proofs.Resting.{entry_at}
use Rattle.hom_check.specs.Shown.{fox_at, StopsAt}
use Rattle.report_lines.specs.Lines.{StopIsOver, IsStopOf}
use Rattle.report_acceptance.proofs.Placing.{IsPlaced, stands, fox_placed, written_placed}
use Rattle.report_acceptance.proofs.Stepping.{IsReached, next_reached, entry_there}

-- ---- the places of a multiple

product_place : (t : List ℕ) (u : Term) → IsMonomial t → IsTerm u → degree t + degree u.at.m ≤ DEGREE → IsPlace (moved t u.at)
product_place t u mono term room =
    let same : length t ≡ length u.at.m = mono.variables ∙ sym term.place.variables in
    let sums : degree (product t u.at.m) ≡ degree t + degree u.at.m = sum-product t u.at.m same in
    record { variables = length-combined _ t u.at.m same ∙ mono.variables; most = omega (arith, sums, room) }

multiple_places : (q : ℤ) (t : List ℕ) (g : List Term) → IsMonomial t → AllByRecursion IsTerm g → AllByRecursion (λ u. degree t + degree u.at.m ≤ DEGREE) g
    → AllByRecursion (λ u. IsPlace u.1) (multiple q t g)
multiple_places q t [] mono terms room = tt
multiple_places q t (u ∷ g) mono terms room = (product_place t u mono terms.0 room.0, multiple_places q t g mono terms.1 room.1)

multiple_placed : (q : ℤ) (t : List ℕ) (g : List Term) → IsMonomial t → IsVector g → HasRoom t g → IsPlaced (λ x. coefficient same_place (multiple q t g) x)
multiple_placed q t g mono vector room x some =
    stands IsPlace (multiple q t g) x (multiple_places q t g mono vector.sparse.terms (room_each t g vector.sparse.falling room)) some

-- ---- coefficients that are those of a short sum

-- a sum of at most 50,000 terms has these coefficients
record IsBrief (f : Coefficients) : Type 0 where
  sum : FormalSum Place
  is : (x : Place) → coefficient same_place sum x ≡ f x
  few : length sum ≤ TERMS

fox_brief : (w : List Letter) → length w ≤ COMPOSED → IsBrief (fox_at w)
fox_brief w short = let n = fox_length [] w in record { sum = fox w; is = λ x. refl; few = omega (arith, n, short) }

goes_brief : (b : List (List Term)) (f : Coefficients) (s : Step) → Goes b f s → IsBrief (after b f s)
goes_brief b f s g =
    let n = length-map {B = ℤ × Place} g.terms.v (λ t. (t.k, t.at)) in
    record { sum = sum_of g.terms.v; is = g.terms.is; few = omega (arith, n, g.terms.count, g.short) }

-- what is left has no more terms than both together
difference_few : (f : Coefficients) (q : ℤ) (t : List ℕ) (g : List Term) (n : ℕ) → IsBrief f → length g ≤ TERMS
    → HasTerms (λ x. f x -ℤ coefficient same_place (multiple q t g) x) n → n ≤ TERMS + TERMS
difference_few f q t g n brief most h =
    let minus : FormalSum Place = scale (negsuc 0) (multiple q t g) in
    let whole : FormalSum Place = brief.sum ++ minus in
    let turned : (x : Place) → coefficient same_place minus x ≡ negsuc 0 *ℤ coefficient same_place (multiple q t g) x =
    λ x. coefficient-scale same_place (negsuc 0) (multiple q t g) x in
    let same : (x : Place) → coefficient same_place (sum_of h.v) x ≡ coefficient same_place whole x = λ x.
    let a = h.is x in let c = brief.is x in let d = turned x in let e = coefficient-append same_place brief.sum minus x in omega (arith, ints, a, c, d, e) in
    let le = falling_shortest test order (sum_of h.v) whole h.sparse.falling (nonzero h.v h.sparse.terms) same in
    let m = length-map {B = ℤ × Place} h.v (λ t. (t.k, t.at)) in
    let long = length-append brief.sum minus in
    let k : length minus ≡ length g = multiple_length g in
    omega (arith, le, m, long, k, brief.few, most, h.count)
  where
    multiple_length : (g : List Term) → length (scale (negsuc 0) (multiple q t g)) ≡ length g
    multiple_length [] = refl
    multiple_length (u ∷ g) = let e = multiple_length g in omega (arith, e)

-- ---- the end of a chain that meets no limit

record IsTame (f : Coefficients) : Type 0 where
  placed : IsPlaced f
  brief : IsBrief f

same_tame : (f g : Coefficients) → ((x : Place) → g x ≡ f x) → IsTame f → IsTame g
same_tame f g is h = record {
  placed = λ x some. h.placed x (λ z. some (is x ∙ z));
  brief = record { sum = h.brief.sum; is = λ x. h.brief.is x ∙ sym (is x); few = h.brief.few };
}

runs_tame : (b : List (List Term)) (f g : Coefficients) (ss : List Step) → IsTame f → Runs b f ss g → IsTame g
runs_tame b f g [] h run = same_tame f g run h
runs_tame b f g (s ∷ ss) h run = runs_tame b (after b f s) g ss (record {
  placed = written_placed (after b f s) run.1.count run.1.terms;
  brief = goes_brief b f s run.1;
}) run.2

-- ---- stops

wide_some : (f g : Coefficients) (x : Place) → DifferenceIsWide f g x → (f x ≢ pos 0) ⊎ (g x ≢ pos 0)
wide_some f g x (inl wide) = inr (λ z. absurd (omega (arith, ints, wide, z)))
wide_some f g x (inr wide) = by (f x) refl
  where
    by : (k : ℤ) → f x ≡ k → (f x ≢ pos 0) ⊎ (g x ≢ pos 0)
    by (pos zero) e = inr (λ z. absurd (omega (arith, ints, wide, e, z)))
    by (pos (suc k)) e = inl (λ z. absurd (omega (arith, ints, e, z)))
    by (negsuc k) e = inl (λ z. absurd (omega (arith, ints, e, z)))

module _ (n : ℕ) (b : List (List Term)) (entries : AreEntries b) where
  -- what is known of the vector of the next step
  record IsMultiple (s : Step) : Type 0 where
    vector : IsVector (vector_at b s.by)
    reached : IsReached b s
    room : HasRoom s.t (vector_at b s.by)

  next_multiple : (f : Coefficients) (s : Step) → IsPlaced f → IsNext b f s → IsMultiple s
  next_multiple f s placed next =
      let named : vector_at b s.by ≡ next.lead ∷ next.others = entry_there b s.by (next.lead ∷ next.others) next.due.reducer.entry in
      let entry : IsEntry (next.lead ∷ next.others) = entry_at b s.by next.lead next.others entries next.due.reducer.entry in
      let reached : IsReached b s = next_reached b entries f s placed next in record {
        vector = subst IsVector (sym named) entry.vector;
        reached = reached;
        room = reached.near (slice_get_within b s.by (next.lead ∷ next.others) next.due.reducer.entry);
      }

  wide_place : (f : Coefficients) (s : Step) (x : Place) → IsPlaced f → IsMultiple s → DifferenceIsWide f (taken_at b s) x → IsPlace x
  wide_place f s x placed m wide = by (wide_some f (taken_at b s) x wide)
    where
      by : (f x ≢ pos 0) ⊎ (taken_at b s x ≢ pos 0) → IsPlace x
      by (inl some) = placed x some
      by (inr some) = multiple_placed s.q s.t (vector_at b s.by) m.reached.mono m.vector m.room x some

  stop_of : (f : Coefficients) (stop : Stop) → IsTame f → ChainStops b f stop → StopIsOver n stop → IsStopOf n stop
  stop_of f (Wide p step) tame c over =
      let last : IsTame c.last = runs_tame b f c.last c.steps tame c.runs in
      let number = c.stops.1.0 in (
        record {
          place = wide_place c.last c.step p last.placed (next_multiple c.last c.step last.placed c.next) c.stops.1.1.here;
          over = over;
        },
        omega (arith, number, c.stops.0),
      )
  stop_of f (Long terms step) tame c over =
      let last : IsTame c.last = runs_tame b f c.last c.steps tame c.runs in
      let number = c.stops.1.0 in
      let m : IsMultiple c.step = next_multiple c.last c.step last.placed c.next in
      let few : terms ≤ TERMS + TERMS = difference_few c.last c.step.q c.step.t (vector_at b c.step.by) terms last.brief m.vector.most c.stops.1.2 in
      (omega (arith, few), omega (arith, number, c.stops.0))
  stop_of f Deep tame c over = tt
  stop_of f (Steep degree) tame c over = absurd c.stops

  pub word_stop : (w : List Letter) (stop : Stop) → IsOver 24 w → length w ≤ COMPOSED → StopsAt b stop w → StopIsOver n stop → IsStopOf n stop
  word_stop w stop over short stops is = stop_of (fox_at w) stop (record { placed = fox_placed w over short; brief = fox_brief w short }) stops is
