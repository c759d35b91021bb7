-- A sum of two multiples as the program makes it: each is added as its negative is taken away.
use Rattle.std.proofs.Common.{◌≡◌, ℕ, zero, suc, ◌+◌, ◌<◌, ◌≤◌, ℤ, pos, negsuc, neg_ℤ, ◌+ℤ◌, ◌-ℤ◌, List, [], length, inl, inr, refl, sym, ap, subst, ◌∙◌, arith}
use borrow.Author.Differences.{ints}
use Rattle.std.specs.Prelude.{unsigned_abs, Some, Result, Ok, Err}
use Rattle.formal_sums.proofs.Coefficients.{coefficient-scale}
use Rattle.formal_sums.proofs.Integers.{neg_ℤ-*ℤ}
use Rattle.formal_sums.specs.FormalSum.{coefficient, rename}
use Rattle.laurent_terms.specs.declared.TheConstants.{DEGREE}
use Rattle.laurent_terms.specs.Monomials.{degree, IsMonomial, MadeWithin, common_multiple, quotient}
use Rattle.module_vec.specs.declared.places.Place.{Place}
use Rattle.module_vec.specs.declared.places.Term.{Term}
use Rattle.module_vec.specs.declared.steps.Step.{Step}
use Rattle.module_vec.specs.declared.faults.Stop.{Stop}
use Rattle.module_vec.specs.declared.faults.Stop.TheVariants.{Wide, Long, Deep, Steep}
use Rattle.module_vec.specs.declared.faults.VecFault.{VecFault}
use Rattle.module_vec.specs.declared.faults.VecFault.TheVariants as of_vector
use Rattle.module_vec.specs.Chains.{taken_at}
use Rattle.module_vec.specs.Modules.{vector_at}
use Rattle.module_vec.specs.Places.{same_place, moved}
use Rattle.module_vec.specs.Results.{SumIsWide, DifferenceIsWide, StopsBy, Makes}
use Rattle.module_vec.specs.Vectors.{Coefficients, sum_of, coefficient_at, multiple_at, difference_at, InRange, IsWide}
use Rattle.outcomes.specs.declared.kinds.PairKind.{PairKind}
use Rattle.std.specs.Result.{IsErr, IsErrAnd}
use Rattle.strong_pairs.specs.declared.faults.PairFault.{PairFault}
use Rattle.strong_pairs.specs.declared.faults.PairFault.TheVariants as faults
use Rattle.strong_pairs.specs.Pairs.{lead_at, pair_place, AreFactors, both_at}
use Rattle.step_lists.specs.declared.way.Way.TheVariants.{Add}
use Rattle.step_lists.specs.Sums.{IsWideAt}
use Rattle.strong_pairs.specs.Results.{FindsSteps, IsInReach, BothStop, IsPairVector, MakesPair, pair_fault}
use Rattle.strong_pairs.proofs.LeadTerms.{room_of}

-- ---- the same numbers leave the range

module _ (P Q : Place → Type 0) (f g : Coefficients) (to : (x : Place) → P x → Q x) (from : (x : Place) → Q x → P x) (same : (x : Place) → f x ≡ g x) where
  stops_alike : (stop : Stop) → StopsBy 0 P f stop → StopsBy 0 Q g stop
  stops_alike (Wide p n) (e, greatest) = (e, record { here = to p greatest.here; above = λ x h q. greatest.above x h (from x q) })
  stops_alike (Long terms n) (e, none, has, more) = (
    e,
    (λ x q. none x (from x q)),
    record {
      v = has.v;
      sparse = has.sparse;
      is = λ x. has.is x ∙ same x;
      count = has.count;
    },
    more,
  )
  stops_alike Deep h = h
  stops_alike (Steep d) h = h

  pub makes_alike : (r : Result (List Term) VecFault) → Makes P f r → Makes Q g r
  makes_alike (Ok v) made = record { vector = made.vector; is = λ x. made.is x ∙ same x; narrow = λ x q. made.narrow x (from x q) }
  makes_alike (Err (of_vector.Stop stop)) h = stops_alike stop h
  makes_alike (Err of_vector.NoMemory) h = tt

-- ---- added, and taken away with the other sign

pub multiple-neg : (q : ℤ) (t : List ℕ) (g : List Term) (x : Place) → multiple_at (neg_ℤ q) t g x ≡ neg_ℤ (multiple_at q t g x)
multiple-neg q t g x =
    coefficient-scale same_place (neg_ℤ q) (rename (moved t) (sum_of g)) x
    ∙ neg_ℤ-*ℤ q (coefficient same_place (rename (moved t) (sum_of g)) x)
    ∙ ap neg_ℤ (sym (coefficient-scale same_place q (rename (moved t) (sum_of g)) x))

abs_neg : (z : ℤ) → unsigned_abs (neg_ℤ z) ≡ unsigned_abs z
abs_neg (pos zero) = refl
abs_neg (pos (suc n)) = refl
abs_neg (negsuc n) = refl

module _ (f g h : Coefficients) (turned : (x : Place) → h x ≡ neg_ℤ (g x)) where
  sizes : (x : Place) → unsigned_abs (h x) ≡ unsigned_abs (g x)
  sizes x = ap unsigned_abs (turned x) ∙ abs_neg (g x)

  sums : (x : Place) → f x -ℤ h x ≡ f x +ℤ g x
  sums x = omega (arith, ints, turned x)

  forth : (x : Place) → DifferenceIsWide f h x → IsWideAt Add f g x
  forth x (inl w) = inl (omega (arith, w, sizes x))
  forth x (inr w) = inr (subst IsWide (sums x) w)

  back : (x : Place) → IsWideAt Add f g x → DifferenceIsWide f h x
  back x (inl w) = inl (omega (arith, w, sizes x))
  back x (inr w) = inr (subst IsWide (sym (sums x)) w)

  pub added : (r : Result (List Term) VecFault) → Makes (DifferenceIsWide f h) (difference_at f h) r → Makes (IsWideAt Add f g) (λ x. f x +ℤ g x) r
  added r made = makes_alike (DifferenceIsWide f h) (IsWideAt Add f g) (difference_at f h) (λ x. f x +ℤ g x) forth back sums r made

-- added to the empty vector
nothing_added : (z : ℤ) → pos 0 +ℤ z ≡ z
nothing_added z = omega (arith, ints)

pub first_added : (empty : List Term) → empty ≡ [] → (g : Coefficients) (r : Result (List Term) VecFault)
    → Makes (IsWideAt Add (coefficient_at empty) g) (λ x. coefficient_at empty x +ℤ g x) r → Makes (SumIsWide g) g r
first_added empty is g r made = makes_alike (IsWideAt Add (coefficient_at empty) g) (SumIsWide g) (λ x. coefficient_at empty x +ℤ g x) g forth
    (λ x w. inl w) none r made
  where
    none : (x : Place) → coefficient_at empty x +ℤ g x ≡ g x
    none x = ap (λ v. coefficient_at v x +ℤ g x) is ∙ nothing_added (g x)

    forth : (x : Place) → IsWideAt Add (coefficient_at empty) g x → SumIsWide g x
    forth x (inl w) = w
    forth x (inr w) = subst IsWide (none x) w

-- ---- both steps

pub found : (kind : PairKind) (b : List (List Term)) (i j : ℕ) (first second : Term) (multiple t s : List ℕ) (u v : ℤ) → first ≡ lead_at b i
    → second ≡ lead_at b j →
    MadeWithin (degree (common_multiple first.at.m second.at.m)) (common_multiple first.at.m second.at.m) (Some multiple) → AreFactors kind first.k second.k u v
    → t ≡ quotient multiple first.at.m → s ≡ quotient multiple second.at.m →
    FindsSteps kind b i j (Ok (record { q = u; t = t; by = i }, record { q = v; t = s; by = j }))
found kind b i j first second multiple t s u v is_first is_second made factors is_t is_s =
    let place : common_multiple first.at.m second.at.m ≡ (pair_place b i j).m = λ n. common_multiple (is_first n).at.m (is_second n).at.m in (
      subst (λ m. degree m ≤ DEGREE) place made.0,
      record {
        factors = subst (λ (p : Term × Term). AreFactors kind p.0.k p.1.k u v) (λ n. (is_first n, is_second n)) factors;
        first_monomial = is_t ∙ λ n. quotient ((made.1 ∙ place) n) (is_first n).at.m;
        second_monomial = is_s ∙ λ n. quotient ((made.1 ∙ place) n) (is_second n).at.m;
        first_number = refl;
        second_number = refl;
      },
    )

pub in_reach : (b : List (List Term)) (i : ℕ) (first : Term) (multiple t : List ℕ) (u : ℤ) → first ≡ lead_at b i → i < length b → InRange u → IsMonomial t
    → degree t + degree first.at.m ≡ degree multiple → degree multiple ≤ DEGREE → IsInReach b (record { q = u; t = t; by = i })
in_reach b i first multiple t u is within range monomial sum most = record {
  number = within;
  range = range;
  monomial = monomial;
  room = room_of t (vector_at b i) (subst (λ (e : Term). degree t + degree e.at.m ≤ DEGREE) is (omega (arith, sum, most)));
}

module _ (kind : PairKind) (b : List (List Term)) (i j : ℕ) (first second : Step) (steps : FindsSteps kind b i j (Ok (first, second))) where
  by_stop : (stop : Stop) → BothStop b first second stop → MakesPair kind b i j (Err (faults.Stop stop))
  by_stop (Wide p n) h = record { reach = steps.0; first = first; second = second; steps = steps.1; stops = h }
  by_stop (Long terms n) h = record { reach = steps.0; first = first; second = second; steps = steps.1; stops = h }
  by_stop Deep (inl h) = h
  by_stop Deep (inr h) = h.1
  by_stop (Steep d) (inl h) = absurd h
  by_stop (Steep d) (inr h) = absurd h.1

  -- the first multiple isn't made
  pub first_stops : (fault : VecFault) → Makes (SumIsWide (taken_at b first)) (taken_at b first) (Err fault) → MakesPair kind b i j (Err (pair_fault fault))
  first_stops (of_vector.Stop stop) h = by_stop stop (inl h)
  first_stops of_vector.NoMemory h = tt

  module _ (v : List Term) (made : Makes (SumIsWide (taken_at b first)) (taken_at b first) (Ok v)) where
    -- the second is added to the first as it was made
    second_added : (r : Result (List Term) VecFault) → Makes (IsWideAt Add (coefficient_at v) (taken_at b second))
        (λ x. coefficient_at v x +ℤ taken_at b second x) r → Makes (IsWideAt Add (taken_at b first) (taken_at b second)) (both_at b first second) r
    second_added r h = subst (λ (f : Coefficients). Makes (IsWideAt Add f (taken_at b second)) (λ x. f x +ℤ taken_at b second x) r) (λ n x. made.is x n) h

    pub second_stops : (fault : VecFault) → Makes (IsWideAt Add (coefficient_at v) (taken_at b second)) (λ x. coefficient_at v x +ℤ taken_at b second x)
        (Err fault) → MakesPair kind b i j (Err (pair_fault fault))
    second_stops (of_vector.Stop stop) h = by_stop stop (inr ((v, made), second_added (Err (of_vector.Stop stop)) h))
    second_stops of_vector.NoMemory h = tt

    pub both_made : (w : List Term) → Makes (IsWideAt Add (coefficient_at v) (taken_at b second)) (λ x. coefficient_at v x +ℤ taken_at b second x) (Ok w)
        → IsPairVector kind b i j w
    both_made w h = record { reach = steps.0; first = first; second = second; steps = steps.1; made = ((v, made), second_added (Ok w) h) }

-- an error that was handed on
pub handed_on : (r : Result (List Term) PairFault) (fault : PairFault) → IsErr r → IsErrAnd r (λ e. e ≡ fault) → r ≡ Err fault
handed_on (Ok v) fault h e = absurd cc
handed_on (Err f) fault h e = ap Err e
