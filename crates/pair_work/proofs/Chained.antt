-- The steps of a chain, and the recipe that they give with those of their pair.
use Rattle.std.proofs.Common.{◌≡◌, ◌≢◌, ℕ, ◌<◌, ◌≤◌, ◌+◌, ℤ, pos, neg_ℤ, ◌+ℤ◌, ◌*ℤ◌, List, [], ◌∷◌, map, length, ◌⊎◌, inl, inr, refl, sym, ap, subst, ◌∙◌}
use Rattle.std.proofs.Common.{arith}
use borrow.Author.Differences.{ints}
use Rattle.std.specs.List.{AllByRecursion}
use Rattle.std.specs.Prelude.{◌<ℤ◌, None}
use Rattle.laurent_terms.specs.declared.TheConstants.{DEGREE}
use Rattle.laurent_terms.specs.Monomials.{degree, quotient}
use Rattle.laurent_terms.proofs.Combining.{sum-quotient}
use Rattle.module_vec.specs.declared.places.Place.{Place}
use Rattle.module_vec.specs.declared.places.Term.{Term}
use Rattle.module_vec.specs.declared.steps.Step.{Step}
use Rattle.module_vec.specs.Chains.{IsNext, Chain, Runs, taken_at, after}
use Rattle.module_vec.specs.Places.{IsBelow, IsPlace}
use Rattle.module_vec.specs.Reducers.{AreEntries, IsEntry}
use Rattle.module_vec.specs.Results.{Has}
use Rattle.module_vec.specs.Vectors.{Coefficients, sum_of, coefficient_at, InRange, HasRoom, IsWide, IsTerm, IsSparse}
use Rattle.module_vec.proofs.Merging.{in_range}
use Rattle.outcomes.specs.declared.kinds.PairKind.{PairKind}
use Rattle.outcomes.specs.declared.kinds.PairKind.TheVariants.{S, G}
use Rattle.reduce_cofactor.proofs.Resting.{floor_in_range}
use Rattle.step_lists.specs.Sums.{Adds, CanPass, passed, IsInReach, zero_vector}
use Rattle.step_lists.specs.declared.way.Way.TheVariants.{Add}
use Rattle.strong_pairs.specs.Covering.{Divides, Covers, FindsCover}
use Rattle.strong_pairs.specs.Pairs.{lead_at, IsPair, pair_place, AreFactors, ArePairSteps}
use Rattle.strong_pairs.specs.Results.{IsPairVector, BothAreMade}
use Rattle.strong_pairs.specs.Tasks.{StandsAt, AreStepsAt}
use Rattle.strong_pairs.proofs.Chaining.{due_nonzero, step_stands, after_stands, chain_below, chain_up_to, s_stands, g_stands, divides_abs}
use Rattle.strong_pairs.proofs.Coverage.{divides_itself, divides_on}
use Rattle.strong_pairs.proofs.Entered.{entry_at, entry_number, entry_vector, lead_length, lead_positive}
use Rattle.strong_pairs.proofs.Exactness.{pick}
use Rattle.strong_pairs.proofs.LeadTerms.{divides_common}
use Rattle.strong_pairs.proofs.Reducing.{lead_of_entry_positive}
use Rattle.pair_work.specs.Recipes.{turned, StandsFor}
use Rattle.pair_work.specs.Works.{recipe_of}
use Rattle.pair_work.proofs.Turning.{adds_turned}

places : (v : List Term) → AllByRecursion IsTerm v → AllByRecursion (λ (t : ℤ × Place). IsPlace t.1) (sum_of v)
places [] h = tt
places (t ∷ v) h = (h.0.place, places v h.1)

plus_zero : (z : ℤ) → pos 0 +ℤ z ≡ z
plus_zero z = omega (arith, ints)

-- a step of a chain: in range, not 0, and in reach
pub record IsSound (b : List (List Term)) (s : Step) : Type 0 where
  pub range : InRange s.q
  pub nonzero : s.q ≢ pos 0
  pub reach : IsInReach b s

module _ (b : List (List Term)) (entries : AreEntries b) where
  one_step : (f : Coefficients) (s : Step) (n : IsNext b f s) (v : List Term) → IsSparse v → Has v f → IsSound b s
  one_step f s n v sparse is = record {
    range = subst InRange (sym n.factor) (floor_in_range (f n.place) n.lead.k positive
        (subst InRange (is n.place) (in_range v sparse.terms sparse.falling n.place)));
    nonzero = λ e. n.due.moves (sym n.factor ∙ e);
    reach = record {
      number = entry_number b s.by (n.lead ∷ n.others) n.due.reducer.entry;
      room = subst (HasRoom s.t) (sym (entry_vector b s.by (n.lead ∷ n.others) n.due.reducer.entry)) room;
    };
  }
    where
      entry : IsEntry (n.lead ∷ n.others)
      entry = entry_at b entries s.by (n.lead ∷ n.others) n.due.reducer.entry

      positive : pos 0 <ℤ n.lead.k
      positive = (lead_of_entry_positive b entries s.by n.lead n.others n.due.reducer.entry).1

      there : (coefficient_at v n.place ≡ pos 0) ⊎ IsPlace n.place → IsPlace n.place
      there (inr p) = p
      there (inl e) = absurd (due_nonzero b entries f s n (sym (is n.place) ∙ e))

      place : IsPlace n.place
      place = there (pick IsPlace (sum_of v) (places v sparse.terms) n.place)

      sums : degree (quotient n.place.m n.lead.at.m) + degree n.lead.at.m ≡ degree n.place.m
      sums = sum-quotient n.place.m n.lead.at.m (place.variables ∙ sym entry.vector.sparse.terms.0.place.variables) n.due.reducer.reduces.1

      room : degree s.t + degree n.lead.at.m ≤ DEGREE
      room = omega (arith, ap degree n.monomial, sums, place.most)

  pub sound : (ss : List Step) (f g : Coefficients) → Runs b f ss g → (v : List Term) → IsSparse v → Has v f → AllByRecursion (IsSound b) ss
  sound [] f g h v sparse is = tt
  sound (s ∷ ss) f g h v sparse is = (one_step f s h.0 v sparse is, sound ss (after b f s) g h.2 h.1.terms.v h.1.terms.sparse h.1.terms.is)

  -- what stands where P holds, and goes down, is left there too
  pub end_stands : (P : Place → Type 0) → ((x y : Place) → IsBelow y x → P x → P y) → (ss : List Step) (f g : Coefficients) → Chain b f ss g → StandsAt P f
      → StandsAt P g
  end_stands P down [] f g h stands = λ x nz. stands x (λ e. nz (h x ∙ e))
  end_stands P down (s ∷ ss) f g h stands = end_stands P down ss (after b f s) g h.1
      (after_stands b entries P down f stands s (step_stands b entries P down f stands s h.0))

pub nonzeros : (b : List (List Term)) (ss : List Step) → AllByRecursion (IsSound b) ss → AllByRecursion (λ s. s.q ≢ pos 0) ss
nonzeros b [] h = tt
nonzeros b (s ∷ ss) h = (h.0.nonzero, nonzeros b ss h.1)

pub reaches : (b : List (List Term)) (ss : List Step) → AllByRecursion (IsSound b) ss → AllByRecursion (IsInReach b) ss
reaches b [] h = tt
reaches b (s ∷ ss) h = (h.0.reach, reaches b ss h.1)

-- ---- the factors of an uncovered pair aren't 0

-- 0·d is 0
not_zero : (q d z : ℤ) → q *ℤ d ≡ z → z ≢ pos 0 → q ≢ pos 0
not_zero q d z e n none = n (sym e ∙ ap (λ y. y *ℤ d) none ∙ omega (arith, ints))

above : (z : ℤ) → pos 0 <ℤ z → z ≢ pos 0
above z h e = omega (arith, ints, h, e)

minus_above : (z : ℤ) → pos 0 <ℤ z → neg_ℤ z ≢ pos 0
minus_above z h e = omega (arith, ints, h, e)

module _ (b : List (List Term)) (entries : AreEntries b) (i j : ℕ) (pair : IsPair b i j) where
  i_in : i < length b
  i_in = let o : i < j = pair.order in let w : j < length b = pair.within in omega (arith, o, w)

  k_above : pos 0 <ℤ (lead_at b i).k
  k_above = lead_positive b entries i i_in

  l_above : pos 0 <ℤ (lead_at b j).k
  l_above = lead_positive b entries j pair.within

  lengths : length (lead_at b i).at.m ≡ length (lead_at b j).at.m
  lengths = lead_length b entries i i_in ∙ sym (lead_length b entries j pair.within)

  i_covers : Divides (lead_at b i).k (lead_at b j).k → Covers b i j i
  i_covers d = (
    i_in,
    record {
      reduces = (refl, (divides_common (lead_at b i).at.m (lead_at b j).at.m lengths).0);
      first = divides_itself (lead_at b i).k;
      second = d;
    },
  )

  j_covers : Divides (lead_at b j).k (lead_at b i).k → Covers b i j j
  j_covers d = (
    pair.within,
    record {
      reduces = (sym pair.component, (divides_common (lead_at b i).at.m (lead_at b j).at.m lengths).1);
      first = d;
      second = divides_itself (lead_at b j).k;
    },
  )

  pub factors : (kind : PairKind) (first second : Step) → ArePairSteps kind b i j first second → (kind ≡ G → FindsCover b (length b) i j None)
      → (first.q ≢ pos 0) × (second.q ≢ pos 0)
  factors S first second are un = by are.factors
    where
      by : AreFactors S (lead_at b i).k (lead_at b j).k first.q second.q → (first.q ≢ pos 0) × (second.q ≢ pos 0)
      by (d, g, one, two) = (
        not_zero first.q (pos d) (lead_at b j).k one (above (lead_at b j).k l_above),
        not_zero second.q (pos d) (neg_ℤ (lead_at b i).k) two (minus_above (lead_at b i).k k_above),
      )
  factors G first second are un = by are.factors
    where
      by : AreFactors G (lead_at b i).k (lead_at b j).k first.q second.q → (first.q ≢ pos 0) × (second.q ≢ pos 0)
      by (d, bezout) = (one, two)
        where
          left : (u k v l : ℤ) → u *ℤ k +ℤ v *ℤ l ≡ d → u ≡ pos 0 → d ≡ v *ℤ l
          left u k v l e z = sym e ∙ ap (λ y. y *ℤ k +ℤ v *ℤ l) z ∙ omega (arith, ints)

          right : (u k v l : ℤ) → u *ℤ k +ℤ v *ℤ l ≡ d → v ≡ pos 0 → d ≡ u *ℤ k
          right u k v l e z = sym e ∙ ap (λ y. u *ℤ k +ℤ y *ℤ l) z ∙ omega (arith, ints)

          of_k : Divides d (lead_at b i).k
          of_k = divides_abs b entries i j pair d (lead_at b i).k bezout.positive k_above bezout.divisor.0

          of_l : Divides d (lead_at b j).k
          of_l = divides_abs b entries i j pair d (lead_at b j).k bezout.positive l_above bezout.divisor.1

          one : first.q ≢ pos 0
          one z = un refl j pair.within (j_covers (divides_on (lead_at b j).k d (lead_at b i).k (
            second.q,
            left first.q (lead_at b i).k second.q (lead_at b j).k bezout.sum z,
          ) of_k))

          two : second.q ≢ pos 0
          two z = un refl i i_in (i_covers (divides_on (lead_at b i).k d (lead_at b j).k (
            first.q,
            right first.q (lead_at b i).k second.q (lead_at b j).k bezout.sum z,
          ) of_l))

  -- where the multiples of a pair's chain stand
  pub vector_stands : (kind : PairKind) (v : List Term) → IsPairVector kind b i j v → StandsAt (StandsFor kind (pair_place b i j)) (coefficient_at v)
  vector_stands S v is = s_stands b entries i j pair v is
  vector_stands G v is = g_stands b entries i j pair v is

  pub steps_stand : (kind : PairKind) (v : List Term) → IsPairVector kind b i j v → (ss : List Step) (g : Coefficients) → Chain b (coefficient_at v) ss g
      → AreStepsAt (StandsFor kind (pair_place b i j)) b ss
  steps_stand S v is ss g chain = chain_below b entries (pair_place b i j) ss (coefficient_at v) g (vector_stands S v is) chain
  steps_stand G v is ss g chain = chain_up_to b entries (pair_place b i j) ss (coefficient_at v) g (vector_stands G v is) chain

  -- ---- the value of the recipe
  module _ (first second : Step) (v : List Term) (made : BothAreMade b first second v) where
    abbrev start : Coefficients
    start = passed Add b zero_vector first

    begun : taken_at b first ≡ start
    begun i x = sym (plus_zero (taken_at b first x)) i

    can_first : CanPass Add b zero_vector first
    can_first = record {
      narrow = λ x w. by x w;
      count = length made.0.0;
      terms = record { v = made.0.0; sparse = made.0.1.vector.sparse; is = λ x. made.0.1.is x ∙ sym (plus_zero (taken_at b first x)); count = refl };
      short = made.0.1.vector.most;
    }
      where
        by : (x : Place) → IsWide (taken_at b first x) ⊎ IsWide (pos 0 +ℤ taken_at b first x) → ⊥
        by x (inl w) = made.0.1.narrow x w
        by x (inr w) = made.0.1.narrow x (subst IsWide (plus_zero (taken_at b first x)) w)

    can_second : CanPass Add b start second
    can_second = subst (λ (z : Coefficients). CanPass Add b z second) begun (record {
      narrow = made.1.narrow;
      count = length v;
      terms = record { v = v; sparse = made.1.vector.sparse; is = made.1.is; count = refl };
      short = made.1.vector.most;
    })

    reached : coefficient_at v ≡ passed Add b start second
    reached n x = (made.1.is x ∙ ap (λ (f : Coefficients). f x +ℤ taken_at b second x) begun) n

    pub adds_all : (ss : List Step) (w : List Term) → Runs b (coefficient_at v) ss (coefficient_at w)
        → Adds b zero_vector (recipe_of first second ss) (coefficient_at w)
    adds_all ss w runs = (
      can_first,
      (
        can_second,
        subst (λ (z : Coefficients). Adds b z (map turned ss) (coefficient_at w)) reached
            (adds_turned b ss (coefficient_at v) (coefficient_at w) runs),
      ),
    )

pub ranges : (b : List (List Term)) (ss : List Step) → AllByRecursion (IsSound b) ss → AllByRecursion (λ s. InRange s.q) ss
ranges b [] h = tt
ranges b (s ∷ ss) h = (h.0.range, ranges b ss h.1)
