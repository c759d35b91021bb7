-- What the work of a task has shown holds in each list that has the used entries under their numbers.
use Rattle.std.proofs.Common.{◌≡◌, ◌≢◌, ℕ, ◌<◌, Bool, true, false, ◌+ℤ◌, List, [], ◌∷◌, ◌++◌, map, length, inl, inr, refl, sym, ap, subst, ◌∙◌, arith, Some}
use Rattle.std.proofs.lemmas.List.{length-map}
use Rattle.std.proofs.lemmas.Option.{slice_get_within}
use Rattle.std.specs.List.{slice_get, AllByRecursion}
use Rattle.formal_sums.specs.FormalSum.{Falling}
use Rattle.module_vec.specs.declared.places.Term.{Term}
use Rattle.module_vec.specs.declared.steps.Step.{Step}
use Rattle.module_vec.specs.Places.{IsBelow}
use Rattle.module_vec.specs.Reducers.{AreEntries, IsEntry}
use Rattle.module_vec.specs.Vectors.{coefficient_at}
use Rattle.outcomes.specs.declared.kinds.PairKind.{PairKind}
use Rattle.outcomes.specs.declared.kinds.PairKind.TheVariants.{S, G}
use Rattle.outcomes.specs.declared.tasks.Task.{Task}
use Rattle.presentation.specs.Presented.{Presented}
use Rattle.strong_pairs.specs.Covering.{Covers}
use Rattle.strong_pairs.specs.Pairs.{lead_of, IsPair, pair_place, ArePairSteps}
use Rattle.strong_pairs.specs.Tasks.{AreStepsAt, AreStepsBelow, IsClosed}
use Rattle.basis_entry.specs.Base.{has_negative_lead}
use Rattle.basis_entry.specs.Entries.{BasisEntry, IsBasisEntry, vectors_of}
use Rattle.basis_entry.proofs.Vectors.{are_entries}
use Rattle.pair_work.specs.Recipes.{turned, StandsFor, IsPairRecipe, IsFromPair, IsMadeFor}
use Rattle.pair_work.specs.Outcomes.{UsedEntry, AllThere, Zeroes, IsRestOf}
use Rattle.pair_work.specs.Works.{IsUncovered, IsCarriedOut, IsOfRest, IsAmong, recipe_of, signed}
use Rattle.pair_work.proofs.Reading.{vector_of, all_from}
use Rattle.pair_work.proofs.Transport.{Same, AllSame, place_same, pair_over, pair_steps_over, both_same, steps_same, stand_over, places_same, value_over}
use Rattle.pair_work.proofs.Transport.{covers_over}
use Rattle.pair_work.proofs.Made.{made_for, short, kind_s, stand_s, rest_below, parts, zero_s, not_g, signed_entry}
use Rattle.pair_work.proofs.Appended.{at_lead, closes}

-- both lists have the entry that has been used
same_among : (es fs : List BasisEntry) (used : List UsedEntry) → AllThere es used → AllThere fs used → (n : ℕ) → IsAmong used n
    → Same (vectors_of es) (vectors_of fs) n
same_among es fs used here there n (m, u, get, e) = subst (Same (vectors_of es) (vectors_of fs)) e (
  omega (arith, within, long),
  vector_of fs u.number u.entry (there m u get) ∙ sym (vector_of es u.number u.entry (here m u get)),
)
  where
    within : u.number < length fs
    within = slice_get_within fs u.number u.entry (there m u get)

    long : length (vectors_of fs) ≡ length fs
    long = length-map fs (λ (e : BasisEntry). e.vector)

same_steps_among : (es fs : List BasisEntry) (used : List UsedEntry) → AllThere es used → AllThere fs used → (ss : List Step)
    → ((k : ℕ) (s : Step) → slice_get ss k ≡ Some s → IsAmong used s.by) → AllSame (vectors_of es) (vectors_of fs) ss
same_steps_among es fs used here there ss h = all_from (λ s. Same (vectors_of es) (vectors_of fs) s.by) ss
    (λ k s get. same_among es fs used here there s.by (h k s get))

-- ---- over to another list

all_turned : (b c : List (List Term)) (ss : List Step) → AllSame b c ss → AllSame b c (map turned ss)
all_turned b c [] h = tt
all_turned b c (s ∷ ss) h = (h.0, all_turned b c ss h.1)

module _ (b c : List (List Term)) (i j : ℕ) (hi : Same b c i) (hj : Same b c j) where
  place : pair_place b i j ≡ pair_place c i j
  place = place_same b c i j hi hj

  pub zeroes_over : (ss : List Step) → AllSame b c ss → Zeroes b i j ss → Zeroes c i j ss
  zeroes_over ss all z = record {
    first = z.first;
    second = z.second;
    pair = pair_steps_over S b c i j z.first z.second hi hj z.pair;
    below = subst (λ p. AreStepsBelow c p ss) place (stand_over (λ x. IsBelow x (pair_place b i j)) b c ss all z.below);
    is = λ x. sym (both_same S b c i j z.first z.second hi hj z.pair x) ∙ z.is x ∙ steps_same b c ss all x;
  }

  further_same : (kind : PairKind) (ss : List Step) → AllSame b c ss → (r : IsPairRecipe kind b i j ss) → AllSame b c r.further
  further_same kind ss all r = let split : AllSame b c (r.first ∷ (r.second ∷ r.further)) = subst (AllSame b c) r.is all in split.1.1

  recipe_over : (kind : PairKind) (ss : List Step) → AllSame b c ss → IsPairRecipe kind b i j ss → IsPairRecipe kind c i j ss
  recipe_over kind ss all r = record {
    first = r.first;
    second = r.second;
    further = r.further;
    is = r.is;
    pair = pair_steps_over kind b c i j r.first r.second hi hj r.pair;
    stand = subst (λ p. AreStepsAt (StandsFor kind p) c r.further) place (stand_over (StandsFor kind (pair_place b i j)) b c r.further
        (further_same kind ss all r) r.stand);
    falling = subst (Falling IsBelow) (places_same b c r.further (further_same kind ss all r)) r.falling;
  }

  from_over : (kind : PairKind) (ss : List Step) → AllSame b c ss → IsFromPair kind b i j ss → IsFromPair kind c i j ss
  from_over kind ss all (inl r) = inl (recipe_over kind ss all r)
  from_over kind ss all (inr (others, r, e)) = inr (others, recipe_over kind others (back others (subst (AllSame b c) e all)) r, e)
    where
      back : (xs : List Step) → AllSame b c (map turned xs) → AllSame b c xs
      back [] h = tt
      back (x ∷ xs) h = (h.0, back xs h.1)

made_over : (b c : List (List Term)) (t : Task) (e : BasisEntry) → Same b c t.i → Same b c t.j → (made : IsMadeFor b t e) → AllSame b c made.steps
    → IsMadeFor c t e
made_over b c t e hi hj made all = record {
  steps = made.steps;
  recipe = made.recipe;
  value = value_over b c made.steps e.vector all made.value;
  from = from_over b c t.i t.j hi hj t.kind made.steps all made.from;
}

-- ---- the outcomes

-- the work of a task by a list: the pair's entries are used
module _ (es : List BasisEntry) (t : Task) (used : List UsedEntry) (there : AllThere es used) (first_used : IsAmong used t.i) (second_used : IsAmong used t.j)
    (pair : IsPair (vectors_of es) t.i t.j) (fs : List BasisEntry) (others : AllThere fs used) where
  abbrev b : List (List Term)
  b = vectors_of es

  abbrev c : List (List Term)
  c = vectors_of fs

  i_same : Same b c t.i
  i_same = same_among es fs used there others t.i first_used

  j_same : Same b c t.j
  j_same = same_among es fs used there others t.j second_used

  pub pair_there : IsPair c t.i t.j
  pair_there = pair_over b c t.i t.j i_same j_same pair

  pub covered_there : (by : ℕ) → IsAmong used by → Covers b t.i t.j by → Covers c t.i t.j by
  covered_there by among covers = covers_over b c t.i t.j by i_same j_same (same_among es fs used there others by among) covers

  module _ (entries : AllByRecursion IsBasisEntry es) (un : IsUncovered b t) (first second : Step) (steps : List Step) (w : List Term)
      (done : IsCarriedOut b t first second steps w) (steps_used : (k : ℕ) (s : Step) → slice_get steps k ≡ Some s → IsAmong used s.by) where
    are : AreEntries b
    are = are_entries es entries

    all : AllSame b c steps
    all = same_steps_among es fs used there others steps steps_used

    zero_s_there : w ≡ [] → t.kind ≡ S → Zeroes c t.i t.j steps
    zero_s_there e k = zeroes_over b c t.i t.j i_same j_same steps all (zero_s b are t pair un first second steps w done e k)

    pub zero_there : w ≡ [] → (t.kind ≡ S) × Zeroes c t.i t.j steps
    zero_there e = by t.kind refl
      where
        by : (kind : PairKind) → t.kind ≡ kind → (t.kind ≡ S) × Zeroes c t.i t.j steps
        by S k = (k, zero_s_there e k)
        by G k = absurd (not_g b are t pair un first second steps w done e k)

    recipe_same : AllSame b c (recipe_of first second steps)
    recipe_same = (
      subst (Same b c) (sym done.pair_steps.first_number) i_same,
      (
        subst (Same b c) (sym done.pair_steps.second_number) j_same,
        all_turned b c steps all,
      ),
    )

    signed_same : (negated : Bool) → AllSame b c (signed negated (recipe_of first second steps))
    signed_same true = all_turned b c (recipe_of first second steps) recipe_same
    signed_same false = recipe_same

    pub rest_there : w ≢ [] → (q : Presented) (e : BasisEntry) → IsOfRest q w (recipe_of first second steps) e → IsRestOf c t e
    rest_there some q e is = record {
      made = made_over b c t e i_same j_same (made_for b are t pair un first second steps w done q e is) (signed_same (has_negative_lead w));
      short = short b are t pair un first second steps w done q e is;
      closes = shut;
    }
      where
        entry : IsEntry e.vector
        entry = signed_entry b are t pair un first second steps w done (has_negative_lead w) e.vector some refl is.vector

        shut : t.kind ≡ S → IsClosed (c ++ e.vector ∷ []) S t.i t.j
        shut k =
            let steps_s : ArePairSteps S b t.i t.j first second = kind_s b are t pair un first second steps w done k in
            closes c t.i t.j pair_there first second
            (pair_steps_over S b c t.i t.j first second i_same j_same steps_s)
            steps
            (subst (λ p. AreStepsBelow c p steps) (place_same b c t.i t.j i_same j_same)
            (stand_over (λ x. IsBelow x (pair_place b t.i t.j)) b c steps all (stand_s b are t pair un first second steps w done k)))
            w e.vector
            (λ x. sym (both_same S b c t.i t.j first second i_same j_same steps_s x) ∙ parts b are t pair un first second steps w done x
            ∙ ap (λ z. z +ℤ coefficient_at w x) (steps_same b c steps all x))
            (has_negative_lead w) is.vector entry
            (subst (IsBelow (lead_of e.vector).at) (place_same b c t.i t.j i_same j_same)
            (rest_below b are t pair un first second steps w done k (lead_of e.vector).at (at_lead (has_negative_lead w) w e.vector entry is.vector)).1)
