-- THE STRONG CRITERION: where all tasks are closed, the lead of each sum of multiples is divided by that of an entry.
use Rattle.std.proofs.Common.{◌≡◌, ◌≢◌, ℕ, ◌<◌, Bool, true, false, cond, ℤ, pos, negsuc, ◌+ℤ◌, ◌*ℤ◌, List, [], ◌∷◌, ◌++◌, length, ◌⊎◌, inl, inr, refl, sym, ap}
use Rattle.std.proofs.Common.{subst, ◌∙◌, arith}
use borrow.Author.Differences.{ints}
use mathlib.Core.WellFounded.{Acc}
use Rattle.std.specs.List.{AllByRecursion}
use Rattle.std.specs.Prelude.{◌<ℤ◌}
use Rattle.formal_sums.specs.FormalSum.{coefficient, scale, rename}
use Rattle.formal_sums.proofs.Coefficients.{coefficient-scale, scale-scale, rename-scale}
use Rattle.formal_sums.proofs.Integers.{*ℤ-eq-zero, *ℤ-+ℤ, +ℤ-*ℤ, *ℤ_assoc}
use Rattle.laurent_terms.specs.declared.TheConstants.{VARIABLES}
use Rattle.laurent_terms.specs.Monomials.{one, quotient}
use Rattle.laurent_terms.proofs.Division.{product-one}
use Rattle.module_vec.specs.declared.places.Place.{Place}
use Rattle.module_vec.specs.declared.places.Term.{Term}
use Rattle.module_vec.specs.declared.steps.Step.{Step}
use Rattle.module_vec.specs.Chains.{taken_at}
use Rattle.module_vec.specs.Modules.{vector_at, sum_of_steps, steps_at, AreSteps, InModule, IsLead, IsDivided, IsStrong}
use Rattle.module_vec.specs.Places.{IsBelow, same_place, moved}
use Rattle.module_vec.specs.Reducers.{Reduces, AreEntries}
use Rattle.module_vec.specs.Vectors.{Coefficients, sum_of, coefficient_at, multiple, IsTerm}
use Rattle.module_vec.proofs.Order.{test, order}
use Rattle.outcomes.specs.declared.kinds.PairKind.TheVariants.{S, G}
use Rattle.strong_pairs.specs.Covering.{Divides}
use Rattle.strong_pairs.specs.Generating.{IsUpToSign, Holds, IsGenerating}
use Rattle.strong_pairs.specs.Pairs.{lead_at}
use Rattle.strong_pairs.specs.Tasks.{step_place, AreStepsAt, AreStepsBelow, AreClosed, AllClosed, Reaches, DividesAll}
use Rattle.strong_pairs.proofs.Coverage.{coverage}
use Rattle.strong_pairs.proofs.Descending.{Lower, place_acc}
use Rattle.strong_pairs.proofs.Entered.{behind, is_entry, as_entry, lead_length, lead_positive, length-quotient}
use Rattle.strong_pairs.proofs.Exactness.{zero_or_not}
use Rattle.strong_pairs.proofs.Exchanges.{Exchanged, exchange, divides-multiple, quotient-back}
use Rattle.strong_pairs.proofs.Members.{scaled, steps_at-cons, steps_at-append, steps_at-scaled}
use Rattle.strong_pairs.proofs.Shifted.{InAll, shifted, taken_is, shifted_lead, shifted_above, place_length, zero_over, at_append, at_scaled, at_weaker}

abbrev AtMost : Place → Place → Type 0
AtMost p x = (x ≡ p) ⊎ IsBelow x p

module _ (b : List (List Term)) (entries : AreEntries b) where
  -- ---- the greatest lead place of steps
  abbrev Topped : (Place → Type 0) → List Step → Type 0
  Topped P ss = (p : Place) × InAll p × P p × AreStepsAt (AtMost p) b ss

  at_most_higher : (p q : Place) → IsBelow p q → (x : Place) → AtMost p x → AtMost q x
  at_most_higher p q l x (inl e) = inr (subst (λ z. IsBelow z q) (sym e) l)
  at_most_higher p q l x (inr k) = inr (order.transitive x p q k l)

  top : (P : Place → Type 0) (s : Step) (ss : List Step) → AreStepsAt P b (s ∷ ss) → Topped P (s ∷ ss)
  top P s [] h = (step_place b s, place_length b entries s h.0.0 h.0.1, h.0.2, ((h.0.0, h.0.1, inl refl), tt))
  top P s (r ∷ ss) h = by (top P r ss h.1)
    where
      here : Place
      here = step_place b s

      by : Topped P (r ∷ ss) → Topped P (s ∷ (r ∷ ss))
      by (p, long, holds, all) = three (order.total here p)
        where
          three : (here ≡ p) ⊎ (IsBelow here p ⊎ IsBelow p here) → Topped P (s ∷ (r ∷ ss))
          three (inl e) = (p, long, holds, ((h.0.0, h.0.1, inl e), all))
          three (inr (inl l)) = (p, long, holds, ((h.0.0, h.0.1, inr l), all))
          three (inr (inr l)) = (
            here,
            place_length b entries s h.0.0 h.0.1,
            h.0.2,
            ((h.0.0, h.0.1, inl refl), at_weaker b entries (AtMost p) (AtMost here) (at_most_higher p here l) (r ∷ ss) all),
          )

  -- ---- the entries whose multiples reach the place
  abbrev tops : Place → List Step → List ℕ
  tops p [] = []
  tops p (s ∷ ss) = cond (same_place (step_place b s) p) (s.by ∷ tops p ss) (tops p ss)

  reaches : (s : Step) (p : Place) → length s.t ≡ VARIABLES → s.by < length b → step_place b s ≡ p → Reaches b p s.by
  reaches s p long h e = (h, ((λ n. (e n).c), divides-multiple s.t (lead_at b s.by).at.m p.m (long ∙ sym (lead_length b entries s.by h)) (λ n. (e n).m)))

  tops_reach : (p : Place) (ss : List Step) → AreStepsAt (AtMost p) b ss → AllByRecursion (Reaches b p) (tops p ss)
  tops_reach p [] h = tt
  tops_reach p (s ∷ ss) h = by (same_place (step_place b s) p) refl (tops_reach p ss h.1)
    where
      by : (r : Bool) → same_place (step_place b s) p ≡ r → AllByRecursion (Reaches b p) (tops p ss)
          → AllByRecursion (Reaches b p) (cond r (s.by ∷ tops p ss) (tops p ss))
      by true e rest = (reaches s p h.0.0 h.0.1 (test.sound (step_place b s) p e), rest)
      by false e rest = rest

  -- a step that isn't at the place is below it
  below_top : (s : Step) (p : Place) → same_place (step_place b s) p ≡ false → AtMost p (step_place b s) → IsBelow (step_place b s) p
  below_top s p e (inr l) = l
  below_top s p e (inl same) = absurd (let wrong : true ≡ false = sym (test.reflexive p) ∙ ap (λ z. same_place z p) (sym same) ∙ e in cc)

  -- ---- they are gathered into one multiple
  abbrev Gathered : Place → ℕ → List ℕ → List Step → Type 0
  Gathered p k u ss = (f : ℤ) × (rest : List Step) × AreStepsBelow b p rest × ((x : Place)
      → steps_at b ss x ≡ f *ℤ shifted u (vector_at b k) x +ℤ steps_at b rest x)

  module _ (closed : AreClosed b S) (p : Place) (k : ℕ) (u : List ℕ) (k_in : k < length b) (long : length u
      ≡ VARIABLES) (at_p : moved u (lead_at b k).at ≡ p) where
    gather : (ss : List Step) → AreStepsAt (AtMost p) b ss → AllByRecursion (λ i. Divides (lead_at b k).k (lead_at b i).k) (tops p ss) → Gathered p k u ss
    gather [] h all = (pos 0, [], tt, λ x. omega (arith, ints))
    gather (s ∷ ss) h all = by (same_place (step_place b s) p) refl all (λ a. gather ss h.1 a)
      where
        past : (a c d : ℤ) → a +ℤ (c +ℤ d) ≡ c +ℤ (a +ℤ d)
        past a c d = omega (arith, ints)

        -- q·(m·U + L) + (f·U + R)
        regroup : (q m f a l r : ℤ) → q *ℤ (m *ℤ a +ℤ l) +ℤ (f *ℤ a +ℤ r) ≡ (q *ℤ m +ℤ f) *ℤ a +ℤ (q *ℤ l +ℤ r)
        regroup q m f a l r =
            let one : q *ℤ (m *ℤ a +ℤ l) ≡ (q *ℤ m) *ℤ a +ℤ q *ℤ l = *ℤ-+ℤ q (m *ℤ a) l ∙ ap (λ z. z +ℤ q *ℤ l) (sym (*ℤ_assoc q m a)) in
            let two : (q *ℤ m +ℤ f) *ℤ a ≡ (q *ℤ m) *ℤ a +ℤ f *ℤ a = +ℤ-*ℤ (q *ℤ m) f a in
            omega (arith, ints, one, two)

        by : (r : Bool) → same_place (step_place b s) p ≡ r → AllByRecursion (λ i. Divides (lead_at b k).k (lead_at b i).k)
            (cond r (s.by ∷ tops p ss) (tops p ss)) → (AllByRecursion (λ i. Divides (lead_at b k).k (lead_at b i).k) (tops p ss) → Gathered p k u ss)
            → Gathered p k u (s ∷ ss)
        by false e a others = below_one (others a)
          where
            below_one : Gathered p k u ss → Gathered p k u (s ∷ ss)
            below_one (f, rest, below, is) = (
              f,
              s ∷ rest,
              ((h.0.0, h.0.1, below_top s p e h.0.2), below),
              λ x. steps_at-cons b s ss x ∙ ap (λ z. taken_at b s x +ℤ z) (is x) ∙ past (taken_at b s x) (f *ℤ shifted u (vector_at b k) x) (steps_at b rest x)
                  ∙ ap (λ z. f *ℤ shifted u (vector_at b k) x +ℤ z) (sym (steps_at-cons b s rest x)),
            )
        by true e a others = exchanged (others a.1) (exchange b entries closed s.by k s.t u p a.0.0 (record {
          i_in = h.0.1;
          j_in = k_in;
          t-length = h.0.0;
          u-length = long;
          first = test.sound (step_place b s) p e;
          second = at_p;
        }) a.0.1)
          where
            exchanged : Gathered p k u ss → Exchanged b entries s.by k s.t u p a.0.0 → Gathered p k u (s ∷ ss)
            exchanged (f, rest, below, is) (low, low_below, low_is) = (
              s.q *ℤ a.0.0 +ℤ f,
              scaled s.q low ++ rest,
              at_append b entries (λ x. IsBelow x p) (scaled s.q low) rest (at_scaled b entries (λ x. IsBelow x p) s.q low low_below) below,
              λ x. steps_at-cons b s ss x
                  ∙ (λ n. (taken_is b s x ∙ ap (λ z. s.q *ℤ z) (low_is x)) n +ℤ is x n)
                  ∙ regroup s.q a.0.0 f (shifted u (vector_at b k) x) (steps_at b low x) (steps_at b rest x)
                  ∙ ap (λ z. (s.q *ℤ a.0.0 +ℤ f) *ℤ shifted u (vector_at b k) x +ℤ z) (sym (steps_at-append b (scaled s.q low) rest x
                  ∙ ap (λ z. z +ℤ steps_at b rest x) (steps_at-scaled b s.q low x))),
            )

  -- ---- by induction on the greatest lead place
  one_lead : (f : Coefficients) (p q : Place) → IsLead f p → IsLead f q → p ≡ q
  one_lead f p q lp lq = by (order.total p q)
    where
      by : (p ≡ q) ⊎ (IsBelow p q ⊎ IsBelow q p) → p ≡ q
      by (inl e) = e
      by (inr (inl l)) = absurd (lq.nonzero (lp.above q l))
      by (inr (inr l)) = absurd (lp.nonzero (lq.above p l))

  module _ (closed : AllClosed b) where
    -- by the steps below the place
    abbrev Rest : Place → Type 0
    Rest p = (q : Place) → Lower q p → (ss : List Step) → AreStepsAt (AtMost q) b ss → (f : Coefficients) → ((x : Place) → f x ≡ steps_at b ss x) → (r : Place)
        → IsLead f r → IsDivided b f r

    descend : (p : Place) → InAll p → Rest p → (rest : List Step) → AreStepsBelow b p rest → (f : Coefficients) → ((x : Place) → f x ≡ steps_at b rest x)
        → (r : Place) → IsLead f r → IsDivided b f r
    descend p long rec [] h f is r lead = absurd (lead.nonzero (is r))
    descend p long rec (s ∷ ss) h f is r lead = let t : Topped (λ x. IsBelow x p) (s ∷ ss) = top (λ x. IsBelow x p) s ss h
        in rec t.0 (t.1, long, t.2) (s ∷ ss) t.3 f is r lead

    no_tops : (p : Place) (ss : List Step) → AreStepsAt (AtMost p) b ss → tops p ss ≡ [] → AreStepsBelow b p ss
    no_tops p [] h e = tt
    no_tops p (s ∷ ss) h e = by (same_place (step_place b s) p) refl e (λ g. no_tops p ss h.1 g)
      where
        by : (r : Bool) → same_place (step_place b s) p ≡ r → cond r (s.by ∷ tops p ss) (tops p ss) ≡ [] → (tops p ss ≡ [] → AreStepsBelow b p ss)
            → AreStepsBelow b p (s ∷ ss)
        by true g e others = absurd cc
        by false g e others = ((h.0.0, h.0.1, below_top s p g h.0.2), others e)

    -- the lead is at p, where entry k has its multiple
    led : (p : Place) (k : ℕ) (u : List ℕ) → k < length b → length u ≡ VARIABLES → moved u (lead_at b k).at ≡ p → Reduces (lead_at b k) p
        → (c : ℤ) → c ≢ pos 0 →
        (rest : List Step) → AreStepsBelow b p rest → (f : Coefficients) → ((x : Place) → f x ≡ c *ℤ shifted u (vector_at b k) x +ℤ steps_at b rest x)
        → (r : Place) → IsLead f r → IsDivided b f r
    led p k u k_in long at_p reduces c nonzero rest below f is r lead = record {
      number = k;
      lead = lead_at b k;
      others = behind (vector_at b k);
      entry = as_entry b entries k k_in;
      reduces = subst (Reduces (lead_at b k)) same reduces;
      factor = c;
      divides = ap f (sym same) ∙ own;
    }
      where
        own : f p ≡ c *ℤ (lead_at b k).k
        own =
            let first : shifted u (vector_at b k) p ≡ (lead_at b k).k = ap (shifted u (vector_at b k)) (sym at_p) ∙ shifted_lead b entries u k long k_in in
            let none : steps_at b rest p ≡ pos 0 = zero_over b entries p rest below in
            is p ∙ ap (λ z. c *ℤ z +ℤ steps_at b rest p) first ∙ just (c *ℤ (lead_at b k).k) (steps_at b rest p) none
          where
            just : (a z : ℤ) → z ≡ pos 0 → a +ℤ z ≡ a
            just a z e = omega (arith, ints, e)

        above : (x : Place) → IsBelow p x → f x ≡ pos 0
        above x l =
            let first : shifted u (vector_at b k) x ≡ pos 0 = shifted_above b entries u k long k_in x (subst (λ z. IsBelow z x) (sym at_p) l) in
            let none : steps_at b rest x ≡ pos 0 = zero_over b entries x rest (at_weaker b entries (λ y. IsBelow y p) (λ y. IsBelow y x)
            (λ y m. order.transitive y p x m l) rest below) in
            is x ∙ ap (λ z. c *ℤ z +ℤ steps_at b rest x) first ∙ nothing c (steps_at b rest x) none
          where
            nothing : (a z : ℤ) → z ≡ pos 0 → a *ℤ pos 0 +ℤ z ≡ pos 0
            nothing a z e = omega (arith, ints, e)

        lead_there : IsLead f p
        lead_there = record { nonzero = λ e. by (*ℤ-eq-zero c (lead_at b k).k (sym own ∙ e)); above = above }
          where
            by : (c ≡ pos 0) ⊎ ((lead_at b k).k ≡ pos 0) → ⊥
            by (inl e) = nonzero e
            by (inr e) = absurd (let positive : pos 0 <ℤ (lead_at b k).k = lead_positive b entries k k_in in omega (arith, ints, e, positive))

        same : p ≡ r
        same = one_lead f p r lead_there lead

    at_top : (p : Place) → InAll p → Rest p → (ss : List Step) → AreStepsAt (AtMost p) b ss → (f : Coefficients) → ((x : Place) → f x ≡ steps_at b ss x)
        → (r : Place) → IsLead f r → IsDivided b f r
    at_top p long rec ss h f is r lead = by (tops p ss) refl
      where
        by : (numbers : List ℕ) → tops p ss ≡ numbers → IsDivided b f r
        by [] e = descend p long rec ss (no_tops p ss h e) f is r lead
        by (i ∷ numbers) e = covered (coverage b entries (closed G) p i numbers (subst (AllByRecursion (Reaches b p)) e (tops_reach p ss h)))
          where
            covered : (k : ℕ) × DividesAll b p (i ∷ numbers) k → IsDivided b f r
            covered (k, all) = gathered (gather (closed S) p k u k_in u-length at_p ss h
                (subst (AllByRecursion (λ n. Divides (lead_at b k).k (lead_at b n).k)) (sym e) all.divides))
              where
                k_in : k < length b
                k_in = all.reaches.0

                u : List ℕ
                u = quotient p.m (lead_at b k).at.m

                m-length : length (lead_at b k).at.m ≡ VARIABLES
                m-length = lead_length b entries k k_in

                u-length : length u ≡ VARIABLES
                u-length = length-quotient (lead_at b k).at.m p.m all.reaches.1.1 ∙ m-length

                at_p : moved u (lead_at b k).at ≡ p
                at_p = λ n. record { m = quotient-back (lead_at b k).at.m p.m (m-length ∙ sym long) all.reaches.1.1 n; c = all.reaches.1.0 n }

                gathered : Gathered p k u ss → IsDivided b f r
                gathered (c, rest, below, sum) = whole (zero_or_not c)
                  where
                    whole : (c ≡ pos 0) ⊎ (c ≢ pos 0) → IsDivided b f r
                    whole (inr nonzero) = led p k u k_in u-length at_p all.reaches.1 c nonzero rest below f (λ x. is x ∙ sum x) r lead
                    whole (inl e) = descend p long rec rest below f (λ x. is x ∙ sum x ∙ none c (shifted u (vector_at b k) x) (steps_at b rest x) e) r lead
                      where
                        none : (c a z : ℤ) → c ≡ pos 0 → c *ℤ a +ℤ z ≡ z
                        none c a z e = let gone : c *ℤ a ≡ pos 0 *ℤ a = ap (λ y. y *ℤ a) e in omega (arith, ints, gone)

    divided_at : (p : Place) → Acc Lower p → InAll p → (ss : List Step) → AreStepsAt (AtMost p) b ss → (f : Coefficients)
        → ((x : Place) → f x ≡ steps_at b ss x) → (r : Place) → IsLead f r → IsDivided b f r
    divided_at p (Acc.intro p' acc) long ss h f is r lead = at_top p long (λ q l rs g e is_e o lead_e. divided_at q (acc q l) l.0 rs g e is_e o lead_e)
        ss h f is r lead

    everywhere : (ss : List Step) → AreSteps b ss → AreStepsAt (λ x. Unit {0}) b ss
    everywhere [] h = tt
    everywhere (s ∷ ss) h = ((h.0.0, h.0.1, tt), everywhere ss h.1)

    -- THE CRITERION, over the list itself
    pub divided : (ss : List Step) → AreSteps b ss → (f : Coefficients) → ((x : Place) → f x ≡ steps_at b ss x) → (r : Place) → IsLead f r → IsDivided b f r
    divided [] h f is r lead = absurd (lead.nonzero (is r))
    divided (s ∷ ss) h f is r lead =
        let t : Topped (λ x. Unit {0}) (s ∷ ss) = top (λ x. Unit {0}) s ss (everywhere (s ∷ ss) h) in
        divided_at t.0 (place_acc t.0) t.1 (s ∷ ss) t.3 f is r lead

-- ---- from the generators to the list that holds them

-- the multiple of a vector, of the vector with all signs turned
turned_multiple : (q : ℤ) (t : List ℕ) (v w : List Term) → sum_of w ≡ scale (negsuc 0) (sum_of v) → multiple (q *ℤ negsuc 0) t w ≡ multiple q t v
turned_multiple q t v w e =
    ap (λ z. scale (q *ℤ negsuc 0) (rename (moved t) z)) e
    ∙ ap (scale (q *ℤ negsuc 0)) (rename-scale (moved t) (negsuc 0) (sum_of v))
    ∙ scale-scale (q *ℤ negsuc 0) (negsuc 0) (rename (moved t) (sum_of v))
    ∙ ap (λ z. scale z (rename (moved t) (sum_of v))) (*ℤ_assoc q (negsuc 0) (negsuc 0) ∙ one q)
  where
    one : (z : ℤ) → z *ℤ pos 1 ≡ z
    one z = omega (arith, ints)

pub over_list : (gens b : List (List Term)) → Holds gens b → (ss : List Step) → AreSteps gens ss
    → (rs : List Step) × AreSteps b rs × (sum_of_steps gens ss ≡ sum_of_steps b rs)
over_list gens b holds [] h = ([], tt, refl)
over_list gens b holds (s ∷ ss) h = by (holds s.by h.0.1) (over_list gens b holds ss h.1)
  where
    by : (j : ℕ) × (j < length b) × IsUpToSign (vector_at gens s.by) (vector_at b j) → (rs : List Step) × AreSteps b rs
        × (sum_of_steps gens ss ≡ sum_of_steps b rs) → (rs : List Step) × AreSteps b rs × (sum_of_steps gens (s ∷ ss) ≡ sum_of_steps b rs)
    by (j, j_in, inl e) (rs, are, is) = (record { q = s.q; t = s.t; by = j } ∷ rs, ((h.0.0, j_in), are), λ n. multiple s.q s.t (sym e n) ++ is n)
    by (j, j_in, inr e) (rs, are, is) = (
      record { q = s.q *ℤ negsuc 0; t = s.t; by = j } ∷ rs,
      ((h.0.0, j_in), are),
      λ n. sym (turned_multiple s.q s.t (vector_at gens s.by) (vector_at b j) e) n ++ is n,
    )

-- ---- a vector is its multiple by 1
rename_one : (v : List Term) → AllByRecursion IsTerm v → rename (moved one) (sum_of v) ≡ sum_of v
rename_one [] h = refl
rename_one (t ∷ v) h = λ n. (t.k, record { m = product-one t.at.m h.0.place.variables n; c = t.at.c }) ∷ rename_one v h.1 n

once : (v : List Term) → AllByRecursion IsTerm v → (x : Place) → coefficient same_place (multiple (pos 1) one v) x ≡ coefficient_at v x
once v h x = coefficient-scale same_place (pos 1) (rename (moved one) (sum_of v)) x ∙ just (coefficient same_place (rename (moved one) (sum_of v)) x)
    ∙ ap (λ w. coefficient same_place w x) (rename_one v h)
  where
    just : (z : ℤ) → pos 1 *ℤ z ≡ z
    just z = omega (arith, ints)

-- each vector of the list is a member
pub member : (gens b : List (List Term)) → IsGenerating gens b → (j : ℕ) → j < length b → InModule gens (coefficient_at (vector_at b j))
member gens b generating j h = by (generating.others j h)
  where
    w : List Term
    w = vector_at b j

    terms : AllByRecursion IsTerm w
    terms = (is_entry b generating.entries j h).vector.sparse.terms

    alone : (z : ℤ) → z ≡ z +ℤ pos 0
    alone z = omega (arith, ints)

    from : (q : ℤ) (i : ℕ) → i < length gens → multiple (pos 1) one w ≡ multiple q one (vector_at gens i) → InModule gens (coefficient_at w)
    from q i i_in e = record {
      steps = record { q = q; t = one; by = i } ∷ [];
      are = ((refl, i_in), tt);
      is = λ x. sym (once w terms x) ∙ ap (λ v. coefficient same_place v x) e ∙ alone (coefficient same_place (multiple q one (vector_at gens i)) x)
          ∙ sym (steps_at-cons gens (record { q = q; t = one; by = i }) [] x);
    }

    from_sign : (i : ℕ) → i < length gens → IsUpToSign (vector_at gens i) w → InModule gens (coefficient_at w)
    from_sign i i_in (inl e) = from (pos 1) i i_in (ap (multiple (pos 1) one) e)
    from_sign i i_in (inr e) = from (negsuc 0) i i_in (turned_multiple (negsuc 0) one (vector_at gens i) w e)

    by : ((i : ℕ) × (i < length gens) × IsUpToSign (vector_at gens i) (vector_at b j)) ⊎ InModule gens (coefficient_at (vector_at b j))
        → InModule gens (coefficient_at (vector_at b j))
    by (inl (i, i_in, up)) = from_sign i i_in up
    by (inr m) = m

-- THE STRONG CRITERION
pub criterion : (gens b : List (List Term)) → IsGenerating gens b → AllClosed b → IsStrong gens b
criterion gens b generating closed = record {
  members = member gens b generating;
  divided =
      λ f p m lead. by f p m lead (over_list gens b generating.generators m.steps m.are);
}
  where
    by : (f : Coefficients) (p : Place) → (m : InModule gens f) → IsLead f p → (rs : List Step) × AreSteps b rs
        × (sum_of_steps gens m.steps ≡ sum_of_steps b rs) → IsDivided b f p
    by f p m lead (rs, are, same) = divided b generating.entries closed rs are f (λ x. m.is x ∙ ap (λ v. coefficient same_place v x) same) p lead
