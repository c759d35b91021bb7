-- The tasks of a strong list are closed: a member is a sum of multiples with lead places no higher than its own.
use Rattle.std.proofs.Common.{◌≡◌, ◌≢◌, ℕ, zero, suc, ◌+◌, ◌*◌, ◌/◌, ◌%◌, ◌<◌, ℤ, pos, negsuc, neg_ℤ, ◌+ℤ◌, ◌-ℤ◌, ◌*ℤ◌, List, [], ◌∷◌, length, ◌⊎◌, inl, inr}
use Rattle.std.proofs.Common.{refl, sym, ap, subst, ◌∙◌, arith}
use borrow.Author.Differences.{ints}
use mathlib.Core.WellFounded.{Acc}
use lib.WfN.{lt-wf_rel}
use Rattle.std.specs.Int.{IsGcd, ◌∣◌}
use Rattle.std.specs.Prelude.{unsigned_abs, ◌<ℤ◌}
use Rattle.std.proofs.Math.Nat.{div-mul_cancel}
use Rattle.std.proofs.lemmas.Nat.Gcd.{IsGcd-from_zero, IsGcd-from_mod}
use Rattle.formal_sums.proofs.Integers.{+ℤ-*ℤ, *ℤ-+ℤ, *ℤ_assoc, neg_ℤ-*ℤ}
use Rattle.laurent_terms.specs.declared.TheConstants.{VARIABLES}
use Rattle.laurent_terms.specs.Monomials.{quotient}
use Rattle.module_vec.specs.declared.places.Place.{Place}
use Rattle.module_vec.specs.declared.places.Term.{Term}
use Rattle.module_vec.specs.declared.steps.Step.{Step}
use Rattle.module_vec.specs.Chains.{taken_at, after}
use Rattle.module_vec.specs.Modules.{vector_at, sum_of_steps, steps_at, InModule, IsLead, IsDivided, IsStrong}
use Rattle.module_vec.specs.Places.{IsBelow, moved}
use Rattle.module_vec.specs.Reducers.{Reduces, AreEntries}
use Rattle.module_vec.specs.Vectors.{Coefficients}
use Rattle.module_vec.proofs.Order.{order}
use Rattle.outcomes.specs.declared.kinds.PairKind.{PairKind}
use Rattle.outcomes.specs.declared.kinds.PairKind.TheVariants.{S, G}
use Rattle.strong_pairs.specs.Covering.{Divides}
use Rattle.strong_pairs.specs.Pairs.{lead_at, IsPair, pair_place, AreFactors, ArePairSteps, both_at}
use Rattle.strong_pairs.specs.Tasks.{step_place, StandsAt, AreStepsAt, IsClosed}
use Rattle.strong_pairs.proofs.Chaining.{AreMeeting, after_stands, first-length, second-length, both_there, both_stand, s_below, divides_abs}
use Rattle.strong_pairs.proofs.Coverage.{divides_on}
use Rattle.strong_pairs.proofs.Descending.{Lower, place_acc}
use Rattle.strong_pairs.proofs.Entered.{entry_number, entry_lead, length-quotient, lead_length, lead_positive}
use Rattle.strong_pairs.proofs.Exactness.{zero_or_lead, zero_or_not}
use Rattle.strong_pairs.proofs.Exchanges.{quotient-back}
use Rattle.strong_pairs.proofs.Members.{steps_at-cons, module_same, module_difference, sum_in}
use Rattle.strong_pairs.proofs.Shifted.{InAll, shifted, taken_is, shifted_lead, shifted_above}

-- ---- greatest common divisors and their factors are there

record Common (k l : ℕ) : Type 0 where
  d : ℕ
  gcd : IsGcd k l d
  x : ℤ
  y : ℤ
  sum : x *ℤ pos k +ℤ y *ℤ pos l ≡ pos d

-- from the divisor and the remainder
stepped : (k l : ℕ) → Common l (k % l) → 0 < l → Common k l
stepped k l c h = record {
  d = c.d;
  gcd = IsGcd-from_mod k l c.d c.gcd;
  x = c.y;
  y = c.x +ℤ neg_ℤ (c.y *ℤ pos (k / l));
  sum = whole;
}
  where
    parts : pos k ≡ pos (k / l) *ℤ pos l +ℤ pos (k % l)
    parts = let e : k ≡ (k / l) * l + k % l = omega arith in omega (arith, ints, e)

    whole : c.y *ℤ pos k +ℤ (c.x +ℤ neg_ℤ (c.y *ℤ pos (k / l))) *ℤ pos l ≡ pos c.d
    whole =
        let one : c.y *ℤ pos k ≡ (c.y *ℤ pos (k / l)) *ℤ pos l +ℤ c.y *ℤ pos (k % l) = ap (λ z. c.y *ℤ z) parts ∙ *ℤ-+ℤ c.y (pos (k / l) *ℤ pos l) (pos (k % l))
        ∙ ap (λ z. z +ℤ c.y *ℤ pos (k % l)) (sym (*ℤ_assoc c.y (pos (k / l)) (pos l))) in
        let two : (c.x +ℤ neg_ℤ (c.y *ℤ pos (k / l))) *ℤ pos l ≡ c.x *ℤ pos l +ℤ neg_ℤ ((c.y *ℤ pos (k / l)) *ℤ pos l) =
        +ℤ-*ℤ c.x (neg_ℤ (c.y *ℤ pos (k / l))) (pos l) ∙ ap (λ z. c.x *ℤ pos l +ℤ z) (neg_ℤ-*ℤ (c.y *ℤ pos (k / l)) (pos l)) in
        solve (c.y *ℤ pos k) ((c.x +ℤ neg_ℤ (c.y *ℤ pos (k / l))) *ℤ pos l) ((c.y *ℤ pos (k / l)) *ℤ pos l) (c.y *ℤ pos (k % l)) (c.x *ℤ pos l) one two ∙ c.sum
      where
        solve : (a e m r n : ℤ) → a ≡ m +ℤ r → e ≡ n +ℤ neg_ℤ m → a +ℤ e ≡ n +ℤ r
        solve a e m r n p q = omega (arith, ints, p, q)

common_by : (l : ℕ) → Acc ◌<◌ l → (k : ℕ) → Common k l
common_by zero a k = record { d = k; gcd = IsGcd-from_zero k zero refl; x = pos 1; y = pos 0; sum = omega (arith, ints) }
common_by (suc l) (Acc.intro m h) k = stepped k (suc l) (common_by (k % suc l) (h (k % suc l) (omega arith)) (suc l)) (omega arith)

common : (k l : ℕ) → Common k l
common k l = common_by l (lt-wf_rel.wf.apply l) k

module _ (gens b : List (List Term)) (entries : AreEntries b) (strong : IsStrong gens b) where
  -- ---- a member as a sum of multiples where it stands
  module _ (P : Place → Type 0) (down : (x y : Place) → IsBelow y x → P x → P y) where
    abbrev Written : Coefficients → Type 0
    Written f = (steps : List Step) × AreStepsAt P b steps × ((x : Place) → f x ≡ steps_at b steps x)

    -- the multiple that has f's lead
    module _ (f : Coefficients) (member : InModule gens f) (stands : StandsAt P f) (p : Place) (lead : IsLead f p) where
      there : InAll p × P p
      there = stands p lead.nonzero

      divisor : IsDivided b f p
      divisor = strong.divided f p member lead

      number : divisor.number < length b
      number = entry_number b divisor.number (divisor.lead ∷ divisor.others) divisor.entry

      own : lead_at b divisor.number ≡ divisor.lead
      own = entry_lead b divisor.number divisor.lead divisor.others divisor.entry

      reduces : Reduces (lead_at b divisor.number) p
      reduces = subst (λ e. Reduces e p) (sym own) divisor.reduces

      abbrev step : Step
      step = record { q = divisor.factor; t = quotient p.m (lead_at b divisor.number).at.m; by = divisor.number }

      long : length (quotient p.m (lead_at b divisor.number).at.m) ≡ VARIABLES
      long = length-quotient (lead_at b divisor.number).at.m p.m reduces.1 ∙ lead_length b entries divisor.number number

      at_p : moved (quotient p.m (lead_at b divisor.number).at.m) (lead_at b divisor.number).at ≡ p
      at_p n = record {
        m = quotient-back (lead_at b divisor.number).at.m p.m (lead_length b entries divisor.number number ∙ sym there.0) reduces.1 n;
        c = reduces.0 n;
      }

      is_step : (length step.t ≡ VARIABLES) × (step.by < length b) × P (step_place b step)
      is_step = (long, number, subst P (sym at_p) there.1)

      abbrev left : Coefficients
      left = after b f step

      alone : (z : ℤ) → z ≡ z +ℤ pos 0
      alone z = omega (arith, ints)

      left_member : InModule gens left
      left_member = module_difference gens f (taken_at b step) left member (module_same gens (steps_at b (step ∷ [])) (taken_at b step)
          (λ x. alone (taken_at b step x) ∙ sym (steps_at-cons b step [] x)) (sum_in gens b strong.members (step ∷ []) (
            (is_step.0, is_step.1),
            tt,
          ))) (λ x. refl)

      left_stands : StandsAt P left
      left_stands = after_stands b entries P down f stands step is_step

      untaken : (a c : ℤ) → a ≡ c → a -ℤ c ≡ pos 0
      untaken a c e = omega (arith, ints, e)

      left_none : left p ≡ pos 0
      left_none = untaken (f p) (taken_at b step p) (divisor.divides ∙ ap (λ (e : Term). divisor.factor *ℤ e.k) (sym own)
          ∙ ap (λ z. divisor.factor *ℤ z) (sym (ap (shifted step.t (vector_at b step.by)) (sym at_p) ∙ shifted_lead b entries step.t step.by long number))
          ∙ sym (taken_is b step p))

      left_above : (x : Place) → IsBelow p x → left x ≡ pos 0
      left_above x l = untaken (f x) (taken_at b step x) (lead.above x l ∙ sym (taken_is b step x
          ∙ ap (λ z. divisor.factor *ℤ z) (shifted_above b entries step.t step.by long number x (subst (λ z. IsBelow z x) (sym at_p) l))
          ∙ nothing divisor.factor))
        where
          nothing : (a : ℤ) → a *ℤ pos 0 ≡ pos 0
          nothing a = omega (arith, ints)

      left_lower : (q : Place) → IsLead left q → Lower q p
      left_lower q l = ((left_stands q l.nonzero).0, there.0, by (order.total q p))
        where
          by : (q ≡ p) ⊎ (IsBelow q p ⊎ IsBelow p q) → IsBelow q p
          by (inl e) = absurd (l.nonzero (ap left e ∙ left_none))
          by (inr (inl k)) = k
          by (inr (inr k)) = absurd (l.nonzero (left_above q k))

      joined : Written left → Written f
      joined (steps, are, is) = (
        step ∷ steps,
        (is_step, are),
        λ x. sum (f x) (taken_at b step x) (steps_at b steps x) (is x)
            ∙ sym (steps_at-cons b step steps x),
      )
        where
          sum : (a c z : ℤ) → a -ℤ c ≡ z → a ≡ c +ℤ z
          sum a c z e = omega (arith, ints, e)

    written_none : (f : Coefficients) → ((x : Place) → f x ≡ pos 0) → Written f
    written_none f none = ([], tt, none)

    written_at : (p : Place) → Acc Lower p → (f : Coefficients) → InModule gens f → StandsAt P f → IsLead f p → Written f
    written_at p (Acc.intro p' acc) f member stands lead =
        joined f member stands p lead (by (zero_or_lead (left f member stands p lead) (sum_of_steps gens (left_member f member stands p lead).steps)
        (left_member f member stands p lead).is) (λ q l. written_at q (acc q (left_lower f member stands p lead q l)) (left f member stands p lead)
        (left_member f member stands p lead) (left_stands f member stands p lead) l))
      where
        by : ((x : Place) → left f member stands p lead x ≡ pos 0) ⊎ ((q : Place) × IsLead (left f member stands p lead) q)
            → ((q : Place) → IsLead (left f member stands p lead) q → Written (left f member stands p lead)) → Written (left f member stands p lead)
        by (inl none) rec = written_none (left f member stands p lead) none
        by (inr (q, l)) rec = rec q l

    -- MEMBERS ARE SUMS OF MULTIPLES THAT STAND NO HIGHER
    pub written : (f : Coefficients) → InModule gens f → StandsAt P f → Written f
    written f member stands = by (zero_or_lead f (sum_of_steps gens member.steps) member.is)
      where
        by : ((x : Place) → f x ≡ pos 0) ⊎ ((p : Place) × IsLead f p) → Written f
        by (inl none) = written_none f none
        by (inr (p, lead)) = written_at p (place_acc p) f member stands lead

  -- ---- the tasks
  module _ (i j : ℕ) (pair : IsPair b i j) where
    i_there : i < length b
    i_there = let o : i < j = pair.order in let w : j < length b = pair.within in omega (arith, o, w)

    positive_is : (z : ℤ) → pos 0 <ℤ z → pos (unsigned_abs z) ≡ z
    positive_is (pos n) h = refl
    positive_is (negsuc n) h = absurd (omega (arith, ints, h))

    k-is : pos (unsigned_abs (lead_at b i).k) ≡ (lead_at b i).k
    k-is = positive_is (lead_at b i).k (lead_positive b entries i i_there)

    l-is : pos (unsigned_abs (lead_at b j).k) ≡ (lead_at b j).k
    l-is = positive_is (lead_at b j).k (lead_positive b entries j pair.within)

    gcd_of : Common (unsigned_abs (lead_at b i).k) (unsigned_abs (lead_at b j).k)
    gcd_of = common (unsigned_abs (lead_at b i).k) (unsigned_abs (lead_at b j).k)

    -- the steps with these factors
    abbrev to_first : ℤ → Step
    to_first q = record { q = q; t = quotient (pair_place b i j).m (lead_at b i).at.m; by = i }

    abbrev to_second : ℤ → Step
    to_second q = record { q = q; t = quotient (pair_place b i j).m (lead_at b j).at.m; by = j }

    meet : (u v : ℤ) → AreMeeting b i j (to_first u) (to_second v)
    meet u v = record { first_monomial = refl; second_monomial = refl; first_number = refl; second_number = refl }

    both_member : (u v : ℤ) → InModule gens (both_at b (to_first u) (to_second v))
    both_member u v = module_same gens (steps_at b (to_first u ∷ (to_second v ∷ []))) (both_at b (to_first u) (to_second v))
        (λ x. sum (taken_at b (to_first u) x) (taken_at b (to_second v) x) (steps_at b (to_second v ∷ []) x) (steps_at-cons b (to_second v) [] x)
        ∙ sym (steps_at-cons b (to_first u) (to_second v ∷ []) x))
        (sum_in gens b strong.members (to_first u ∷ (to_second v ∷ [])) (
          (first-length b entries i j pair (to_first u) (to_second v) (meet u v), i_there),
          ((second-length b entries i j pair (to_first u) (to_second v) (meet u v), pair.within), tt),
        ))
      where
        sum : (a c z : ℤ) → z ≡ c +ℤ pos 0 → a +ℤ c ≡ a +ℤ z
        sum a c z e = omega (arith, ints, e)

    s_factors : AreFactors S (lead_at b i).k (lead_at b j).k (pos (unsigned_abs (lead_at b j).k / gcd_of.d))
        (neg_ℤ (pos (unsigned_abs (lead_at b i).k / gcd_of.d)))
    s_factors = (
      gcd_of.d,
      gcd_of.gcd,
      whole (unsigned_abs (lead_at b j).k) gcd_of.gcd.1 ∙ l-is,
      neg_ℤ-*ℤ (pos (unsigned_abs (lead_at b i).k / gcd_of.d)) (pos gcd_of.d) ∙ ap neg_ℤ (whole (unsigned_abs (lead_at b i).k) gcd_of.gcd.0 ∙ k-is),
    )
      where
        whole : (n : ℕ) → gcd_of.d ∣ n → pos (n / gcd_of.d) *ℤ pos gcd_of.d ≡ pos n
        whole n d = let e : (n / gcd_of.d) * gcd_of.d ≡ n = div-mul_cancel gcd_of.d d in omega (arith, ints, e)

    s_steps : ArePairSteps S b i j (to_first (pos (unsigned_abs (lead_at b j).k / gcd_of.d)))
        (to_second (neg_ℤ (pos (unsigned_abs (lead_at b i).k / gcd_of.d))))
    s_steps = record { factors = s_factors; first_monomial = refl; second_monomial = refl; first_number = refl; second_number = refl }

    s_closed : IsClosed b S i j
    s_closed =
        let u : ℤ = pos (unsigned_abs (lead_at b j).k / gcd_of.d) in
        let v : ℤ = neg_ℤ (pos (unsigned_abs (lead_at b i).k / gcd_of.d)) in
        let w : (steps : List Step) × AreStepsAt (λ x. IsBelow x (pair_place b i j)) b steps
        × ((x : Place) → both_at b (to_first u) (to_second v) x ≡ steps_at b steps x) =
        written (λ x. IsBelow x (pair_place b i j)) (λ x y l k. order.transitive y x (pair_place b i j) l k) (both_at b (to_first u) (to_second v))
        (both_member u v) (s_below b entries i j pair (to_first u) (to_second v) s_steps) in
        (to_first u, to_second v, s_steps, record { steps = w.0; below = w.1; is = w.2 })

    g_closed : IsClosed b G i j
    g_closed = by (strong.divided (both_at b (to_first gcd_of.x) (to_second gcd_of.y)) (pair_place b i j) (both_member gcd_of.x gcd_of.y) lead)
      where
        is_d : both_at b (to_first gcd_of.x) (to_second gcd_of.y) (pair_place b i j) ≡ pos gcd_of.d
        is_d = both_there b entries i j pair (to_first gcd_of.x) (to_second gcd_of.y) (meet gcd_of.x gcd_of.y)
            ∙ (λ n. gcd_of.x *ℤ sym k-is n +ℤ gcd_of.y *ℤ sym l-is n) ∙ gcd_of.sum

        divides_k : (n : ℕ) → n ∣ unsigned_abs (lead_at b i).k → pos 0 <ℤ pos n
        divides_k zero d = absurd (let e : (unsigned_abs (lead_at b i).k / zero) * zero ≡ unsigned_abs (lead_at b i).k = div-mul_cancel zero d
            in let none : pos 0 ≡ (lead_at b i).k = omega (arith, ints, e, k-is) in let h : pos 0 <ℤ (lead_at b i).k = lead_positive b entries i i_there
            in omega (arith, ints, none, h))
        divides_k (suc n) d = omega (arith, ints)

        d_positive : pos 0 <ℤ pos gcd_of.d
        d_positive = divides_k gcd_of.d gcd_of.gcd.0

        lead : IsLead (both_at b (to_first gcd_of.x) (to_second gcd_of.y)) (pair_place b i j)
        lead = record {
          nonzero = λ e. absurd (let none : pos gcd_of.d ≡ pos 0 = sym is_d ∙ e in omega (arith, ints, none, d_positive));
          above = above;
        }
          where
            above : (x : Place) → IsBelow (pair_place b i j) x → both_at b (to_first gcd_of.x) (to_second gcd_of.y) x ≡ pos 0
            above x l = by (zero_or_not (both_at b (to_first gcd_of.x) (to_second gcd_of.y) x))
              where
                apart : InAll x × ((x ≡ pair_place b i j) ⊎ IsBelow x (pair_place b i j)) → ⊥
                apart (long, inl e) = order.irreflexive x (subst (λ z. IsBelow z x) (sym e) l)
                apart (long, inr k) = order.irreflexive x (order.transitive x (pair_place b i j) x k l)

                by : (both_at b (to_first gcd_of.x) (to_second gcd_of.y) x ≡ pos 0) ⊎ (both_at b (to_first gcd_of.x) (to_second gcd_of.y) x ≢ pos 0)
                    → both_at b (to_first gcd_of.x) (to_second gcd_of.y) x ≡ pos 0
                by (inl e) = e
                by (inr nz) = absurd (apart (both_stand b entries i j pair (to_first gcd_of.x) (to_second gcd_of.y) (meet gcd_of.x gcd_of.y) x nz))

        by : IsDivided b (both_at b (to_first gcd_of.x) (to_second gcd_of.y)) (pair_place b i j) → IsClosed b G i j
        by d =
            let own : lead_at b d.number ≡ d.lead = entry_lead b d.number d.lead d.others d.entry in
            let of_d : Divides (lead_at b d.number).k (pos gcd_of.d) = (d.factor, sym is_d ∙ d.divides ∙ ap (λ (e : Term). d.factor *ℤ e.k) (sym own)) in (
              d.number,
              (
                entry_number b d.number (d.lead ∷ d.others) d.entry,
                record {
                  reduces = subst (λ e. Reduces e (pair_place b i j)) (sym own) d.reduces;
                  first = divides_on (lead_at b d.number).k (pos gcd_of.d) (lead_at b i).k of_d
                      (divides_abs b entries i j pair (pos gcd_of.d) (lead_at b i).k d_positive (lead_positive b entries i i_there) gcd_of.gcd.0);
                  second = divides_on (lead_at b d.number).k (pos gcd_of.d) (lead_at b j).k of_d
                      (divides_abs b entries i j pair (pos gcd_of.d) (lead_at b j).k d_positive (lead_positive b entries j pair.within) gcd_of.gcd.1);
                },
              ),
            )

  -- STRONG LISTS HAVE CLOSED TASKS
  pub strong_closed : (kind : PairKind) (i j : ℕ) → IsPair b i j → IsClosed b kind i j
  strong_closed S i j pair = s_closed i j pair
  strong_closed G i j pair = g_closed i j pair
