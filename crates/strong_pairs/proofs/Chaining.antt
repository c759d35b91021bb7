-- The chain of a pair's vector: where its steps stand, and that an empty end closes the task.
use Rattle.std.proofs.Common.{◌≡◌, ◌≢◌, ℕ, ◌*◌, ◌/◌, ◌<◌, max, true, ℤ, pos, negsuc, neg_ℤ, ◌+ℤ◌, ◌-ℤ◌, ◌*ℤ◌, List, [], ◌∷◌, length, ◌⊎◌, inl, inr, refl, sym}
use Rattle.std.proofs.Common.{ap, subst, ◌∙◌, arith}
use borrow.Author.Differences.{ints}
use Rattle.std.specs.Int.{IsGcd, int_div_euclid, ◌∣◌}
use Rattle.std.specs.List.{AllByRecursion}
use Rattle.std.specs.Prelude.{unsigned_abs, ◌<ℤ◌}
use Rattle.std.proofs.Math.IntN.{*ℤ_comm}
use Rattle.std.proofs.Math.Nat.{div-mul_cancel}
use Rattle.formal_sums.specs.FormalSum.{coefficient, rename}
use Rattle.formal_sums.proofs.Floors.{zero_floor}
use Rattle.formal_sums.proofs.Integers.{*ℤ-eq-zero, +ℤ-*ℤ, *ℤ_assoc, neg_ℤ-*ℤ}
use Rattle.laurent_terms.specs.declared.TheConstants.{VARIABLES}
use Rattle.laurent_terms.specs.Monomials.{product, quotient, divides}
use Rattle.laurent_terms.proofs.Combining.{length-combined}
use Rattle.module_vec.specs.declared.places.Place.{Place}
use Rattle.module_vec.specs.declared.places.Term.{Term}
use Rattle.module_vec.specs.declared.steps.Step.{Step}
use Rattle.module_vec.specs.Chains.{IsNext, Chain, taken_at, after}
use Rattle.module_vec.specs.Modules.{vector_at, steps_at}
use Rattle.module_vec.specs.Places.{IsBelow, same_place, moved}
use Rattle.module_vec.specs.Reducers.{Reduces, IsReducer, AreEntries}
use Rattle.module_vec.specs.Vectors.{Coefficients, sum_of, coefficient_at, IsTerm}
use Rattle.module_vec.proofs.Determined.{same_reducer}
use Rattle.module_vec.proofs.Order.{order}
use Rattle.outcomes.specs.declared.kinds.PairKind.{PairKind}
use Rattle.outcomes.specs.declared.kinds.PairKind.TheVariants.{S, G}
use Rattle.strong_pairs.specs.Covering.{Divides}
use Rattle.strong_pairs.specs.Pairs.{lead_at, IsPair, pair_place, AreFactors, ArePairSteps, both_at}
use Rattle.strong_pairs.specs.Results.{IsPairVector}
use Rattle.strong_pairs.specs.Tasks.{step_place, IsUpTo, StandsAt, AreStepsAt, AreStepsBelow, IsClosed}
use Rattle.strong_pairs.proofs.Coverage.{divides_on}
use Rattle.strong_pairs.proofs.Entered.{lead_length, lead_positive, entry_number, entry_lead, length-quotient, is_entry, as_entry, behind}
use Rattle.strong_pairs.proofs.Exactness.{step_length, chain_sum, pick, zero_or_not}
use Rattle.strong_pairs.proofs.Exchanges.{quotient-back}
use Rattle.strong_pairs.proofs.LeadTerms.{divides_common}
use Rattle.strong_pairs.proofs.Members.{length-product}
use Rattle.strong_pairs.proofs.Reducing.{reducer_there, lead_of_entry_positive}
use Rattle.strong_pairs.proofs.Shifted.{InAll, shifted, taken_is, shifted_lead, shifted_above}

-- the two steps carry both leads to the pair's place, with any factors
pub record AreMeeting (b : List (List Term)) (i j : ℕ) (first second : Step) : Type 0 where
  pub first_monomial : first.t ≡ quotient (pair_place b i j).m (lead_at b i).at.m
  pub second_monomial : second.t ≡ quotient (pair_place b i j).m (lead_at b j).at.m
  pub first_number : first.by ≡ i
  pub second_number : second.by ≡ j

pub meeting : (kind : PairKind) (b : List (List Term)) (i j : ℕ) (first second : Step) → ArePairSteps kind b i j first second → AreMeeting b i j first second
meeting kind b i j first second are = record {
  first_monomial = are.first_monomial;
  second_monomial = are.second_monomial;
  first_number = are.first_number;
  second_number = are.second_number;
}

module _ (b : List (List Term)) (entries : AreEntries b) where
  -- a step's lead place is the place at which it is due, where that is one in all variables
  pub due_place : (f : Coefficients) (s : Step) (n : IsNext b f s) → InAll n.place → step_place b s ≡ n.place
  due_place f s n long =
      let own : lead_at b s.by ≡ n.lead = entry_lead b s.by n.lead n.others n.due.reducer.entry in
      let m-length : length n.lead.at.m ≡ VARIABLES = (lead_of_entry_positive b entries s.by n.lead n.others n.due.reducer.entry).0 in
      ap (λ (e : Term). moved s.t e.at) own
      ∙ λ i. record {
        m = (ap (λ t. product t n.lead.at.m) n.monomial ∙ quotient-back n.lead.at.m n.place.m (m-length ∙ sym long) n.due.reducer.reduces.1) i;
        c = n.due.reducer.reduces.0 i;
      }

  pub due_nonzero : (f : Coefficients) (s : Step) (n : IsNext b f s) → f n.place ≢ pos 0
  due_nonzero f s n e =
      let positive : pos 0 <ℤ n.lead.k = (lead_of_entry_positive b entries s.by n.lead n.others n.due.reducer.entry).1 in
      n.due.moves (ap (λ z. int_div_euclid z n.lead.k) e ∙ zero_floor (pos 0) n.lead.k (omega (arith, ints)) positive)

  renamed_stand : (t : List ℕ) → InAll (record { m = t; c = 0 }) → (v : List Term) → AllByRecursion IsTerm v
      → AllByRecursion (λ (u : ℤ × Place). InAll u.1) (rename (moved t) (sum_of v))
  renamed_stand t long [] h = tt
  renamed_stand t long (e ∷ v) h = (length-product t e.at.m VARIABLES long h.0.place.variables, renamed_stand t long v h.1)

  -- a multiple of an entry is nonzero only at its lead place and below
  pub multiple_stands : (s : Step) → length s.t ≡ VARIABLES → s.by < length b → (x : Place) → taken_at b s x ≢ pos 0
      → InAll x × ((x ≡ step_place b s) ⊎ IsBelow x (step_place b s))
  multiple_stands s long h x nz = (
    in_all (pick InAll (rename (moved s.t) (sum_of (vector_at b s.by))) (renamed_stand s.t long (vector_at b s.by)
        (is_entry b entries s.by h).vector.sparse.terms) x),
    by (order.total x (step_place b s)),
  )
    where
      gone : shifted s.t (vector_at b s.by) x ≡ pos 0 → ⊥
      gone e = nz (taken_is b s x ∙ ap (λ z. s.q *ℤ z) e ∙ omega (arith, ints))

      in_all : (coefficient same_place (rename (moved s.t) (sum_of (vector_at b s.by))) x ≡ pos 0) ⊎ InAll x → InAll x
      in_all (inl e) = absurd (gone e)
      in_all (inr e) = e

      by : (x ≡ step_place b s) ⊎ (IsBelow x (step_place b s) ⊎ IsBelow (step_place b s) x) → (x ≡ step_place b s) ⊎ IsBelow x (step_place b s)
      by (inl e) = inl e
      by (inr (inl l)) = inr l
      by (inr (inr l)) = absurd (gone (shifted_above b entries s.t s.by long h x l))

  -- ---- what holds of all places of the vector and goes down, holds of all steps' lead places
  module _ (P : Place → Type 0) (down : (x y : Place) → IsBelow y x → P x → P y) where
    pub step_stands : (f : Coefficients) → StandsAt P f → (s : Step) (n : IsNext b f s) → (length s.t ≡ VARIABLES) × (s.by < length b) × P (step_place b s)
    step_stands f stands s n =
        let there : InAll n.place × P n.place = stands n.place (due_nonzero f s n) in
        (step_length b entries f s n, entry_number b s.by (n.lead ∷ n.others) n.due.reducer.entry, subst P (sym (due_place f s n there.0)) there.1)

    pub after_stands : (f : Coefficients) → StandsAt P f → (s : Step) → (length s.t ≡ VARIABLES) × (s.by < length b) × P (step_place b s)
        → StandsAt P (after b f s)
    after_stands f stands s h x nz = by (zero_or_not (f x))
      where
        by_multiple : InAll x × ((x ≡ step_place b s) ⊎ IsBelow x (step_place b s)) → InAll x × P x
        by_multiple (long, inl e) = (long, subst P (sym e) h.2)
        by_multiple (long, inr l) = (long, down (step_place b s) x l h.2)

        by : (f x ≡ pos 0) ⊎ (f x ≢ pos 0) → InAll x × P x
        by (inr n) = stands x n
        by (inl z) = by_multiple (multiple_stands s h.0 h.1 x (λ e. nz (both (f x) (taken_at b s x) z e)))
          where
            both : (a c : ℤ) → a ≡ pos 0 → c ≡ pos 0 → a -ℤ c ≡ pos 0
            both a c e g = omega (arith, ints, e, g)

    pub chain_stands : (ss : List Step) (f g : Coefficients) → Chain b f ss g → StandsAt P f → AreStepsAt P b ss
    chain_stands [] f g h stands = tt
    chain_stands (s ∷ ss) f g h stands =
        let one : (length s.t ≡ VARIABLES) × (s.by < length b) × P (step_place b s) = step_stands f stands s h.0 in
        (one, chain_stands ss (after b f s) g h.1 (after_stands f stands s one))

  -- THE CHAIN OF WHAT STANDS BELOW A PLACE
  pub chain_below : (p : Place) (ss : List Step) (f g : Coefficients) → StandsAt (λ x. IsBelow x p) f → Chain b f ss g → AreStepsBelow b p ss
  chain_below p ss f g stands h = chain_stands (λ x. IsBelow x p) (λ x y l k. order.transitive y x p l k) ss f g h stands

  pub chain_up_to : (p : Place) (ss : List Step) (f g : Coefficients) → StandsAt (λ x. IsUpTo x p) f → Chain b f ss g → AreStepsAt (λ x. IsUpTo x p) b ss
  chain_up_to p ss f g stands h = chain_stands (λ x. IsUpTo x p) lower ss f g h stands
    where
      lower : (x y : Place) → IsBelow y x → IsUpTo x p → IsUpTo y p
      lower x y l (inl e) = inr (subst (IsBelow y) e l)
      lower x y l (inr k) = inr (order.transitive y x p l k)

  -- ---- the vector of a pair
  module _ (i j : ℕ) (pair : IsPair b i j) (first second : Step) (are : AreMeeting b i j first second) where
    abbrev p : Place
    p = pair_place b i j

    pub i_in : i < length b
    i_in = let o : i < j = pair.order in let w : j < length b = pair.within in omega (arith, o, w)

    i-length : length (lead_at b i).at.m ≡ VARIABLES
    i-length = lead_length b entries i i_in

    j-length : length (lead_at b j).at.m ≡ VARIABLES
    j-length = lead_length b entries j pair.within

    pub p-length : InAll p
    p-length = length-combined (λ a c. max a c) (lead_at b i).at.m (lead_at b j).at.m (i-length ∙ sym j-length) ∙ i-length

    both_divide : (divides (lead_at b i).at.m p.m ≡ true) × (divides (lead_at b j).at.m p.m ≡ true)
    both_divide = divides_common (lead_at b i).at.m (lead_at b j).at.m (i-length ∙ sym j-length)

    pub first_reduces : Reduces (lead_at b i) p
    first_reduces = (refl, both_divide.0)

    pub first-length : length first.t ≡ VARIABLES
    first-length = ap length are.first_monomial ∙ length-quotient (lead_at b i).at.m p.m both_divide.0 ∙ i-length

    pub second-length : length second.t ≡ VARIABLES
    second-length = ap length are.second_monomial ∙ length-quotient (lead_at b j).at.m p.m both_divide.1 ∙ j-length

    pub first_in : first.by < length b
    first_in = subst (λ n. n < length b) (sym are.first_number) i_in

    pub second_in : second.by < length b
    second_in = subst (λ n. n < length b) (sym are.second_number) pair.within

    pub first_place : step_place b first ≡ p
    first_place =
        ap (λ n. moved first.t (lead_at b n).at) are.first_number
        ∙ λ n. record {
          m = (ap (λ t. product t (lead_at b i).at.m) are.first_monomial
              ∙ quotient-back (lead_at b i).at.m p.m (i-length ∙ sym p-length) both_divide.0) n;
          c = (lead_at b i).at.c;
        }

    pub second_place : step_place b second ≡ p
    second_place =
        ap (λ n. moved second.t (lead_at b n).at) are.second_number
        ∙ λ n. record {
          m = (ap (λ t. product t (lead_at b j).at.m) are.second_monomial
              ∙ quotient-back (lead_at b j).at.m p.m (j-length ∙ sym p-length) both_divide.1) n;
          c = sym pair.component n;
        }

    -- at the pair's place stand both multiples of the lead coefficients
    at_place : (s : Step) → length s.t ≡ VARIABLES → s.by < length b → step_place b s ≡ p → taken_at b s p ≡ s.q *ℤ (lead_at b s.by).k
    at_place s long h e = taken_is b s p ∙ ap (λ z. s.q *ℤ z) (ap (shifted s.t (vector_at b s.by)) (sym e) ∙ shifted_lead b entries s.t s.by long h)

    pub both_there : both_at b first second p ≡ first.q *ℤ (lead_at b i).k +ℤ second.q *ℤ (lead_at b j).k
    both_there = λ n. (at_place first first-length first_in first_place ∙ ap (λ m. first.q *ℤ (lead_at b m).k) are.first_number) n
        +ℤ (at_place second second-length second_in second_place ∙ ap (λ m. second.q *ℤ (lead_at b m).k) are.second_number) n

    -- and nothing above
    pub both_stand : (x : Place) → both_at b first second x ≢ pos 0 → InAll x × ((x ≡ p) ⊎ IsBelow x p)
    both_stand x nz = by (zero_or_not (taken_at b first x))
      where
        at_p : (q : Place) → q ≡ p → InAll x × ((x ≡ q) ⊎ IsBelow x q) → InAll x × ((x ≡ p) ⊎ IsBelow x p)
        at_p q e h = subst (λ z. InAll x × ((x ≡ z) ⊎ IsBelow x z)) e h

        by : (taken_at b first x ≡ pos 0) ⊎ (taken_at b first x ≢ pos 0) → InAll x × ((x ≡ p) ⊎ IsBelow x p)
        by (inr n) = at_p (step_place b first) first_place (multiple_stands first first-length first_in x n)
        by (inl z) = at_p (step_place b second) second_place (multiple_stands second second-length second_in x
            (λ e. nz (both (taken_at b first x) (taken_at b second x) z e)))
          where
            both : (a c : ℤ) → a ≡ pos 0 → c ≡ pos 0 → a +ℤ c ≡ pos 0
            both a c e g = omega (arith, ints, e, g)

-- ---- S: the leads cancel

s_cancels : (k l u v : ℤ) → pos 0 <ℤ l → AreFactors S k l u v → u *ℤ k +ℤ v *ℤ l ≡ pos 0
s_cancels k l u v h (d, g, first, second) = by (*ℤ-eq-zero (u *ℤ k +ℤ v *ℤ l) (pos d) times_d)
  where
    turn : (a c e : ℤ) → (a *ℤ c) *ℤ e ≡ (a *ℤ e) *ℤ c
    turn a c e = *ℤ_assoc a c e ∙ ap (λ z. a *ℤ z) (*ℤ_comm c e) ∙ sym (*ℤ_assoc a e c)

    nothing : (a c : ℤ) → a ≡ c → a +ℤ neg_ℤ c ≡ pos 0
    nothing a c e = omega (arith, ints, e)

    times_d : (u *ℤ k +ℤ v *ℤ l) *ℤ pos d ≡ pos 0
    times_d =
        +ℤ-*ℤ (u *ℤ k) (v *ℤ l) (pos d)
        ∙ (λ n. turn u k (pos d) n +ℤ turn v l (pos d) n)
        ∙ (λ n. first n *ℤ k +ℤ second n *ℤ l)
        ∙ ap (λ z. l *ℤ k +ℤ z) (neg_ℤ-*ℤ k l)
        ∙ nothing (l *ℤ k) (k *ℤ l) (*ℤ_comm l k)

    by : (u *ℤ k +ℤ v *ℤ l ≡ pos 0) ⊎ (pos d ≡ pos 0) → u *ℤ k +ℤ v *ℤ l ≡ pos 0
    by (inl e) = e
    by (inr e) = absurd (let none : l ≡ pos 0 = sym first ∙ ap (λ z. u *ℤ z) e ∙ omega (arith, ints) in omega (arith, ints, none, h))

module _ (b : List (List Term)) (entries : AreEntries b) (i j : ℕ) (pair : IsPair b i j) where
  -- the S-vector stands below the pair's place
  pub s_below : (first second : Step) → ArePairSteps S b i j first second → StandsAt (λ x. IsBelow x (pair_place b i j)) (both_at b first second)
  s_below first second are x nz = by (both_stand b entries i j pair first second (meeting S b i j first second are) x nz)
    where
      by : InAll x × ((x ≡ pair_place b i j) ⊎ IsBelow x (pair_place b i j)) → InAll x × IsBelow x (pair_place b i j)
      by (long, inr l) = (long, l)
      by (long, inl e) = absurd (nz (ap (both_at b first second) e ∙ both_there b entries i j pair first second (meeting S b i j first second are)
          ∙ s_cancels (lead_at b i).k (lead_at b j).k first.q second.q (lead_positive b entries j pair.within) are.factors))

  s_closed : (v : List Term) → IsPairVector S b i j v → (ss : List Step) (g : Coefficients) → Chain b (coefficient_at v) ss g → ((x : Place) → g x ≡ pos 0)
      → IsClosed b S i j
  s_closed v is ss g chain none = (
    is.first,
    is.second,
    is.steps,
    record {
      steps = ss;
      below = chain_below b entries (pair_place b i j) ss (coefficient_at v) g stands chain;
      is = whole;
    },
  )
    where
      same : (x : Place) → coefficient_at v x ≡ both_at b is.first is.second x
      same x = is.made.1.is x

      stands : StandsAt (λ x. IsBelow x (pair_place b i j)) (coefficient_at v)
      stands x nz = s_below is.first is.second is.steps x (λ e. nz (same x ∙ e))

      nothing : (a c : ℤ) → c ≡ pos 0 → a ≡ a -ℤ c
      nothing a c e = omega (arith, ints, e)

      whole : (x : Place) → both_at b is.first is.second x ≡ steps_at b ss x
      whole x = sym (same x) ∙ nothing (coefficient_at v x) (g x) (none x) ∙ (chain_sum b entries ss (coefficient_at v) g chain).1 x

  pub s_stands : (v : List Term) → IsPairVector S b i j v → StandsAt (λ x. IsBelow x (pair_place b i j)) (coefficient_at v)
  s_stands v is x nz = s_below is.first is.second is.steps x (λ e. nz (is.made.1.is x ∙ e))

  pub g_stands : (v : List Term) → IsPairVector G b i j v → StandsAt (λ x. IsUpTo x (pair_place b i j)) (coefficient_at v)
  g_stands v is x nz = both_stand b entries i j pair is.first is.second (meeting G b i j is.first is.second is.steps) x (λ e. nz (is.made.1.is x ∙ e))

  -- a positive number by its absolute value
  by_abs : (z : ℤ) → pos 0 <ℤ z → z ≡ pos (unsigned_abs z)
  by_abs (pos n) h = refl
  by_abs (negsuc n) h = absurd (omega (arith, ints, h))

  pub g_divisor : (v : List Term) → IsPairVector G b i j v → (d : ℕ) × IsGcd (unsigned_abs (lead_at b i).k) (unsigned_abs (lead_at b j).k) d
      × (coefficient_at v (pair_place b i j) ≡ pos d)
  g_divisor v is = by is.steps.factors
    where
      by : AreFactors G (lead_at b i).k (lead_at b j).k is.first.q is.second.q → (d : ℕ) × IsGcd (unsigned_abs (lead_at b i).k) (unsigned_abs (lead_at b j).k) d
          × (coefficient_at v (pair_place b i j) ≡ pos d)
      by (d, bezout) = (
        unsigned_abs d,
        bezout.divisor,
        is.made.1.is (pair_place b i j)
            ∙ both_there b entries i j pair is.first is.second (meeting G b i j is.first is.second is.steps) ∙ bezout.sum ∙ by_abs d bezout.positive,
      )

  -- ---- G: what the chain takes from the pair's place are multiples of one lead coefficient
  module _ (r : ℕ) (e : Term) (h : List Term) (reducer : IsReducer b (pair_place b i j) r e h) where
    abbrev AtMost : Place → Type 0
    AtMost x = IsUpTo x (pair_place b i j)

    lower : (x y : Place) → IsBelow y x → AtMost x → AtMost y
    lower x y l (inl q) = inr (subst (IsBelow y) q l)
    lower x y l (inr k) = inr (order.transitive y x (pair_place b i j) l k)

    one_step : (f : Coefficients) → StandsAt AtMost f → (s : Step) (n : IsNext b f s) → Divides e.k (taken_at b s (pair_place b i j))
    one_step f stands s n = by there.1
      where
        there : InAll n.place × AtMost n.place
        there = stands n.place (due_nonzero b entries f s n)

        h_in : s.by < length b
        h_in = entry_number b s.by (n.lead ∷ n.others) n.due.reducer.entry

        long : length s.t ≡ VARIABLES
        long = step_length b entries f s n

        at_due : step_place b s ≡ n.place
        at_due = due_place b entries f s n there.0

        by : AtMost n.place → Divides e.k (taken_at b s (pair_place b i j))
        by (inr l) = (
          pos 0,
          taken_is b s (pair_place b i j)
              ∙ ap (λ z. s.q *ℤ z) (shifted_above b entries s.t s.by long h_in (pair_place b i j) (subst (λ z. IsBelow z (pair_place b i j)) (sym at_due) l))
              ∙ nothing s.q e.k,
        )
          where
            nothing : (a c : ℤ) → a *ℤ pos 0 ≡ pos 0 *ℤ c
            nothing a c = omega (arith, ints)
        by (inl q) =
            let number : s.by ≡ r = same_reducer b (pair_place b i j) s.by r n.lead e n.others h
            (subst (λ z. IsReducer b z s.by n.lead n.others) q n.due.reducer) reducer in
            let lead : lead_at b s.by ≡ e = ap (lead_at b) number ∙ entry_lead b r e h reducer.entry in (
              s.q,
              taken_is b s (pair_place b i j) ∙ ap (λ z. s.q *ℤ z) (ap (shifted s.t (vector_at b s.by)) (sym (at_due ∙ q))
                  ∙ shifted_lead b entries s.t s.by long h_in ∙ ap (λ (u : Term). u.k) lead),
            )

    chain_divides : (ss : List Step) (f g : Coefficients) → Chain b f ss g → StandsAt AtMost f → Divides e.k (f (pair_place b i j) -ℤ g (pair_place b i j))
    chain_divides [] f g chain stands = (pos 0, none (f (pair_place b i j)) (g (pair_place b i j)) e.k (chain (pair_place b i j)))
      where
        none : (a c k : ℤ) → c ≡ a → a -ℤ c ≡ pos 0 *ℤ k
        none a c k q = omega (arith, ints, q)
    chain_divides (s ∷ ss) f g chain stands = by (one_step f stands s chain.0)
        (chain_divides ss (after b f s) g chain.1 (after_stands b entries AtMost lower f stands s (step_stands b entries AtMost lower f stands s chain.0)))
      where
        by : Divides e.k (taken_at b s (pair_place b i j)) → Divides e.k (after b f s (pair_place b i j) -ℤ g (pair_place b i j))
            → Divides e.k (f (pair_place b i j) -ℤ g (pair_place b i j))
        by (x, is) (y, rest) = (
          x +ℤ y,
          sum (f (pair_place b i j)) (taken_at b s (pair_place b i j)) (g (pair_place b i j)) (x *ℤ e.k) (y *ℤ e.k) is rest
              ∙ sym (+ℤ-*ℤ x y e.k),
        )
          where
            sum : (a t c m n : ℤ) → t ≡ m → (a -ℤ t) -ℤ c ≡ n → a -ℤ c ≡ m +ℤ n
            sum a t c m n p q = omega (arith, ints, p, q)

  -- a positive divisor by absolute values
  pub divides_abs : (k l : ℤ) → pos 0 <ℤ k → pos 0 <ℤ l → unsigned_abs k ∣ unsigned_abs l → Divides k l
  divides_abs (pos k) (pos l) hk hl d = (pos (l / k), let whole : (l / k) * k ≡ l = div-mul_cancel k d in omega (arith, ints, whole))
  divides_abs (negsuc k) l hk hl d = absurd (omega (arith, ints, hk))
  divides_abs (pos k) (negsuc l) hk hl d = absurd (omega (arith, ints, hl))

  g_closed : (v : List Term) → IsPairVector G b i j v → (ss : List Step) (g : Coefficients) → Chain b (coefficient_at v) ss g → ((x : Place) → g x ≡ pos 0)
      → IsClosed b G i j
  g_closed v is ss g chain none = by (reducer_there b entries (pair_place b i j) i (lead_at b i) (behind (vector_at b i)) (as_entry b entries i i_in)
      (first_reduces b entries i j pair is.first is.second (meeting G b i j is.first is.second is.steps)))
    where
      i_in : i < length b
      i_in = let o : i < j = pair.order in let w : j < length b = pair.within in omega (arith, o, w)

      same : (x : Place) → coefficient_at v x ≡ both_at b is.first is.second x
      same x = is.made.1.is x

      by : (r : ℕ) × (e : Term) × (h : List Term) × IsReducer b (pair_place b i j) r e h → IsClosed b G i j
      by (r, e, h, reducer) = found is.steps.factors
        where
          all : Divides e.k (coefficient_at v (pair_place b i j) -ℤ g (pair_place b i j))
          all = chain_divides r e h reducer ss (coefficient_at v) g chain (λ x nz. both_stand b entries i j pair is.first is.second
              (meeting G b i j is.first is.second is.steps) x (λ z. nz (same x ∙ z)))

          nothing : (a c : ℤ) → c ≡ pos 0 → a ≡ a -ℤ c
          nothing a c q = omega (arith, ints, q)

          lead : lead_at b r ≡ e
          lead = entry_lead b r e h reducer.entry

          positive : pos 0 <ℤ e.k
          positive = (lead_of_entry_positive b entries r e h reducer.entry).1

          found : AreFactors G (lead_at b i).k (lead_at b j).k is.first.q is.second.q → IsClosed b G i j
          found (d, bezout) =
              let there : d ≡ coefficient_at v (pair_place b i j) -ℤ g (pair_place b i j) = sym bezout.sum
              ∙ sym (both_there b entries i j pair is.first is.second (meeting G b i j is.first is.second is.steps)) ∙ sym (same (pair_place b i j))
              ∙ nothing (coefficient_at v (pair_place b i j)) (g (pair_place b i j)) (none (pair_place b i j)) in
              let of_d : Divides (lead_at b r).k d = (all.0, there ∙ all.1 ∙ ap (λ (u : Term). all.0 *ℤ u.k) (sym lead)) in (
                r,
                (
                  entry_number b r (e ∷ h) reducer.entry,
                  record {
                    reduces = subst (λ u. Reduces u (pair_place b i j)) (sym lead) reducer.reduces;
                    first = divides_on (lead_at b r).k d (lead_at b i).k of_d (divides_abs d (lead_at b i).k bezout.positive (lead_positive b entries i i_in)
                        bezout.divisor.0);
                    second = divides_on (lead_at b r).k d (lead_at b j).k of_d (divides_abs d (lead_at b j).k bezout.positive
                        (lead_positive b entries j pair.within) bezout.divisor.1);
                  },
                ),
              )

  -- A TASK WHOSE PAIR VECTOR'S CHAIN ENDS AT ZERO
  pub closed_by_chain : (kind : PairKind) (v : List Term) → IsPairVector kind b i j v → (ss : List Step) (g : Coefficients) → Chain b (coefficient_at v) ss g
      → ((x : Place) → g x ≡ pos 0) → IsClosed b kind i j
  closed_by_chain S = s_closed
  closed_by_chain G = g_closed
