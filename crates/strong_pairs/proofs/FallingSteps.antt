-- The lead places of a chain's steps fall.
use Rattle.std.proofs.Common.{◌≡◌, ◌<◌, ℤ, pos, neg_ℤ, ◌+ℤ◌, ◌-ℤ◌, ◌*ℤ◌, List, [], ◌∷◌, length, ◌⊎◌, inl, inr, sym, ap, subst, ◌∙◌, arith}
use borrow.Author.Differences.{ints}
use Rattle.std.specs.Int.{int_div_euclid}
use Rattle.formal_sums.specs.FormalSum.{Falling, AllBelow}
use Rattle.formal_sums.proofs.Falling.{AllBelow_transitive}
use Rattle.formal_sums.proofs.Floors.{floor_left}
use Rattle.laurent_terms.specs.declared.TheConstants.{VARIABLES}
use Rattle.module_vec.specs.declared.places.Place.{Place}
use Rattle.module_vec.specs.declared.places.Term.{Term}
use Rattle.module_vec.specs.declared.steps.Step.{Step}
use Rattle.module_vec.specs.Chains.{IsNext, IsDue, Rests, Chain, taken_at, after}
use Rattle.module_vec.specs.Modules.{vector_at}
use Rattle.module_vec.specs.Places.{IsBelow}
use Rattle.module_vec.specs.Reducers.{AreEntries}
use Rattle.module_vec.specs.Vectors.{Coefficients}
use Rattle.module_vec.proofs.Determined.{same_reducer}
use Rattle.module_vec.proofs.Order.{test, order}
use Rattle.strong_pairs.specs.Pairs.{lead_at}
use Rattle.strong_pairs.specs.Tasks.{step_place, step_places, StandsAt, IsUpTo}
use Rattle.strong_pairs.proofs.Chaining.{due_place, due_nonzero, after_stands, step_stands}
use Rattle.strong_pairs.proofs.Entered.{entry_number, entry_lead}
use Rattle.strong_pairs.proofs.Exactness.{step_length}
use Rattle.strong_pairs.proofs.Reducing.{lead_of_entry_positive}
use Rattle.strong_pairs.proofs.Shifted.{shifted, taken_is, shifted_lead, shifted_above}

module _ (b : List (List Term)) (entries : AreEntries b) (P : Place → Type 0) (down : (x y : Place) → IsBelow y x → P x → P y) where
  -- from q on no step is due
  abbrev RestsFrom : Place → Coefficients → Type 0
  RestsFrom q f = (x : Place) → IsUpTo q x → Rests b f x

  module _ (f : Coefficients) (stands : StandsAt P f) (s : Step) (n : IsNext b f s) where
    at_due : step_place b s ≡ n.place
    at_due = due_place b entries f s n (stands n.place (due_nonzero b entries f s n)).0

    long : length s.t ≡ VARIABLES
    long = step_length b entries f s n

    number : s.by < length b
    number = entry_number b s.by (n.lead ∷ n.others) n.due.reducer.entry

    same_lead : lead_at b s.by ≡ n.lead
    same_lead = entry_lead b s.by n.lead n.others n.due.reducer.entry

    unmoved : (x : Place) → IsBelow n.place x → after b f s x ≡ f x
    unmoved x l = untaken (f x) (taken_at b s x) (taken_is b s x
        ∙ ap (λ z. s.q *ℤ z) (shifted_above b entries s.t s.by long number x (subst (λ z. IsBelow z x) (sym at_due) l)) ∙ nothing s.q)
      where
        nothing : (a : ℤ) → a *ℤ pos 0 ≡ pos 0
        nothing a = omega (arith, ints)

        untaken : (a c : ℤ) → c ≡ pos 0 → a -ℤ c ≡ a
        untaken a c e = omega (arith, ints, e)

    left : int_div_euclid (after b f s n.place) n.lead.k ≡ pos 0
    left =
        ap (λ z. int_div_euclid z n.lead.k) (ap (λ z. f n.place -ℤ z) (taken_is b s n.place ∙ (λ i. n.factor i *ℤ taken_lead i))
        ∙ turned (f n.place) (int_div_euclid (f n.place) n.lead.k *ℤ n.lead.k))
        ∙ floor_left (f n.place) n.lead.k (lead_of_entry_positive b entries s.by n.lead n.others n.due.reducer.entry).1
      where
        turned : (a c : ℤ) → a -ℤ c ≡ a +ℤ neg_ℤ c
        turned a c = omega (arith, ints)

        taken_lead : shifted s.t (vector_at b s.by) n.place ≡ n.lead.k
        taken_lead = ap (shifted s.t (vector_at b s.by)) (sym at_due) ∙ shifted_lead b entries s.t s.by long number ∙ ap (λ (u : Term). u.k) same_lead

    rests_after : RestsFrom n.place (after b f s)
    rests_after x (inr l) i e g due = n.greatest x l i e g (record {
      reducer = due.reducer;
      moves = λ none. due.moves (ap (λ z. int_div_euclid z e.k) (unmoved x l) ∙ none);
    })
    rests_after x (inl q) i e g due = by (subst (λ z. IsDue b (after b f s) z i e g) (sym q) due)
      where
        by : IsDue b (after b f s) n.place i e g → ⊥
        by d =
            let one : i ≡ s.by = same_reducer b n.place i s.by e n.lead g n.others d.reducer n.due.reducer in
            let lead : e ≡ n.lead = sym (entry_lead b i e g d.reducer.entry) ∙ ap (lead_at b) one ∙ same_lead in
            d.moves (ap (λ (u : Term). int_div_euclid (after b f s n.place) u.k) lead ∙ left)

  falls : (ss : List Step) (f g : Coefficients) → Chain b f ss g → StandsAt P f → (q : Place) → RestsFrom q f
      → AllBelow IsBelow q (step_places b ss) × Falling IsBelow (step_places b ss)
  falls [] f g chain stands q rests = (tt, tt)
  falls (s ∷ ss) f g chain stands q rests =
      let n : IsNext b f s = chain.0 in
      let place : step_place b s ≡ chain.0.place = at_due f stands s chain.0 in
      let stands_on : StandsAt P (after b f s) = after_stands b entries P down f stands s (step_stands b entries P down f stands s chain.0) in
      let rest : AllBelow IsBelow chain.0.place (step_places b ss) × Falling IsBelow (step_places b ss) =
      falls ss (after b f s) g chain.1 stands_on chain.0.place (rests_after f stands s chain.0) in
      let here : IsBelow (step_place b s) q = subst (λ z. IsBelow z q) (sym place) (lower (order.total chain.0.place q)) in
      let others : AllBelow IsBelow (step_place b s) (step_places b ss) = subst (λ z. AllBelow IsBelow z (step_places b ss)) (sym place) rest.0 in
      ((here, AllBelow_transitive test order (step_place b s) q here (step_places b ss) others), (others, rest.1))
    where
      lower : (chain.0.place ≡ q) ⊎ (IsBelow chain.0.place q ⊎ IsBelow q chain.0.place) → IsBelow chain.0.place q
      lower (inl e) = absurd (rests chain.0.place (inl (sym e)) s.by chain.0.lead chain.0.others chain.0.due)
      lower (inr (inl l)) = l
      lower (inr (inr l)) = absurd (rests chain.0.place (inr l) s.by chain.0.lead chain.0.others chain.0.due)

  pub chain_falls : (ss : List Step) (f g : Coefficients) → StandsAt P f → Chain b f ss g → Falling IsBelow (step_places b ss)
  chain_falls [] f g stands chain = tt
  chain_falls (s ∷ ss) f g stands chain =
      let place : step_place b s ≡ chain.0.place = at_due f stands s chain.0 in
      let stands_on : StandsAt P (after b f s) = after_stands b entries P down f stands s (step_stands b entries P down f stands s chain.0) in
      let rest : AllBelow IsBelow chain.0.place (step_places b ss) × Falling IsBelow (step_places b ss) =
      falls ss (after b f s) g chain.1 stands_on chain.0.place (rests_after f stands s chain.0) in
      (subst (λ z. AllBelow IsBelow z (step_places b ss)) (sym place) rest.0, rest.1)
