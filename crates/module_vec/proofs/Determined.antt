-- Vectors are determined by their coefficients, and reductions by the vector and the list.
use Rattle.std.proofs.Common.{◌≡◌, ℕ, ℤ, List, [], ◌∷◌, ◌⊎◌, inl, inr, refl, sym, ap, ◌∙◌, subst, arith}
use Rattle.std.specs.Int.{int_div_euclid}
use Rattle.std.specs.List.{AllByRecursion}
use Rattle.std.specs.Prelude.{slice_get, Some}
use borrow.Author.Differences.{ints}
use Rattle.formal_sums.specs.FormalSum.{NonZero}
use Rattle.formal_sums.proofs.Falling.{falling_same, map_injective}
use Rattle.laurent_terms.specs.Monomials.{quotient}
use Rattle.module_vec.specs.declared.places.Place.{Place}
use Rattle.module_vec.specs.declared.places.Term.{Term}
use Rattle.module_vec.specs.declared.steps.Step.{Step}
use Rattle.module_vec.specs.Places.{IsBelow}
use Rattle.module_vec.specs.Vectors.{Coefficients, sum_of, coefficient_at, IsTerm, IsSparse}
use Rattle.module_vec.specs.Reducers.{GoesBefore, IsReducer}
use Rattle.module_vec.specs.Chains.{IsNext, Chain, IsEnd, Runs, after}
use Rattle.module_vec.proofs.Order.{test, order}

nonzero : (v : List Term) → AllByRecursion IsTerm v → NonZero (sum_of v)
nonzero [] h = tt
nonzero (t ∷ v) h = (h.0.nonzero, nonzero v h.1)

same_term : (t u : Term) → Path (ℤ × Place) (t.k, t.at) (u.k, u.at) → t ≡ u
same_term t u e = λ i. record { at = (e i).1; k = (e i).0 }

pub same_vector : (v w : List Term) → IsSparse v → IsSparse w → ((x : Place) → coefficient_at v x ≡ coefficient_at w x) → v ≡ w
same_vector v w h g e = map_injective (λ (t : Term). (t.k, t.at)) same_term v w
    (falling_same test order (sum_of v) (sum_of w) h.falling (nonzero v h.terms) g.falling (nonzero w g.terms) e)

both_first : (k l : ℤ) (i j : ℕ) → GoesBefore k i l j → GoesBefore l j k i → i ≡ j
both_first k l i j (inl a) (inl b) = absurd (omega (arith, ints))
both_first k l i j (inl a) (inr b) = absurd (omega (arith, ints, b.0))
both_first k l i j (inr a) (inl b) = absurd (omega (arith, ints, a.0))
both_first k l i j (inr a) (inr b) = omega (arith, a.1, b.1)

pub same_reducer : (b : List (List Term)) (p : Place) (i j : ℕ) (e f : Term) (g h : List Term) → IsReducer b p i e g → IsReducer b p j f h → i ≡ j
same_reducer b p i j e f g h r s = both_first e.k f.k i j (r.first j f h s.entry s.reduces) (s.first i e g r.entry r.reduces)

same_lead : (b : List (List Term)) (i j : ℕ) (e f : Term) (g h : List Term) → i ≡ j → slice_get b i ≡ Some (e ∷ g) → slice_get b j ≡ Some (f ∷ h) → e ≡ f
same_lead b i j e f g h is first second = let both : Some (e ∷ g) ≡ Some (f ∷ h) = sym first ∙ ap (slice_get b) is ∙ second in cc

pub same_next : (b : List (List Term)) (f : Coefficients) (s t : Step) → IsNext b f s → IsNext b f t → s ≡ t
same_next b f s t n m = by (order.total n.place m.place)
  where
    same : n.place ≡ m.place → s ≡ t
    same e =
        let reducer : IsReducer b m.place s.by n.lead n.others = subst (λ p. IsReducer b p s.by n.lead n.others) e n.due.reducer in
        let number : s.by ≡ t.by = same_reducer b m.place s.by t.by n.lead m.lead n.others m.others reducer m.due.reducer in
        let lead : n.lead ≡ m.lead = same_lead b s.by t.by n.lead m.lead n.others m.others number n.due.reducer.entry m.due.reducer.entry in
        let factor : s.q ≡ t.q = n.factor ∙ (λ i. int_div_euclid (f (e i)) (lead i).k) ∙ sym m.factor in
        let monomial : s.t ≡ t.t = n.monomial ∙ (λ i. quotient (e i).m (lead i).at.m) ∙ sym m.monomial in
        λ i. record { q = factor i; t = monomial i; by = number i }

    by : (n.place ≡ m.place) ⊎ (IsBelow n.place m.place ⊎ IsBelow m.place n.place) → s ≡ t
    by (inl e) = same e
    by (inr (inl h)) = absurd (n.greatest m.place h t.by m.lead m.others m.due)
    by (inr (inr h)) = absurd (m.greatest n.place h s.by n.lead n.others n.due)

no_next : (b : List (List Term)) (f g : Coefficients) (s : Step) → ((x : Place) → g x ≡ f x) → IsEnd b g → IsNext b f s → ⊥
no_next b f g s e end n = end n.place s.by n.lead n.others (record {
  reducer = n.due.reducer;
  moves = λ none. n.due.moves (ap (λ z. int_div_euclid z n.lead.k) (sym (e n.place)) ∙ none);
})

pub same_end : (b : List (List Term)) (ss rs : List Step) (f g h : Coefficients) → Chain b f ss g → IsEnd b g → Chain b f rs h → IsEnd b h
    → (ss ≡ rs) × ((x : Place) → g x ≡ h x)
same_end b [] [] f g h c d e k = (refl, λ x. c x ∙ sym (e x))
same_end b [] (t ∷ rs) f g h c d e k = absurd (no_next b f g t c d e.0)
same_end b (s ∷ ss) [] f g h c d e k = absurd (no_next b f h s e k c.0)
same_end b (s ∷ ss) (t ∷ rs) f g h c d e k =
    let first : s ≡ t = same_next b f s t c.0 e.0 in
    let rest : (ss ≡ rs) × ((x : Place) → g x ≡ h x) = same_end b ss rs (after b f s) g h c.1 d (subst (λ r. Chain b (after b f r) rs h) (sym first) e.1) k in
    (λ i. first i ∷ rest.0 i, rest.1)

pub runs_are_chains : (b : List (List Term)) (ss : List Step) (f g : Coefficients) → Runs b f ss g → Chain b f ss g
runs_are_chains b [] f g r = r
runs_are_chains b (s ∷ ss) f g r = (r.0, runs_are_chains b ss (after b f s) g r.2)
