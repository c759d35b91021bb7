use Rattle.std.proofs.Common.{List, ◌≡◌, ◌≤◌, ◌∙◌, length, take, sym, subst}
use Rattle.module_vec.specs.declared.places.Term.{Term}
use Rattle.reducer_index.specs.declared.candidates.Candidate.{Candidate}
use Rattle.reducer_index.specs.Candidates.{IsIndex}
use Rattle.reducer_index.specs.Leads.{FindsLead}
use Rattle.reducer_index.proofs.Indexing.{lead_found, rest_candidates, rest_order}
use Rattle.reducer_index.proofs.index.Index.find.Goals as goal

pub first_reducer-requires-clause-candidates : goal.first_reducer-requires-clause-candidates
first_reducer-requires-clause-candidates c =
    let own : IsIndex c.deref-2.result.now c.deref.result.now = subst (λ (l : List Term). IsIndex l c.deref.result.now) (sym c.deref-2.ensures.value)
    (subst (λ (y : List Candidate). IsIndex c.self.inside.leads.items y) (sym c.deref.ensures.value) c.self.invariant) in
    rest_candidates c.deref-2.result.now c.deref.result.now c.from_component-candidates.result.now c.args.at.now.c own c.from_component-candidates.ensures

pub first_reducer-requires-clause-order : goal.first_reducer-requires-clause-order
first_reducer-requires-clause-order c =
    let own : IsIndex c.deref-2.result.now c.deref.result.now = subst (λ (l : List Term). IsIndex l c.deref.result.now) (sym c.deref-2.ensures.value)
    (subst (λ (y : List Candidate). IsIndex c.self.inside.leads.items y) (sym c.deref.ensures.value) c.self.invariant) in
    rest_order c.deref-2.result.now c.deref.result.now c.from_component-candidates.result.now c.args.at.now.c own c.from_component-candidates.ensures

pub returns : goal.returns
returns c =
    let own : IsIndex c.deref-2.result.now c.deref.result.now = subst (λ (l : List Term). IsIndex l c.deref.result.now) (sym c.deref-2.ensures.value)
    (subst (λ (y : List Candidate). IsIndex c.self.inside.leads.items y) (sym c.deref.ensures.value) c.self.invariant) in
    let same : c.deref-2.result.now ≡ c.args.self.now = c.deref-2.ensures.value ∙ c.self.view_is in
    let within : c.args.front ≤ length c.deref-2.result.now = subst (λ (l : List Term). c.args.front ≤ length l) (sym same) c.requires in
    subst (λ (l : List Term). FindsLead (take c.args.front l) c.args.at.now c.first_reducer.result) same
    (lead_found c.deref-2.result.now c.args.front c.args.at.now c.deref.result.now c.from_component-candidates.result.now c.first_reducer.result within own
    c.from_component-candidates.ensures c.first_reducer.ensures)
