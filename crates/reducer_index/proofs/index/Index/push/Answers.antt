use Rattle.std.proofs.Common.{rules, arith, List, ◌≡◌, ◌+◌, ◌<◌, ◌^◌, ◌∷◌, [], ◌++◌, ◌∙◌, length, sym, ap, subst}
use Rattle.std.specs.List.{insert}
use Rattle.std.specs.Prelude.{Some, slice_get}
use Rattle.module_vec.specs.declared.places.Term.{Term}
use Rattle.module_vec.proofs.Scans.{read_push_new}
use Rattle.reducer_index.specs.declared.candidates.Candidate.{Candidate}
use Rattle.reducer_index.specs.Candidates.{IsCandidateOf, IsInOrder, IsIndex}
use Rattle.reducer_index.proofs.Indexing.{index_more}
use Rattle.reducer_index.proofs.index.Index.push.Goals as goal

pub invariant_of-self-2 : goal.invariant_of-self-2
invariant_of-self-2 c =
    let es : List Term = c.self.inside.leads.items in
    let xs : List Candidate = c.self.inside.candidates.items in
    let x : Candidate = c.new-candidate.result in
    let at = c.place_of-at.result in
    let few : length es + 1 < 2 ^ 32 = subst (λ (l : List Term). length l + 1 < 2 ^ 32) (sym c.self.view_is) c.requires in
    let number : x.number ≡ length es = search (rules, arith) in
    let leads : c.push_reserved.new.self.items ≡ es ++ c.args.lead ∷ [] = c.push_reserved.ensures.items
    ∙ ap (λ (l : List Term). l ++ c.args.lead ∷ []) c.reserve.ensures.items in
    let candidates : c.insert.new.self.items ≡ insert xs at x = search rules in
    let last : slice_get (es ++ c.args.lead ∷ []) x.number ≡ Some c.args.lead = ap (slice_get (es ++ c.args.lead ∷ [])) number ∙ read_push_new c.args.lead es in
    let own : IsCandidateOf (es ++ c.args.lead ∷ []) x = c.new-candidate.ensures.is (es ++ c.args.lead ∷ []) last in
    let order : IsInOrder (insert xs at x) = subst (λ (l : List Candidate). IsInOrder (insert l at x)) c.deref.ensures.value c.place_of-at.ensures.order in
    subst (λ (l : List Term). IsIndex l c.insert.new.self.items) (sym leads)
    (subst (λ (l : List Candidate). IsIndex (es ++ c.args.lead ∷ []) l) (sym candidates)
    (index_more es xs c.args.lead x at c.self.invariant number own order few))
