use Rattle.std.proofs.Common.{◌≡◌, List, false, true, sym, ◌∙◌}
use Rattle.std.proofs.lemmas.Result.{err_from_is_err_and}
use Rattle.module_vec.specs.declared.places.Term.{Term}
use Rattle.saved_basis.specs.Tasks.{IsOfRow, IsOfPair, PassWhere, TellsFirst}
use Rattle.saved_basis.proofs.EachLine.{of_fault}
use Rattle.saved_basis.proofs.Testing.{pair_fails, no_pair, pairs_more}
use Rattle.saved_basis.proofs.tasks.test_row.Goals.{then-is_pair+in_ok-test_pair, else-is_pair}
use Rattle.saved_basis.proofs.tasks.test_row.Goals as goal

pub returns-in_err-test_pair : goal.returns-in_err-test_pair
returns-in_err-test_pair g c =
    let b : List (List Term) = g.L.VecList.vectors c.args.list.now in
    let p = err_from_is_err_and c.from_residual.result c.from_residual.ensures.1 in
    of_fault c.from_residual.result (λ (u : Unit {0}). PassWhere (IsOfRow c.args.j) b) (TellsFirst (IsOfRow c.args.j) b) p.0
    c.in_err-test_pair.field-0.0 p.1 p.2
    (pair_fails b c.loop-i.i c.args.j c.loop-i.invariant c.in_err-test_pair.field-0.0 c.in_err-test_pair.ensures)

pub loop-i-preserved : goal.loop-i-preserved
loop-i-preserved g c =
    let b : List (List Term) = g.L.VecList.vectors c.args.list.now in
    let here : PassWhere (IsOfPair c.loop-i.i c.args.j) b = elim c.if-is_pair.branch [
      | then-is_pair+in_ok-test_pair w ↦ w.in_ok-test_pair.ensures
      | else-is_pair w ↦ no_pair b c.loop-i.i c.args.j (λ is. let wrong : false ≡ true = sym w.if-is_pair.false ∙ c.is_pair.ensures.1 is in cc)
    ] in
    pairs_more b c.loop-i.i c.args.j c.loop-i.invariant here
