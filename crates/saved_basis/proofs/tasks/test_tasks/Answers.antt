use Rattle.std.proofs.Common.{List}
use Rattle.std.proofs.lemmas.Result.{err_from_is_err_and}
use Rattle.module_vec.specs.declared.places.Term.{Term}
use Rattle.saved_basis.specs.Tasks.{IsAny, AllPass, TellsFirst}
use Rattle.saved_basis.proofs.EachLine.{of_fault}
use Rattle.saved_basis.proofs.Testing.{row_fails, rows_more}
use Rattle.saved_basis.proofs.tasks.test_tasks.Goals as goal

pub returns-in_err-test_row : goal.returns-in_err-test_row
returns-in_err-test_row g c =
    let b : List (List Term) = g.L.VecList.vectors c.args.list.now in
    let p = err_from_is_err_and c.from_residual.result c.from_residual.ensures.1 in
    of_fault c.from_residual.result (λ (u : Unit {0}). AllPass b) (TellsFirst IsAny b) p.0 c.in_err-test_row.field-0.0 p.1 p.2
    (row_fails b c.loop-j.j c.loop-j.invariant c.in_err-test_row.field-0.0 c.in_err-test_row.ensures)

pub loop-j-preserved : goal.loop-j-preserved
loop-j-preserved g c =
    let b : List (List Term) = g.L.VecList.vectors c.args.list.now in
    rows_more b c.loop-j.j c.loop-j.invariant c.in_ok-test_row.ensures
