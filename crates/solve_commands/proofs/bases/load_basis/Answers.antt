use Rattle.std.proofs.Common.{rules, Err}
use Rattle.std.specs.Arc.{arc_value}
use Rattle.presentation.specs.Presented.{Presented}
use Rattle.saved_basis.specs.Reading.{ReadsBasis}
use Rattle.solve_commands.specs.Bases.{RefusesBasis}
use Rattle.solve_commands.proofs.LoadFound.{basis_refused}
use Rattle.solve_commands.proofs.bases.load_basis.Goals as goal

pub returns-clause-gives : goal.returns-clause-gives
returns-clause-gives g c =
    let p : Presented = arc_value c.args.p.now in
    let loaded = c.in_ok-text.ensures.loaded in
    let exact : ReadsBasis p c.in_ok-text.text.items (Err c.in-Err.fault) = search rules in
    let refuses : RefusesBasis p c.in-Err.fault c.refusal.result = search rules in
    basis_refused _ p c.args.name.now (g.S.Shelf.under c.args.shelf.now c.args.name.now) c.in_ok-text.text.items c.in-Err.fault c.refusal.result loaded.0
    loaded.1 exact refuses
