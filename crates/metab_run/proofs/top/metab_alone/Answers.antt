use Rattle.std.proofs.Common.{◌≡◌, List, ℕ, Option, Ok, map, string_bytes, subst, rules}
use Rattle.mb_io.specs.Shelf.{CountRose}
use Rattle.metab_run.specs.declared.top.Found.{Found}
use Rattle.metab_run.specs.declared.top.Found.TheVariants.{Reports, Saves}
use Rattle.std.specs.Arc.{arc_value}
use Rattle.basis_entry.specs.Seals.{Seal}
use Rattle.solve_commands.specs.Save.{DeliversBasis}
use Rattle.metab_run.specs.Owed.{Owed, owed_alone}
use Rattle.metab_run.specs.Top.{FindsOwed}
use Rattle.metab_run.proofs.ReportEnds.{report_ends}
use Rattle.metab_run.proofs.FileEnds.{file_ends}
use Rattle.metab_run.proofs.top.metab_alone.Goals as goal

pub returns-in-Ok-Reports-clause-ends : goal.returns-in-Ok-Reports-clause-ends
returns-in-Ok-Reports-clause-ends g c =
    let counted : Type 0 = CountRose (g.S.Shelf.faults c.args.shelf.now) (g.S.Shelf.faults c.find.new.shelf) in
    let o : Owed = owed_alone counted (g.S.Shelf.under c.args.shelf.now) (map string_bytes c.args.words.now) in
    let finds : FindsOwed o counted (Ok (Reports c.in-Ok-Reports.solved)) =
    subst (λ (f : Found). FindsOwed o counted (Ok f)) c.in-Ok-Reports.field-0-is c.in-Ok-Reports.ensures.finds in
    report_ends o c.in-Ok-Reports.solved finds
    (CountRose (g.K.Sink.faults c.args.out.now) (g.K.Sink.faults c.deliver_report.new.out)) (g.K.Sink.taken c.args.out.now)
    (g.K.Sink.taken c.deliver_report.new.out)
    c.deliver_report.result c.deliver_report.ensures.written

pub returns-in-Ok-Saves-clause-ends : goal.returns-in-Ok-Saves-clause-ends
returns-in-Ok-Saves-clause-ends g c =
    let counted : Type 0 = CountRose (g.S.Shelf.faults c.args.shelf.now) (g.S.Shelf.faults c.find.new.shelf) in
    let failed : Type 0 = CountRose (g.K.Sink.faults c.args.out.now) (g.K.Sink.faults c.deliver_basis.new.out) in
    let o : Owed = owed_alone counted (g.S.Shelf.under c.args.shelf.now) (map string_bytes c.args.words.now) in
    let seal : Seal = arc_value c.in-Ok-Saves.seal in
    let finds : FindsOwed o counted (Ok (Saves c.in-Ok-Saves.seal)) =
    subst (λ (f : Found). FindsOwed o counted (Ok f)) c.in-Ok-Saves.field-0-is c.in-Ok-Saves.ensures.finds in
    let old : Option (List ℕ) = g.K.Sink.taken c.args.out.now in
    let new : Option (List ℕ) = g.K.Sink.taken c.deliver_basis.new.out in
    let same : c.deref.result.now ≡ seal = search rules in
    let written : DeliversBasis failed old new seal c.deliver_basis.result =
    subst (λ (s : Seal). DeliversBasis failed old new s c.deliver_basis.result) same c.deliver_basis.ensures.written in
    file_ends o seal finds failed old new c.deliver_basis.result written
