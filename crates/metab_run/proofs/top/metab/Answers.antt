use Rattle.std.proofs.Common.{◌≡◌, List, ℕ, Option, Some, map, string_bytes, sym, subst}
use Rattle.std.specs.Prelude.{Err, option_map}
use Rattle.mb_io.specs.Shelf.{CountRose}
use Rattle.command_floor.specs.declared.answer.Halt.{Halt}
use Rattle.command_floor.specs.Answers.{Answer, IsSaid}
use Rattle.command_floor.specs.Ends.{Delivers}
use Rattle.solve_commands.specs.declared.run.RunWords.{RunWords}
use Rattle.solve_commands.specs.Run.{RunAsked, RunLeads, run_asked}
use Rattle.solve_commands.specs.Runs.{GivesReport}
use Rattle.metab_run.specs.Owed.{owed}
use Rattle.metab_run.specs.Words.{Request, Run, request, asked_run}
use Rattle.metab_run.proofs.ReportEnds.{report_ends}
use Rattle.metab_run.proofs.RunEnds.{asks_run, run_due, run_said}
use Rattle.metab_run.proofs.top.metab.Goals as goal

pub returns-in-Err-Says-clause-ends : goal.returns-in-Err-Says-clause-ends
returns-in-Err-Says-clause-ends g c =
    let counted : Type 0 = CountRose (g.S.Shelf.faults c.args.shelf.now) (g.S.Shelf.faults c.report.new.shelf) in
    let failed : Type 0 = CountRose (g.K.Sink.faults c.args.out.now) (g.K.Sink.faults c.deliver.new.out) in
    let under : List ℕ → Option (List ℕ) = g.S.Shelf.under c.args.shelf.now in
    let asked : Option Request = request (map string_bytes c.args.words.now) in
    let q : RunAsked = run_asked c.in-Ok-Some.asked in
    let told : Some q ≡ asked_run asked =
    subst (λ (f : Option RunWords). option_map run_asked f ≡ asked_run asked) c.in-Ok-Some.field-0-is c.in-Ok-Some.ensures.is in
    let is : asked ≡ Some (Run q) = asks_run asked q (sym told) in
    let leads : RunLeads counted under q c.in-Err-Says.answer =
    subst (λ (h : Halt). GivesReport (RunLeads counted under q) (Err h)) c.in-Err-Says.field-0-is c.in-Err-Says.ensures.gives in
    let old : Option (List ℕ) = g.K.Sink.taken c.args.out.now in
    let new : Option (List ℕ) = g.K.Sink.taken c.deliver.new.out in
    let said : IsSaid c.in-Err-Says.answer.status =
    subst (λ (x : Answer). IsSaid x.status) c.in-Err-Says.answer-is
    (subst (λ (x : Answer). IsSaid x.status) c.answer.view_is c.answer.invariant) in
    let written : Delivers failed old new c.in-Err-Says.answer c.deliver.result =
    subst (λ (x : Answer). Delivers failed old new x c.deliver.result) c.in-Err-Says.answer-is c.deliver.ensures.written in
    run_said counted under asked q is failed old new c.in-Err-Says.answer c.deliver.result leads said written

pub returns-clause-ends : goal.returns-clause-ends
returns-clause-ends g c =
    let counted : Type 0 = CountRose (g.S.Shelf.faults c.args.shelf.now) (g.S.Shelf.faults c.report.new.shelf) in
    let failed : Type 0 = CountRose (g.K.Sink.faults c.args.out.now) (g.K.Sink.faults c.deliver_report.new.out) in
    let under : List ℕ → Option (List ℕ) = g.S.Shelf.under c.args.shelf.now in
    let asked : Option Request = request (map string_bytes c.args.words.now) in
    let q : RunAsked = run_asked c.in-Ok-Some.asked in
    let told : Some q ≡ asked_run asked =
    subst (λ (f : Option RunWords). option_map run_asked f ≡ asked_run asked) c.in-Ok-Some.field-0-is c.in-Ok-Some.ensures.is in
    report_ends (owed counted under asked) c.in-Ok.solved
    (run_due counted under asked q c.in-Ok.solved (asks_run asked q (sym told)) c.in-Ok.ensures.gives) failed (g.K.Sink.taken c.args.out.now)
    (g.K.Sink.taken c.deliver_report.new.out) c.deliver_report.result c.deliver_report.ensures.written
