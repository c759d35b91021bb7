use Rattle.std.proofs.Common.{rules, ◌≡◌, sym, subst}
use Rattle.std.specs.List.{AllByRecursion}
use Rattle.report_text.specs.Closing.{HasClosings}
use Rattle.report_text.specs.Reports.{Reported, reported, IsHistoryOf, text_of}
use Rattle.report_text.specs.Writing.{Puts}
use Rattle.report_text.proofs.Existing.{history_there}
use Rattle.report_text.proofs.Whole.{of_log, ok_weaker}
use Rattle.report_text.proofs.writing.write_report.Goals as goal

pub returns-clause-text : goal.returns-clause-text
returns-clause-text g c = λ h is.
    let x : c.in_ok-log.log ≡ record { pres = (reported c.args.r.now).pres; entries = (reported c.args.r.now).entries; seal = (reported c.args.r.now).seal } =
    search rules in
    let sessions : c.deref-sessions.result.now ≡ (reported c.args.r.now).sessions = search rules in
    let same = of_log (reported c.args.r.now) c.in_ok-log.log c.deref-sessions.result.now x sessions in
    subst (λ (r : Reported). Puts (g.K.Sink.taken c.args.out.now) (text_of r h) c.put_lines.result (g.K.Sink.taken c.put_lines.new.out)) same
    (c.put_lines.ensures.text h (subst (λ (r : Reported). IsHistoryOf r h) (sym same) is))

pub returns-clause-told : goal.returns-clause-told
returns-clause-told g c =
    let x : c.in_ok-log.log ≡ record { pres = (reported c.args.r.now).pres; entries = (reported c.args.r.now).entries; seal = (reported c.args.r.now).seal } =
    search rules in
    let sessions : c.deref-sessions.result.now ≡ (reported c.args.r.now).sessions = search rules in
    let same = of_log (reported c.args.r.now) c.in_ok-log.log c.deref-sessions.result.now x sessions in
    ok_weaker c.put_lines.result
    (λ told. history_there (reported c.args.r.now) c.requires
    (subst (λ (r : Reported). AllByRecursion (HasClosings r.pres r.entries r.seal) r.sessions) same told)) c.put_lines.ensures.told
