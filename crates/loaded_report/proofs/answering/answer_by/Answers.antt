use Rattle.std.proofs.Common.{rules, ◌≡◌, List, Some}
use Rattle.std.specs.Arc.{arc_value}
use Rattle.std.specs.List.{AllByRecursion}
use Rattle.presentation.specs.Presented.{Presented, IsPresented}
use Rattle.basis_entry.specs.Seals.{Seal}
use Rattle.session_core.specs.Sessions.{SessionState, IsSession}
use Rattle.report_text.specs.Reports.{IsReportable, reported}
use Rattle.legal_report.specs.Gathering.{AreAnsweredOn}
use Rattle.loaded_report.proofs.Legality.{can_go_on, can_be_written, is_solution}
use Rattle.loaded_report.proofs.answering.answer_by.Goals as goal

pub last_kinds-requires : goal.last_kinds-requires
last_kinds-requires c =
    let p : Presented = arc_value c.args.p.now in
    let seal : Seal = c.args.seal in
    let ss : List SessionState = c.args.sessions.items in
    let ts : List SessionState = c.in_ok-sessions.sessions.items in
    let on : AreAnsweredOn p seal.entries (Some seal) ss ts = search rules in
    can_be_written p seal c.requires.source c.requires.saved ss c.requires.sessions (reported c.in_ok-report.report) ts (search rules)
    c.known-2.ensures on

pub report_is_accepted-requires : goal.report_is_accepted-requires
report_is_accepted-requires c =
    let p : Presented = arc_value c.args.p.now in
    let seal : Seal = c.args.seal in
    let ss : List SessionState = c.args.sessions.items in
    let ts : List SessionState = c.in_ok-sessions.sessions.items in
    let on : AreAnsweredOn p seal.entries (Some seal) ss ts = search rules in
    can_be_written p seal c.requires.source c.requires.saved ss c.requires.sessions (reported c.in_ok-report.report) ts (search rules)
    c.known-2.ensures on

pub returns-clause-solution : goal.returns-clause-solution
returns-clause-solution c =
    let p : Presented = arc_value c.args.p.now in
    let seal : Seal = c.args.seal in
    let ss : List SessionState = c.args.sessions.items in
    let ts : List SessionState = c.in_ok-sessions.sessions.items in
    let on : AreAnsweredOn p seal.entries (Some seal) ss ts = search rules in
    let known : IsPresented p = search rules in
    let sources : AllByRecursion IsSession ss = search rules in
    let found = c.in_ok-last.ensures.told in
    is_solution p seal c.requires.source c.requires.saved ss c.requires.sessions (reported c.in_ok-report.report) ts (search rules)
    c.known-2.ensures on known sources found.0 found.1 (c.report_is_accepted.ensures.told found.0 found.1)
