use Rattle.std.proofs.Common.{rules, ◌≡◌, ◌≤◌, ℕ, List, Option, length, sym, subst, ◌∙◌, arith}
use Rattle.std.specs.Prelude.{All}
use Rattle.std.proofs.lemmas.List.{length-map}
use Rattle.std.specs.Arc.{arc_value}
use Rattle.mb_io.specs.Shelf.{CountRose}
use Rattle.mb_io.proofs.Giving.{rose_later}
use Rattle.presentation.specs.Presented.{Presented}
use Rattle.session_text.specs.declared.question.Event.{Event}
use Rattle.session_text.specs.Schedule.{IsEvent}
use Rattle.session_core.specs.Sessions.{SessionState}
use Rattle.interleave_core.specs.Opening as machine
use Rattle.report_text.specs.Reports.{reported}
use Rattle.legal_report.specs.Gathering.{questions_of}
use Rattle.legal_report.specs.Solutions.{AreNewSessions}
use Rattle.solve_commands.specs.Presentations.{IsPresentedIn}
use Rattle.solve_commands.specs.Replay.{ReplayAsked, IsReplay, IsScheduledIn, replay_asked}
use Rattle.solve_commands.specs.SessionFiles.{AreQuestionsUnder}
use Rattle.solve_commands.proofs.SessionFiles.{asked_same}
use Rattle.solve_commands.proofs.ReplayFound.{due, not_presented, no_schedule, halted, scheduled, new_sessions, count_of}
use Rattle.solve_commands.proofs.replay.report.Goals as goal

pub returns-in_err-p-clause-gives : goal.returns-in_err-p-clause-gives
returns-in_err-p-clause-gives g c = search (rules, not_presented)

pub returns-in_err-events-clause-gives : goal.returns-in_err-events-clause-gives
returns-in_err-events-clause-gives g c =
    let before : ℕ = g.S.Shelf.faults c.args.shelf.now in
    let mid : ℕ = g.S.Shelf.faults c.load_presentation.new.shelf in
    let now : ℕ = g.S.Shelf.faults c.load_schedule.new.shelf in
    let under : List ℕ → Option (List ℕ) = g.S.Shelf.under c.args.shelf.now in
    let q : ReplayAsked = replay_asked c.args.words.now in
    let presented : IsPresentedIn under q.presentation c.in_ok-p.p = search rules in
    let own : c.len.result ≡ length c.args.words.now.sessions.items = search rules in
    let many : c.len.result ≡ length q.sessions = own ∙ sym (length-map c.args.words.now.sessions.items (λ w. w.now)) in
    search (
      rules,
      no_schedule (CountRose mid now) (CountRose before now) (rose_later before mid now c.load_presentation.ensures.later)
          (g.S.Shelf.under c.load_presentation.new.shelf) under c.load_presentation.ensures.same q c.in_ok-p.p presented c.len.result many,
    )

pub returns-in_err-sessions-clause-gives : goal.returns-in_err-sessions-clause-gives
returns-in_err-sessions-clause-gives g c =
    let before : ℕ = g.S.Shelf.faults c.args.shelf.now in
    let first : ℕ = g.S.Shelf.faults c.load_presentation.new.shelf in
    let mid : ℕ = g.S.Shelf.faults c.load_schedule.new.shelf in
    let now : ℕ = g.S.Shelf.faults c.load_sessions.new.shelf in
    let under : List ℕ → Option (List ℕ) = g.S.Shelf.under c.args.shelf.now in
    let q : ReplayAsked = replay_asked c.args.words.now in
    let presented : IsPresentedIn under q.presentation c.in_ok-p.p = search rules in
    let own : c.len.result ≡ length c.args.words.now.sessions.items = search rules in
    let many : c.len.result ≡ length q.sessions = own ∙ sym (length-map c.args.words.now.sessions.items (λ w. w.now)) in
    let told : IsScheduledIn under q.schedule (length q.sessions) c.in_ok-events.events.items =
    scheduled (g.S.Shelf.under c.load_presentation.new.shelf) under c.load_presentation.ensures.same q.schedule c.len.result (length q.sessions) many
    c.in_ok-events.events.items c.in_ok-events.ensures.gives in
    let one : before ≤ first = c.load_presentation.ensures.later in
    let two : first ≤ mid = c.load_schedule.ensures.later in
    search (
      rules,
      halted (CountRose mid now) (CountRose before now) (rose_later before mid now (omega (arith, one, two)))
          (g.S.Shelf.under c.load_schedule.new.shelf) under (λ n. c.load_schedule.ensures.same n ∙ c.load_presentation.ensures.same n) q c.in_ok-p.p presented
          c.in_ok-events.events.items told,
    )

pub replayed-requires-clause-sessions : goal.replayed-requires-clause-sessions
replayed-requires-clause-sessions g c =
    let p : Presented = arc_value c.in_ok-p-2.p in
    let same : c.deref.result.now ≡ p = search rules in
    new_sessions p c.in_ok-base.base c.in_ok-sessions.sessions.items c.in_ok-base.ensures
    (subst (λ (x : Presented). AreNewSessions x c.in_ok-base.base c.in_ok-sessions.sessions.items) same c.in_ok-sessions.ensures.new)

pub replayed-requires-clause-events : goal.replayed-requires-clause-events
replayed-requires-clause-events g c =
    let p : Presented = c.in_ok-p.p in
    let q : ReplayAsked = replay_asked c.args.words.now in
    let ss : List SessionState = c.in_ok-sessions.sessions.items in
    let own : c.len.result ≡ length c.args.words.now.sessions.items = search rules in
    let asked : AreQuestionsUnder (g.S.Shelf.under c.load_schedule.new.shelf) p q.sessions (questions_of ss) = search rules in
    let many : c.len.result ≡ length ss =
    own ∙ sym (length-map c.args.words.now.sessions.items (λ w. w.now)) ∙ count_of (g.S.Shelf.under c.load_schedule.new.shelf) p q.sessions ss asked in
    let events : All (IsEvent (length ss)) c.in_ok-events.events.items =
    subst (λ (n : ℕ). All (IsEvent n) c.in_ok-events.events.items) many c.in_ok-events.ensures.events in
    search (rules, events)

pub returns-clause-gives : goal.returns-clause-gives
returns-clause-gives g c =
    let p : Presented = c.in_ok-p.p in
    let q : ReplayAsked = replay_asked c.args.words.now in
    let under : List ℕ → Option (List ℕ) = g.S.Shelf.under c.args.shelf.now in
    let ss : List SessionState = c.in_ok-sessions.sessions.items in
    let events : List Event = c.in_ok-events.events.items in
    let arc : arc_value c.in_ok-p-2.p ≡ p = search rules in
    let presented : IsPresentedIn under q.presentation p = search rules in
    let own : c.len.result ≡ length c.args.words.now.sessions.items = search rules in
    let many : c.len.result ≡ length q.sessions = own ∙ sym (length-map c.args.words.now.sessions.items (λ w. w.now)) in
    let told : IsScheduledIn under q.schedule (length q.sessions) events =
    scheduled (g.S.Shelf.under c.load_presentation.new.shelf) under c.load_presentation.ensures.same q.schedule c.len.result (length q.sessions) many events
    c.in_ok-events.ensures.gives in
    let asked : AreQuestionsUnder (g.S.Shelf.under c.load_schedule.new.shelf) p q.sessions (questions_of ss) = search rules in
    let replay : IsReplay p q.limits (questions_of ss) events (reported c.in_ok-solved.solved.report) =
    subst (λ (x : Presented). IsReplay x q.limits (questions_of ss) events (reported c.in_ok-solved.solved.report)) arc (search rules) in
    due (CountRose (g.S.Shelf.faults c.args.shelf.now) (g.S.Shelf.faults c.load_sessions.new.shelf)) under q p events ss c.in_ok-solved.solved presented told
    (asked_same (g.S.Shelf.under c.load_schedule.new.shelf) under (λ n. c.load_schedule.ensures.same n ∙ c.load_presentation.ensures.same n) p q.sessions
    (questions_of ss) asked) replay c.in_ok-solved.ensures.last
