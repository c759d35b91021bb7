use Rattle.std.proofs.Common.{rules, ◌≡◌, subst}
use Rattle.std.specs.Arc.{arc_value}
use Rattle.std.specs.Prelude.{MatchResult}
use Rattle.presentation.specs.Presented.{Presented}
use Rattle.basis_log.specs.Items.{AreItems, entries_of, seal_of}
use Rattle.basis_log.specs.Seats.{Seen}
use Rattle.session_core.specs.Sessions.{SessionState}
use Rattle.completion_workers.specs.Asking.{HasAsked}
use Rattle.completion_workers.proofs.Going.{looked, asked_or_not}
use Rattle.completion_workers.proofs.asking.ask_next.Goals as goal

pub returns-in_err-look-clause-goes : goal.returns-in_err-look-clause-goes
returns-in_err-look-clause-goes c =
    let p : Presented = arc_value c.args.shared.now.p.now in
    let after : Seen = c.look.new.seat in
    let items : AreItems p after.items = subst (λ (x : Presented). AreItems x after.items) c.requires.can.source c.look.ensures.items in
    looked p c.args.session.now c.args.seat.now after items c.look.ensures.grows c.requires.can

pub returns-clause-goes : goal.returns-clause-goes
returns-clause-goes c =
    let p : Presented = arc_value c.args.shared.now.p.now in
    let after : Seen = c.look.new.seat in
    let s : SessionState = c.args.session.now in
    let t : SessionState = c.ask.new.session in
    let items : AreItems p after.items = subst (λ (x : Presented). AreItems x after.items) c.requires.can.source c.look.ensures.items in
    let asked : MatchResult c.ask.result (λ _. HasAsked p (entries_of after.items) (seal_of after.items) s t) (λ _. t ≡ s) = search rules in
    asked_or_not c.ask.result p s t c.args.seat.now after items c.look.ensures.grows c.requires.next c.requires.can asked
