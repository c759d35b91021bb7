use Rattle.std.proofs.Common.{◌≡◌, ◌+◌, ◌∷◌, [], ◌++◌, List, Some, false, length, slice_get, sym, ap, subst, ◌∙◌, append_assoc, arith, refl}
use Rattle.std.specs.Arc.{arc_value}
use Rattle.std.specs.Vec.Iter.{into_iter_items}
use Rattle.presentation.specs.Presented.{Presented}
use Rattle.basis_log.specs.Rows.{row_source}
use Rattle.basis_log.specs.Seats.{Seen, items_of}
use Rattle.session_core.specs.Sessions.{SessionState}
use Rattle.completion_workers.specs.declared.actors.Actor.{Actor}
use Rattle.completion_workers.specs.Acting.{IsFresh}
use Rattle.threaded_run.specs.Parts.{AreCast}
use Rattle.threaded_run.proofs.Casting.{worker_cast, session_cast, fresh, mid_get}
use Rattle.threaded_run.proofs.cast.cast.Goals as goal

pub loop-number-preserved : goal.loop-number-preserved
loop-number-preserved c =
    let p : Presented = arc_value c.args.p.now in
    let source = ap (λ (s : Seen). row_source s.row) c.in_ok-seat.ensures ∙ c.requires.source in
    subst (AreCast p (c.loop-number.number + 1) []) (sym {A = List Actor} c.in_ok-push.ensures.items)
    (worker_cast p c.loop-number.number c.loop-number.actors.items c.in_ok-seat.seat c.loop-number.invariant source)

pub loop-session-preserved : goal.loop-session-preserved
loop-session-preserved c =
    let p : Presented = arc_value c.args.p.now in
    let at = c.loop-session in
    let x = c.in-Some.session in
    let steps : into_iter_items at.session-iterator ≡ x ∷ into_iter_items c.next.new.self = c.in-Some.ensures.steps.0 in
    let all : at.yielded ++ x ∷ into_iter_items c.next.new.self ≡ c.args.sessions.items =
    rw (← steps) (at.invariant.0 ∙ c.into_iter-session-iterator.ensures.into_iter_gives.0) in
    let here = subst (λ (ss : List SessionState). slice_get ss (length at.yielded) ≡ Some x) all (mid_get at.yielded (into_iter_items c.next.new.self) x) in
    let seen : Seen = record { row = c.args.row.now; items = items_of c.args.row.now.base []; spare = false } in
    let new : IsFresh p x seen false = fresh p _ x seen c.requires.source refl (c.requires.sessions (length at.yielded) x here) in (
      append_assoc at.yielded (x ∷ []) _ ∙ rw (← steps) at.invariant.0,
      subst (AreCast p c.args.workers (at.yielded ++ x ∷ [])) (sym {A = List Actor} c.in_ok-push-2.ensures.items)
          (session_cast p c.args.workers at.yielded at.actors.items x c.in_ok-seat-2.seat at.invariant.1
          (subst (λ (s : Seen). IsFresh p x s false) (sym c.in_ok-seat-2.ensures) new)),
      let was = at.invariant.2 in
          let gone = c.in-Some.ensures.steps.1 in
          let short = ap length steps in
          omega arith,
    )
