use Rattle.std.proofs.Common.{rules, ◌≡◌, ◌∷◌, [], None, Some, length, ap, ◌∙◌, append_assoc, arith}
use Rattle.std.specs.Vec.Iter.{into_iter_items}
use Rattle.threaded_run.specs.Parts.{session_in}
use Rattle.threaded_run.proofs.Casting.{one_seated, none_seated}
use Rattle.threaded_run.proofs.cast.seated.Goals as goal

pub loop-actor-preserved-in-Continue-branch-2 : goal.loop-actor-preserved-in-Continue-branch-2
loop-actor-preserved-in-Continue-branch-2 c =
    let at = c.loop-actor in
    let x = c.in-Some.actor in
    let steps : into_iter_items at.actor-iterator ≡ x ∷ into_iter_items c.next.new.self = c.in-Some.ensures.steps.0 in
    let one : session_in x ≡ Some c.in-Some-session_of.session = search rules in (
      append_assoc at.yielded (x ∷ []) _ ∙ rw (← steps) at.invariant.0,
      c.in_ok-push.ensures.items ∙ one_seated at.yielded x c.in-Some-session_of.session at.seated.items at.invariant.1 one,
      let was = at.invariant.2 in
          let gone = c.in-Some.ensures.steps.1 in
          let short = ap length steps in
          omega arith,
    )

pub loop-actor-preserved : goal.loop-actor-preserved
loop-actor-preserved c =
    let at = c.loop-actor in
    let x = c.in-Some.actor in
    let steps : into_iter_items at.actor-iterator ≡ x ∷ into_iter_items c.next.new.self = c.in-Some.ensures.steps.0 in
    let none : session_in x ≡ None = search rules in (
      append_assoc at.yielded (x ∷ []) _ ∙ rw (← steps) at.invariant.0,
      none_seated at.yielded x at.seated.items at.invariant.1 none,
      let was = at.invariant.2 in
          let gone = c.in-Some.ensures.steps.1 in
          let short = ap length steps in
          omega arith,
    )
