use Rattle.std.proofs.Common.{◌≡◌, ◌∷◌, [], ◌++◌, List, length, sym, ap, subst, ◌∙◌, append_assoc, append-nil, arith, refl}
use Rattle.std.specs.Vec.Iter.{into_iter_items}
use Rattle.legal_report.specs.Seats.{AreKept}
use Rattle.legal_report.proofs.Actors.{one_kept, none_kept}
use Rattle.legal_report.proofs.seating.all_kept.Goals as goal

nothing_left : {X : Type 0} (l : List X) → length l ≡ 0 → l ≡ []
nothing_left [] h = refl
nothing_left (x ∷ xs) h = absurd (omega arith)

pub loop-actor-preserved : goal.loop-actor-preserved
loop-actor-preserved c =
    let at = c.loop-actor in
    let x = c.in-Some.actor in
    let es = c.args.book.now.entries in
    let seal = c.args.book.now.seal in
    let steps : into_iter_items at.actor-iterator ≡ x ∷ into_iter_items c.next.new.self = c.in-Some.ensures.steps.0 in (
      append_assoc at.yielded (x ∷ []) _ ∙ rw (← steps) at.invariant.0,
      subst (AreKept es seal (at.yielded ++ x ∷ [])) (sym c.in_ok-push.ensures.items)
          (one_kept es seal at.yielded at.sessions.items x c.kept.result at.invariant.1 c.kept.ensures),
      let was = at.invariant.2 in
          let gone = c.in-Some.ensures.steps.1 in
          let short = ap length steps in
          omega arith,
    )

pub returns : goal.returns
returns c =
    let at = c.loop-actor in
    let none = c.in-None.ensures.steps in
    let empty : into_iter_items at.actor-iterator ≡ [] = nothing_left _ (sym at.invariant.2 ∙ none.0) in
    let all = sym (append-nil at.yielded) ∙ rw empty at at.invariant.0 ∙ c.into_iter-actor-iterator.ensures.into_iter_gives.0 in
    subst (λ l. AreKept c.args.book.now.entries c.args.book.now.seal l at.sessions.items) all at.invariant.1
