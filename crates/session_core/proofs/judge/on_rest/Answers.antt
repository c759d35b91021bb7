use Rattle.std.proofs.Common.{rules, ◌≡◌, false, sym, subst}
use Rattle.session_core.specs.Questions.{AsksWhetherTrivial, AsksWhetherExtends}
use Rattle.session_core.specs.Verdicts.{LeavesSome}
use Rattle.session_core.proofs.Judging.{some_rest, not_sealed, only_one, one_subject}
use Rattle.session_core.proofs.judge.on_rest.Goals as goal

pub returns-then-not-sealed : goal.returns-then-not-sealed
returns-then-not-sealed c = λ p b seal same first.
    let off : c.args.sealed ≡ false = search rules in
    (not_sealed c.args.sealed p seal off same, some_rest b c.args.q.now c.args.subject c.args.rest first)

pub returns-in-Hom : goal.returns-in-Hom
returns-in-Hom c = λ p b seal same first.
    (same.0 c.if-not-sealed.false, subst AsksWhetherExtends (sym c.in-Hom.is) tt, some_rest b c.args.q.now c.args.subject c.args.rest first)

pub returns-in-Trivial : goal.returns-in-Trivial
returns-in-Trivial c = λ p b seal same first.
    let asks : AsksWhetherTrivial c.args.q.now = search rules in (
      same.0 c.if-not-sealed.false,
      asks,
      only_one b c.args.q.now c.args.subject (LeavesSome b) (one_subject c.args.q.now asks)
          (some_rest b c.args.q.now c.args.subject c.args.rest first),
    )
