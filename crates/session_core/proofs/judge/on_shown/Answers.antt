use Rattle.std.proofs.Common.{subst}
use Rattle.hom_check.specs.declared.shown.Shown.{Shown}
use Rattle.hom_check.specs.Shown.{Shows}
use Rattle.session_core.proofs.judge.on_shown.Goals as goal

pub returns-in-All : goal.returns-in-All
returns-in-All c = λ p b seal same shown. c.on_all.ensures p b seal (subst (λ (s : Shown). Shows b c.args.q.now s) c.in-All.is shown)

pub returns-in-Rest : goal.returns-in-Rest
returns-in-Rest c = λ p b seal same shown. c.on_rest.ensures p b seal same (subst (λ (s : Shown). Shows b c.args.q.now s) c.in-Rest.is shown)
