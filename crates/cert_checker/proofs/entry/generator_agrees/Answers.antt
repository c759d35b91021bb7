use Rattle.std.proofs.Common.{sym, ap, ◌∙◌, subst}
use Rattle.module_vec.specs.Vectors.{coefficient_at}
use Rattle.module_vec.specs.Results.{IsGreatest}
use Rattle.step_lists.specs.Partial.{Differ}
use Rattle.cert_checker.specs.Checking.{signed}
use Rattle.cert_checker.proofs.entry.generator_agrees.Goals as goal

pub returns-in-Some : goal.returns-in-Some
returns-in-Some c gens entries i here = (
  coefficient_at c.in_ok-generator.generator,
  λ x. c.in_ok-generator.ensures x ∙ ap (λ g. signed c.args.negated g x) (sym here),
  subst (λ v. IsGreatest (Differ v c.args.vector.now) c.in-Some.at) c.of.ensures c.in-Some.ensures,
)
