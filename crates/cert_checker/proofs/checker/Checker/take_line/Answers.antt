use Rattle.std.proofs.Common.{sym, subst}
use Rattle.std.specs.Prelude.{Err}
use Rattle.std.proofs.lemmas.Result.{err_from_is_err_and}
use Rattle.cert_checker.specs.Checking.{LineAgrees, LineDisagrees, Outcome, TakesLine}
use Rattle.cert_checker.proofs.Agreeing.{line_ends}
use Rattle.cert_checker.proofs.checker.Checker.take_line.Goals as goal

pub returns-in_err-agrees : goal.returns-in_err-agrees
returns-in_err-agrees c =
    let p = err_from_is_err_and c.from_residual.result c.from_residual.ensures.1 in
    subst (TakesLine c.args.generators.now c.args.self c.args.line) (sym p.1)
    (line_ends c.args.generators.now c.args.self c.args.line (λ _. LineAgrees c.args.generators.now c.args.self c.args.line) p.0
    (c.may_follow.ensures.0 c.if-not-may_follow.false)
    (subst (λ e. Outcome {X = Unit {0}} (λ _. LineAgrees c.args.generators.now c.args.self c.args.line)
    (LineDisagrees c.args.generators.now c.args.self c.args.line)
    (Err e)) (sym p.2) c.in_err-agrees.ensures))

pub with-requires-clause-valid : goal.with-requires-clause-valid
with-requires-clause-valid c = (c.args.self.version, c.args.p.now, c.requires.valid)
