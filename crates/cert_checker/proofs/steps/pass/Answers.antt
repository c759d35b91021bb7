use Rattle.std.proofs.Common.{◌≡◌, ◌+◌, List, [], ◌∷◌, drop, refl, sym, subst}
use Rattle.std.specs.Prelude.{Ok, Err}
use Rattle.std.proofs.lemmas.List.{drop_all}
use Rattle.std.proofs.lemmas.Result.{err_from_is_err_and}
use Rattle.module_vec.specs.declared.steps.Step.{Step}
use Rattle.module_vec.specs.Vectors.{coefficient_at}
use Rattle.module_vec.proofs.FallingTerms.{drop_read}
use Rattle.cert_checker.specs.declared.faults.CertKind.TheVariants.{NoEntry}
use Rattle.cert_checker.specs.declared.faults.LineFault.TheVariants as faults
use Rattle.cert_checker.proofs.Passing.{Passes, none_there, one_more, step_fails}
use Rattle.cert_checker.proofs.steps.pass.Goals as goal

pub returns-in_default : goal.returns-in_default
returns-in_default c =
    let rest : List Step = drop (c.loop-step.step-index + 1) c.args.steps.now in
    let split : drop c.loop-step.step-index c.args.steps.now ≡ c.step-item.result ∷ rest =
    drop_read c.args.steps.now c.loop-step.step-index c.step-item.result c.loop-step-test.true c.step-item.is in
    let one = none_there c.args.way c.args.entries.now (coefficient_at c.loop-step.sum) c.step-item.result rest c.in_default.ensures in
    c.loop-step.invariant (Err (faults.Fails NoEntry)) (subst (λ ss. Passes c.args.way c.args.entries.now (coefficient_at c.loop-step.sum) ss
    (Err (faults.Fails NoEntry))) (sym split) one)

pub returns-in_err-sum : goal.returns-in_err-sum
returns-in_err-sum c =
    let p = err_from_is_err_and c.from_residual.result c.from_residual.ensures.1 in
    let rest : List Step = drop (c.loop-step.step-index + 1) c.args.steps.now in
    let split : drop c.loop-step.step-index c.args.steps.now ≡ c.step-item.result ∷ rest =
    drop_read c.args.steps.now c.loop-step.step-index c.step-item.result c.loop-step-test.true c.step-item.is in
    let one = step_fails c.args.way c.args.entries.now (coefficient_at c.loop-step.sum) c.step-item.result rest c.in-Some.entry.now c.in-Some.ensures.0
    c.in-Some.ensures.1 c.in_err-sum.field-0.0 p.0 c.in_err-sum.ensures p.2 in
    subst (λ r. Passes c.args.way c.args.entries.now (coefficient_at c.args.sum) c.args.steps.now r) (sym p.1)
    (c.loop-step.invariant (Err p.0) (subst (λ ss. Passes c.args.way c.args.entries.now (coefficient_at c.loop-step.sum) ss (Err p.0)) (sym split) one))

pub loop-step-preserved : goal.loop-step-preserved
loop-step-preserved c r h =
    let rest : List Step = drop (c.loop-step.step-index + 1) c.args.steps.now in
    let split : drop c.loop-step.step-index c.args.steps.now ≡ c.step-item.result ∷ rest =
    drop_read c.args.steps.now c.loop-step.step-index c.step-item.result c.loop-step-test.true c.step-item.is in
    let one = one_more c.args.way c.args.entries.now (coefficient_at c.loop-step.sum) c.step-item.result rest c.in-Some.entry.now c.in-Some.ensures.0
    c.in-Some.ensures.1 c.in_ok-sum.sum c.in_ok-sum.ensures r h in
    c.loop-step.invariant r (subst (λ ss. Passes c.args.way c.args.entries.now (coefficient_at c.loop-step.sum) ss r) (sym split) one)

pub returns : goal.returns
returns c =
    let none : drop c.loop-step.step-index c.args.steps.now ≡ [] = drop_all c.loop-step.step-index c.args.steps.now c.loop-step-test.false in
    c.loop-step.invariant (Ok c.loop-step.sum) (subst (λ ss. Passes c.args.way c.args.entries.now (coefficient_at c.loop-step.sum) ss (Ok c.loop-step.sum))
    (sym none) (tt, λ x. refl))
