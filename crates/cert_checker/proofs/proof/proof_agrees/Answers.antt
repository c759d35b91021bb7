use Rattle.std.proofs.Common.{sym, subst}
use Rattle.std.specs.Prelude.{Err}
use Rattle.std.proofs.lemmas.Result.{err_from_is_err_and}
use Rattle.fox_calculus.specs.Fox.{fox}
use Rattle.fox_calculus.specs.Generators.{IsWritten}
use Rattle.module_vec.specs.Vectors.{coefficient_at}
use Rattle.step_lists.specs.declared.way.Way.TheVariants.{Take}
use Rattle.step_lists.specs.Sums.{zero_vector}
use Rattle.cert_checker.specs.Checking.{Outcome, StepsLead, fox_at, ProofFails}
use Rattle.cert_checker.proofs.Passing.{Passes}
use Rattle.cert_checker.proofs.Agreeing.{proof_fails, leads_from_fox}
use Rattle.cert_checker.proofs.proof.proof_agrees.Goals as goal

pub returns-in_err-sum : goal.returns-in_err-sum
returns-in_err-sum c =
    let p = err_from_is_err_and c.from_residual-in_err-sum.result c.from_residual-in_err-sum.ensures.1 in
    let h : Passes Take c.args.entries.now (coefficient_at c.of.result) c.args.steps.now (Err p.0) =
    subst (λ e. Passes Take c.args.entries.now (coefficient_at c.of.result) c.args.steps.now (Err e)) (sym p.2) c.in_err-sum.ensures in
    let written : IsWritten (fox c.args.word.now) c.of.result = subst (IsWritten (fox c.args.word.now)) (sym c.of.ensures) c.in_ok-vector.ensures.is in
    subst (Outcome (λ _. StepsLead Take c.args.entries.now (fox_at c.args.word.now) c.args.steps.now zero_vector)
    (ProofFails c.args.entries.now c.args.word.now c.args.steps.now)) (sym p.1)
    (proof_fails c.args.entries.now c.args.word.now c.of.result c.args.steps.now p.0 written h)

pub returns-in-Some : goal.returns-in-Some
returns-in-Some c =
    let written : IsWritten (fox c.args.word.now) c.of.result = subst (IsWritten (fox c.args.word.now)) (sym c.of.ensures) c.in_ok-vector.ensures.is in (
      coefficient_at c.in_ok-sum.sum,
      leads_from_fox c.args.entries.now c.args.word.now c.of.result c.args.steps.now (coefficient_at c.in_ok-sum.sum) written
          c.in_ok-sum.ensures,
      c.in-Some.ensures,
    )
