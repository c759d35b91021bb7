use Rattle.std.proofs.Common.{◌≡◌, ◌<◌, ◌+◌, List, [], ◌∷◌, length, drop, refl, sym, subst, arith}
use Rattle.std.specs.Prelude.{Ok, Err}
use Rattle.std.proofs.lemmas.List.{drop_all}
use Rattle.std.proofs.lemmas.Result.{err_from_is_err_and}
use Rattle.module_vec.specs.declared.places.Term.{Term}
use Rattle.module_vec.specs.declared.steps.Step.{Step}
use Rattle.module_vec.specs.Vectors.{coefficient_at, HasRoom}
use Rattle.module_vec.proofs.FallingTerms.{drop_read}
use Rattle.step_lists.specs.Sums.{zero_vector}
use Rattle.strong_pairs.proofs.Entered.{entry_vector}
use Rattle.cert_checker.specs.States.{IsNear}
use Rattle.cert_checker.proofs.Lists.{all_read}
use Rattle.saved_basis.specs.declared.faults.LineFault.{LineFault}
use Rattle.saved_basis.proofs.Passing.{Passes, one_more, step_fails, passes_from_zero}
use Rattle.saved_basis.proofs.lines.sum_of.Goals as goal

pub loop-step-init : goal.loop-step-init
loop-step-init g c = λ r h. passes_from_zero (g.L.VecList.vectors c.args.list.now) c.args.steps.now c.empty-sum.result r c.empty-sum.ensures h

pub pass-requires-clause-room : goal.pass-requires-clause-room
pass-requires-clause-room g c =
    let b : List (List Term) = g.L.VecList.vectors c.args.list.now in
    let s : Step = c.step-item.result in
    let near : IsNear b s = all_read (IsNear b) c.args.steps.now c.loop-step.step-index s c.requires.near c.loop-step-test.true c.step-item.is in
    let there : s.by < length b = omega (arith, c.count-count.ensures.is, c.if-step-count.false) in
    subst (HasRoom s.t) (entry_vector b s.by c.vector.result.now c.vector.ensures.is) (near there)

pub returns-in_err-sum : goal.returns-in_err-sum
returns-in_err-sum g c =
    let b : List (List Term) = g.L.VecList.vectors c.args.list.now in
    let s : Step = c.step-item.result in
    let p = err_from_is_err_and c.from_residual.result c.from_residual.ensures.1 in
    let rest : List Step = drop (c.loop-step.step-index + 1) c.args.steps.now in
    let split : drop c.loop-step.step-index c.args.steps.now ≡ s ∷ rest =
    drop_read c.args.steps.now c.loop-step.step-index s c.loop-step-test.true c.step-item.is in
    let there : s.by < length b = omega (arith, c.count-count.ensures.is, c.if-step-count.false) in
    let one = step_fails b (coefficient_at c.loop-step.sum) s rest c.vector.result.now there
    (sym (entry_vector b s.by c.vector.result.now c.vector.ensures.is)) c.in_err-sum.field-0.0 c.in_err-sum.ensures in
    let same : Passes b (coefficient_at c.loop-step.sum) (s ∷ rest) (Err p.0) =
    subst (λ (e : LineFault). Passes b (coefficient_at c.loop-step.sum) (s ∷ rest) (Err e)) (sym p.2) one in
    subst (Passes b zero_vector c.args.steps.now) (sym p.1)
    (c.loop-step.invariant (Err p.0) (subst (λ ss. Passes b (coefficient_at c.loop-step.sum) ss (Err p.0)) (sym split) same))

pub loop-step-preserved : goal.loop-step-preserved
loop-step-preserved g c = λ r h.
    let b : List (List Term) = g.L.VecList.vectors c.args.list.now in
    let s : Step = c.step-item.result in
    let rest : List Step = drop (c.loop-step.step-index + 1) c.args.steps.now in
    let split : drop c.loop-step.step-index c.args.steps.now ≡ s ∷ rest =
    drop_read c.args.steps.now c.loop-step.step-index s c.loop-step-test.true c.step-item.is in
    let there : s.by < length b = omega (arith, c.count-count.ensures.is, c.if-step-count.false) in
    let one = one_more b (coefficient_at c.loop-step.sum) s rest c.vector.result.now there
    (sym (entry_vector b s.by c.vector.result.now c.vector.ensures.is)) c.in_ok-sum.sum c.in_ok-sum.ensures r h in
    c.loop-step.invariant r (subst (λ ss. Passes b (coefficient_at c.loop-step.sum) ss r) (sym split) one)

pub returns : goal.returns
returns g c =
    let b : List (List Term) = g.L.VecList.vectors c.args.list.now in
    let none : drop c.loop-step.step-index c.args.steps.now ≡ [] = drop_all c.loop-step.step-index c.args.steps.now c.loop-step-test.false in
    c.loop-step.invariant (Ok c.loop-step.sum) (subst (λ ss. Passes b (coefficient_at c.loop-step.sum) ss (Ok c.loop-step.sum)) (sym none) (tt, λ x. refl))
