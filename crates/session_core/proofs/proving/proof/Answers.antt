use Rattle.std.proofs.Common.{List, length, take, sym, subst}
use Rattle.free_words.specs.declared.letter.Letter.{Letter}
use Rattle.module_vec.specs.declared.places.Term.{Term}
use Rattle.module_vec.specs.Vectors.{coefficient_at}
use Rattle.reduce_cofactor.specs.Answers.{Fails}
use Rattle.reduce_cofactor.proofs.Resting.{err_matches}
use Rattle.hom_check.specs.Subjects.{subject_at}
use Rattle.hom_check.specs.Shown.{fox_at}
use Rattle.hom_check.proofs.Fitting.{Fits, subject_fits}
use Rattle.session_core.specs.Proofs.{AreStepsOf}
use Rattle.session_core.proofs.StepSums.{steps_of, fails_of, steps_add_up}
use Rattle.session_core.proofs.proving.proof.Goals as goal

pub subject-requires-clause-short : goal.subject-requires-clause-short
subject-requires-clause-short g c =
    let fits : Fits (length c.args.p.now.names) (subject_at c.args.q.now c.args.number) =
    subject_fits c.args.p.now c.args.q.now c.args.number c.requires.question.0 c.requires.question.1 c.requires.number c.requires.within in
    fits.1

pub fox-requires-clause-over : goal.fox-requires-clause-over
fox-requires-clause-over g c =
    let fits : Fits (length c.args.p.now.names) c.in_ok-w.w =
    subst (Fits (length c.args.p.now.names)) (sym c.in_ok-w.ensures) (subject_fits c.args.p.now c.args.q.now c.args.number c.requires.question.0
    c.requires.question.1 c.requires.number c.requires.within) in
    fits.0

pub fox-requires-clause-short : goal.fox-requires-clause-short
fox-requires-clause-short g c =
    let fits : Fits (length c.args.p.now.names) c.in_ok-w.w =
    subst (Fits (length c.args.p.now.names)) (sym c.in_ok-w.ensures) (subject_fits c.args.p.now c.args.q.now c.args.number c.requires.question.0
    c.requires.question.1 c.requires.number c.requires.within) in
    fits.1

pub returns-in_err-steps-clause-is : goal.returns-in_err-steps-clause-is
returns-in_err-steps-clause-is g c =
    let b : List (List Term) = take c.args.front (g.L.VecList.vectors c.args.list.now) in
    let w : List Letter = subject_at c.args.q.now c.args.number in
    err_matches _ c.from_residual-in_err-steps.result _ (Fails b (fox_at w)) c.from_residual-in_err-steps.ensures.1
    (λ e same. fails_of b w c.in_ok-w.w c.in_ok-vector.vector e c.in_ok-w.ensures c.in_ok-vector.ensures.is
    (subst (Fails b (coefficient_at c.in_ok-vector.vector)) (sym same) c.in_err-steps.ensures))

pub returns-clause-sum : goal.returns-clause-sum
returns-clause-sum g c =
    let b : List (List Term) = take c.args.front (g.L.VecList.vectors c.args.list.now) in
    let w : List Letter = subject_at c.args.q.now c.args.number in
    let of : AreStepsOf b w c.of.result = subst (AreStepsOf b w) (sym c.of.ensures)
    (steps_of b w c.in_ok-w.w c.in_ok-vector.vector c.in_ok-steps.field-0-0 c.in_ok-steps.steps.items c.in_ok-w.ensures c.in_ok-vector.ensures.is
    c.in_ok-steps.ensures) in
    steps_add_up b w c.of.result of
