use Rattle.std.proofs.Common.{List, length, take, subst}
use Rattle.free_words.specs.declared.letter.Letter.{Letter}
use Rattle.module_vec.specs.declared.places.Term.{Term}
use Rattle.reduce_cofactor.specs.declared.faults.ReduceFault.TheVariants as faults
use Rattle.reduce_cofactor.specs.Answers.{Fails}
use Rattle.hom_check.specs.Subjects.{subject_at}
use Rattle.hom_check.specs.Shown.{fox_at}
use Rattle.hom_check.proofs.Fitting.{Fits, subject_fits}
use Rattle.session_core.specs.Proofs.{AreStepsOf}
use Rattle.basis_entry.specs.Entries.{vectors_of}
use Rattle.basis_entry.specs.Items.{vectors_below}
use Rattle.report_text.proofs.Lists.{vectors_over}
use Rattle.report_text.proofs.Chains.{steps_over}
use Rattle.report_text.proofs.Verdicts.{shown_or_stop}
use Rattle.report_text.proofs.showing.steps_of.Goals as goal

pub unreachable-requires : goal.unreachable-requires
unreachable-requires c =
    let b : List (List Term) = vectors_below c.args.log.now.entries c.args.front in
    let w : List Letter = subject_at c.args.q.now c.args.number in
    shown_or_stop b w c.in-Err-Stop.field-0-0 c.requires.shown
    (subst (λ (v : List (List Term)). Fails v (fox_at w) (faults.Stop c.in-Err-Stop.field-0-0)) c.entries_below-count.ensures.is
    (subst (λ f. Fails (take c.entries_below-count.result (vectors_of c.args.log.now.entries)) (fox_at w) f) c.in-Err-Stop.field-0-is
    c.in-Err-Stop.ensures.is))

pub returns-in-Ok-clause-is : goal.returns-in-Ok-clause-is
returns-in-Ok-clause-is c =
    let w : List Letter = subject_at c.args.q.now c.args.number in
    subst (λ (v : List (List Term)). AreStepsOf v w c.in-Ok.steps) c.entries_below-count.ensures.is c.in-Ok.ensures.is

pub returns-in-Ok-clause-over : goal.returns-in-Ok-clause-over
returns-in-Ok-clause-over c =
    let b : List (List Term) = vectors_below c.args.log.now.entries c.args.front in
    let w : List Letter = subject_at c.args.q.now c.args.number in
    let are : AreStepsOf b w c.in-Ok.steps = subst (λ (v : List (List Term)). AreStepsOf v w c.in-Ok.steps) c.entries_below-count.ensures.is
    c.in-Ok.ensures.is in
    let fits : Fits (length c.args.log.now.pres.names) w = subject_fits c.args.log.now.pres c.args.q.now c.args.number c.requires.asked.0 c.requires.asked.1
    c.requires.first c.requires.within in
    steps_over (length c.args.log.now.pres.names) b c.entries_below-count.ensures.entries
    (vectors_over (length c.args.log.now.pres.names) c.args.front c.args.log.now.entries c.pres.ensures.log.over)
    w fits.0 fits.1 are.0 c.in-Ok.steps are.1
