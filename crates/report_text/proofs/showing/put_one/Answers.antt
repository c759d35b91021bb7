use Rattle.std.proofs.Common.{◌≡◌, ◌++◌, ◌∷◌, [], ℕ, List, ap, subst, ◌∙◌}
use Rattle.free_words.specs.declared.letter.Letter.{Letter}
use Rattle.module_vec.specs.declared.places.Term.{Term}
use Rattle.module_vec.specs.declared.steps.Step.{Step}
use Rattle.report_lines.specs.declared.lines.Line.TheVariants as lines
use Rattle.report_lines.specs.Texts.{line_text}
use Rattle.hom_check.specs.Subjects.{subject_at}
use Rattle.basis_entry.specs.Items.{vectors_below}
use Rattle.report_text.specs.Writing.{Puts}
use Rattle.report_text.proofs.Verdicts.{one_proof}
use Rattle.report_text.proofs.showing.put_one.Goals as goal

pub returns-clause-text : goal.returns-clause-text
returns-clause-text g c = λ steps are.
    let b : List (List Term) = vectors_below c.args.log.now.entries c.args.front in
    let w : List Letter = subject_at c.args.q.now c.args.number in
    let same : c.in_ok-steps.steps ≡ steps = one_proof b w c.in_ok-steps.steps steps c.in_ok-steps.ensures.is are in
    let text : c.put_proof.new.out.items ≡ line_text c.args.log.now.pres (lines.Proof c.args.number steps) =
    (rw c.pres.ensures.is at c.in_ok-put_proof.ensures)
    ∙ ap (λ (t : List ℕ). t ++ line_text c.args.log.now.pres (lines.Proof c.args.number c.in_ok-steps.steps)) c.new-line.ensures.items
    ∙ ap (λ (s : List Step). line_text c.args.log.now.pres (lines.Proof c.args.number s)) same in
    subst (λ (t : List ℕ). Puts (g.K.Sink.taken c.args.out.now) (t ++ 10 ∷ []) c.put_with_end.result (g.K.Sink.taken c.put_with_end.new.out)) text
    c.put_with_end.ensures.text
