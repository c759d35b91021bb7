use Rattle.std.proofs.Common.{sym, ◌∙◌}
use Rattle.saved_basis.specs.Files.{title}
use Rattle.saved_basis.proofs.Texts.{no_title, other_title, behind_line, no_presentation, other_presentation, behind_both, head_at}
use Rattle.saved_basis.proofs.reading.behind_head.Goals as goal

pub returns-in_default-clause-fault : goal.returns-in_default-clause-fault
returns-in_default-clause-fault c =
    head_at c.args.p.now c.args.text.now 1 c.no_text.result c.no_text.ensures (no_title c.args.p.now c.args.text.now c.in_default.ensures.parts)

pub returns-then-not-is_title-clause-fault : goal.returns-then-not-is_title-clause-fault
returns-then-not-is_title-clause-fault c =
    head_at c.args.p.now c.args.text.now 1 c.no_text-then-not-is_title.result c.no_text-then-not-is_title.ensures
    (other_title c.args.p.now c.args.text.now c.in-Some.first.now c.in-Some.others.now c.in-Some.ensures.parts
    (λ same. let wrong = sym (c.is_title.ensures.1 same) ∙ c.if-not-is_title.true in cc))

pub returns-in_default-cut-clause-fault : goal.returns-in_default-cut-clause-fault
returns-in_default-cut-clause-fault c =
    head_at c.args.p.now c.args.text.now 2 c.no_text-in_default-cut.result c.no_text-in_default-cut.ensures
    (no_presentation c.args.p.now c.args.text.now c.in-Some.others.now
    (behind_line title c.args.text.now c.in-Some.first.now c.in-Some.others.now c.in-Some.ensures.parts (c.is_title.ensures.0 c.if-not-is_title.false))
    c.in_default-cut.ensures.parts)

pub returns-then-not-branch-clause-fault : goal.returns-then-not-branch-clause-fault
returns-then-not-branch-clause-fault c =
    head_at c.args.p.now c.args.text.now 2 c.no_text-then-not-branch.result c.no_text-then-not-branch.ensures
    (other_presentation c.args.p.now c.args.text.now c.in-Some.others.now c.in-Some-cut.second.now c.in-Some-cut.body.now
    (behind_line title c.args.text.now c.in-Some.first.now c.in-Some.others.now c.in-Some.ensures.parts (c.is_title.ensures.0 c.if-not-is_title.false))
    c.in-Some-cut.ensures.parts
    (λ same. let wrong = sym (c.in_ok-is_pres_line.ensures.1 same) ∙ c.if-not-branch.true in cc))

pub returns-clause-body : goal.returns-clause-body
returns-clause-body c =
    behind_both c.args.p.now c.args.text.now c.in-Some.others.now c.in-Some-cut.second.now c.in-Some-cut.body.now
    (behind_line title c.args.text.now c.in-Some.first.now c.in-Some.others.now c.in-Some.ensures.parts (c.is_title.ensures.0 c.if-not-is_title.false))
    c.in-Some-cut.ensures.parts
    (c.in_ok-is_pres_line.ensures.0 c.if-not-branch.false)
