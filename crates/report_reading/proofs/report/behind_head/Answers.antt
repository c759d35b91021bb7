use Rattle.std.proofs.Common.{rules, sym, ◌∙◌}
use Rattle.std.proofs.lemmas.Result.{err_from_is_err_and}
use Rattle.report_lines.specs.Texts.{title}
use Rattle.report_lines.specs.Trimmed.{trimmed_title}
use Rattle.report_reading.proofs.Heads.{behind_line, no_title, other_title, whole_second, trimmed_second, third_at, whole_head, trimmed_head}
use Rattle.report_reading.proofs.report.behind_head.Goals as goal

pub returns-in_default-clause-fault : goal.returns-in_default-clause-fault
returns-in_default-clause-fault c = no_title c.args.p.now c.args.text.now c.in_default.ensures.parts

pub returns-in_err-body-clause-fault : goal.returns-in_err-body-clause-fault
returns-in_err-body-clause-fault c =
    let q = err_from_is_err_and c.from_residual.result c.from_residual.ensures.1 in
    rw (q.1, q.2) (whole_second c.args.p.now c.args.text.now c.in-Some.others.now
    (behind_line title c.args.text.now c.in-Some.first.now c.in-Some.others.now c.in-Some.ensures.parts (c.is_title.ensures.0 c.if-is_title.true))
    c.in_err-body.field-0.0 c.in_err-body.ensures.fault)

pub returns-then-is_title-clause-body : goal.returns-then-is_title-clause-body
returns-then-is_title-clause-body c = (
  tt,
  whole_head c.args.p.now c.args.text.now c.in-Some.others.now c.in_ok-body.body.now
      (behind_line title c.args.text.now c.in-Some.first.now c.in-Some.others.now c.in-Some.ensures.parts (c.is_title.ensures.0 c.if-is_title.true))
      c.in_ok-body.ensures.body,
)

pub returns-in_err-more-clause-fault : goal.returns-in_err-more-clause-fault
returns-in_err-more-clause-fault c =
    let q = err_from_is_err_and c.from_residual-in_err-more.result c.from_residual-in_err-more.ensures.1 in
    rw (q.1, q.2) (trimmed_second c.args.p.now c.args.text.now c.in-Some.others.now
    (behind_line trimmed_title c.args.text.now c.in-Some.first.now c.in-Some.others.now c.in-Some.ensures.parts
    (c.is_trimmed_title.ensures.0 c.if-is_trimmed_title.true))
    c.in_err-more.field-0.0 c.in_err-more.ensures.fault)

pub returns-in_err-items-clause-fault : goal.returns-in_err-items-clause-fault
returns-in_err-items-clause-fault c =
    let q = err_from_is_err_and c.from_residual-in_err-items.result c.from_residual-in_err-items.ensures.1 in
    rw (q.1, q.2) (third_at c.args.p.now c.args.text.now c.in-Some.others.now c.in_ok-more.more.now
    (behind_line trimmed_title c.args.text.now c.in-Some.first.now c.in-Some.others.now c.in-Some.ensures.parts
    (c.is_trimmed_title.ensures.0 c.if-is_trimmed_title.true))
    c.in_ok-more.ensures.body c.in_err-items.field-0.0 c.in_err-items.ensures.fault)

pub returns-then-is_trimmed_title-clause-body : goal.returns-then-is_trimmed_title-clause-body
returns-then-is_trimmed_title-clause-body c = (
  search rules,
  trimmed_head c.args.p.now c.args.text.now c.in-Some.others.now c.in_ok-more.more.now c.in_ok-items.body.now c.in_ok-items.items
      (behind_line trimmed_title c.args.text.now c.in-Some.first.now c.in-Some.others.now c.in-Some.ensures.parts
      (c.is_trimmed_title.ensures.0 c.if-is_trimmed_title.true))
      c.in_ok-more.ensures.body c.in_ok-items.ensures.body,
)

pub returns-clause-fault : goal.returns-clause-fault
returns-clause-fault c =
    other_title c.args.p.now c.args.text.now c.in-Some.first.now c.in-Some.others.now c.in-Some.ensures.parts
    (λ same. let wrong = sym (c.is_title.ensures.1 same) ∙ c.if-is_title.false in cc)
    (λ same. let wrong = sym (c.is_trimmed_title.ensures.1 same) ∙ c.if-is_trimmed_title.false in cc)
