use Rattle.report_lines.specs.Texts.{kind_text}
use Rattle.report_lines.specs.Lines.{IsKind}
use Rattle.report_lines.proofs.Pairs.{uncut, no_head, head_read}
use Rattle.report_lines.proofs.TaskTexts.{kinds_apart}
use Rattle.report_lines.proofs.tasks.kind_then.Goals as goal

pub returns-in_err-front : goal.returns-in_err-front
returns-in_err-front c = rw c.from_residual.ensures (uncut 32 kind_text IsKind kinds_apart c.args.text.now c.in_err-front.ensures.parts)

pub returns-in_err-kind : goal.returns-in_err-kind
returns-in_err-kind c =
    rw c.from_residual-in_err-kind.ensures (no_head 32 kind_text IsKind kinds_apart c.args.text.now c.in_ok-front.front.now c.in_ok-front.rest.now
    c.in_ok-front.ensures.parts c.in_err-kind.ensures)

pub returns : goal.returns
returns c = head_read 32 kind_text IsKind c.args.text.now c.in_ok-front.front.now c.in_ok-front.rest.now c.in_ok-kind.kind c.in_ok-front.ensures.parts
    c.in_ok-kind.ensures
