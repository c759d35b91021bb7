use Rattle.std.proofs.Common.{decimal}
use Rattle.spelling.specs.Spelling.{IsSmall}
use Rattle.report_lines.proofs.Pairs.{uncut, no_head, head_read}
use Rattle.report_lines.proofs.Numbers.{numbers_apart}
use Rattle.report_lines.proofs.parts.number_then.Goals as goal

pub returns-in_err-front : goal.returns-in_err-front
returns-in_err-front c = rw c.from_residual.ensures (uncut 32 decimal IsSmall numbers_apart c.args.text.now c.in_err-front.ensures.parts)

pub returns-in_err-number : goal.returns-in_err-number
returns-in_err-number c =
    rw c.from_residual-in_err-number.ensures (no_head 32 decimal IsSmall numbers_apart c.args.text.now c.in_ok-front.front.now c.in_ok-front.rest.now
    c.in_ok-front.ensures.parts c.in_err-number.ensures)

pub returns : goal.returns
returns c = head_read 32 decimal IsSmall c.args.text.now c.in_ok-front.front.now c.in_ok-front.rest.now c.in_ok-number.number c.in_ok-front.ensures.parts
    c.in_ok-number.ensures
