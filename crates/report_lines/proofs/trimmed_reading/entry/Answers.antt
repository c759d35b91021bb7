use Rattle.std.proofs.lemmas.Result.{err_from_is_err_and}
use Rattle.report_lines.proofs.TrimmedTexts.{no_number, no_from, no_place, recipe_is_none}
use Rattle.report_lines.proofs.trimmed_reading.entry.Goals as goal

pub returns-in_default : goal.returns-in_default
returns-in_default c = no_number c.args.p.now c.args.text.now c.in_default.ensures

pub returns-in_default-behind : goal.returns-in_default-behind
returns-in_default-behind c = no_from c.args.p.now c.args.text.now c.in-Some.rest.now c.in-Some.number c.in-Some.ensures c.in_default-behind.ensures

pub returns-in_default-number_then : goal.returns-in_default-number_then
returns-in_default-number_then c = no_place c.args.p.now c.args.text.now c.in-Some.rest.now c.in-Some-behind.more.now c.in-Some.number c.in-Some.ensures
    c.in-Some-behind.ensures c.in_default-number_then.ensures

pub returns-in_err-made : goal.returns-in_err-made
returns-in_err-made c =
    let p = err_from_is_err_and c.from_residual.result c.from_residual.ensures.1 in
    rw (p.1, p.2) (recipe_is_none c.args.p.now c.args.text.now c.in-Some.rest.now c.in-Some-behind.more.now c.in-Some-number_then.last.now c.in-Some.number
    c.in-Some-number_then.from c.in-Some.ensures c.in-Some-behind.ensures c.in-Some-number_then.ensures c.in_err-made.field-0.0 c.in_err-made.ensures)
