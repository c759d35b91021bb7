use Rattle.std.proofs.lemmas.Result.{err_from_is_err_and}
use Rattle.report_lines.proofs.LineTexts.{no_entry_number, no_recipe, made_fails, vector_fails, entry_read}
use Rattle.report_lines.proofs.reading.entry.Goals as goal

pub returns-in_default : goal.returns-in_default
returns-in_default c = no_entry_number c.args.p.now c.args.text.now c.in_default.ensures

pub returns-in_default-around_colon : goal.returns-in_default-around_colon
returns-in_default-around_colon c = no_recipe c.args.p.now c.known.ensures c.args.text.now c.in-Some.rest.now c.in-Some.number c.in-Some.ensures
    c.in_default-around_colon.ensures

pub returns-in_err-made : goal.returns-in_err-made
returns-in_err-made c =
    let p = err_from_is_err_and c.from_residual.result c.from_residual.ensures.1 in
    rw (p.1, p.2) (made_fails c.args.p.now c.known.ensures c.args.text.now c.in-Some.rest.now c.in-Some-around_colon.front.now c.in-Some-around_colon.last.now
    c.in-Some.number c.in-Some.ensures c.in-Some-around_colon.ensures c.in_err-made.field-0.0 c.in_err-made.ensures)

pub returns-in_err-vector : goal.returns-in_err-vector
returns-in_err-vector c =
    let p = err_from_is_err_and c.from_residual-in_err-vector.result c.from_residual-in_err-vector.ensures.1 in
    rw (p.1, p.2) (vector_fails c.args.p.now c.known.ensures c.args.text.now c.in-Some.rest.now c.in-Some-around_colon.front.now c.in-Some-around_colon.last.now
    c.in-Some.number c.in-Some.ensures c.in-Some-around_colon.ensures c.in_err-vector.field-0.0 c.in_err-vector.ensures)

pub returns : goal.returns
returns c = entry_read c.args.p.now c.args.text.now c.in-Some.rest.now c.in-Some-around_colon.front.now c.in-Some-around_colon.last.now c.in-Some.number
    c.in_ok-made.made c.in_ok-vector.vector c.in-Some.ensures c.in-Some-around_colon.ensures c.in_ok-made.ensures c.in_ok-vector.ensures
