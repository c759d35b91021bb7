use Rattle.std.proofs.lemmas.Result.{err_from_is_err_and}
use Rattle.report_lines.proofs.TrimmedTexts.{no_colon_in, made_is_none, vector_is_none}
use Rattle.report_lines.proofs.trimmed_reading.read_recipe.Goals as goal

pub returns-in_default : goal.returns-in_default
returns-in_default c = no_colon_in c.args.p.now c.known.ensures c.args.text.now c.in_default.ensures

pub returns-in_err-made : goal.returns-in_err-made
returns-in_err-made c =
    let p = err_from_is_err_and c.from_residual.result c.from_residual.ensures.1 in
    rw (p.1, p.2) (made_is_none c.args.p.now c.known.ensures c.args.text.now c.in-Some.front.now c.in-Some.last.now c.in-Some.ensures
    c.in_err-made.field-0.0 c.in_err-made.ensures)

pub returns-in_err-vector : goal.returns-in_err-vector
returns-in_err-vector c =
    let p = err_from_is_err_and c.from_residual-in_err-vector.result c.from_residual-in_err-vector.ensures.1 in
    rw (p.1, p.2) (vector_is_none c.args.p.now c.known.ensures c.args.text.now c.in-Some.front.now c.in-Some.last.now c.in-Some.ensures
    c.in_err-vector.field-0.0 c.in_err-vector.ensures)
