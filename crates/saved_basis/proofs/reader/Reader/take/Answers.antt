use Rattle.std.proofs.Common.{Global}
use Rattle.std.proofs.lemmas.Result.{err_from_is_err_and}
use Rattle.std.specs.Arc.{arc_value}
use Rattle.saved_basis.specs.Readers.{IsNextEntry}
use Rattle.saved_basis.proofs.NextLines.{entry_fails, fits_in}
use Rattle.saved_basis.proofs.reader.Reader.take.Goals as goal

pub returns-in_err-entry : goal.returns-in_err-entry
returns-in_err-entry c = λ gens are.
    let p = err_from_is_err_and c.from_residual-in_err-entry.result c.from_residual-in_err-entry.ensures.1 in
    entry_fails c.from_residual-in_err-entry.result c.args.self gens c.args.bytes.now c.in_ok-line.line.made c.in_ok-line.line.vector
    (λ e. IsNextEntry c.args.self gens c.in_ok-line.line.made c.in_ok-line.line.vector (arc_value {Z = Global} e)) p.0 c.in_err-entry.field-0.0 p.1 p.2
    (c.in_ok-line.ensures.line gens are) (c.in_err-entry.ensures gens are)

pub with-requires : goal.with-requires
with-requires c =
    let reading = c.in_ok-line.ensures.reading in
    fits_in c.args.self reading c.in_ok-line.line.made c.in_ok-line.line.vector (arc_value c.in_ok-entry.entry)
    (c.in_ok-line.ensures.line reading.base.gens reading.base.generators).may (c.in_ok-entry.ensures reading.base.gens reading.base.generators)
