use Rattle.std.proofs.Common.{rules, length, sym, subst}
use Rattle.std.proofs.lemmas.Result.{err_from_is_err_and}
use Rattle.basis_entry.specs.Seals.{Seal}
use Rattle.std.specs.Prelude.{Option}
use Rattle.mb_io.specs.Shelf.{TakesPrefix}
use Rattle.report_lines.specs.Texts.{lines_text}
use Rattle.report_text.specs.Histories.{told_from, seal_lines}
use Rattle.report_text.proofs.Telling.{seal_stops, seal_puts}
use Rattle.report_text.proofs.Written.{puts_nothing}
use Rattle.report_text.proofs.entries.put_seal.Goals as goal

pub returns-in_default-clause-text : goal.returns-in_default-clause-text
returns-in_default-clause-text g c = λ ts are.
    subst (λ (x : Option Seal). TakesPrefix (g.K.Sink.taken c.args.out.now) (lines_text c.args.log.now.pres
    (told_from ts (length c.args.log.now.entries) (seal_lines x))) (g.K.Sink.taken c.args.out.now)) (sym c.in_default.ensures)
    (puts_nothing (g.K.Sink.taken c.args.out.now))

pub returns-in_err-put_with_end-clause-text : goal.returns-in_err-put_with_end-clause-text
returns-in_err-put_with_end-clause-text g c = λ ts are.
    let p = err_from_is_err_and c.from_residual-in_err-put_with_end.result c.from_residual-in_err-put_with_end.ensures.1 in
    rw p.1 (seal_stops c.args.log.now.pres c.args.log.now.entries c.args.log.now.seal c.in-Some.field-0.now ts
    c.in-Some.ensures (g.K.Sink.taken c.args.out.now) (g.K.Sink.taken c.put_with_end.new.out) c.in_ok-line.line.items (search rules)
    c.in_err-put_with_end.ensures.text)

pub returns-clause-text : goal.returns-clause-text
returns-clause-text g c = λ ts are.
    seal_puts c.args.log.now.pres c.args.log.now.entries c.args.log.now.seal c.in-Some.field-0.now ts
    c.in-Some.ensures (g.K.Sink.taken c.args.out.now) (g.K.Sink.taken c.put_with_end.new.out) (g.K.Sink.taken c.put_live_at.new.out) c.put_live_at.result
    c.in_ok-line.line.items (search rules)
    c.front.result c.front.ensures.is c.in_ok-put_with_end.ensures.text (c.put_live_at.ensures.text ts are)
