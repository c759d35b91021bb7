use Rattle.std.proofs.Common.{◌≡◌, ◌+◌, ◌++◌, ◌∷◌, [], List, sym, subst, drop, arith, Ok, Err}
use Rattle.std.specs.List.{AllByRecursion}
use Rattle.std.proofs.lemmas.List.{drop_all}
use Rattle.std.proofs.lemmas.Result.{err_from_is_err_and}
use Rattle.module_vec.proofs.FallingTerms.{all_drop, drop_read}
use Rattle.flat_cert.specs.declared.lines.Flat.{Flat}
use Rattle.flat_cert.specs.Certificates.{IsFlat}
use Rattle.flat_cert.specs.Texts.{line_text, lines_text}
use Rattle.flat_cert.specs.Writing.{Puts}
use Rattle.flat_cert.proofs.Written.{stops_before, then_puts, puts_nothing, counts_later}
use Rattle.flat_cert.proofs.writing.put_lines.Goals as goal

pub put_flat-requires : goal.put_flat-requires
put_flat-requires g c =
    let rest : List Flat = drop (c.loop-line.line-index + 1) c.args.list.now in
    let split : drop c.loop-line.line-index c.args.list.now ≡ c.line-item.result ∷ rest =
    drop_read c.args.list.now c.loop-line.line-index c.line-item.result c.loop-line-test.true c.line-item.is in
    (subst (AllByRecursion (IsFlat c.args.p.now)) split (all_drop (IsFlat c.args.p.now) c.loop-line.line-index c.args.list.now c.requires)).0

pub returns-in_err-put_flat-clause-text : goal.returns-in_err-put_flat-clause-text
returns-in_err-put_flat-clause-text g c =
    let p = err_from_is_err_and c.from_residual.result c.from_residual.ensures.1 in
    let rest : List Flat = drop (c.loop-line.line-index + 1) c.args.list.now in
    let split : drop c.loop-line.line-index c.args.list.now ≡ c.line-item.result ∷ rest =
    drop_read c.args.list.now c.loop-line.line-index c.line-item.result c.loop-line-test.true c.line-item.is in
    let names = c.args.p.now.names in
    rw p.1 (c.loop-line.invariant.text (Err c.in_err-put_flat.field-0.0) (g.K.Sink.taken c.put_flat.new.out)
    (subst (λ ls. Puts (g.K.Sink.taken c.loop-line.out) (lines_text names ls) (Err c.in_err-put_flat.field-0.0) (g.K.Sink.taken c.put_flat.new.out)) (sym split)
    (stops_before (g.K.Sink.taken c.loop-line.out) (g.K.Sink.taken c.put_flat.new.out) (line_text names c.line-item.result ++ 10 ∷ []) (lines_text names rest)
    c.in_err-put_flat.ensures.text)))

pub returns-in_err-put_flat-clause-counts : goal.returns-in_err-put_flat-clause-counts
returns-in_err-put_flat-clause-counts g c =
    let p = err_from_is_err_and c.from_residual.result c.from_residual.ensures.1 in
    rw p.1 (rw p.2 (counts_later (g.K.Sink.faults c.args.out.now) (g.K.Sink.faults c.loop-line.out) (g.K.Sink.faults c.put_flat.new.out)
    c.in_err-put_flat.field-0.0 c.loop-line.invariant.later c.in_err-put_flat.ensures.counts))

pub loop-line-preserved : goal.loop-line-preserved
loop-line-preserved g c =
    let rest : List Flat = drop (c.loop-line.line-index + 1) c.args.list.now in
    let split : drop c.loop-line.line-index c.args.list.now ≡ c.line-item.result ∷ rest =
    drop_read c.args.list.now c.loop-line.line-index c.line-item.result c.loop-line-test.true c.line-item.is in
    let names = c.args.p.now.names in
    record {
      text = λ r new h. c.loop-line.invariant.text r new
          (subst (λ ls. Puts (g.K.Sink.taken c.loop-line.out) (lines_text names ls) r new) (sym split)
          (then_puts (g.K.Sink.taken c.loop-line.out) (g.K.Sink.taken c.put_flat.new.out) new (line_text names c.line-item.result ++ 10 ∷ [])
          (lines_text names rest) r
          c.in_ok-put_flat.ensures.text h));
      later = omega (arith, c.loop-line.invariant.later, c.in_ok-put_flat.ensures.counts);
    }

pub returns-clause-text : goal.returns-clause-text
returns-clause-text g c =
    let none : drop c.loop-line.line-index c.args.list.now ≡ [] = drop_all c.loop-line.line-index c.args.list.now c.loop-line-test.false in
    c.loop-line.invariant.text (Ok tt) (g.K.Sink.taken c.loop-line.out)
    (subst (λ ls. Puts (g.K.Sink.taken c.loop-line.out) (lines_text c.args.p.now.names ls) (Ok tt) (g.K.Sink.taken c.loop-line.out)) (sym none)
    (puts_nothing (g.K.Sink.taken c.loop-line.out)))
