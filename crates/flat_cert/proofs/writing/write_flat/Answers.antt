use Rattle.std.proofs.Common.{rules, ◌≡◌, ◌++◌, ◌∷◌, [], List, ℕ, subst}
use Rattle.std.proofs.lemmas.Result.{err_from_is_err_and}
use Rattle.mb_io.specs.Shelf.{TakesPrefix}
use Rattle.flat_cert.specs.Texts.{title, last_line, certificate_text}
use Rattle.flat_cert.specs.Writing.{Stops, Puts}
use Rattle.flat_cert.proofs.Written.{stops_at_once, head_stops, lines_stop, last_halts, last_puts}
use Rattle.flat_cert.proofs.writing.write_flat.Goals as goal

pub returns-in_err-first-clause-text : goal.returns-in_err-first-clause-text
returns-in_err-first-clause-text g c =
    let p = err_from_is_err_and c.from_residual.result c.from_residual.ensures.1 in
    rw p.1 (stops_at_once (g.K.Sink.taken c.args.out.now) (certificate_text c.args.p.now.names c.args.list.now))

pub returns-in_err-put_with_end-clause-text : goal.returns-in_err-put_with_end-clause-text
returns-in_err-put_with_end-clause-text g c =
    let p = err_from_is_err_and c.from_residual-in_err-put_with_end.result c.from_residual-in_err-put_with_end.ensures.1 in
    let line : c.in_ok-first.first.items ≡ title = search rules in
    rw p.1 (head_stops c.args.p.now.names c.args.list.now (g.K.Sink.taken c.args.out.now) (g.K.Sink.taken c.put_with_end.new.out)
    (subst (λ (t : List ℕ). Stops (g.K.Sink.taken c.args.out.now) (t ++ 10 ∷ []) (g.K.Sink.taken c.put_with_end.new.out)) line
    c.in_err-put_with_end.ensures.text))

pub returns-in_err-put_lines-clause-text : goal.returns-in_err-put_lines-clause-text
returns-in_err-put_lines-clause-text g c =
    let p = err_from_is_err_and c.from_residual-in_err-put_lines.result c.from_residual-in_err-put_lines.ensures.1 in
    let line : c.in_ok-first.first.items ≡ title = search rules in
    rw p.1 (lines_stop c.args.p.now.names c.args.list.now (g.K.Sink.taken c.args.out.now) (g.K.Sink.taken c.put_with_end.new.out)
    (subst (λ (t : List ℕ). TakesPrefix (g.K.Sink.taken c.args.out.now) (t ++ 10 ∷ []) (g.K.Sink.taken c.put_with_end.new.out)) line
    c.in_ok-put_with_end.ensures.text) (g.K.Sink.taken c.put_lines.new.out) c.in_err-put_lines.ensures.text)

pub returns-in_err-last-clause-text : goal.returns-in_err-last-clause-text
returns-in_err-last-clause-text g c =
    let p = err_from_is_err_and c.from_residual-in_err-last.result c.from_residual-in_err-last.ensures.1 in
    let line : c.in_ok-first.first.items ≡ title = search rules in
    rw p.1 (last_halts c.args.p.now.names c.args.list.now (g.K.Sink.taken c.args.out.now) (g.K.Sink.taken c.put_with_end.new.out)
    (subst (λ (t : List ℕ). TakesPrefix (g.K.Sink.taken c.args.out.now) (t ++ 10 ∷ []) (g.K.Sink.taken c.put_with_end.new.out)) line
    c.in_ok-put_with_end.ensures.text) (g.K.Sink.taken c.put_lines.new.out) c.in_ok-put_lines.ensures.text)

pub returns-clause-text : goal.returns-clause-text
returns-clause-text g c =
    let line : c.in_ok-first.first.items ≡ title = search rules in
    let done : c.in_ok-last.last.items ≡ last_line = search rules in
    last_puts c.args.p.now.names c.args.list.now (g.K.Sink.taken c.args.out.now) (g.K.Sink.taken c.put_with_end.new.out)
    (subst (λ (t : List ℕ). TakesPrefix (g.K.Sink.taken c.args.out.now) (t ++ 10 ∷ []) (g.K.Sink.taken c.put_with_end.new.out)) line
    c.in_ok-put_with_end.ensures.text) (g.K.Sink.taken c.put_lines.new.out) c.in_ok-put_lines.ensures.text
    (g.K.Sink.taken c.put_with_end-2.new.out) c.put_with_end-2.result
    (subst (λ (t : List ℕ). Puts (g.K.Sink.taken c.put_lines.new.out) (t ++ 10 ∷ []) c.put_with_end-2.result (g.K.Sink.taken c.put_with_end-2.new.out)) done
    c.put_with_end-2.ensures.text)
