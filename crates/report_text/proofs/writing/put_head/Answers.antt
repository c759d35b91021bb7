use Rattle.std.proofs.Common.{rules, ◌≡◌, ◌++◌, ◌∷◌, [], List, ℕ, subst}
use Rattle.std.proofs.lemmas.Result.{err_from_is_err_and}
use Rattle.mb_io.specs.Shelf.{TakesPrefix}
use Rattle.report_lines.specs.Texts.{title, pres_line}
use Rattle.report_text.specs.Writing.{Stops, Puts}
use Rattle.report_text.proofs.Written.{stops_before, stops_between, then_puts}
use Rattle.report_text.proofs.writing.put_head.Goals as goal

pub returns-in_err-put_with_end-clause-text : goal.returns-in_err-put_with_end-clause-text
returns-in_err-put_with_end-clause-text g c =
    let p = err_from_is_err_and c.from_residual-in_err-put_with_end.result c.from_residual-in_err-put_with_end.ensures.1 in
    let line : c.in_ok-first.first.items ≡ title = search rules in
    rw p.1 (stops_before (g.K.Sink.taken c.args.out.now) (g.K.Sink.taken c.put_with_end.new.out) (title ++ 10 ∷ []) (pres_line c.args.log.now.pres ++ 10 ∷ [])
    (subst (λ (t : List ℕ). Stops (g.K.Sink.taken c.args.out.now) (t ++ 10 ∷ []) (g.K.Sink.taken c.put_with_end.new.out)) line
    c.in_err-put_with_end.ensures.text))

pub returns-in_err-line-clause-text : goal.returns-in_err-line-clause-text
returns-in_err-line-clause-text g c =
    let p = err_from_is_err_and c.from_residual-in_err-line.result c.from_residual-in_err-line.ensures.1 in
    let line : c.in_ok-first.first.items ≡ title = search rules in
    rw p.1 (stops_between (g.K.Sink.taken c.args.out.now) (g.K.Sink.taken c.put_with_end.new.out) (title ++ 10 ∷ []) (pres_line c.args.log.now.pres ++ 10 ∷ [])
    (subst (λ (t : List ℕ). TakesPrefix (g.K.Sink.taken c.args.out.now) (t ++ 10 ∷ []) (g.K.Sink.taken c.put_with_end.new.out)) line
    c.in_ok-put_with_end.ensures.text))

pub returns-in_err-write_presentation-clause-text : goal.returns-in_err-write_presentation-clause-text
returns-in_err-write_presentation-clause-text g c =
    let p = err_from_is_err_and c.from_residual-in_err-write_presentation.result c.from_residual-in_err-write_presentation.ensures.1 in
    let line : c.in_ok-first.first.items ≡ title = search rules in
    rw p.1 (stops_between (g.K.Sink.taken c.args.out.now) (g.K.Sink.taken c.put_with_end.new.out) (title ++ 10 ∷ []) (pres_line c.args.log.now.pres ++ 10 ∷ [])
    (subst (λ (t : List ℕ). TakesPrefix (g.K.Sink.taken c.args.out.now) (t ++ 10 ∷ []) (g.K.Sink.taken c.put_with_end.new.out)) line
    c.in_ok-put_with_end.ensures.text))

pub returns-in_err-extend_from_slice-clause-text : goal.returns-in_err-extend_from_slice-clause-text
returns-in_err-extend_from_slice-clause-text g c =
    let p = err_from_is_err_and c.from_residual-in_err-extend_from_slice.result c.from_residual-in_err-extend_from_slice.ensures.1 in
    let line : c.in_ok-first.first.items ≡ title = search rules in
    rw p.1 (stops_between (g.K.Sink.taken c.args.out.now) (g.K.Sink.taken c.put_with_end.new.out) (title ++ 10 ∷ []) (pres_line c.args.log.now.pres ++ 10 ∷ [])
    (subst (λ (t : List ℕ). TakesPrefix (g.K.Sink.taken c.args.out.now) (t ++ 10 ∷ []) (g.K.Sink.taken c.put_with_end.new.out)) line
    c.in_ok-put_with_end.ensures.text))

pub returns-clause-text : goal.returns-clause-text
returns-clause-text g c =
    let line : c.in_ok-first.first.items ≡ title = search rules in
    let pres : c.extend_from_slice.new.self.items ≡ pres_line c.args.log.now.pres = search rules in
    then_puts (g.K.Sink.taken c.args.out.now) (g.K.Sink.taken c.put_with_end.new.out) (g.K.Sink.taken c.put_with_end-2.new.out) (title ++ 10 ∷ [])
    (pres_line c.args.log.now.pres ++ 10 ∷ []) c.put_with_end-2.result
    (subst (λ (t : List ℕ). TakesPrefix (g.K.Sink.taken c.args.out.now) (t ++ 10 ∷ []) (g.K.Sink.taken c.put_with_end.new.out)) line
    c.in_ok-put_with_end.ensures.text)
    (subst (λ (t : List ℕ). Puts (g.K.Sink.taken c.put_with_end.new.out) (t ++ 10 ∷ []) c.put_with_end-2.result (g.K.Sink.taken c.put_with_end-2.new.out)) pres
    c.put_with_end-2.ensures.text)
