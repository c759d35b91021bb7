use Rattle.std.proofs.Common.{rules, ◌≡◌, ◌++◌, ◌∷◌, [], List, ℕ, subst}
use Rattle.std.proofs.lemmas.Result.{err_from_is_err_and}
use Rattle.flat_cert.specs.Texts.{line_text}
use Rattle.flat_cert.specs.Writing.{Puts}
use Rattle.flat_cert.proofs.Written.{stops_at_once}
use Rattle.flat_cert.proofs.writing.put_flat.Goals as goal

pub returns-in_err-put_line-clause-text : goal.returns-in_err-put_line-clause-text
returns-in_err-put_line-clause-text g c =
    let p = err_from_is_err_and c.from_residual.result c.from_residual.ensures.1 in
    rw p.1 (stops_at_once (g.K.Sink.taken c.args.out.now) (line_text c.args.p.now.names c.args.line.now ++ 10 ∷ []))

pub returns-clause-text : goal.returns-clause-text
returns-clause-text g c =
    let text : c.put_line.new.out.items ≡ line_text c.args.p.now.names c.args.line.now = search rules in
    subst (λ (t : List ℕ). Puts (g.K.Sink.taken c.args.out.now) (t ++ 10 ∷ []) c.put_with_end.result (g.K.Sink.taken c.put_with_end.new.out)) text
    c.put_with_end.ensures.text
