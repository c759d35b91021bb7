use Rattle.std.proofs.Common.{rules, ◌≡◌, true, false, sym, ◌∙◌}
use Rattle.std.proofs.lemmas.Int.{to_z-of_z}
use mir.Val.{SFits}
use mir.Syntax.{w128}
use Rattle.flat_cert.proofs.LineTexts.{no_star, no_coefficient, no_middle, no_monomial, no_what, not_flat, line_read}
use Rattle.flat_cert.proofs.line_text.line_of.Goals as goal

pub returns-in_err-front : goal.returns-in_err-front
returns-in_err-front c = rw c.from_residual.ensures (no_star c.args.p.now c.known.ensures c.args.text.now c.in_err-front.ensures.parts)

pub returns-in_err-k : goal.returns-in_err-k
returns-in_err-k c = rw c.from_residual-in_err-k.ensures (no_coefficient c.args.p.now c.known.ensures c.args.text.now c.in_ok-front.front.now
    c.in_ok-front.rest.now c.in_ok-front.ensures.parts c.in_err-k.ensures)

pub returns-in_err-middle : goal.returns-in_err-middle
returns-in_err-middle c = rw c.from_residual-in_err-middle.ensures (no_middle c.args.p.now c.known.ensures c.args.text.now c.in_ok-front.front.now
    c.in_ok-front.rest.now c.in_ok-front.ensures.parts c.in_err-middle.ensures.parts)

pub returns-in_default : goal.returns-in_default
returns-in_default c =
    no_monomial c.args.p.now c.known.ensures c.args.text.now c.in_ok-front.front.now c.in_ok-front.rest.now c.in_ok-front.ensures.parts
    c.in_ok-middle.middle.now c.in_ok-middle.last.now c.in_ok-middle.ensures.parts c.in_default.field-0 c.in_default.ensures.reads
    c.in_default.ensures.no_memory_taken

pub returns-then-not-is_flat : goal.returns-then-not-is_flat
returns-then-not-is_flat c =
    not_flat c.args.p.now c.known.ensures c.args.text.now c.in_ok-front.front.now c.in_ok-front.rest.now c.in_ok-front.ensures.parts
    c.in_ok-middle.middle.now c.in_ok-middle.last.now c.in_ok-middle.ensures.parts c.in-Ok.t c.in-Ok.ensures.reads
    (λ flat. let wrong : false ≡ true = sym c.if-not-is_flat.true ∙ c.is_flat.ensures.1 flat in cc)

pub returns-in_err-what : goal.returns-in_err-what
returns-in_err-what c =
    rw c.from_residual-in_err-what.ensures (no_what c.args.p.now c.known.ensures c.args.text.now c.in_ok-front.front.now c.in_ok-front.rest.now
    c.in_ok-front.ensures.parts c.in_ok-middle.middle.now c.in_ok-middle.last.now c.in_ok-middle.ensures.parts c.in_err-what.ensures)

pub returns : goal.returns
returns c =
    let z = c.in_ok-k.k in
    let f : SFits w128 z = search rules in
    simp (to_z-of_z, f) (line_read c.args.p.now c.known.ensures c.args.text.now c.in_ok-front.front.now c.in_ok-front.rest.now c.in_ok-front.ensures.parts
    c.in_ok-middle.middle.now c.in_ok-middle.last.now c.in_ok-middle.ensures.parts
    c.in-Ok.t c.in-Ok.ensures.reads z c.in_ok-what.what c.in_ok-k.ensures (c.is_flat.ensures.0 c.if-not-is_flat.false) c.in_ok-what.ensures)
