use Rattle.std.proofs.Common.{rules}
use Rattle.std.proofs.lemmas.Int.{to_z-of_z}
use mir.Val.{SFits}
use mir.Syntax.{w128}
use Rattle.vector_text.proofs.TermTexts.{no_star, no_coefficient, no_place, term_read}
use Rattle.vector_text.proofs.terms.term_of.Goals as goal

pub returns-in_err-front : goal.returns-in_err-front
returns-in_err-front c = rw c.from_residual.ensures (no_star c.args.p.now.names c.args.text.now c.in_err-front.ensures.parts)

pub returns-in_err-k : goal.returns-in_err-k
returns-in_err-k c =
    rw c.from_residual-in_err-k.ensures (no_coefficient c.args.p.now.names c.args.text.now c.in_ok-front.front.now c.in_ok-front.rest.now
    c.in_ok-front.ensures.parts c.in_err-k.ensures)

pub returns-in_err-at : goal.returns-in_err-at
returns-in_err-at c =
    rw c.from_residual-in_err-at.ensures (no_place c.args.p.now.names c.args.text.now c.in_ok-front.front.now c.in_ok-front.rest.now c.in_ok-front.ensures.parts
    c.in_err-at.ensures)

pub returns : goal.returns
returns c =
    let z = c.in_ok-k.k in
    let f : SFits w128 z = search rules in
    simp (to_z-of_z, f) (term_read c.args.p.now.names c.args.text.now c.in_ok-front.front.now c.in_ok-front.rest.now z c.in_ok-at.at c.in_ok-front.ensures.parts
    c.in_ok-k.ensures c.in_ok-at.ensures)
