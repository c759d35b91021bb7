use Rattle.std.proofs.Common.{sym}
use Rattle.presentation.proofs.WritingBack.{names_of}
use Rattle.vector_text.proofs.PlaceTexts.{no_at, no_mono, no_component, place_read}
use Rattle.vector_text.proofs.places.place_of.Goals as goal

pub returns-in_err-front : goal.returns-in_err-front
returns-in_err-front c = rw c.from_residual.ensures (no_at c.args.p.now.names (names_of c.args.p.now c.known.ensures) c.args.text.now
    c.in_err-front.ensures.parts)

pub returns-in_err-m : goal.returns-in_err-m
returns-in_err-m c =
    rw c.from_residual-in_err-m.ensures (no_mono c.args.p.now.names (names_of c.args.p.now c.known.ensures) c.args.text.now c.in_ok-front.front.now
    c.in_ok-front.name.now c.in_ok-front.ensures.parts c.in_err-m.ensures)

pub returns-in_err-c : goal.returns-in_err-c
returns-in_err-c c =
    rw c.from_residual-in_err-c.ensures (no_component c.args.p.now.names (names_of c.args.p.now c.known.ensures) c.args.text.now c.in_ok-front.front.now
    c.in_ok-front.name.now c.in_ok-front.ensures.parts (sym c.in_err-c.ensures.number))

pub returns : goal.returns
returns c = place_read c.args.p.now.names c.args.text.now c.in_ok-front.front.now c.in_ok-front.name.now c.in_ok-m.m c.in_ok-c.c c.in_ok-front.ensures.parts
    c.in_ok-m.ensures (sym c.in_ok-c.ensures.number) c.in_ok-c.ensures.inside
