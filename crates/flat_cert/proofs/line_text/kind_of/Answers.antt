use Rattle.std.proofs.Common.{◌≡◌, true, false, sym, ◌∙◌, arith}
use Rattle.flat_cert.proofs.LineTexts.{no_word, no_kind, no_relator, relator_read, no_parts, no_space, no_number, no_name, binomial_read, no_component}
use Rattle.flat_cert.proofs.LineTexts.{modulus_read}
use Rattle.flat_cert.proofs.line_text.kind_of.Goals as goal
use Rattle.flat_cert.proofs.line_text.kind_of.Goals.{else-is_same-3-via-then-is_same-3+else-modulus-gt0, else-is_same-3-via-else-is_same-3}

pub returns-in_err-word : goal.returns-in_err-word
returns-in_err-word c = rw c.from_residual.ensures (no_word c.args.p.now c.known.ensures c.args.text.now c.in_err-word.ensures.parts)

pub returns-in_err-relator : goal.returns-in_err-relator
returns-in_err-relator c =
    rw c.from_residual-in_err-relator.ensures (no_relator c.args.p.now c.known.ensures c.args.text.now c.in_ok-word.word.now c.in_ok-word.rest.now
    c.in_ok-word.ensures.parts (c.is_same.ensures.0 c.if-is_same.true) c.in_err-relator.ensures)

pub returns-then-is_same : goal.returns-then-is_same
returns-then-is_same c =
    relator_read c.args.p.now c.known.ensures c.args.text.now c.in_ok-word.word.now c.in_ok-word.rest.now c.in_ok-relator.relator c.in_ok-word.ensures.parts
    (c.is_same.ensures.0 c.if-is_same.true) c.in_ok-relator.ensures

pub returns-in_err-number : goal.returns-in_err-number
returns-in_err-number c =
    rw c.from_residual-in_err-number.ensures (no_parts c.args.p.now c.known.ensures c.args.text.now c.in_ok-word.word.now c.in_ok-word.rest.now
    c.in_ok-word.ensures.parts (c.is_same-2.ensures.0 c.if-is_same-2.true) (no_space c.args.p.now c.known.ensures c.in_ok-word.rest.now
    c.in_err-number.ensures.parts))

pub returns-in_err-relator-2 : goal.returns-in_err-relator-2
returns-in_err-relator-2 c =
    rw c.from_residual-in_err-relator-2.ensures (no_parts c.args.p.now c.known.ensures c.args.text.now c.in_ok-word.word.now c.in_ok-word.rest.now
    c.in_ok-word.ensures.parts (c.is_same-2.ensures.0 c.if-is_same-2.true) (no_number c.args.p.now c.known.ensures c.in_ok-word.rest.now
    c.in_ok-number.number.now c.in_ok-number.name.now c.in_ok-number.ensures.parts
    c.in_err-relator-2.ensures))

pub returns-in_err-c : goal.returns-in_err-c
returns-in_err-c c =
    rw c.from_residual-in_err-c.ensures (no_parts c.args.p.now c.known.ensures c.args.text.now c.in_ok-word.word.now c.in_ok-word.rest.now
    c.in_ok-word.ensures.parts (c.is_same-2.ensures.0 c.if-is_same-2.true) (no_name c.args.p.now c.known.ensures c.in_ok-word.rest.now
    c.in_ok-number.number.now c.in_ok-number.name.now c.in_ok-number.ensures.parts
    (sym c.in_err-c.ensures.number)))

pub returns-then-is_same-2 : goal.returns-then-is_same-2
returns-then-is_same-2 c =
    binomial_read c.args.p.now c.known.ensures c.args.text.now c.in_ok-word.word.now c.in_ok-word.rest.now
    c.in_ok-number.number.now c.in_ok-number.name.now c.in_ok-relator-2.relator c.in_ok-c.c c.in_ok-word.ensures.parts
    (c.is_same-2.ensures.0 c.if-is_same-2.true) c.in_ok-number.ensures.parts c.in_ok-relator-2.ensures (sym c.in_ok-c.ensures.number) c.in_ok-c.ensures.inside

pub returns-in_err-c-2 : goal.returns-in_err-c-2
returns-in_err-c-2 c =
    rw c.from_residual-in_err-c-2.ensures (no_component c.args.p.now c.known.ensures c.args.text.now c.in_ok-word.word.now c.in_ok-word.rest.now
    c.in_ok-word.ensures.parts (c.is_same-3.ensures.0 c.if-is_same-3.true) (sym c.in_err-c-2.ensures.number))

pub returns-then-modulus-gt0 : goal.returns-then-modulus-gt0
returns-then-modulus-gt0 c =
    modulus_read c.args.p.now c.known.ensures c.args.text.now c.in_ok-word.word.now c.in_ok-word.rest.now c.in_ok-c-2.c c.in_ok-word.ensures.parts
    (c.is_same-3.ensures.0 c.if-is_same-3.true) (sym c.in_ok-c-2.ensures.number) c.in_ok-c-2.ensures.inside
    (omega (arith, c.if-modulus-gt0.true, c.modulus.ensures))

pub returns : goal.returns
returns c =
    no_kind c.args.p.now c.known.ensures c.args.text.now c.in_ok-word.word.now c.in_ok-word.rest.now c.in_ok-word.ensures.parts
    (λ same. let wrong : false ≡ true = sym c.if-is_same.false ∙ c.is_same.ensures.1 same in cc)
    (λ same. let wrong : false ≡ true = sym c.if-is_same-2.false ∙ c.is_same-2.ensures.1 same in cc)
    (λ same. elim c.else-is_same-3.branch [
      | else-is_same-3-via-then-is_same-3+else-modulus-gt0 w ↦ omega (arith, w.if-modulus-gt0.false, w.modulus.ensures)
      | else-is_same-3-via-else-is_same-3 w ↦ let wrong : false ≡ true = sym w.if-is_same-3.false ∙ c.is_same-3.ensures.1 same in absurd cc
    ])
