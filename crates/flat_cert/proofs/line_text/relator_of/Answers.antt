use Rattle.std.proofs.Common.{◌≡◌, ◌⊎◌, inl, inr, ◌<◌, length, ap, arith}
use Rattle.flat_cert.proofs.LineTexts.{no_relator_number, other_number}
use Rattle.flat_cert.proofs.line_text.relator_of.Goals as goal
use Rattle.flat_cert.proofs.line_text.relator_of.Goals.{then-j-eq0-via-then-j-eq0, then-j-eq0-via-else-j-eq0+then-j-relators}

pub returns-in_err-j : goal.returns-in_err-j
returns-in_err-j c = rw c.from_residual.ensures (no_relator_number c.args.p.now c.known.ensures c.args.text.now c.in_err-j.ensures)

pub returns-then-j-eq0 : goal.returns-then-j-eq0
returns-then-j-eq0 c =
    let bad : (c.in_ok-j.j ≡ 0) ⊎ (length c.args.p.now.relators < c.in_ok-j.j) = elim c.then-j-eq0.branch [
      | then-j-eq0-via-then-j-eq0 w ↦ inl w.if-j-eq0.true
      | then-j-eq0-via-else-j-eq0+then-j-relators w ↦ inr (omega (arith, w.if-j-relators.true, ap length w.relators.ensures))
    ] in
    other_number c.args.p.now c.known.ensures c.args.text.now c.in_ok-j.j c.in_ok-j.ensures bad

pub returns : goal.returns
returns c = ((omega (arith, c.if-j-eq0.false), omega (arith, c.if-j-relators.false, ap length c.relators.ensures)), c.in_ok-j.ensures.1)
