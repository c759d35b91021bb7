use Rattle.std.proofs.Common.{◌≡◌, ◌∙◌, ap, sym, arith, nat_lt}
use Rattle.reducer_index.specs.Masks.{flag}
use Rattle.reducer_index.proofs.Masking.{made_more, flag_low}
use Rattle.reducer_index.proofs.masks.variables.Goals as goal

pub loop-bit-preserved : goal.loop-bit-preserved
loop-bit-preserved c =
    let at = c.loop-bit in
    let stands : flag c.args.m.now at.bit ≡ nat_lt 0 c.exp.result = flag_low c.args.m.now at.bit c.loop-bit-test.true ∙ ap (nat_lt 0) (sym c.exp.ensures) in
    made_more c.args.m.now at.bit at.mask c.from.result (nat_lt 0 c.exp.result) (omega (arith, c.loop-bit-test.true)) at.invariant stands c.from.ensures
