use Rattle.std.proofs.Common.{◌≡◌, ◌∙◌, ap, sym, nat_lt}
use Rattle.reducer_index.specs.Masks.{flag}
use Rattle.reducer_index.proofs.Masking.{made_more, flag_high}
use Rattle.reducer_index.proofs.masks.mask.Goals as goal

pub loop-bit-preserved : goal.loop-bit-preserved
loop-bit-preserved c =
    let at = c.loop-bit in
    let twice : flag c.args.m.now at.bit ≡ nat_lt 1 c.exp.result = flag_high c.args.m.now at.bit at.auto.bit ∙ ap (nat_lt 1) (sym c.exp.ensures) in
    made_more c.args.m.now at.bit at.mask c.from.result (nat_lt 1 c.exp.result) c.loop-bit-test.true at.invariant twice c.from.ensures
