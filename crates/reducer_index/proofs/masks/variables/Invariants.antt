use Rattle.reducer_index.specs.Masks.{IsMaskUpTo}
use Rattle.reducer_index.proofs.masks.variables.Given as goal

abbrev pub invariant-loop-bit : goal.invariant-loop-bit
invariant-loop-bit l = IsMaskUpTo l.bit l.m l.mask
