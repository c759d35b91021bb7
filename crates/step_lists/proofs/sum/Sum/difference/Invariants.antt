use Rattle.std.proofs.Common.{◌≡◌, ◌++◌, take}
use Rattle.step_lists.proofs.sum.Sum.difference.Given as goal

abbrev pub invariant-loop-term : goal.invariant-loop-term
invariant-loop-term l = take l.term-index l.v ++ l.terms ≡ l.fn.self
