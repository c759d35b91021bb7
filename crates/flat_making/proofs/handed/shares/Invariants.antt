use Rattle.std.proofs.Common.{◌≡◌, ◌++◌}
use Rattle.flat_making.specs.Pairs.{between_entry, shares_of}
use Rattle.flat_making.proofs.handed.shares.Given as goal

-- those so far, and those that are left
abbrev pub invariant-loop-at : goal.invariant-loop-at
invariant-loop-at l = l.made.items ++ shares_of l.at-iterator ≡ shares_of (between_entry l.entry l.pairs.entries)
