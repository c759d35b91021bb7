use Rattle.std.proofs.Common.{map}
use Rattle.std.specs.List.{range_with_len}
use Rattle.fox_calculus.specs.Generators.{binomial}
use Rattle.fox_calculus.proofs.GrowingLists.{Puts}
use Rattle.fox_calculus.proofs.listing.put_binomials.Given as goal

abbrev pub invariant-loop-c : goal.invariant-loop-c
invariant-loop-c l = Puts l.initial.made.items (map (binomial l.m) (range_with_len 0 l.c)) l.made.items
