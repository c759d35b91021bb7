use Rattle.std.proofs.Common.{◌≡◌, ◌++◌, take}
use Rattle.flat_making.specs.Pairs.{share_lines}
use Rattle.flat_making.proofs.lines.put_shares.Given as goal

abbrev pub invariant-loop-share : goal.invariant-loop-share
invariant-loop-share l = l.made.items ≡ l.fn.made.items ++ share_lines l.negated l.what (take l.share-index l.row)
