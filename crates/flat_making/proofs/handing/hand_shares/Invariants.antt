use Rattle.std.proofs.Common.{drop}
use Rattle.flat_cert.specs.Adding.{Adds}
use Rattle.flat_cert.proofs.Adding.{Answer}
use Rattle.flat_making.specs.Pairs.{shares_hand}
use Rattle.flat_making.proofs.Handings.{Totals}
use Rattle.flat_making.proofs.handing.hand_shares.Given as goal

-- what comes of the shares that are left comes of all
abbrev pub invariant-loop-share : goal.invariant-loop-share
invariant-loop-share l = (new : Totals) (r : Answer) → Adds l.handed (shares_hand (drop l.share-index l.row) l.steps) new r
    → Adds l.fn.handed (shares_hand l.row l.steps) new r
