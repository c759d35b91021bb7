use Rattle.std.proofs.Common.{take}
use Rattle.hom_check.proofs.Chaining.{ends}
use Rattle.hom_check.proofs.ending.ending_of.Goals as goal

pub returns-in-Ok : goal.returns-in-Ok
returns-in-Ok g c =
    c.with_rest.ensures (take c.args.front (g.L.VecList.vectors c.args.list.now)) c.args.w.now
    (ends (take c.args.front (g.L.VecList.vectors c.args.list.now)) c.args.w.now c.in_ok-vector.vector c.in-Ok.rest c.in-Ok.field-0-1.items
    c.in_ok-vector.ensures.is c.in-Ok.ensures)
