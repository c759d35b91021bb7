use Rattle.std.proofs.Common.{arith, ◌≡◌, length, take, sym, subst}
use Rattle.std.proofs.lemmas.List.{length-take-le}
use Rattle.module_vec.specs.Scanning.{FindsCandidate}
use Rattle.module_vec.proofs.Scans.{take_read}
use Rattle.module_vec.proofs.lists.VecList.find.Goals as goal

pub loop-i-preserved : goal.loop-i-preserved
loop-i-preserved g c =
    let b = g.Self.VecList.vectors c.args.self.now in
    let more = take_read b c.loop-i.i c.vector.result.now c.vector.ensures.is in
    let long : length (take c.loop-i.i b) ≡ c.loop-i.i = length-take-le c.loop-i.i b (omega arith) in
    subst (λ l. FindsCandidate l c.args.at.now c.better-best.result) (sym more) (c.better-best.ensures (take c.loop-i.i b) long c.loop-i.invariant)
