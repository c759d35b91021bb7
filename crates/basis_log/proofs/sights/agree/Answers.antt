use Rattle.std.proofs.Common.{rules, ◌<◌, length}
use Rattle.basis_log.specs.Sights.{Agree, cells_in}
use Rattle.basis_log.proofs.Prefixes.{same_cell, taken_agree}
use Rattle.basis_log.proofs.sights.agree.Goals as goal

pub agree-requires : goal.agree-requires
agree-requires g c =
    let mine = c.loop-at.invariant.0 in
    let theirs = c.loop-at.invariant.1 in
    let cells : Agree (cells_in c.loop-at.sights) (cells_in c.loop-at.others) = rw (mine, theirs) c.requires in
    let below : c.loop-at.at < length c.loop-at.sights = search rules in
    let below' : c.loop-at.at < length c.loop-at.others = search rules in
    same_cell c.loop-at.sights c.loop-at.others c.loop-at.at _ _ cells below below'

pub returns-clause-agree : goal.returns-clause-agree
returns-clause-agree g c =
    let mine = c.loop-at.invariant.0 in
    let theirs = c.loop-at.invariant.1 in
    let taken = c.loop-at.invariant.2 in
    rw (← mine, ← theirs) (taken_agree c.loop-at.at _ _ taken (search rules))
