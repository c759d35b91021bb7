use Rattle.std.proofs.Common.{arith, ◌<◌, length, map}
use Rattle.std.proofs.lemmas.List.{length-map}
use Rattle.pair_work.specs.Outcomes.{used_entry, IsThere}
use Rattle.pair_book.proofs.Strangers.{get_mapped, stranger_at, there_more, there_all}
use Rattle.pair_book.proofs.refusals.first_stranger.Goals as goal

pub returns-then-not-is_there : goal.returns-then-not-is_there
returns-then-not-is_there c =
    let i = c.loop-one.one-index in
    let used = c.args.used.now in
    let lt : i < length used = omega arith in
    let found = get_mapped used_entry used i c.one-item.result lt c.one-item.is in
    let differs : IsThere c.args.log.now.entries (used_entry c.one-item.result) → ⊥ = λ t. let r = c.is_there.ensures.1 t
    in let f = c.if-not-is_there.true in cc in
    stranger_at c.args.log.now.entries (map used_entry used) i (used_entry c.one-item.result) c.requires found differs c.loop-one.invariant

pub loop-one-preserved : goal.loop-one-preserved
loop-one-preserved c =
    let i = c.loop-one.one-index in
    let used = c.args.used.now in
    let lt : i < length used = omega arith in
    let found = get_mapped used_entry used i c.one-item.result lt c.one-item.is in
    there_more c.args.log.now.entries (map used_entry used) i (used_entry c.one-item.result) found (c.is_there.ensures.0 c.if-not-is_there.false)
    c.loop-one.invariant

pub returns : goal.returns
returns c =
    let l = length-map c.args.used.now used_entry in
    there_all c.args.log.now.entries (map used_entry c.args.used.now) c.loop-one.one-index (omega (arith, l)) c.loop-one.invariant
