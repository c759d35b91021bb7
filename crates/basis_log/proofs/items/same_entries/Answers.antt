use Rattle.std.proofs.Common.{rules, arith, ◌≡◌, ◌<◌, length}
use Rattle.std.specs.Arc.{arc_value}
use Rattle.basis_log.proofs.Reading.{same_next, same_here}
use Rattle.basis_log.proofs.items.same_entries.Goals as goal

pub returns-then-not-same : goal.returns-then-not-same
returns-then-not-same c =
    let below : c.loop-at.at < length c.args.entries.now = search rules in
    let below' : c.loop-at.at < length c.args.others.now = search rules in (
      λ no. absurd (search rules),
      λ same.
          let here = same_here arc_value c.args.entries.now c.args.others.now c.loop-at.at c.index-entries-at.result c.index-others-at.result below below'
          c.index-entries-at.is c.index-others-at.is same in
          grind (arith, here, c.same.ensures, c.deref.ensures, c.deref-in-loop-at.ensures, c.if-not-same.true),
    )

pub loop-at-preserved : goal.loop-at-preserved
loop-at-preserved c =
    let below : c.loop-at.at < length c.args.entries.now = search rules in
    let below' : c.loop-at.at < length c.args.others.now = search rules in
    let same : arc_value c.index-entries-at.result ≡ arc_value c.index-others-at.result = search rules in (
      c.loop-at.invariant.0,
      same_next arc_value c.args.entries.now c.args.others.now c.loop-at.at c.index-entries-at.result c.index-others-at.result below below'
          c.index-entries-at.is c.index-others-at.is same c.loop-at.invariant.1,
    )
