use Rattle.std.proofs.Common.{◌≡◌, ℕ, ◌+◌, ◌-◌, ◌<◌, ◌/◌, true, false, sym, ◌∙◌, arith, rules}
use Rattle.report_text.proofs.Loops.{half_below, before_step, behind_step}
use Rattle.report_text.proofs.live.first_from.Goals as goal

pub loop-low-preserved-then-is_before : goal.loop-low-preserved-then-is_before
loop-low-preserved-then-is_before c =
    let middle : ℕ = c.loop-low.low + (c.loop-low.high - c.loop-low.low) / 2 in
    let lt : c.loop-low.low < c.loop-low.high = search rules in
    let half : (c.loop-low.high - c.loop-low.low) / 2 < c.loop-low.high - c.loop-low.low = half_below (c.loop-low.high - c.loop-low.low) (omega (arith, lt)) in
    record {
      first = omega (arith, c.loop-low.invariant.first);
      order = omega (arith, half, lt);
      within = c.loop-low.invariant.within;
      before = before_step c.args.session.now.base c.args.front c.args.session.now.kept c.count-high.ensures.session.rising middle
          (omega (arith, c.loop-low.invariant.first)) (omega (arith, half, lt, c.loop-low.invariant.within))
          (λ k read. (c.is_before.ensures k read).0 c.if-is_before.true);
      behind = c.loop-low.invariant.behind;
    }

pub loop-low-preserved : goal.loop-low-preserved
loop-low-preserved c =
    let middle : ℕ = c.loop-low.low + (c.loop-low.high - c.loop-low.low) / 2 in
    let lt : c.loop-low.low < c.loop-low.high = search rules in
    let half : (c.loop-low.high - c.loop-low.low) / 2 < c.loop-low.high - c.loop-low.low = half_below (c.loop-low.high - c.loop-low.low) (omega (arith, lt)) in
    record {
      first = c.loop-low.invariant.first;
      order = omega arith;
      within = omega (arith, half, lt, c.loop-low.invariant.within);
      before = c.loop-low.invariant.before;
      behind = behind_step c.args.session.now.base c.args.front c.args.session.now.kept c.count-high.ensures.session.rising middle
          (omega (arith, c.loop-low.invariant.first)) (omega (arith, half, lt, c.loop-low.invariant.within))
          (λ k read less. let e : true ≡ false = sym ((c.is_before.ensures k read).1 less) ∙ c.if-is_before.false in absurd (cc));
    }
