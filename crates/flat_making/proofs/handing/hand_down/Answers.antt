use Rattle.std.proofs.Common.{◌≡◌, ◌∙◌, ◌-◌, suc, ap, sym, subst, arith, Ok, Err}
use Rattle.std.proofs.lemmas.Result.{err_from_is_err_and}
use Rattle.flat_making.specs.Handing.{HandsDown}
use Rattle.flat_making.proofs.Handings.{Reached, EntryAdds, reached_first, reached_next, down_fails, recipe_adds}
use Rattle.flat_making.proofs.handing.hand_down.Goals as goal

pub loop-left-init : goal.loop-left-init
loop-left-init c = record {
  bound = omega arith;
  reached = λ first held. reached_first c.args.entries.now c.args.handed.now first held;
}

pub loop-left-preserved : goal.loop-left-preserved
loop-left-preserved c =
    let es = c.args.entries.now in
    let n = c.loop-left.left - 1 in
    let one_less : c.loop-left.left ≡ suc n = omega (arith, c.loop-left-test.true) in
    let adds : EntryAdds es n c.loop-left.handed c.hand_entry.new.handed (Ok tt) =
    recipe_adds es n c.index-entries-left.result c.loop-left.handed c.hand_entry.new.handed (Ok tt)
    (omega (arith, c.loop-left-test.true, c.loop-left.invariant.bound)) c.in_ok-hand_entry.ensures in
    record {
      bound = omega (arith, c.loop-left.invariant.bound);
      reached = λ first held. reached_next es n c.loop-left.handed c.hand_entry.new.handed first
          (subst (λ k. Reached es k c.loop-left.handed first) one_less (c.loop-left.invariant.reached first held)) adds;
    }

pub returns-in_err-hand_entry : goal.returns-in_err-hand_entry
returns-in_err-hand_entry c =
    let p = err_from_is_err_and c.from_residual.result c.from_residual.ensures.1 in
    let es = c.args.entries.now in
    let n = c.loop-left.left - 1 in
    let e = c.in_err-hand_entry.field-0.0 in
    let one_less : c.loop-left.left ≡ suc n = omega (arith, c.loop-left-test.true) in
    let adds : EntryAdds es n c.loop-left.handed c.hand_entry.new.handed (Err e) =
    recipe_adds es n c.index-entries-left.result c.loop-left.handed c.hand_entry.new.handed (Err e)
    (omega (arith, c.loop-left-test.true, c.loop-left.invariant.bound)) c.in_err-hand_entry.ensures in
    subst (λ r. HandsDown es c.args.handed.now c.hand_entry.new.handed r) (ap Err (sym p.2) ∙ sym p.1)
    (down_fails es c.args.handed.now c.loop-left.handed c.hand_entry.new.handed n e
    (λ first held. subst (λ k. Reached es k c.loop-left.handed first) one_less (c.loop-left.invariant.reached first held)) adds)
