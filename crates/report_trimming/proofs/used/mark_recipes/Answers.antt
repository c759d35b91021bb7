use Rattle.std.proofs.Common.{◌≡◌, ◌<◌, ℕ, ◌+◌, ◌-◌, Some, length, slice_index_or, true, false, rules, arith, sym, ap, ◌∙◌, subst}
use Rattle.report_reading.specs.declared.entry.EntryData.{EntryData}
use Rattle.report_trimming.specs.Kept.{IsMarked}
use Rattle.report_trimming.specs.Used.{IsNeeded}
use Rattle.report_trimming.proofs.Marking.{some_same, within, at_index, IsClosed, closed_next, closed_same, only_next, all_closed}
use Rattle.report_trimming.proofs.Keeping.{false_true}
use Rattle.report_trimming.proofs.used.mark_recipes.Goals as goal

pub loop-left-init : goal.loop-left-init
loop-left-init c = record {
  size = search rules;
  within = omega arith;
  kept = λ k h. h;
  closed = λ j k e le h is n. (let lt = within c.args.entries.now j e is in absurd (omega (arith, le, lt)));
  only = λ k h. IsNeeded.start k h;
}

pub mark_recipe-requires : goal.mark_recipe-requires
mark_recipe-requires c = λ k n.
    let inv = c.loop-left.invariant in
    let lt : c.loop-left.left - 1 < length c.args.entries.now = omega (arith, inv.within, c.loop-left-test.true) in
    let read = at_index c.args.entries.now (c.loop-left.left - 1) c.index-entries-left.result lt in
    let low = c.requires.lower (c.loop-left.left - 1) k (slice_index_or c.args.entries.now (c.loop-left.left - 1) c.index-entries-left.result) read n in
    omega (arith, low, lt, inv.size, c.requires.length)

pub loop-left-preserved-then-index : goal.loop-left-preserved-then-index
loop-left-preserved-then-index c =
    let inv = c.loop-left.invariant in
    let x : ℕ = c.loop-left.left - 1 in
    let lt : c.loop-left.left - 1 < length c.args.entries.now = omega (arith, inv.within, c.loop-left-test.true) in
    let next : c.loop-left.left ≡ c.loop-left.left - 1 + 1 = omega (arith, c.loop-left-test.true) in
    let e : EntryData = slice_index_or c.args.entries.now x c.index-entries-left.result in
    let read = at_index c.args.entries.now x c.index-entries-left.result lt in
    let set : slice_index_or c.loop-left.marks.items x c.index.result.now ≡ true = search rules in
    let marked : IsMarked c.loop-left.marks.items x =
    at_index c.loop-left.marks.items x c.index.result.now (omega (arith, lt, inv.size, c.requires.length)) ∙ ap Some set in
    record {
      size = c.mark_recipe.ensures.length ∙ inv.size;
      within = omega (arith, inv.within);
      kept = λ k h. c.mark_recipe.ensures.kept k (inv.kept k h);
      closed = closed_next c.args.entries.now c.loop-left.marks.items c.mark_recipe.new.marks.items x e read c.requires.lower c.mark_recipe.ensures.set
          c.mark_recipe.ensures.kept c.mark_recipe.ensures.only (subst (IsClosed c.args.entries.now c.loop-left.marks.items) next inv.closed);
      only = only_next c.args.entries.now c.args.marks.now.items c.loop-left.marks.items c.mark_recipe.new.marks.items x e read marked inv.only
          c.mark_recipe.ensures.only;
    }

pub loop-left-preserved : goal.loop-left-preserved
loop-left-preserved c =
    let inv = c.loop-left.invariant in
    let next : c.loop-left.left ≡ c.loop-left.left - 1 + 1 = omega (arith, c.loop-left-test.true) in
    let lt : c.loop-left.left - 1 < length c.loop-left.marks.items =
    omega (arith, inv.within, c.loop-left-test.true, inv.size, c.requires.length) in
    let unset : slice_index_or c.loop-left.marks.items (c.loop-left.left - 1) c.index.result.now ≡ false = search rules in
    let unmarked : IsMarked c.loop-left.marks.items (c.loop-left.left - 1) → ⊥ =
    λ h. false_true (sym unset ∙ some_same (sym (at_index c.loop-left.marks.items (c.loop-left.left - 1) c.index.result.now lt) ∙ h)) in
    record {
      size = inv.size;
      within = omega (arith, inv.within);
      kept = inv.kept;
      closed = closed_same c.args.entries.now c.loop-left.marks.items (c.loop-left.left - 1) unmarked
          (subst (IsClosed c.args.entries.now c.loop-left.marks.items) next inv.closed);
      only = inv.only;
    }

pub returns-clause-is : goal.returns-clause-is
returns-clause-is c =
    let inv = c.loop-left.invariant in
    let none : c.loop-left.left ≡ 0 = omega (arith, c.loop-left-test.false) in
    all_closed c.args.entries.now c.args.marks.now.items c.loop-left.marks.items inv.kept inv.only
    (subst (IsClosed c.args.entries.now c.loop-left.marks.items) none inv.closed)
