use Rattle.std.proofs.Common.{◌≡◌, ◌+◌, Bool, false, if◌then◌else◌, slice_index_or, length, arith, length-append, [], ◌∷◌, ap, ◌∙◌}
use Rattle.report_trimming.proofs.Marking.{at_index}
use Rattle.report_trimming.proofs.Keeping.{place_within, place_next, places_next, at_most_one}
use Rattle.report_trimming.proofs.kept.places_of.Goals as goal

pub overflow_add-count : goal.overflow_add-count
overflow_add-count c =
    let mark : Bool = slice_index_or c.args.marks.now c.loop-mark.mark-index false in
    let own : c.number_of-count.result ≡ (if mark then 1 else 0) = c.number_of-count.ensures in
    let l = place_within c.args.marks.now c.loop-mark.mark-index in
    let one = at_most_one mark in
    omega (arith, l, c.loop-mark.invariant.count, own, one, c.loop-mark-test.true, c.type_inv.marks)

pub loop-mark-preserved : goal.loop-mark-preserved
loop-mark-preserved c =
    let inv = c.loop-mark.invariant in
    let mark : Bool = slice_index_or c.args.marks.now c.loop-mark.mark-index false in
    let own : c.number_of-count.result ≡ (if mark then 1 else 0) = c.number_of-count.ensures in
    let read = at_index c.args.marks.now c.loop-mark.mark-index false c.loop-mark-test.true in
    record {
      size = ap length c.in_ok-push.ensures.items ∙ (length-append c.loop-mark.places.items (c.loop-mark.count ∷ []) ∙ ap (λ n. n + 1) inv.size);
      count = (let e = place_next c.args.marks.now c.loop-mark.mark-index mark read in omega (arith, e, inv.count, own));
      each = places_next c.args.marks.now c.loop-mark.mark-index c.loop-mark.count c.loop-mark.places.items c.push.new.self.items inv.size inv.count
          inv.each c.in_ok-push.ensures.items;
    }
