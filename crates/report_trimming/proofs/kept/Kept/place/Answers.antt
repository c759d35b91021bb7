use Rattle.std.proofs.Common.{◌≡◌, ◌<◌, Some, true, length, slice_get, slice_index_or, rules, arith, ap, sym, subst, ◌∙◌}
use Rattle.report_trimming.specs.Kept.{kept_by, place_of}
use Rattle.report_trimming.proofs.Marking.{at_index, within}
use Rattle.report_trimming.proofs.Keeping.{kept_place, place_within}
use Rattle.report_trimming.proofs.kept.Kept.place.Goals as goal

pub overflow_cast-result : goal.overflow_cast-result
overflow_cast-result c =
    let marks = c.self.inside.marks.items in
    let places = c.self.inside.places.items in
    let there = within c.args.self.now c.args.number true c.requires in
    let lt : c.args.number < length c.self.inside.places.items = omega (arith, there, c.self.invariant.0, ap length c.self.view_is) in
    let here : slice_index_or c.self.inside.places.items c.args.number c.index.result.now ≡ c.index.result.now = search rules in
    let at = c.self.invariant.1 c.args.number c.index.result.now (at_index places c.args.number c.index.result.now lt ∙ ap Some here) in
    let l = place_within marks c.args.number in
    omega (arith, l, at, c.ranges.number.fits)

pub returns : goal.returns
returns c =
    let marks = c.self.inside.marks.items in
    let places = c.self.inside.places.items in
    let there = within c.args.self.now c.args.number true c.requires in
    let lt : c.args.number < length c.self.inside.places.items = omega (arith, there, c.self.invariant.0, ap length c.self.view_is) in
    let here : slice_index_or c.self.inside.places.items c.args.number c.index.result.now ≡ c.index.result.now = search rules in
    let at = c.self.invariant.1 c.args.number c.index.result.now (at_index places c.args.number c.index.result.now lt ∙ ap Some here) in
    let own = kept_place c.args.self.now c.args.number c.requires in
    subst (λ i. slice_get (kept_by c.args.self.now) i ≡ Some c.args.number)
    (sym (at ∙ ap (λ ms. place_of ms c.args.number) c.self.view_is)) own
