use Rattle.std.proofs.Common.{rules, ◌≡◌, ◌∙◌, sym, ap, subst, ◌∷◌, ◌++◌, ◌+◌, take, drop, length, map, ◌-ℤ◌, ◌*ℤ◌, FitsSigned, None}
use mir.Syntax.{w128}
use Rattle.std.proofs.lemmas.Int.{to_z-of_z}
use Rattle.std.proofs.lemmas.List.{take-append-drop, take_all, length-map}
use Rattle.std.specs.List.{AllByRecursion}
use Rattle.module_vec.specs.declared.places.Place.{Place}
use Rattle.module_vec.specs.Vectors.{coefficient_at, InRange}
use Rattle.module_vec.specs.Places.{moved}
use Rattle.module_vec.specs.Merging.{Subtracts}
use Rattle.module_vec.proofs.FallingTerms.{drop_read}
use Rattle.module_vec.proofs.Merging.{in_range}
use Rattle.changed_terms.proofs.Differences.{changed, IsInReach, one_more, reach_more, all_are_changes, is_wide}
use Rattle.changed_terms.proofs.changes.changes.Goals as goal

pub loop-term-init : goal.loop-term-init
loop-term-init c =
    let q : FitsSigned w128 c.args.q = search rules in
    record { is = c.in_ok-made.ensures.items; reach = tt }

pub returns-in_default : goal.returns-in_default
returns-in_default c =
    let q : FitsSigned w128 c.args.q = search rules in
    let k : FitsSigned w128 c.term-item.result.k = search rules in
    let z : FitsSigned w128 c.coefficient-before.result = search rules in
    let reach = simp to_z-of_z at c.loop-term.invariant.reach in
    let wide = simp to_z-of_z at c.in_default.ensures in
    let place : Place = record { m = c.product.result; c = c.term-item.result.at.c } in
    let split : c.args.g.now ≡ take c.loop-term.term-index c.args.g.now ++ c.term-item.result ∷ drop (c.loop-term.term-index + 1) c.args.g.now =
    sym (take-append-drop c.loop-term.term-index c.args.g.now) ∙ ap (λ w. take c.loop-term.term-index c.args.g.now ++ w)
    (drop_read c.args.g.now c.loop-term.term-index c.term-item.result c.loop-term-test.true c.term-item.is) in
    is_wide (coefficient_at c.args.terms.now) c.args.q c.args.t.now c.known-2.ensures.variables c.args.g.now
    (take c.loop-term.term-index c.args.g.now) c.term-item.result (drop (c.loop-term.term-index + 1) c.args.g.now) place split c.requires.g
    (in_range c.args.terms.now c.known.ensures.terms c.known.ensures.falling) reach (λ j. record {
      m = c.product.ensures.is j;
      c = c.term-item.result.at.c;
    })
    (subst (λ y. Subtracts y c.args.q c.term-item.result.k None) c.coefficient-before.ensures wide)

pub loop-term-preserved : goal.loop-term-preserved
loop-term-preserved c =
    let q : FitsSigned w128 c.args.q = search rules in
    let k : FitsSigned w128 c.term-item.result.k = search rules in
    let z : FitsSigned w128 c.coefficient-before.result = search rules in
    let left : FitsSigned w128 c.in-Some.after = search rules in
    let is = simp to_z-of_z at c.loop-term.invariant.is in
    let reach = simp to_z-of_z at c.loop-term.invariant.reach in
    let reduced = simp to_z-of_z at c.in-Some.ensures in
    let push = simp to_z-of_z at c.in_ok-push.ensures.items in
    let place : Place = record { m = c.product.result; c = c.term-item.result.at.c } in
    let moves : place ≡ moved c.args.t.now c.term-item.result.at = λ j. record { m = c.product.ensures.is j; c = c.term-item.result.at.c } in
    let value : c.in-Some.after ≡ coefficient_at c.args.terms.now place -ℤ c.args.q *ℤ c.term-item.result.k =
    reduced.0 ∙ ap (λ y. y -ℤ c.args.q *ℤ c.term-item.result.k) c.coefficient-before.ensures in
    let own : IsInReach (coefficient_at c.args.terms.now) c.args.q c.args.t.now c.term-item.result = record {
      product = reduced.2;
      difference = subst InRange (value ∙ ap (λ x. coefficient_at c.args.terms.now x -ℤ c.args.q *ℤ c.term-item.result.k) moves) reduced.1;
    } in
    simp to_z-of_z (record {
      is = one_more (coefficient_at c.args.terms.now) c.args.q c.args.t.now c.args.g.now c.loop-term.made.items c.push.new.self.items
          c.loop-term.term-index c.term-item.result place c.coefficient-before.result c.in-Some.after c.loop-term-test.true c.term-item.is is push moves
          c.coefficient-before.ensures reduced.0;
      reach = reach_more (coefficient_at c.args.terms.now) c.args.q c.args.t.now c.args.g.now c.loop-term.term-index c.term-item.result
          c.loop-term-test.true c.term-item.is reach own;
    })

pub returns : goal.returns
returns c =
    let q : FitsSigned w128 c.args.q = search rules in
    let is = simp to_z-of_z at c.loop-term.invariant.is in
    let reach = simp to_z-of_z at c.loop-term.invariant.reach in
    let whole : take c.loop-term.term-index c.args.g.now ≡ c.args.g.now = take_all c.loop-term.term-index c.args.g.now c.loop-term-test.false in
    let made : c.loop-term.made.items ≡ map (changed (coefficient_at c.args.terms.now) c.args.q c.args.t.now) c.args.g.now =
    is ∙ ap (map (changed (coefficient_at c.args.terms.now) c.args.q c.args.t.now)) whole in (
      all_are_changes (coefficient_at c.args.terms.now) c.args.q c.args.t.now c.known-2.ensures.variables c.args.g.now
          c.loop-term.made.items c.requires.g
          (in_range c.args.terms.now c.known.ensures.terms c.known.ensures.falling) c.known-2.ensures.most c.requires.room
          (subst (AllByRecursion (IsInReach (coefficient_at c.args.terms.now) c.args.q c.args.t.now)) whole reach) made,
      ap length made ∙ length-map c.args.g.now (changed (coefficient_at c.args.terms.now) c.args.q c.args.t.now),
    )
