use Rattle.std.proofs.Common.{rules, ◌≡◌, ◌≢◌, ◌∙◌, ap, sym, subst, drop, ◌∷◌, [], ◌+◌, pos, List, Ok, Err, FitsSigned, to_z, of_z}
use mir.Syntax.{w128}
use Rattle.std.proofs.lemmas.Int.{to_z-of_z}
use Rattle.std.proofs.lemmas.List.{drop_all}
use Rattle.std.proofs.lemmas.Result.{err_from_is_err_and}
use Rattle.std.specs.List.{AllByRecursion}
use Rattle.module_vec.specs.declared.places.Place.{Place}
use Rattle.module_vec.specs.declared.steps.Step.{Step}
use Rattle.module_vec.proofs.FallingTerms.{all_drop, drop_read}
use Rattle.flat_cert.specs.declared.faults.FlatFault.TheVariants.{Beyond}
use Rattle.flat_cert.specs.Adding.{Adds}
use Rattle.flat_cert.proofs.Adding.{product_some, adds_on, adds_fails, adds_nothing}
use Rattle.flat_making.proofs.Steps.{handed_by, steps_split, step_is_far, step_is_heavy}
use Rattle.flat_making.proofs.handed.Handed.hand_on.Goals as goal

pub returns-in_default : goal.returns-in_default
returns-in_default c =
    let k : FitsSigned w128 c.args.k = search rules in
    let invariant = simp to_z-of_z at c.loop-step.invariant in
    let rest : List Step = drop (c.loop-step.step-index + 1) c.args.steps.now in
    let split : drop c.loop-step.step-index c.args.steps.now ≡ c.step-item.result ∷ rest =
    drop_read c.args.steps.now c.loop-step.step-index c.step-item.result c.loop-step-test.true c.step-item.is in
    let own : c.step-item.result.q ≢ pos 0 =
    (subst (AllByRecursion (λ (s : Step). s.q ≢ pos 0)) split
    (all_drop (λ (s : Step). s.q ≢ pos 0) c.loop-step.step-index c.args.steps.now c.requires.steps)).0 in
    invariant c.loop-step.self (Err Beyond)
    (step_is_far c.loop-step.self c.loop-step.self c.args.k c.args.t.now c.step-item.result (drop c.loop-step.step-index c.args.steps.now) rest split
    c.requires.nonzero own c.in_default.ensures.made)

pub returns-in_default-checked_product : goal.returns-in_default-checked_product
returns-in_default-checked_product c =
    let k : FitsSigned w128 c.args.k = search rules in
    let u : FitsSigned w128 c.step-item.result.q = search rules in
    let invariant = simp to_z-of_z at c.loop-step.invariant in
    let heavy = simp to_z-of_z at c.in_default-checked_product.ensures in
    let rest : List Step = drop (c.loop-step.step-index + 1) c.args.steps.now in
    let split : drop c.loop-step.step-index c.args.steps.now ≡ c.step-item.result ∷ rest =
    drop_read c.args.steps.now c.loop-step.step-index c.step-item.result c.loop-step-test.true c.step-item.is in
    invariant c.loop-step.self (Err Beyond)
    (step_is_heavy c.loop-step.self c.loop-step.self c.args.k c.args.t.now c.step-item.result (drop c.loop-step.step-index c.args.steps.now) rest split heavy)

pub hand-requires : goal.hand-requires
hand-requires c =
    let k : FitsSigned w128 c.args.k = search rules in
    let u : FitsSigned w128 c.step-item.result.q = search rules in
    let z : FitsSigned w128 c.in-Some-checked_product.product = search rules in
    let is = simp to_z-of_z at c.in-Some-checked_product.ensures in
    let rest : List Step = drop (c.loop-step.step-index + 1) c.args.steps.now in
    let split : drop c.loop-step.step-index c.args.steps.now ≡ c.step-item.result ∷ rest =
    drop_read c.args.steps.now c.loop-step.step-index c.step-item.result c.loop-step-test.true c.step-item.is in
    let own : c.step-item.result.q ≢ pos 0 =
    (subst (AllByRecursion (λ (s : Step). s.q ≢ pos 0)) split
    (all_drop (λ (s : Step). s.q ≢ pos 0) c.loop-step.step-index c.args.steps.now c.requires.steps)).0 in
    simp to_z-of_z (λ e. product_some c.args.k c.step-item.result.q c.requires.nonzero own (sym is.0 ∙ e))

pub returns-in_err-hand : goal.returns-in_err-hand
returns-in_err-hand c =
    let p = err_from_is_err_and c.from_residual.result c.from_residual.ensures.1 in
    let k : FitsSigned w128 c.args.k = search rules in
    let u : FitsSigned w128 c.step-item.result.q = search rules in
    let z : FitsSigned w128 c.in-Some-checked_product.product = search rules in
    let is = simp to_z-of_z at c.in-Some-checked_product.ensures in
    let invariant = simp to_z-of_z at c.loop-step.invariant in
    let rest : List Step = drop (c.loop-step.step-index + 1) c.args.steps.now in
    let split : drop c.loop-step.step-index c.args.steps.now ≡ c.step-item.result ∷ rest =
    drop_read c.args.steps.now c.loop-step.step-index c.step-item.result c.loop-step-test.true c.step-item.is in
    let place : Place = record { m = c.in-Some.m; c = c.step-item.result.by } in
    let handed : Adds c.loop-step.self ((to_z w128 (of_z w128 c.in-Some-checked_product.product), place) ∷ []) c.hand.new.self (Err c.in_err-hand.field-0.0) =
    c.in_err-hand.ensures in
    let one : Adds c.loop-step.self ((c.in-Some-checked_product.product, place) ∷ []) c.hand.new.self (Err c.in_err-hand.field-0.0) =
    subst (λ q. Adds c.loop-step.self ((q, place) ∷ []) c.hand.new.self (Err c.in_err-hand.field-0.0))
    (to_z-of_z w128 c.in-Some-checked_product.product z) handed in
    let parts = steps_split c.args.k c.args.t.now c.step-item.result (drop c.loop-step.step-index c.args.steps.now) rest
    c.in-Some-checked_product.product c.in-Some.m
    split is.0 c.in-Some.ensures.made.1 in
    let fails = adds_fails c.loop-step.self c.hand.new.self c.hand.new.self ((c.in-Some-checked_product.product, place) ∷ [])
    (handed_by c.args.k c.args.t.now rest)
    c.in_err-hand.field-0.0 one in
    subst (λ r. Adds c.args.self.now (handed_by c.args.k c.args.t.now c.args.steps.now) c.hand.new.self r) (ap Err (sym p.2) ∙ sym p.1)
    (invariant c.hand.new.self (Err c.in_err-hand.field-0.0)
    (subst (λ v. Adds c.loop-step.self v c.hand.new.self (Err c.in_err-hand.field-0.0)) (sym parts) fails))

pub loop-step-preserved : goal.loop-step-preserved
loop-step-preserved c =
    let k : FitsSigned w128 c.args.k = search rules in
    let u : FitsSigned w128 c.step-item.result.q = search rules in
    let z : FitsSigned w128 c.in-Some-checked_product.product = search rules in
    let is = simp to_z-of_z at c.in-Some-checked_product.ensures in
    let invariant = simp to_z-of_z at c.loop-step.invariant in
    let one = simp to_z-of_z at c.in_ok-hand.ensures in
    let rest : List Step = drop (c.loop-step.step-index + 1) c.args.steps.now in
    let split : drop c.loop-step.step-index c.args.steps.now ≡ c.step-item.result ∷ rest =
    drop_read c.args.steps.now c.loop-step.step-index c.step-item.result c.loop-step-test.true c.step-item.is in
    let place : Place = record { m = c.in-Some.m; c = c.step-item.result.by } in
    let parts = steps_split c.args.k c.args.t.now c.step-item.result (drop c.loop-step.step-index c.args.steps.now) rest
    c.in-Some-checked_product.product c.in-Some.m
    split is.0 c.in-Some.ensures.made.1 in
    simp to_z-of_z (λ new r h. invariant new r (subst (λ v. Adds c.loop-step.self v new r) (sym parts)
    (adds_on c.loop-step.self c.hand.new.self new ((c.in-Some-checked_product.product, place) ∷ []) (handed_by c.args.k c.args.t.now rest) r one h)))

pub returns : goal.returns
returns c =
    let k : FitsSigned w128 c.args.k = search rules in
    let invariant = simp to_z-of_z at c.loop-step.invariant in
    let none : drop c.loop-step.step-index c.args.steps.now ≡ [] = drop_all c.loop-step.step-index c.args.steps.now c.loop-step-test.false in
    invariant c.loop-step.self (Ok tt) (subst (λ v. Adds c.loop-step.self (handed_by c.args.k c.args.t.now v) c.loop-step.self (Ok tt)) (sym none)
    (adds_nothing c.loop-step.self))
