use Rattle.std.proofs.Common.{rules, ◌≡◌, ◌∙◌, ap, sym, subst, drop, ◌∷◌, [], ◌+◌, List, Ok, Err, FitsSigned, to_z, of_z}
use mir.Syntax.{w128}
use Rattle.std.proofs.lemmas.Int.{to_z-of_z}
use Rattle.std.proofs.lemmas.List.{drop_all}
use Rattle.std.proofs.lemmas.Result.{err_from_is_err_and}
use Rattle.module_vec.specs.declared.places.Place.{Place}
use Rattle.module_vec.specs.declared.places.Term.{Term}
use Rattle.module_vec.specs.Vectors.{IsTerm}
use Rattle.module_vec.proofs.FallingTerms.{all_drop, drop_read}
use Rattle.std.specs.List.{AllByRecursion}
use Rattle.flat_cert.specs.declared.faults.FlatFault.TheVariants.{Beyond}
use Rattle.flat_cert.specs.Adding.{Adds}
use Rattle.flat_cert.proofs.Adding.{terms_of, terms_split, product_some, first_is_far, first_is_heavy, adds_on, adds_fails, adds_nothing}
use Rattle.flat_cert.proofs.totals.Totals.add_multiple.Goals as goal

pub returns-in_default : goal.returns-in_default
returns-in_default c =
    let k : FitsSigned w128 c.args.k = search rules in
    let invariant = simp to_z-of_z at c.loop-term.invariant in
    let rest : List Term = drop (c.loop-term.term-index + 1) c.args.g.now in
    let split : drop c.loop-term.term-index c.args.g.now ≡ c.term-item.result ∷ rest =
    drop_read c.args.g.now c.loop-term.term-index c.term-item.result c.loop-term-test.true c.term-item.is in
    let own : IsTerm c.term-item.result = (subst (AllByRecursion IsTerm) split (all_drop IsTerm c.loop-term.term-index c.args.g.now c.requires.terms)).0 in
    invariant c.loop-term.self (Err Beyond)
    (first_is_far c.loop-term.self c.loop-term.self c.args.k c.args.t.now c.term-item.result (drop c.loop-term.term-index c.args.g.now) rest split
    c.requires.nonzero own.nonzero c.in_default.ensures.made)

pub returns-in_default-checked_product : goal.returns-in_default-checked_product
returns-in_default-checked_product c =
    let k : FitsSigned w128 c.args.k = search rules in
    let u : FitsSigned w128 c.term-item.result.k = search rules in
    let invariant = simp to_z-of_z at c.loop-term.invariant in
    let heavy = simp to_z-of_z at c.in_default-checked_product.ensures in
    let rest : List Term = drop (c.loop-term.term-index + 1) c.args.g.now in
    let split : drop c.loop-term.term-index c.args.g.now ≡ c.term-item.result ∷ rest =
    drop_read c.args.g.now c.loop-term.term-index c.term-item.result c.loop-term-test.true c.term-item.is in
    invariant c.loop-term.self (Err Beyond)
    (first_is_heavy c.loop-term.self c.loop-term.self c.args.k c.args.t.now c.term-item.result (drop c.loop-term.term-index c.args.g.now) rest split heavy)

pub add-requires-clause-nonzero : goal.add-requires-clause-nonzero
add-requires-clause-nonzero c =
    let k : FitsSigned w128 c.args.k = search rules in
    let u : FitsSigned w128 c.term-item.result.k = search rules in
    let z : FitsSigned w128 c.in-Some-checked_product.product = search rules in
    let is = simp to_z-of_z at c.in-Some-checked_product.ensures in
    let rest : List Term = drop (c.loop-term.term-index + 1) c.args.g.now in
    let split : drop c.loop-term.term-index c.args.g.now ≡ c.term-item.result ∷ rest =
    drop_read c.args.g.now c.loop-term.term-index c.term-item.result c.loop-term-test.true c.term-item.is in
    let own : IsTerm c.term-item.result = (subst (AllByRecursion IsTerm) split (all_drop IsTerm c.loop-term.term-index c.args.g.now c.requires.terms)).0 in
    simp to_z-of_z (λ e. product_some c.args.k c.term-item.result.k c.requires.nonzero own.nonzero (sym is.0 ∙ e))

pub returns-in_err-add : goal.returns-in_err-add
returns-in_err-add c =
    let p = err_from_is_err_and c.from_residual.result c.from_residual.ensures.1 in
    let k : FitsSigned w128 c.args.k = search rules in
    let u : FitsSigned w128 c.term-item.result.k = search rules in
    let z : FitsSigned w128 c.in-Some-checked_product.product = search rules in
    let is = simp to_z-of_z at c.in-Some-checked_product.ensures in
    let invariant = simp to_z-of_z at c.loop-term.invariant in
    let rest : List Term = drop (c.loop-term.term-index + 1) c.args.g.now in
    let split : drop c.loop-term.term-index c.args.g.now ≡ c.term-item.result ∷ rest =
    drop_read c.args.g.now c.loop-term.term-index c.term-item.result c.loop-term-test.true c.term-item.is in
    let place : Place = record { m = c.in-Some.m; c = c.term-item.result.at.c } in
    let added : Adds c.loop-term.self ((to_z w128 (of_z w128 c.in-Some-checked_product.product), place) ∷ []) c.add.new.self (Err c.in_err-add.field-0.0) =
    c.in_err-add.ensures in
    let one : Adds c.loop-term.self ((c.in-Some-checked_product.product, place) ∷ []) c.add.new.self (Err c.in_err-add.field-0.0) =
    subst (λ q. Adds c.loop-term.self ((q, place) ∷ []) c.add.new.self (Err c.in_err-add.field-0.0))
    (to_z-of_z w128 c.in-Some-checked_product.product z) added in
    let parts = terms_split c.args.k c.args.t.now c.term-item.result (drop c.loop-term.term-index c.args.g.now) rest
    c.in-Some-checked_product.product c.in-Some.m
    split is.0 c.in-Some.ensures.made.1 in
    let fails = adds_fails c.loop-term.self c.add.new.self c.add.new.self ((c.in-Some-checked_product.product, place) ∷ [])
    (terms_of c.args.k c.args.t.now rest)
    c.in_err-add.field-0.0 one in
    subst (λ r. Adds c.args.self.now (terms_of c.args.k c.args.t.now c.args.g.now) c.add.new.self r) (ap Err (sym p.2) ∙ sym p.1)
    (invariant c.add.new.self (Err c.in_err-add.field-0.0) (subst (λ v. Adds c.loop-term.self v c.add.new.self (Err c.in_err-add.field-0.0)) (sym parts) fails))

pub loop-term-preserved : goal.loop-term-preserved
loop-term-preserved c =
    let k : FitsSigned w128 c.args.k = search rules in
    let u : FitsSigned w128 c.term-item.result.k = search rules in
    let z : FitsSigned w128 c.in-Some-checked_product.product = search rules in
    let is = simp to_z-of_z at c.in-Some-checked_product.ensures in
    let invariant = simp to_z-of_z at c.loop-term.invariant in
    let one = simp to_z-of_z at c.in_ok-add.ensures in
    let rest : List Term = drop (c.loop-term.term-index + 1) c.args.g.now in
    let split : drop c.loop-term.term-index c.args.g.now ≡ c.term-item.result ∷ rest =
    drop_read c.args.g.now c.loop-term.term-index c.term-item.result c.loop-term-test.true c.term-item.is in
    let place : Place = record { m = c.in-Some.m; c = c.term-item.result.at.c } in
    let parts = terms_split c.args.k c.args.t.now c.term-item.result (drop c.loop-term.term-index c.args.g.now) rest
    c.in-Some-checked_product.product c.in-Some.m
    split is.0 c.in-Some.ensures.made.1 in
    simp to_z-of_z (λ new r h. invariant new r (subst (λ v. Adds c.loop-term.self v new r) (sym parts)
    (adds_on c.loop-term.self c.add.new.self new ((c.in-Some-checked_product.product, place) ∷ []) (terms_of c.args.k c.args.t.now rest) r one h)))

pub returns : goal.returns
returns c =
    let k : FitsSigned w128 c.args.k = search rules in
    let invariant = simp to_z-of_z at c.loop-term.invariant in
    let none : drop c.loop-term.term-index c.args.g.now ≡ [] = drop_all c.loop-term.term-index c.args.g.now c.loop-term-test.false in
    invariant c.loop-term.self (Ok tt) (subst (λ v. Adds c.loop-term.self (terms_of c.args.k c.args.t.now v) c.loop-term.self (Ok tt)) (sym none)
    (adds_nothing c.loop-term.self))
