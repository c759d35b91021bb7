use Rattle.std.proofs.Common.{rules, ◌≡◌, ◌∙◌, ap, sym, subst, drop, ◌∷◌, [], ◌+◌, List, Ok, Err, FitsSigned, to_z, of_z}
use mir.Syntax.{w128}
use Rattle.std.proofs.lemmas.Int.{to_z-of_z}
use Rattle.std.proofs.lemmas.List.{drop_all}
use Rattle.std.proofs.lemmas.Result.{err_from_is_err_and}
use Rattle.module_vec.proofs.FallingTerms.{drop_read}
use Rattle.flat_cert.specs.Adding.{Adds}
use Rattle.flat_cert.proofs.Adding.{adds_on, adds_fails, adds_nothing}
use Rattle.flat_making.specs.declared.handed.Share.{Share}
use Rattle.flat_making.specs.Pairs.{shares_hand}
use Rattle.flat_making.proofs.Steps.{handed_by, shares_split}
use Rattle.flat_making.proofs.handing.hand_shares.Goals as goal

pub returns-in_err-hand_on : goal.returns-in_err-hand_on
returns-in_err-hand_on c =
    let p = err_from_is_err_and c.from_residual.result c.from_residual.ensures.1 in
    let rest : List Share = drop (c.loop-share.share-index + 1) c.args.row.now in
    let split : drop c.loop-share.share-index c.args.row.now ≡ c.share-item.result ∷ rest =
    drop_read c.args.row.now c.loop-share.share-index c.share-item.result c.loop-share-test.true c.share-item.is in
    let e = c.in_err-hand_on.field-0.0 in
    let parts = shares_split c.args.steps.now c.share-item.result (drop c.loop-share.share-index c.args.row.now) rest split in
    let k : FitsSigned w128 c.share-item.result.k = search rules in
    let given : Adds c.loop-share.handed (handed_by (to_z w128 (of_z w128 c.share-item.result.k)) c.share-item.result.t c.args.steps.now) c.hand_on.new.self
    (Err e) =
    c.in_err-hand_on.ensures in
    let one : Adds c.loop-share.handed (handed_by c.share-item.result.k c.share-item.result.t c.args.steps.now) c.hand_on.new.self (Err e) =
    subst (λ q. Adds c.loop-share.handed (handed_by q c.share-item.result.t c.args.steps.now) c.hand_on.new.self (Err e))
    (to_z-of_z w128 c.share-item.result.k k) given in
    let fails = adds_fails c.loop-share.handed c.hand_on.new.self c.hand_on.new.self (handed_by c.share-item.result.k c.share-item.result.t c.args.steps.now)
    (shares_hand rest c.args.steps.now) e one in
    subst (λ r. Adds c.args.handed.now (shares_hand c.args.row.now c.args.steps.now) c.hand_on.new.self r) (ap Err (sym p.2) ∙ sym p.1)
    (c.loop-share.invariant c.hand_on.new.self (Err e) (subst (λ v. Adds c.loop-share.handed v c.hand_on.new.self (Err e)) (sym parts) fails))

pub loop-share-preserved : goal.loop-share-preserved
loop-share-preserved c new r h =
    let k : FitsSigned w128 c.share-item.result.k = search rules in
    let one = simp to_z-of_z at c.in_ok-hand_on.ensures in
    let rest : List Share = drop (c.loop-share.share-index + 1) c.args.row.now in
    let split : drop c.loop-share.share-index c.args.row.now ≡ c.share-item.result ∷ rest =
    drop_read c.args.row.now c.loop-share.share-index c.share-item.result c.loop-share-test.true c.share-item.is in
    let parts = shares_split c.args.steps.now c.share-item.result (drop c.loop-share.share-index c.args.row.now) rest split in
    c.loop-share.invariant new r (subst (λ v. Adds c.loop-share.handed v new r) (sym parts)
    (adds_on c.loop-share.handed c.hand_on.new.self new (handed_by c.share-item.result.k c.share-item.result.t c.args.steps.now)
    (shares_hand rest c.args.steps.now) r one h))

pub returns : goal.returns
returns c =
    let none : drop c.loop-share.share-index c.args.row.now ≡ [] = drop_all c.loop-share.share-index c.args.row.now c.loop-share-test.false in
    c.loop-share.invariant c.loop-share.handed (Ok tt)
    (subst (λ v. Adds c.loop-share.handed (shares_hand v c.args.steps.now) c.loop-share.handed (Ok tt)) (sym none)
    (adds_nothing c.loop-share.handed))
