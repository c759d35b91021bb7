use Rattle.std.proofs.Common.{rules, arith, ◌≡◌, subst, pos, ◌-ℤ◌, neg_ℤ, FitsSigned}
use mir.Syntax.{w128}
use Rattle.std.proofs.lemmas.Int.{to_z-of_z}
use borrow.Author.Differences.{ints}
use Rattle.flat_cert.specs.Adding.{Adds}
use Rattle.flat_cert.proofs.Adding.{terms_of}
use Rattle.flat_cert.proofs.Taking.{takes_away}
use Rattle.flat_cert.proofs.check.take.Goals as goal

pub returns : goal.returns
returns c =
    let k : FitsSigned w128 c.args.k = search rules in
    let z : FitsSigned w128 (pos 0 -ℤ c.args.k) = search rules in
    let adds : Adds c.args.totals.now (terms_of (pos 0 -ℤ c.args.k) c.args.t.now c.terms.result.now) c.add_multiple.new.self c.add_multiple.result =
    simp to_z-of_z at c.add_multiple.ensures in
    let turned : pos 0 -ℤ c.args.k ≡ neg_ℤ c.args.k = omega (arith, ints) in
    λ f is. takes_away c.args.totals.now c.add_multiple.new.self c.args.k c.args.t.now f c.args.vector.now c.add_multiple.result is
    (subst (λ v. Adds c.args.totals.now (terms_of (neg_ℤ c.args.k) c.args.t.now v) c.add_multiple.new.self c.add_multiple.result) c.terms.ensures.is
    (subst (λ q. Adds c.args.totals.now (terms_of q c.args.t.now c.terms.result.now) c.add_multiple.new.self c.add_multiple.result) turned adds))
