use Rattle.std.proofs.Common.{rules, ◌≡◌, ◌∙◌, arith, ℤ, ◌+ℤ◌, ◌-ℤ◌, FitsSigned, w32}
use Rattle.std.proofs.lemmas.Int.{to_z-of_z}
use Rattle.std.proofs.lemmas.List.{length-set}
use borrow.Author.Differences.{ints}
use Rattle.flat_cert.specs.Adding.{difference_in}
use Rattle.flat_cert.proofs.Cancelling.{next_each}
use Rattle.flat_cert.proofs.products.differences.Goals as goal

pub loop-g-preserved : goal.loop-g-preserved
loop-g-preserved c =
    let a : FitsSigned w32 c.from.result = search rules in
    let b : FitsSigned w32 c.from-in-loop-g.result = search rules in
    let d : FitsSigned w32 c.from-in-loop-g-2.result = search rules in
    let e : FitsSigned w32 c.from-in-loop-g-3.result = search rules in
    let sum : FitsSigned w32 (c.from.result +ℤ c.from-in-loop-g.result) = search rules in
    let less : FitsSigned w32 (c.from.result +ℤ c.from-in-loop-g.result -ℤ c.from-in-loop-g-2.result) = search rules in
    let both : FitsSigned w32 (c.from.result +ℤ c.from-in-loop-g.result -ℤ c.from-in-loop-g-2.result -ℤ c.from-in-loop-g-3.result) = search rules in
    let z : ℤ = c.from.result +ℤ c.from-in-loop-g.result -ℤ c.from-in-loop-g-2.result -ℤ c.from-in-loop-g-3.result in
    let is : z ≡ difference_in c.args.s.now c.args.t.now c.loop-g.g =
    omega (
      arith,
      ints,
      c.from.ensures,
      c.from-in-loop-g.ensures,
      c.from-in-loop-g-2.ensures,
      c.from-in-loop-g-3.ensures,
      c.exp.ensures,
      c.exp-in-loop-g.ensures,
      c.exp-in-loop-g-2.ensures,
      c.exp-in-loop-g-3.ensures,
    ) in
    simp to_z-of_z (record {
      whole = length-set c.loop-g.made c.loop-g.g z ∙ c.loop-g.invariant.whole;
      each = next_each c.loop-g.made c.args.s.now c.args.t.now c.loop-g.g z c.loop-g.invariant.whole c.loop-g-test.true is c.loop-g.invariant.each;
    })
