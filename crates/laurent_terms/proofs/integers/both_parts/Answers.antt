use Rattle.std.proofs.Common.{rules, arith, ◌≡◌, ℤ, pos, slice_index_or, to_z, of_z, FitsSigned, w32}
use Rattle.std.proofs.lemmas.Grind.{common_steps}
use Rattle.std.proofs.lemmas.Int.{to_z-of_z}
use Rattle.laurent_terms.specs.Monomials.{monomial_of}
use Rattle.laurent_terms.proofs.IntegerVectors.{positive_turn, negative_turn, degree-monomial_of}
use Rattle.laurent_terms.proofs.integers.both_parts.Goals as goal
use Rattle.laurent_terms.proofs.integers.both_parts.Goals.{then-z-lt0, else-z-lt0}

pub loop-g-preserved : goal.loop-g-preserved
loop-g-preserved c =
    let p : FitsSigned w32 (slice_index_or c.args.p.now c.loop-g.g (pos 0)) = search rules in
    let value = simp to_z-of_z at c.unsigned_abs.ensures.value in
    elim c.if-z-lt0.branch [
      | then-z-lt0 w ↦
          let sign = simp to_z-of_z at w.if-z-lt0.true in
          rw (value, c.loop-g.invariant) (negative_turn c.args.p.now c.loop-g.g c.requires.short c.loop-g-test.true c.if-z-lt0.at sign w.at-is)
      | else-z-lt0 w ↦
          let sign = simp to_z-of_z at w.if-z-lt0.false in
          rw (value, c.loop-g.invariant) (positive_turn c.args.p.now c.loop-g.g c.requires.short c.loop-g-test.true c.if-z-lt0.at sign w.at-is)
    ]

pub returns-clause-degree : goal.returns-clause-degree
returns-clause-degree c =
    let is : c.loop-g.made ≡ monomial_of c.args.p.now = grind (arith, common_steps) in
    rw is (degree-monomial_of c.args.p.now)
