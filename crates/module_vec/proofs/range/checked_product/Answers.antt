use Rattle.std.proofs.Common.{rules, arith, ◌≡◌, ◌*◌, ◌≤◌, ◌*ℤ◌, FitsSigned, to_z, of_z, ap, ◌∙◌, sym, subst}
use mir.Syntax.{w128}
use Rattle.std.specs.Prelude.{unsigned_abs}
use Rattle.std.proofs.lemmas.Int.{to_z-of_z, unsigned_abs-mul, fits_signed_mul}
use Rattle.std.proofs.lemmas.Nat.{mul-le}
use Rattle.module_vec.specs.declared.TheConstants.{COEFFICIENT}
use Rattle.module_vec.specs.declared.range.TheConstants.{NARROW}
use Rattle.module_vec.specs.Vectors.{InRange}
use Rattle.module_vec.proofs.range.checked_product.Goals as goal

pub returns-then-unsigned_abs-le-NARROW-2 : goal.returns-then-unsigned_abs-le-NARROW-2
returns-then-unsigned_abs-le-NARROW-2 c =
    let a : FitsSigned w128 c.args.a = search rules in
    let b : FitsSigned w128 c.args.b = search rules in
    let first : unsigned_abs c.args.a ≤ NARROW = (let value = simp to_z-of_z at c.unsigned_abs.ensures.value
    in omega (arith, c.if-unsigned_abs-le-NARROW.true, value)) in
    let second : unsigned_abs c.args.b ≤ NARROW = (let value = simp to_z-of_z at c.unsigned_abs-then-unsigned_abs-le-NARROW.ensures.value
    in omega (arith, c.if-unsigned_abs-le-NARROW-2.true, value)) in
    let size : unsigned_abs c.args.a * unsigned_abs c.args.b ≤ NARROW * NARROW =
    mul-le (unsigned_abs c.args.a) (unsigned_abs c.args.b) NARROW NARROW first second in
    let within : NARROW * NARROW ≤ COEFFICIENT = omega arith in
    let range : InRange (c.args.a *ℤ c.args.b) = omega (arith, size, within, unsigned_abs-mul c.args.a c.args.b) in
    let fits : FitsSigned w128 (c.args.a *ℤ c.args.b) = fits_signed_mul w128 c.args.a c.args.b NARROW NARROW first second (omega arith) in
    let product : to_z w128 (of_z w128 (to_z w128 (of_z w128 c.args.a) *ℤ to_z w128 (of_z w128 c.args.b))) ≡ c.args.a *ℤ c.args.b =
    ap (λ z. to_z w128 (of_z w128 (z *ℤ to_z w128 (of_z w128 c.args.b)))) (to_z-of_z w128 c.args.a a)
    ∙ ap (λ z. to_z w128 (of_z w128 (c.args.a *ℤ z))) (to_z-of_z w128 c.args.b b) ∙ to_z-of_z w128 (c.args.a *ℤ c.args.b) fits in
    (product, subst InRange (sym product) range)
