use Rattle.std.proofs.Common.{ap, sum_by, unsigned_abs, length, arith}
use Rattle.module_vec.specs.declared.places.Term.{Term}
use Rattle.fox_calculus.proofs.Short.{terms_few, terms_small}
use Rattle.fox_calculus.proofs.derivatives.fox.Goals as goal

pub small_sum-requires-clause-few : goal.small_sum-requires-clause-few
small_sum-requires-clause-few c =
    let many = terms_few c.in_ok-terms.terms.items c.letters.result.now c.in_ok-terms.ensures in
    omega (arith, many, ap length c.letters.ensures.letters, c.requires.short, ap length c.deref.ensures.value)

pub small_sum-requires-clause-small : goal.small_sum-requires-clause-small
small_sum-requires-clause-small c =
    let all = terms_small c.in_ok-terms.terms.items c.letters.result.now c.in_ok-terms.ensures in
    omega (arith, all, ap length c.letters.ensures.letters, c.requires.short, ap (sum_by (λ (t : Term). unsigned_abs t.k)) c.deref.ensures.value)
