use Rattle.fox_calculus.specs.Generators.{relator_vectors, relator_binomials, unit_binomials, modulus_vectors}
use Rattle.flat_making.specs.Kinds.{relator_kinds, binomial_kinds, unit_kinds, modulus_kinds}
use Rattle.flat_making.proofs.Naming.{names_all}
use Rattle.flat_making.proofs.kinds.generator_kinds.Goals as goal

pub returns : goal.returns
returns c =
    names_all (relator_vectors c.args.p.now) (relator_binomials c.args.p.now) (unit_binomials c.args.p.now) (modulus_vectors c.args.p.now)
    (relator_kinds c.args.p.now) (binomial_kinds c.args.p.now) (unit_kinds c.args.p.now) (modulus_kinds c.args.p.now)
    c.new-made.result.items c.put_relators.new.made.items c.put_relator_binomials.new.made.items c.put_unit_binomials.new.made.items
    c.put_modulus_vectors.new.made.items c.new-made.ensures.items c.in_ok-put_relators.ensures c.in_ok-put_relator_binomials.ensures
    c.in_ok-put_unit_binomials.ensures c.in_ok-put_modulus_vectors.ensures
