use Rattle.fox_calculus.specs.Generators.{relator_vectors, relator_binomials, unit_binomials, modulus_vectors}
use Rattle.fox_calculus.proofs.GrowingLists.{puts_kinds}
use Rattle.fox_calculus.proofs.listing.generators.Goals as goal

pub returns : goal.returns
returns c =
    puts_kinds c.new-made.result.items c.put_relator_vectors.new.made.items c.put_relator_binomials.new.made.items c.put_unit_binomials.new.made.items
    c.put_modulus_vectors.new.made.items
    (relator_vectors c.args.p.now) (relator_binomials c.args.p.now) (unit_binomials c.args.p.now) (modulus_vectors c.args.p.now) c.new-made.ensures.items
    (λ fs h. c.in_ok-put_relator_vectors.ensures fs h) (λ fs h. c.in_ok-put_relator_binomials.ensures fs h)
    (λ fs h. c.in_ok-put_unit_binomials.ensures fs h) (λ fs h. c.in_ok-put_modulus_vectors.ensures fs h)
