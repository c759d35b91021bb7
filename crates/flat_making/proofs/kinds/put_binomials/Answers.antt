use Rattle.std.proofs.Common.{rules, ◌≡◌}
use Rattle.std.specs.Prelude.{Some, ◌↔◌, IsTrue}
use Rattle.laurent_terms.specs.Monomials.{one}
use Rattle.fox_calculus.specs.Generators.{binomial}
use Rattle.flat_cert.specs.declared.lines.FlatKind.TheVariants.{Bin}
use Rattle.flat_making.proofs.Naming.{names_number, binomial_test}
use Rattle.flat_making.proofs.kinds.put_binomials.Goals as goal

pub loop-c-preserved : goal.loop-c-preserved
loop-c-preserved c =
    let is : IsTrue c.eq-is_zero.result ↔ (c.args.m.now ≡ one) = search rules in
    names_number (binomial c.args.m.now) (λ k. Some (Bin c.args.relator k)) c.loop-c.c c.args.made.now.items c.loop-c.made.items c.put.new.made.items
    c.loop-c.invariant (c.in_ok-put.ensures (binomial c.args.m.now c.loop-c.c) (binomial_test c.args.m.now c.loop-c.c c.eq-is_zero.result is))
