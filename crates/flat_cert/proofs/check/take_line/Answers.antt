use Rattle.std.proofs.Common.{rules, ◌-◌, ◌<◌, sym, subst, arith, length, FitsSigned}
use mir.Syntax.{w128}
use Rattle.std.proofs.lemmas.Int.{to_z-of_z}
use Rattle.fox_calculus.specs.Fox.{fox, image}
use Rattle.fox_calculus.specs.Generators.{IsWritten, binomial, constant}
use Rattle.flat_cert.specs.Certificates.{relator, IsKind, generator_of}
use Rattle.flat_cert.specs.Adding.{TakesAway}
use Rattle.flat_cert.proofs.Taking.{relators_length, relator_at}
use Rattle.flat_cert.proofs.check.take_line.Goals as goal

pub bounds-relators-relator : goal.bounds-relators-relator
bounds-relators-relator c =
    let is = subst (IsKind c.args.p.now) c.in-Rel.is c.requires.line.kind in
    omega (arith, is.0, is.1, relators_length c.args.p.now.relators c.args.relators.now c.requires.relators)

pub bounds-relators-relator-in-Bin : goal.bounds-relators-relator-in-Bin
bounds-relators-relator-in-Bin c =
    let is = subst (IsKind c.args.p.now) c.in-Bin.is c.requires.line.kind in
    omega (arith, is.0.0, is.0.1, relators_length c.args.p.now.relators c.args.relators.now c.requires.relators)

pub returns-in-Rel : goal.returns-in-Rel
returns-in-Rel c =
    let k : FitsSigned w128 c.args.line.now.k = search rules in
    let takes = simp to_z-of_z at c.take.ensures in
    let is = subst (IsKind c.args.p.now) c.in-Rel.is c.requires.line.kind in
    let below : c.in-Rel.relator - 1 < length c.args.relators.now =
    omega (arith, is.0, is.1, relators_length c.args.p.now.relators c.args.relators.now c.requires.relators) in
    let own = relator_at c.args.p.now.relators c.args.relators.now (c.in-Rel.relator - 1) c.index-relators-relator.result c.requires.relators below
    c.index-relators-relator.is in
    subst (λ what. TakesAway c.args.totals.now c.args.line.now.k c.args.line.now.t (generator_of c.args.p.now what) c.take.new.totals c.take.result)
    (sym c.in-Rel.is) (takes (fox (relator c.args.p.now c.in-Rel.relator)) own.0)

pub returns-in_ok-vector-in-Bin : goal.returns-in_ok-vector-in-Bin
returns-in_ok-vector-in-Bin c =
    let k : FitsSigned w128 c.args.line.now.k = search rules in
    let takes = simp to_z-of_z at c.take-in-Bin.ensures in
    let is = subst (IsKind c.args.p.now) c.in-Bin.is c.requires.line.kind in
    let below : c.in-Bin.relator - 1 < length c.args.relators.now =
    omega (arith, is.0.0, is.0.1, relators_length c.args.p.now.relators c.args.relators.now c.requires.relators) in
    let own = relator_at c.args.p.now.relators c.args.relators.now (c.in-Bin.relator - 1) c.index-relators-relator-in-Bin.result c.requires.relators below
    c.index-relators-relator-in-Bin.is in
    subst (λ what. TakesAway c.args.totals.now c.args.line.now.k c.args.line.now.t (generator_of c.args.p.now what) c.take-in-Bin.new.totals
    c.take-in-Bin.result) (sym c.in-Bin.is) (takes (binomial (image (relator c.args.p.now c.in-Bin.relator)) c.in-Bin.c)
    (subst (λ m. IsWritten (binomial m c.in-Bin.c) c.in_ok-vector-in-Bin.vector) own.1 c.in_ok-vector-in-Bin.ensures))

pub returns-in_ok-vector-in-Mod : goal.returns-in_ok-vector-in-Mod
returns-in_ok-vector-in-Mod c =
    let k : FitsSigned w128 c.args.line.now.k = search rules in
    let takes = simp to_z-of_z at c.take-in-Mod.ensures in
    subst (λ what. TakesAway c.args.totals.now c.args.line.now.k c.args.line.now.t (generator_of c.args.p.now what) c.take-in-Mod.new.totals
    c.take-in-Mod.result) (sym c.in-Mod.is) (takes (constant c.args.p.now.modulus c.in-Mod.c)
    (subst (λ m. IsWritten (constant m c.in-Mod.c) c.in_ok-vector-in-Mod.vector) c.modulus.ensures c.in_ok-vector-in-Mod.ensures))
