use Rattle.std.proofs.Common.{rules, FitsSigned, subst, sym}
use Rattle.std.proofs.lemmas.Int.{to_z-of_z}
use mir.Syntax.{w128}
use Rattle.module_vec.specs.Vectors.{InRange}
use Rattle.strong_pairs.proofs.Quotients.{s_factors, s_range, g_range}
use Rattle.strong_pairs.proofs.factors.factors.Goals as goal

pub returns-in-S-clause-are : goal.returns-in-S-clause-are
returns-in-S-clause-are c =
    let k : FitsSigned w128 c.args.first = search rules in
    let l : FitsSigned w128 c.args.second = search rules in
    let d : FitsSigned w128 c.bezout-divisor.result.0 = search rules in
    let bezout = simp to_z-of_z at c.bezout-divisor.ensures in
    rw c.in-S.is (s_factors c.args.first c.args.second c.bezout-divisor.result.0 c.bezout-divisor.result.1 c.bezout-divisor.result.2 c.requires.first
    c.requires.second k l bezout d)

pub returns-in-S-clause-range : goal.returns-in-S-clause-range
returns-in-S-clause-range c =
    let k : FitsSigned w128 c.args.first = search rules in
    let l : FitsSigned w128 c.args.second = search rules in
    let d : FitsSigned w128 c.bezout-divisor.result.0 = search rules in
    let bezout = simp to_z-of_z at c.bezout-divisor.ensures in
    s_range c.args.first c.args.second c.bezout-divisor.result.0 c.bezout-divisor.result.1 c.bezout-divisor.result.2 c.requires.first
    c.requires.second k l bezout d

pub returns-in-G-clause-range : goal.returns-in-G-clause-range
returns-in-G-clause-range c =
    let k : FitsSigned w128 c.args.first = search rules in
    let l : FitsSigned w128 c.args.second = search rules in
    let u : FitsSigned w128 c.bezout-divisor.result.1 = search rules in
    let v : FitsSigned w128 c.bezout-divisor.result.2 = search rules in
    let bezout = simp to_z-of_z at c.bezout-divisor.ensures in
    let range : InRange c.bezout-divisor.result.1 × InRange c.bezout-divisor.result.2 =
    g_range c.args.first c.args.second c.bezout-divisor.result.0 c.bezout-divisor.result.1 c.bezout-divisor.result.2 c.requires.first
    c.requires.second k l bezout in
    (subst InRange (sym (to_z-of_z w128 c.bezout-divisor.result.1 u)) range.0, subst InRange (sym (to_z-of_z w128 c.bezout-divisor.result.2 v)) range.1)
