use Rattle.std.proofs.Common.{rules, arith, ◌≡◌, ◌≢◌, ◌∙◌, sym, ap, subst, pos, FitsSigned, take, List, true}
use mir.Syntax.{w128}
use borrow.Author.Differences.{ints}
use Rattle.std.proofs.lemmas.Int.{to_z-of_z}
use Rattle.std.specs.Int.{int_div_euclid}
use Rattle.laurent_terms.specs.Monomials.{divides, quotient}
use Rattle.module_vec.specs.declared.places.Term.{Term}
use Rattle.reduce_cofactor.proofs.Resting.{rests_with, read_lead}
use Rattle.reduce_cofactor.proofs.due.due.Goals as goal

pub returns-then-q-eq0 : goal.returns-then-q-eq0
returns-then-q-eq0 g c =
    let b : List (List Term) = take c.args.front (g.L.VecList.vectors c.args.list.now) in
    let r = c.in_ok-by.ensures in
    let lead : r.0 ≡ c.index-terms-0.result = read_lead (g.L.VecList.vectors c.args.list.now) c.args.front c.in_ok-by.by c.vector.result.now c.terms.result.now
    r.0 r.1 c.index-terms-0.result r.2.entry c.vector.ensures.is c.terms.ensures.is c.index-terms-0.is in
    let k : FitsSigned w128 c.args.top.now.k = search rules in
    let l : FitsSigned w128 c.index-terms-0.result.k = search rules in
    let floor = simp to_z-of_z at c.div_euclid-q.ensures in
    let none : c.div_euclid-q.result ≡ pos 0 = omega (arith, ints) in
    rests_with b c.args.top.now c.in_ok-by.by r.0 r.1 r.2 (ap (λ (t : Term). int_div_euclid c.args.top.now.k t.k) lead ∙ sym floor ∙ none)

pub quotient-requires : goal.quotient-requires
quotient-requires g c =
    let r = c.in_ok-by.ensures in
    let lead : r.0 ≡ c.index-terms-0.result = read_lead (g.L.VecList.vectors c.args.list.now) c.args.front c.in_ok-by.by c.vector.result.now c.terms.result.now
    r.0 r.1 c.index-terms-0.result r.2.entry c.vector.ensures.is c.terms.ensures.is c.index-terms-0.is in
    subst (λ (t : Term). divides t.at.m c.args.top.now.at.m ≡ true) lead r.2.reduces.1

pub returns : goal.returns
returns g c =
    let r = c.in_ok-by.ensures in
    let lead : r.0 ≡ c.index-terms-0.result = read_lead (g.L.VecList.vectors c.args.list.now) c.args.front c.in_ok-by.by c.vector.result.now c.terms.result.now
    r.0 r.1 c.index-terms-0.result r.2.entry c.vector.ensures.is c.terms.ensures.is c.index-terms-0.is in
    let k : FitsSigned w128 c.args.top.now.k = search rules in
    let l : FitsSigned w128 c.index-terms-0.result.k = search rules in
    let q : FitsSigned w128 c.div_euclid-q.result = search rules in
    let floor = simp to_z-of_z at c.div_euclid-q.ensures in
    let some : c.div_euclid-q.result ≢ pos 0 = λ z. absurd (omega (arith, ints, z)) in
    simp to_z-of_z (record {
      lead = r.0;
      others = r.1;
      reducer = r.2;
      moves = some;
      factor = floor ∙ ap (λ (t : Term). int_div_euclid c.args.top.now.k t.k) (sym lead);
      monomial = c.quotient.ensures.is ∙ ap (λ (t : Term). quotient c.args.top.now.at.m t.at.m) (sym lead);
    })
