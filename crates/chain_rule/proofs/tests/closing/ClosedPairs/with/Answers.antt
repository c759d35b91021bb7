use Rattle.std.proofs.Common.{◌≡◌, ℕ, List, [], ◌∷◌, length, refl, sym, ap, subst, ◌∙◌, arith}
use Rattle.module_vec.specs.declared.places.Term.{Term}
use Rattle.module_vec.specs.Reducers.{AreEntries}
use Rattle.module_vec.specs.Vectors.{coefficient_at}
use Rattle.outcomes.specs.declared.kinds.PairKind.TheVariants.{S}
use Rattle.strong_pairs.specs.Pairs.{IsPair}
use Rattle.strong_pairs.specs.Results.{IsPairVector}
use Rattle.strong_pairs.proofs.Chaining.{closed_by_chain}
use Rattle.chain_rule.specs.ClosedPairs.{IsClosedPair, AreClosedPairs}
use Rattle.chain_rule.proofs.Selected.{all_append}
use Rattle.chain_rule.proofs.tests.closing.ClosedPairs.with.Goals as goal

closes : (b : List (List Term)) → AreEntries b → (i j : ℕ) → IsPair b i j → (v : List Term) → IsPairVector S b i j v → v ≡ [] → IsClosedPair b i j
closes b entries i j pair v made e = (pair, closed_by_chain b entries i j pair S v made [] (coefficient_at v) (λ x. refl) (λ x. ap (λ w. coefficient_at w x) e))

none : (v : List Term) → length v ≡ 0 → v ≡ []
none [] e = refl
none (t ∷ v) e = absurd (omega (arith, e))

pub invariant_of-result : goal.invariant_of-result
invariant_of-result c =
    let b = c.self.inside.entries in
    let pair = c.is_pair.ensures.0 c.if-not-is_pair.false in
    let test = sym c.is_empty.ensures ∙ c.if-not-is_empty.false in
    let is = c.terms.ensures.is in
    let empty : length c.in-Ok.v ≡ 0 = grind arith in
    let closed = closes b c.count.ensures.entries c.args.i c.args.j pair c.in-Ok.v c.in-Ok.ensures (none c.in-Ok.v empty) in
    subst (AreClosedPairs b) (sym c.in_ok-push.ensures.items) (all_append (λ p. IsClosedPair b p.0 p.1) c.self.inside.pairs.items ((c.args.i, c.args.j) ∷ [])
    c.self.invariant (closed, tt))
