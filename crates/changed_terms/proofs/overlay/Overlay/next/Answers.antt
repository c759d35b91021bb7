use Rattle.std.proofs.Common.{rules, sym, subst, ◌∷◌, [], FitsSigned}
use mir.Syntax.{w128}
use Rattle.std.proofs.lemmas.Int.{to_z-of_z}
use Rattle.std.specs.List.{AllByRecursion}
use Rattle.module_vec.specs.Vectors.{IsSparse}
use Rattle.module_vec.proofs.FallingTerms.{all_front}
use Rattle.changed_terms.specs.Overlays.{overlay, IsCoefficient, IsFirstAbove, Passes}
use Rattle.changed_terms.proofs.Overlays.{passes_given, passes_changed, below_keys, sparse_skips}
use Rattle.changed_terms.proofs.overlay.Overlay.next.Goals as goal

pub invariant_of-self : goal.invariant_of-self
invariant_of-self c =
    let all : IsSparse (c.in-Some.top ∷ c.in-Some.others.now) = subst IsSparse c.in-Some.ensures.0 c.self.invariant.0 in (
      record { falling = all.falling.1; terms = all.terms.1 },
      c.self.invariant.1,
    )

pub returns-in-Some-clause-is : goal.returns-in-Some-clause-is
returns-in-Some-clause-is c =
    subst (λ old. Passes old c.in-Some.top (overlay c.self.inside.changed.entries c.in-Some.others.now)) (λ i. (c.self.view_is i).0)
    (passes_given c.self.inside.changed.entries c.in-Some.top c.in-Some.others.now c.self.inside.given.now c.self.invariant.0 c.in-Some.ensures.0
    c.in-Some.ensures.1)

pub invariant_of-self-2 : goal.invariant_of-self-2
invariant_of-self-2 c =
    let k : FitsSigned w128 c.in_ok-at.k = search rules in
    let removal = c.in_ok-at.ensures.removal in (
      sparse_skips c.in_ok-at.at c.self.inside.given.now c.without-self-inside.result.now c.self.invariant.0 c.without-self-inside.ensures,
      all_front IsCoefficient c.pop_last.new.self.entries ((c.in_ok-at.at, c.in_ok-at.k) ∷ [])
          (subst (AllByRecursion IsCoefficient) removal c.self.invariant.1),
    )

pub returns-clause-is : goal.returns-clause-is
returns-clause-is c =
    let k : FitsSigned w128 c.in_ok-at.k = search rules in
    let removal = c.in_ok-at.ensures.removal in
    let passes : Passes (overlay c.self.inside.changed.entries c.self.inside.given.now) (record {
      at = c.in_ok-at.at;
      k = c.in_ok-at.k;
    }) (overlay c.pop_last.new.self.entries c.without-self-inside.result.now) =
    subst (λ es. Passes (overlay es c.self.inside.given.now) (record {
      at = c.in_ok-at.at;
      k = c.in_ok-at.k;
    }) (overlay c.pop_last.new.self.entries c.without-self-inside.result.now)) (sym removal)
    (passes_changed c.pop_last.new.self.entries c.in_ok-at.at c.in_ok-at.k c.self.inside.given.now c.without-self-inside.result.now
    (below_keys c.pop_last.new.self.entries c.in_ok-at.at c.in_ok-at.ensures.all_below)
    (λ a. c.in_default.ensures (subst (IsFirstAbove c.self.inside.given.now) (sym removal) a)) c.without-self-inside.ensures) in
    simp to_z-of_z (subst (λ old. Passes old (record { at = c.in_ok-at.at; k = c.in_ok-at.k })
    (overlay c.pop_last.new.self.entries c.without-self-inside.result.now)) (λ i. (c.self.view_is i).0) passes)
