use Rattle.std.proofs.Common.{rules, ◌≡◌, ℕ, pos, List, [], ◌∷◌, ◌++◌, length, sym, ap, subst, ◌∙◌}
use Rattle.std.specs.Arc.{arc_value}
use Rattle.std.proofs.lemmas.Option.{get_or_from_slice_get}
use Rattle.std.specs.List.{AllByRecursion}
use Rattle.std.specs.Prelude.{Some, slice_get}
use Rattle.formal_sums.specs.FormalSum.{coefficient}
use Rattle.laurent_terms.specs.Monomials.{one}
use Rattle.module_vec.specs.declared.places.Place.{Place}
use Rattle.module_vec.specs.declared.places.Term.{Term}
use Rattle.module_vec.specs.declared.steps.Step.{Step}
use Rattle.module_vec.specs.Modules.{steps_at}
use Rattle.module_vec.specs.Places.{same_place}
use Rattle.module_vec.specs.Vectors.{coefficient_at, multiple, IsTerm}
use Rattle.vector_text.proofs.Over.{one_over}
use Rattle.basis_entry.specs.Entries.{MonosAreOver, vectors_of}
use Rattle.basis_entry.proofs.Generators.{once}
use Rattle.basis_entry.proofs.tests.once.Goals as goal

once_is : (b : List (List Term)) (at : ℕ) (v : List Term) (steps : List Step) → slice_get b at ≡ Some v → steps ≡ record { q = pos 1; t = one; by = at } ∷ []
    → AllByRecursion IsTerm v
    → (x : Place) → coefficient_at v x ≡ steps_at b steps x
once_is b at v steps read is terms x =
    once v terms x
    ∙ ap (λ (w : List Term). coefficient same_place (multiple (pos 1) one w ++ []) x) (sym (get_or_from_slice_get b at v [] read))
    ∙ ap (λ (ss : List Step). steps_at b ss x) (sym is)

pub sum-requires-clause-value : goal.sum-requires-clause-value
sum-requires-clause-value c =
    let v : List Term = c.vector.result.now in
    let same : c.of_falling-vector.result ≡ v = search rules in
    let is : c.of.result ≡ record { q = pos 1; t = one; by = c.args.at } ∷ [] = search rules in
    let terms : AllByRecursion IsTerm v = search rules in
    subst (λ (w : List Term). (x : Place) → coefficient_at w x ≡ steps_at (vectors_of c.args.list.now.entries) c.of.result x) (sym same)
    (once_is (vectors_of c.args.list.now.entries) c.args.at v c.of.result c.vector.ensures.is is terms)

pub sum-requires-clause-over : goal.sum-requires-clause-over
sum-requires-clause-over c =
    let n : ℕ = length (arc_value c.args.p.now).names in
    let is : c.of.result ≡ record { q = pos 1; t = one; by = c.args.at } ∷ [] = search rules in
    subst (MonosAreOver n) (sym is) (one_over n, tt)
