use Rattle.std.proofs.Common.{◌≡◌, ℕ, List, length, sym, subst, ap, ◌∙◌}
use Rattle.std.specs.List.{AllByRecursion}
use Rattle.module_vec.specs.declared.places.Term.{Term}
use Rattle.module_vec.specs.declared.steps.Step.{Step}
use Rattle.module_vec.specs.Modules.{AreSteps}
use Rattle.module_vec.specs.Results.{Has}
use Rattle.module_vec.specs.Modules.{steps_at}
use Rattle.module_vec.specs.Vectors.{InRange}
use Rattle.std.specs.Arc.{arc_value}
use Rattle.basis_entry.specs.Entries.{BasisEntry, MonosAreOver, vectors_of}
use Rattle.basis_entry.proofs.Over.{entries_over}
use Rattle.basis_entry.proofs.Vectors.{are_entries}
use Rattle.pair_work.specs.Works.{signed, recipe_of}
use Rattle.pair_work.proofs.Chained.{ranges}
use Rattle.pair_work.proofs.Made.{all_sound, signed_are, signed_has, signed_entry}
use Rattle.pair_work.proofs.OverSteps.{signed_over}
use Rattle.pair_work.proofs.working.rest_entry.Goals as goal

pub recipe-requires-clause-steps : goal.recipe-requires-clause-steps
recipe-requires-clause-steps g c =
    let es : List BasisEntry = g.F.Front.entries c.args.list.now in
    let d = c.args.done in
    subst (λ (ss : List Step). AllByRecursion (λ s. InRange s.q) ss) (sym c.deref.ensures.value)
    (ranges (vectors_of es) d.steps.items (all_sound (vectors_of es) (are_entries es c.known.ensures) c.args.task c.requires.pair c.requires.uncovered
    d.first d.second d.steps.items d.rest c.requires.done))

pub sum-requires-clause-steps : goal.sum-requires-clause-steps
sum-requires-clause-steps g c =
    let es : List BasisEntry = g.F.Front.entries c.args.list.now in
    let d = c.args.done in
    let steps : List Step = c.of.result in
    let is : steps ≡ signed c.has_negative_lead-negated.result (recipe_of d.first d.second d.steps.items) =
    c.of.ensures ∙ c.in_ok-recipe.ensures ∙ ap (λ (ss : List Step). signed c.has_negative_lead-negated.result (recipe_of d.first d.second ss))
    c.deref.ensures.value in
    subst (λ (vs : List (List Term)). AreSteps vs steps) (sym (g.met.F.Front.vectors_are c.args.list.now))
    (subst (AreSteps (vectors_of es)) (sym is) (signed_are (vectors_of es) (are_entries es c.known.ensures) c.args.task c.requires.pair
    c.requires.uncovered d.first d.second d.steps.items d.rest c.requires.done c.has_negative_lead-negated.result))

pub sum-requires-clause-value : goal.sum-requires-clause-value
sum-requires-clause-value g c =
    let es : List BasisEntry = g.F.Front.entries c.args.list.now in
    let d = c.args.done in
    let steps : List Step = c.of.result in
    let is : steps ≡ signed c.has_negative_lead-negated.result (recipe_of d.first d.second d.steps.items) =
    c.of.ensures ∙ c.in_ok-recipe.ensures ∙ ap (λ (ss : List Step). signed c.has_negative_lead-negated.result (recipe_of d.first d.second ss))
    c.deref.ensures.value in
    subst (λ (vs : List (List Term)). Has c.turned_if-vector.result (steps_at vs steps)) (sym (g.met.F.Front.vectors_are c.args.list.now))
    (subst (λ (ss : List Step). Has c.turned_if-vector.result (steps_at (vectors_of es) ss)) (sym is)
    (signed_has (vectors_of es) (are_entries es c.known.ensures) c.args.task c.requires.pair c.requires.uncovered d.first d.second d.steps.items
    d.rest c.requires.done c.has_negative_lead-negated.result c.turned_if-vector.result c.turned_if-vector.ensures))

pub sum-requires-clause-entry : goal.sum-requires-clause-entry
sum-requires-clause-entry g c =
    let es : List BasisEntry = g.F.Front.entries c.args.list.now in
    let d = c.args.done in
    signed_entry (vectors_of es) (are_entries es c.known.ensures) c.args.task c.requires.pair c.requires.uncovered d.first d.second d.steps.items d.rest
    c.requires.done c.has_negative_lead-negated.result c.turned_if-vector.result c.requires.some (sym c.has_negative_lead-negated.ensures)
    c.turned_if-vector.ensures

pub sum-requires-clause-over : goal.sum-requires-clause-over
sum-requires-clause-over g c =
    let es : List BasisEntry = g.F.Front.entries c.args.list.now in
    let n : ℕ = length (arc_value c.args.p.now).names in
    let d = c.args.done in
    let steps : List Step = c.of.result in
    let is : steps ≡ signed c.has_negative_lead-negated.result (recipe_of d.first d.second d.steps.items) =
    c.of.ensures ∙ c.in_ok-recipe.ensures ∙ ap (λ (ss : List Step). signed c.has_negative_lead-negated.result (recipe_of d.first d.second ss))
    c.deref.ensures.value in
    subst (MonosAreOver n) (sym is)
    (signed_over n (vectors_of es) (are_entries es c.known.ensures) (entries_over (arc_value c.args.p.now) es c.known.ensures
    c.requires.entries) c.args.task d.first d.second d.steps.items d.rest c.requires.done c.has_negative_lead-negated.result)
