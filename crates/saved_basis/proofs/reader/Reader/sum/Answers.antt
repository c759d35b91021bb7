use Rattle.std.proofs.Common.{rules, ◌≡◌, ◌≤◌, List, length, sym, subst, ◌∙◌, arith}
use Rattle.std.proofs.lemmas.Result.{err_from_is_err_and}
use Rattle.std.specs.Arc.{arc_value}
use Rattle.presentation.specs.Presented.{Presented}
use Rattle.module_vec.specs.declared.steps.Step.{Step}
use Rattle.module_vec.specs.Vectors.{coefficient_at}
use Rattle.step_lists.specs.declared.way.Way.TheVariants.{Add}
use Rattle.step_lists.specs.Sums.{zero_vector}
use Rattle.cert_checker.specs.States.{AreNear}
use Rattle.cert_checker.specs.Checking.{StepsLead}
use Rattle.report_lines.specs.declared.lines.Made.TheVariants as made
use Rattle.basis_entry.specs.declared.recipes.Recipe.TheVariants.{Sum}
use Rattle.basis_entry.specs.Entries.{BasisEntry, IsBasisEntry, MonosAreOver, vectors_of}
use Rattle.saved_basis.specs.Readers.{IsNextEntry}
use Rattle.saved_basis.proofs.Making.{same_count, monos, steps_are, value, adds_up, next_sum}
use Rattle.saved_basis.proofs.NextLines.{sum_fails}
use Rattle.saved_basis.proofs.reader.Reader.sum.Goals as goal

pub returns-in_err-recipe_agrees : goal.returns-in_err-recipe_agrees
returns-in_err-recipe_agrees c = λ gens are.
    let list : c.of-list.result.entries ≡ c.args.self.now.entries = search rules in
    let p = err_from_is_err_and c.from_residual.result c.from_residual.ensures.1 in
    sum_fails c.from_residual.result (λ e. IsNextEntry c.args.self.now gens (made.Sum c.args.steps) c.args.vector (arc_value e)) c.args.self.now gens
    c.args.steps c.steps-2.result.now c.of-list.result.entries c.args.vector p.0 c.in_err-recipe_agrees.field-0.0 p.1 p.2 list c.steps-2.ensures
    (c.in_err-recipe_agrees.ensures gens)

pub sum-requires-clause-steps : goal.sum-requires-clause-steps
sum-requires-clause-steps c =
    let leads : StepsLead Add (vectors_of c.of-list.result.entries) zero_vector c.args.steps (coefficient_at c.args.vector) =
    subst (λ (ss : List Step). StepsLead Add (vectors_of c.of-list.result.entries) zero_vector ss (coefficient_at c.args.vector)) c.steps-2.ensures
    (c.in_ok-recipe_agrees.ensures c.known.ensures.base.gens) in
    steps_are (length c.args.self.now.source.names) (vectors_of c.of-list.result.entries) c.args.steps c.requires.over leads.0

pub sum-requires-clause-value : goal.sum-requires-clause-value
sum-requires-clause-value c =
    let list : c.of-list.result.entries ≡ c.args.self.now.entries = search rules in
    let leads : StepsLead Add (vectors_of c.of-list.result.entries) zero_vector c.args.steps (coefficient_at c.args.vector) =
    subst (λ (ss : List Step). StepsLead Add (vectors_of c.of-list.result.entries) zero_vector ss (coefficient_at c.args.vector)) c.steps-2.ensures
    (c.in_ok-recipe_agrees.ensures c.known.ensures.base.gens) in
    let near : AreNear (vectors_of c.of-list.result.entries) c.args.steps =
    subst (λ (es : List BasisEntry). AreNear (vectors_of es) c.args.steps) (sym list) c.requires.near in
    adds_up (length c.args.self.now.source.names) (vectors_of c.of-list.result.entries) c.args.steps c.args.vector c.requires.over near
    c.requires.entry.vector leads

pub sum-requires-clause-over : goal.sum-requires-clause-over
sum-requires-clause-over c =
    let source : c.args.self.now.source ≡ arc_value c.self.inside.p.now = search rules in
    subst (λ (q : Presented). MonosAreOver (length q.names) c.args.steps) source (monos (length c.args.self.now.source.names) c.args.steps c.requires.over)

pub returns : goal.returns
returns c = λ gens are.
    let list : c.of-list.result.entries ≡ c.args.self.now.entries = search rules in
    let source : c.args.self.now.source ≡ arc_value c.self.inside.p.now = search rules in
    let leads : StepsLead Add (vectors_of c.args.self.now.entries) zero_vector c.args.steps (coefficient_at c.args.vector) =
    subst (λ (ss : List Step). StepsLead Add (vectors_of c.args.self.now.entries) zero_vector ss (coefficient_at c.args.vector)) c.steps-2.ensures
    (subst (λ (es : List BasisEntry). StepsLead Add (vectors_of es) zero_vector c.steps-2.result.now (coefficient_at c.args.vector)) list
    (c.in_ok-recipe_agrees.ensures gens)) in
    let turn : length gens ≤ length c.args.self.now.entries =
    omega (arith, c.requires.turn, same_count c.args.self.now.source c.args.self.now.generators c.known.ensures.base gens are) in
    let same : c.deref-2.result.now ≡ arc_value c.in_ok-entry.entry = search rules in
    next_sum c.args.self.now gens c.args.steps c.args.vector (arc_value c.in_ok-entry.entry) turn c.requires.over
    (value (length c.args.self.now.source.names) (vectors_of c.args.self.now.entries) c.args.steps c.args.vector c.requires.over c.requires.near
    c.requires.entry.vector leads)
    (subst IsBasisEntry same c.known-2.ensures)
    (c.in_ok-entry.ensures ∙ (λ i. record { source = sym source i; vector = c.args.vector; recipe = Sum c.args.steps }))
