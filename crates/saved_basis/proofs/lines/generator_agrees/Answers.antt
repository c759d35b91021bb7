use Rattle.std.proofs.Common.{◌≡◌, ◌∙◌, Bool, not, if◌then◌else◌, List, length, subst}
use Rattle.module_vec.specs.declared.places.Term.{Term}
use Rattle.module_vec.specs.Modules.{vector_at}
use Rattle.module_vec.specs.Results.{IsGreatest}
use Rattle.module_vec.specs.Vectors.{coefficient_at}
use Rattle.step_lists.specs.Partial.{Differ}
use Rattle.basis_entry.specs.Base.{has_negative_lead}
use Rattle.saved_basis.proofs.Making.{Turned, wanted_is, turned_then, turned_else}
use Rattle.saved_basis.proofs.lines.generator_agrees.Goals.{then-is_negated, else-is_negated}
use Rattle.saved_basis.proofs.lines.generator_agrees.Goals as goal

pub returns-in-Some : goal.returns-in-Some
returns-in-Some c = λ p gens b of.
    let g : List Term = vector_at gens (length b) in
    let m : Bool = has_negative_lead g in
    let sign : c.is_negated.result ≡ m = c.is_negated.ensures (length b) m (c.recipe.ensures ∙ of.recipe) in
    let turn : c.if-is_negated.turned ≡ (if m then not c.args.negated else c.args.negated) = elim c.if-is_negated.branch [
      | then-is_negated w ↦ turned_then c.is_negated.result m c.args.negated c.if-is_negated.turned sign w.if-is_negated.true w.turned-is
      | else-is_negated w ↦ turned_else c.is_negated.result m c.args.negated c.if-is_negated.turned sign w.if-is_negated.false w.turned-is
    ] in
    let made : Turned (if m then not c.args.negated else c.args.negated) c.args.generator.now.vector c.in_ok-wanted.wanted =
    subst (λ (t : Bool). Turned t c.args.generator.now.vector c.in_ok-wanted.wanted) turn
    (subst (λ (v : List Term). Turned c.if-is_negated.turned v c.in_ok-wanted.wanted) c.vector.ensures.is c.in_ok-wanted.ensures) in (
      coefficient_at c.in_ok-wanted.wanted,
      wanted_is m c.args.negated g c.args.generator.now.vector c.in_ok-wanted.wanted of.vector made,
      subst (λ (v : List Term). IsGreatest (Differ v c.args.vector.now) c.in-Some.at) c.of.ensures c.in-Some.ensures,
    )
