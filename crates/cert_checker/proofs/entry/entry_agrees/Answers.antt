use Rattle.std.proofs.Common.{◌≡◌, ◌<◌, [], length, sym, ap, ◌∙◌, subst}
use Rattle.module_vec.specs.Vectors.{coefficient_at}
use Rattle.module_vec.specs.Modules.{vector_at}
use Rattle.report_lines.specs.declared.lines.Made.TheVariants as made
use Rattle.cert_checker.specs.States.{IsInTurnAt}
use Rattle.cert_checker.specs.Checking.{Outcome, IsMadeAt, EntryFailsAt}
use Rattle.cert_checker.proofs.Lists.{same_element}
use Rattle.cert_checker.proofs.entry.entry_agrees.Goals as goal

pub returns-in-Gen : goal.returns-in-Gen
returns-in-Gen c =
    let turn : c.args.number < length c.args.generators.now =
    subst (IsInTurnAt c.args.generators.now c.args.entries.now c.args.number) c.in-Gen.is c.requires.turn in
    let here : vector_at c.args.generators.now c.args.number ≡ c.index-generators-number.result =
    sym (c.index-generators-number.is ∙ same_element c.args.generators.now c.args.number c.index-generators-number.result []
    turn) in
    subst (λ m. Outcome (λ _. IsMadeAt c.args.generators.now c.args.entries.now c.args.number m (coefficient_at c.args.vector.now))
    (EntryFailsAt c.args.generators.now c.args.entries.now c.args.number m c.args.vector.now) c.generator_agrees.result) (sym c.in-Gen.is)
    (c.generator_agrees.ensures c.args.generators.now c.args.entries.now c.args.number here)

pub returns-in-Sum : goal.returns-in-Sum
returns-in-Sum c =
    let is : c.args.made.now ≡ made.Sum c.steps.result.now = c.in-Sum.is ∙ ap made.Sum (sym c.steps.ensures) in
    subst (λ m. Outcome (λ _. IsMadeAt c.args.generators.now c.args.entries.now c.args.number m (coefficient_at c.args.vector.now))
    (EntryFailsAt c.args.generators.now c.args.entries.now c.args.number m c.args.vector.now) c.recipe_agrees.result) (sym is)
    (c.recipe_agrees.ensures c.args.generators.now c.args.number)
