use Rattle.std.proofs.Common.{rules, ◌≡◌, ℕ, List, subst}
use Rattle.gen_input.specs.Texts.{presentation_text, session_text}
use Rattle.command_floor.specs.Files.{CommandEnd}
use Rattle.solve_commands.specs.Generate.{TextsLead}
use Rattle.solve_commands.proofs.generate.answer.Goals as goal

pub returns-clause-exact : goal.returns-clause-exact
returns-clause-exact c =
    let pres : List ℕ = presentation_text c.args.seed in
    let session : List ℕ = session_text c.args.seed in
    let one : c.deref.result.now ≡ pres = search rules in
    let other : c.deref-2.result.now ≡ session = search rules in
    subst (λ (t : List ℕ). CommandEnd (TextsLead c.args.seed pres t) c.summarize.result) other
    (subst (λ (t : List ℕ). CommandEnd (TextsLead c.args.seed t c.deref-2.result.now) c.summarize.result) one c.summarize.ensures.exact)
