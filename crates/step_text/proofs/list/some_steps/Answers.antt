use Rattle.std.proofs.Common.{List, ℕ, Some, option_map, Bor, ap}
use Rattle.presentation.proofs.WritingBack.{names_of}
use Rattle.step_text.proofs.StepLists.{Going, still, no_step, going_on}
use Rattle.step_text.proofs.list.some_steps.Goals as goal
use Rattle.step_text.proofs.list.some_steps.Goals.{In-Some}

here : (c : In-Some) → Going c.args.p.now.names c.args.text.now c.loop-left.steps.items (Some c.in-Some.rest.now)
here c = still c.args.p.now.names c.args.text.now c.loop-left.steps.items (option_map (λ (r : Bor (List ℕ)). r.now) c.loop-left.left) c.in-Some.rest.now
    (ap (option_map (λ (r : Bor (List ℕ)). r.now)) c.in-Some.is) c.loop-left.invariant

pub returns-in_default-step_of : goal.returns-in_default-step_of
returns-in_default-step_of c =
    let h = here (goal.at.returns-in_default-step_of c).In-Some in
    no_step c.args.p.now.names (names_of c.args.p.now c.known.ensures) c.args.text.now c.in-Some.rest.now c.first_part.result.0.now _ c.loop-left.steps.items h
    c.first_part.ensures.parts c.in_default-step_of.ensures

pub loop-left-preserved : goal.loop-left-preserved
loop-left-preserved c =
    let h = here (goal.at.loop-left-preserved c).In-Some in
    rw c.in_ok-push.ensures.items (going_on c.args.p.now.names c.args.text.now c.in-Some.rest.now c.first_part.result.0.now _ c.loop-left.steps.items
    c.in-Some-step_of.step h c.first_part.ensures.parts c.in-Some-step_of.ensures)
