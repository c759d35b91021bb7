use Rattle.std.proofs.Common.{option_map}
use Rattle.vector_text.proofs.Parts.{size}
use Rattle.step_text.proofs.StepLists.{Going}
use Rattle.step_text.proofs.list.some_steps.Given as goal

abbrev pub invariant-loop-left : goal.invariant-loop-left
invariant-loop-left l = Going l.p.names l.text l.steps.items (option_map (λ r. r.now) l.left)

abbrev pub decreases-loop-left : goal.decreases-loop-left
decreases-loop-left l = size (option_map (λ r. r.now) l.left)
