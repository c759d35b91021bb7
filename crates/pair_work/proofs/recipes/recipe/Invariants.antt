use Rattle.std.proofs.Common.{◌≡◌, take}
use Rattle.pair_work.specs.Works.{recipe_of, signed}
use Rattle.pair_work.proofs.recipes.recipe.Given as goal

abbrev pub invariant-loop-step : goal.invariant-loop-step
invariant-loop-step l = l.made.items ≡ signed l.negated (recipe_of l.fn.first l.fn.second (take l.step-index l.steps))
