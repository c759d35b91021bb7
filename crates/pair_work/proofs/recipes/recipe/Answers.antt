use Rattle.std.proofs.Common.{arith}
use Rattle.pair_work.proofs.Composing.{begun, composed, whole}
use Rattle.pair_work.proofs.recipes.recipe.Goals as goal

pub loop-step-init : goal.loop-step-init
loop-step-init c = begun c.args.negated c.args.first c.args.second c.turned_if.result c.turned_if-2.result c.new-made.result.items c.push.new.self.items
    c.push-2.new.self.items c.turned_if.ensures c.turned_if-2.ensures c.new-made.ensures.items c.in_ok-push.ensures.items c.in_ok-push-2.ensures.items

pub loop-step-preserved : goal.loop-step-preserved
loop-step-preserved c = composed c.args.negated c.args.first c.args.second c.args.steps.now c.loop-step.step-index c.step-item.result
    c.turned_if-in-loop-step.result c.loop-step.made.items c.push-in-loop-step.new.self.items (omega arith) c.step-item.is c.turned_if-in-loop-step.ensures
    c.loop-step.invariant c.in_ok-push-3.ensures.items

pub returns : goal.returns
returns c = whole c.args.negated c.args.first c.args.second c.args.steps.now c.loop-step.made.items c.loop-step.step-index (omega arith) c.loop-step.invariant
