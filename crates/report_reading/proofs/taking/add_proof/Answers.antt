use Rattle.report_reading.proofs.Placing.{proof_put}
use Rattle.report_reading.proofs.taking.add_proof.Goals as goal

pub returns : goal.returns
returns c = proof_put c.args.steps c.args.replies.now.items c.pop.new.self.items c.push-2.new.self.items c.in-Some.reply _ c.in-Some.ensures.items
    c.in_ok-push.ensures c.in_ok-push-2.ensures.items
