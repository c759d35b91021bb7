use Rattle.std.proofs.Common.{arith}
use Rattle.session_text.proofs.EventTurns.{begins}
use Rattle.session_text.proofs.schedule.events.Goals as goal

pub loop-rest-init : goal.loop-rest-init
loop-rest-init c = record {
  so_far = begins c.args.sessions c.args.text.now c.skip_blanks-rest.result.now c.new-events.result.items c.new-events.ensures.items
      c.skip_blanks-rest.ensures.rest c.skip_blanks-rest.ensures.shorter;
  range = rw c.new-events.ensures.items (λ k d lt. absurd (omega arith));
}
