use Rattle.interleave_core.proofs.Turning.{no_stranger}
use Rattle.interleave_core.proofs.turns.refused.Goals as goal

pub unreachable-requires-in-Stranger : goal.unreachable-requires-in-Stranger
unreachable-requires-in-Stranger c = no_stranger c.args.book.now c.args.outcome c.requires.hand.1 c.in-Stranger.entry c.requires.book
    (rw c.in-Stranger.is at c.requires.refuses)
