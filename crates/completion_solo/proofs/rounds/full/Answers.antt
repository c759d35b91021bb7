use Rattle.completion_solo.proofs.Ending.{ends_full}
use Rattle.completion_solo.proofs.rounds.full.Goals as goal

pub returns : goal.returns
returns c = ends_full c.args.book.now c.give_back.new.self c.args.task c.in-Full.measure c.in-Full.count c.known.ensures c.requires.hand
    (rw c.in-Full.is at c.requires.full) c.give_back.ensures
