use Rattle.interleave_core.proofs.Turning.{all_there, committed}
use Rattle.interleave_core.proofs.turns.commit.Goals as goal

pub commit_known-committed-requires-clause-there : goal.commit_known-committed-requires-clause-there
commit_known-committed-requires-clause-there c = all_there c.args.book.now c.args.outcome c.requires.hand.1

pub returns-in-Ok-clause-ok : goal.returns-in-Ok-clause-ok
returns-in-Ok-clause-ok c = committed c.args.book.now c.commit_known-committed.new.self c.args.outcome c.known-3.ensures c.known-2.ensures
    c.requires.hand.1 c.in-Ok.field-0 c.in-Ok.ensures
