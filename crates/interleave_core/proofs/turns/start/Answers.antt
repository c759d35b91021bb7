use Rattle.std.proofs.Common.{sym, subst}
use Rattle.pair_book.specs.Books.{IsBook}
use Rattle.interleave_core.proofs.Turning.{book_taken, started, restored}
use Rattle.interleave_core.proofs.turns.start.Goals as goal

pub hold_work-requires-clause-book : goal.hold_work-requires-clause-book
hold_work-requires-clause-book c = book_taken c.args.book.now c.take.new.self c.in-Some-take.task c.known.ensures c.in-Some-take.ensures

pub returns-in-Ok-clause-ok : goal.returns-in-Ok-clause-ok
returns-in-Ok-clause-ok c = started c.args.book.now c.take.new.self c.in-Some-take.task c.known.ensures c.in-Some-take.ensures c.in-Ok.hand c.in-Ok.ensures

pub returns-in-Ok-clause-book : goal.returns-in-Ok-clause-book
returns-in-Ok-clause-book c = book_taken c.args.book.now c.take.new.self c.in-Some-take.task c.known.ensures c.in-Some-take.ensures

pub returns-in-Err-clause-err : goal.returns-in-Err-clause-err
returns-in-Err-clause-err c = restored c.args.book.now c.take.new.self c.in-Some-take.task c.known.ensures c.in-Some-take.ensures c.give_back.new.self
    c.give_back.ensures

pub returns-in-Err-clause-book : goal.returns-in-Err-clause-book
returns-in-Err-clause-book c = subst IsBook (sym (restored c.args.book.now c.take.new.self c.in-Some-take.task c.known.ensures c.in-Some-take.ensures
    c.give_back.new.self c.give_back.ensures)) c.known.ensures
