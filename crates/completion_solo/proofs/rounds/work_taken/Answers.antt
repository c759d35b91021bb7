use Rattle.std.specs.Arc.{arc_value}
use Rattle.completion_solo.proofs.Giving.{given_hard, given_open}
use Rattle.completion_solo.proofs.Working.{stops_here}
use Rattle.completion_solo.proofs.rounds.work_taken.Goals as goal

pub returns-in-Err-Stop : goal.returns-in-Err-Stop
returns-in-Err-Stop c =
    let h = c.args.book.now in
    given_hard h c.args.task c.known.ensures c.requires.due.hand (arc_value c.args.p.now) c.give_back.new.self c.args.index.now c.in-Err-Stop.field-0-0
    c.args.stale c.requires.source c.requires.due
    (stops_here (arc_value c.args.p.now) c.over.result.list.now h c.args.task c.in-Err-Stop.field-0 c.in-Err-Stop.field-0-0 c.over.ensures.list
    c.in-Err-Stop.field-0-is c.in-Err-Stop.ensures)
    c.give_back.ensures

pub returns-in-Err-NoMemory : goal.returns-in-Err-NoMemory
returns-in-Err-NoMemory c = given_open c.args.book.now c.args.task c.known.ensures c.requires.due.hand c.give_back-in-Err-NoMemory.new.self
    c.give_back-in-Err-NoMemory.ensures
