use Rattle.std.specs.Arc.{arc_value}
use Rattle.completion_solo.proofs.Ending.{ends_sealed}
use Rattle.completion_solo.proofs.Keeping.{broken_same}
use Rattle.completion_solo.proofs.rounds.sealed.Goals as goal
use Rattle.completion_solo.proofs.rounds.sealed.Goals.{in-Ok, in-Err-NoMemory}

pub returns : goal.returns
returns c = elim c.match-seal.branch [
  | in-Ok w ↦ rw w.result-is (ends_sealed c.args.book.now c.seal.new.self (arc_value w.in-Ok.field-0) c.known.ensures c.requires.none_taken
      w.in-Ok.ensures)
  | in-Err-NoMemory w ↦ rw w.result-is (broken_same c.args.book.now c.seal.new.self c.requires.none_taken
      (rw w.in-Err-NoMemory.field-0-is at w.in-Err-NoMemory.ensures))
]
