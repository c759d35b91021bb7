-- The numbers with which the program exits.
use Rattle.std.specs.Prelude.{ℕ}
use Rattle.command_floor.specs.declared.status.Status.{Status}
use Rattle.command_floor.specs.declared.status.Status.TheVariants.{Done, Open, WordsRefused, TextRefused, ReadFault}
use Rattle.command_floor.specs.declared.status.Status.TheVariants.{WriteFault, NoMemory, Fails}

abbrev pub code_of : Status → ℕ
code_of Done = 0
code_of Open = 1
code_of WordsRefused = 2
code_of TextRefused = 3
code_of ReadFault = 4
code_of WriteFault = 5
code_of NoMemory = 6
code_of Fails = 7
