-- A file that is written to a sink, line by line.
use Rattle.std.specs.Prelude.{◌≤◌, ℕ, List, Option, Result, Ok, Err}
use Rattle.mb_io.specs.Shelf.{CountRose, TakesPrefix}
use Rattle.report_text.specs.Writing.{Stops}
use Rattle.saved_basis.specs.declared.faults.WriteFault.{WriteFault}
use Rattle.saved_basis.specs.declared.faults.WriteFault.TheVariants.{Failed, NoMemory}

-- the text was appended, where the sink tells its bytes; after a refusal a front of it
abbrev pub Puts : Option (List ℕ) → List ℕ → Result (Unit {0}) WriteFault → Option (List ℕ) → Type 0
Puts old text (Ok done) new = TakesPrefix old text new
Puts old text (Err fault) new = Stops old text new

-- the sink's count of failures doesn't fall, and a failure is counted
abbrev pub Counts : ℕ → Result (Unit {0}) WriteFault → ℕ → Type 0
Counts old (Ok done) new = old ≤ new
Counts old (Err Failed) new = (old ≤ new) × CountRose old new
Counts old (Err NoMemory) new = old ≤ new
