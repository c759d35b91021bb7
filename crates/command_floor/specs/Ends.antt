-- How a run ends: what it wrote, and its status.
use Rattle.std.specs.Prelude.{◌≡◌, ℕ, List, [], Option, take, ◌⊎◌}
use Rattle.mb_io.specs.Shelf.{TakesPrefix}
use Rattle.command_floor.specs.declared.status.Status.{Status}
use Rattle.command_floor.specs.declared.status.Status.TheVariants.{Done, Open, WordsRefused, TextRefused, ReadFault}
use Rattle.command_floor.specs.declared.status.Status.TheVariants.{WriteFault, NoMemory, Fails}
use Rattle.command_floor.specs.Answers.{Answer}

-- an answer that is due was written whole, and its status is this one
abbrev pub Wrote : (Answer → Type 0) → Option (List ℕ) → Option (List ℕ) → Status → Type 0
Wrote due old new status = (a : Answer) × due a × (a.status ≡ status) × TakesPrefix old a.text new

-- an answer that is due was written in part, and the sink has counted the failure
abbrev pub WroteFront : (Answer → Type 0) → Type 0 → Option (List ℕ) → Option (List ℕ) → Type 0
WroteFront due counted old new = counted × ((a : Answer) × (n : ℕ) × due a × TakesPrefix old (take n a.text) new)

-- memory ran out: nothing was written; or the answer is a report, which is written line by line, and one that is due
-- was written in part
abbrev pub RanOut : Type 0 → (Answer → Type 0) → Option (List ℕ) → Option (List ℕ) → Type 0
RanOut reports due old new = TakesPrefix old [] new
    ⊎ (reports × ((a : Answer) × (n : ℕ) × due a × TakesPrefix old (take n a.text) new))

-- How a run ends, whose answers are due where `due` says so; `reports` says that they may be reports. Where the sink
-- tells what it took, that is `old` before the run and `new` after it.
abbrev pub Ends : Type 0 → (Answer → Type 0) → Type 0 → Option (List ℕ) → Option (List ℕ) → Status → Type 0
Ends reports due counted old new WriteFault = WroteFront due counted old new
Ends reports due counted old new NoMemory = RanOut reports due old new
Ends reports due counted old new Done = Wrote due old new Done
Ends reports due counted old new Open = Wrote due old new Open
Ends reports due counted old new WordsRefused = Wrote due old new WordsRefused
Ends reports due counted old new TextRefused = Wrote due old new TextRefused
Ends reports due counted old new ReadFault = Wrote due old new ReadFault
Ends reports due counted old new Fails = Wrote due old new Fails

-- an answer was written: whole, with its own status, or in part, and the sink has counted the failure
abbrev pub Delivers : Type 0 → Option (List ℕ) → Option (List ℕ) → Answer → Status → Type 0
Delivers counted old new a status =
    ((status ≡ a.status) × TakesPrefix old a.text new)
    ⊎ ((status ≡ WriteFault) × counted × ((n : ℕ) × TakesPrefix old (take n a.text) new))
