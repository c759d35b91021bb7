-- Answers that several commands give.
use Rattle.std.specs.Prelude.{◌≡◌, ℕ, List, ◌++◌, codes, decimal}
use Rattle.command_floor.specs.declared.answer.Halt.{Halt}
use Rattle.command_floor.specs.declared.answer.Halt.TheVariants.{Says, NoMemory}
use Rattle.command_floor.specs.declared.status.Status.TheVariants.{Open, TextRefused}
use Rattle.command_floor.specs.Answers.{Answer}

-- something is beyond the limits of flat certificates
abbrev pub beyond : Answer
beyond = record { status = Open; text = codes "flat beyond\n" }

-- the text under this name, which was to be a report or a flat certificate, can't go on with this line
abbrev pub line_refused : List ℕ → ℕ → List ℕ → Answer
line_refused name line what = record {
  status = TextRefused;
  text = codes "refused " ++ name ++ codes " line " ++ decimal line ++ codes " " ++ what ++ codes "\n";
}

-- a command goes no further for that, unless memory runs out
abbrev pub RefusesLine : List ℕ → ℕ → List ℕ → Halt → Type 0
RefusesLine name line what (Says a) = a ≡ line_refused name line what
RefusesLine name line what NoMemory = Unit {0}
