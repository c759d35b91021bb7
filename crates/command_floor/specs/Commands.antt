-- The table of commands.
use Rattle.std.specs.Prelude.{ℕ, List, [], ◌∷◌, Option, None, option_map, codes, if◌then◌else◌}
use Rattle.std.specs.Str.{bytes_eq}
use Rattle.command_floor.specs.declared.settings.Setting.{Setting}
use Rattle.command_floor.specs.declared.settings.Setting.TheVariants.{Entries, Budget, Order, Workers}
use Rattle.command_floor.specs.declared.commands.Command.{Command}
use Rattle.command_floor.specs.declared.commands.Command.TheVariants.{Steps, Fox, Check, Solo, Replay, Run, Gen}
use Rattle.command_floor.specs.declared.commands.Command.TheVariants.{Trim, Flat, Sum, Extend, Save, Load}
use Rattle.command_floor.specs.declared.commands.Asked.{Asked}
use Rattle.command_floor.specs.Parsing.{GivenWords, given_by, shown_given}

-- a command with what is given behind its name
pub record AskedWords : Type 0 where
  pub command : Command
  pub given : GivenWords

-- the options of a run that completes a log
abbrev pub run_options : List Setting
run_options = Entries ∷ Budget ∷ Order ∷ []

-- the options of a run by several workers
abbrev pub threaded_options : List Setting
threaded_options = Workers ∷ run_options

-- the options of a run whose completion has no budget
abbrev pub whole_options : List Setting
whole_options = Entries ∷ Order ∷ []

-- a row of the table: the command that has this name and these options, with what is given
abbrev pub asks : Command → List ℕ → List Setting → List (List ℕ) → Option AskedWords
asks c name options ws = option_map (λ g. record { command = c; given = g }) (given_by name options ws)

-- the command of this name, where the words after it are of its form
abbrev pub asked_of : List ℕ → List (List ℕ) → Option AskedWords
asked_of name ws =
    if bytes_eq name (codes "steps") then asks Steps (codes "steps") [] ws
    else if bytes_eq name (codes "fox") then asks Fox (codes "fox") [] ws
    else if bytes_eq name (codes "check") then asks Check (codes "check") [] ws
    else if bytes_eq name (codes "solo") then asks Solo (codes "solo") run_options ws
    else if bytes_eq name (codes "replay") then asks Replay (codes "replay") run_options ws
    else if bytes_eq name (codes "run") then asks Run (codes "run") threaded_options ws
    else if bytes_eq name (codes "gen") then asks Gen (codes "gen") [] ws
    else if bytes_eq name (codes "trim") then asks Trim (codes "trim") [] ws
    else if bytes_eq name (codes "flat") then asks Flat (codes "flat") [] ws
    else if bytes_eq name (codes "sum") then asks Sum (codes "sum") [] ws
    else if bytes_eq name (codes "extend") then asks Extend (codes "extend") whole_options ws
    else if bytes_eq name (codes "save") then asks Save (codes "save") whole_options ws
    else if bytes_eq name (codes "load") then asks Load (codes "load") [] ws
    else None

-- what the words of the command line ask for: the first word is a command's name
abbrev pub asked : List (List ℕ) → Option AskedWords
asked [] = None
asked (name ∷ ws) = asked_of name ws

-- what the code holds of it
abbrev pub shown_asked : Asked → AskedWords
shown_asked a = record { command = a.command; given = shown_given a.given }
