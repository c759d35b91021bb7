-- How clap reads the words after a command.
use Rattle.std.specs.Prelude.{ℕ, List, [], ◌∷◌, ◌++◌, Option, Some, None, map, option_map, option_and_then, unwrap_or}
use Rattle.std.specs.Prelude.{true, codes}
use denote.Bor.{Bor}
use Rattle.clap.specs.Walk.{Row, Rule, all_of}
use Rattle.clap.specs.Simple.{App, new_rule, new_shape, on_top, with_rule, matches_of}
use Rattle.clap.specs.Faults.{fault_of}
use Rattle.clap.specs.Kinds.{Kinds}
use Rattle.clap.specs.declared.builder.action.ArgAction.TheVariants.{Set, Append}
use Rattle.command_floor.specs.declared.settings.Setting.{Setting}
use Rattle.command_floor.specs.declared.settings.Settings.{Settings}
use Rattle.command_floor.specs.declared.parsing.Given.{Given}
use Rattle.command_floor.specs.Settings.{option_name, settings_in}

-- an option with one value
abbrev pub option_rule : List ℕ → Rule
option_rule name = record (new_rule name) { long = Some name; action = Some Set }

-- the words that belong to no option
abbrev pub names_rule : Rule
names_rule = record (new_rule (codes "names")) { action = Some Append }

-- a simple command without its help and version options, of which the words after its name are read
abbrev pub bare : List ℕ → App
bare name = record {
  top = record (new_shape name) { no_binary_name = true; disable_help_flag = true; disable_version_flag = true };
  subs = [];
}

-- the command with more options
abbrev pub with_options : App → List (List ℕ) → App
with_options app options = on_top (λ s. record s { rules = s.rules ++ map option_rule options }) app

-- The simple command of this name: these options, each at most once with one value, and any number of other words.
abbrev pub declared : List ℕ → List (List ℕ) → App
declared name options = with_rule (with_options (bare name) options) names_rule

abbrev pub parsed_where : Kinds → List Row → Option (List Row)
parsed_where [] rows = Some rows
parsed_where (k ∷ ks) rows = None

-- what clap finds in the words after a command, where it has no fault to find with them
abbrev pub parsed : App → List (List ℕ) → Option (List Row)
parsed app words = parsed_where (fault_of app words) (matches_of app words)

-- the words that belong to no option, in order
abbrev pub names_in : List Row → List (List ℕ)
names_in rows = unwrap_or (all_of (codes "names") rows) []

-- what words on loan show
abbrev pub shown : List (Bor (List ℕ)) → List (List ℕ)
shown ws = map (λ w. w.now) ws

-- what is given behind a command's name: the numbers of its options, and the other words in order
pub record GivenWords : Type 0 where
  pub settings : Settings
  pub words : List (List ℕ)

abbrev pub given_with : List (List ℕ) → Option Settings → Option GivenWords
given_with words settings = option_map (λ s. record { settings = s; words = words }) settings

abbrev pub given_in : List Row → Option GivenWords
given_in rows = given_with (names_in rows) (settings_in rows)

-- what is given behind a command of this name with these options, where clap accepts the words, and the numbers of the
-- options are in their ranges
abbrev pub given_by : List ℕ → List Setting → List (List ℕ) → Option GivenWords
given_by name options ws = option_and_then given_in (parsed (declared name (map option_name options)) ws)

-- what the code holds of it
abbrev pub shown_given : Given → GivenWords
shown_given g = record { settings = g.settings; words = shown g.words.items }
