use Rattle.std.proofs.Common.{◌≡◌, map, take}
use Rattle.clap.specs.Simple.{app_of}
use Rattle.command_floor.specs.Parsing.{bare, with_options}
use Rattle.command_floor.specs.Settings.{option_name}
use Rattle.command_floor.proofs.parsing.command.Given as goal

abbrev pub invariant-loop-option : goal.invariant-loop-option
invariant-loop-option l = app_of l.command ≡ with_options (bare l.name) (map option_name (take l.option-index l.options))
