use Rattle.std.proofs.Common.{rules, Some, None}
use Rattle.clap.specs.Words.{found_of}
use Rattle.command_floor.specs.Parsing.{shown}
use Rattle.command_floor.proofs.Found.{names_found}
use Rattle.command_floor.proofs.parsing.names.Goals as goal

pub returns-in-None : goal.returns-in-None
returns-in-None c = search (rules, names_found (found_of c.args.found.now) None)

pub returns-in-Some : goal.returns-in-Some
returns-in-Some c = search (rules, names_found (found_of c.args.found.now) (Some (shown c.in-Some.names.now)))
