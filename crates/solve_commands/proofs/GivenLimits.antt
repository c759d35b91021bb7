-- The limit on entries that options give.
use Rattle.std.proofs.Common.{ℕ, ◌≤◌, Option, Some, None, unwrap_or, arith}
use Rattle.command_floor.specs.declared.settings.Setting.TheVariants.{Entries}
use Rattle.command_floor.specs.declared.settings.TheConstants.{LEAST_ENTRIES, MOST_ENTRIES}
use Rattle.command_floor.specs.Settings.{IsInRange}
use Rattle.solve_commands.specs.declared.limits.TheConstants.{ENTRIES}

pub entries_least : (n : Option ℕ) → IsInRange Entries n → LEAST_ENTRIES ≤ unwrap_or n ENTRIES
entries_least None h = omega arith
entries_least (Some n) h = h.0

pub entries_most : (n : Option ℕ) → IsInRange Entries n → unwrap_or n ENTRIES ≤ MOST_ENTRIES
entries_most None h = omega arith
entries_most (Some n) h = h.1
