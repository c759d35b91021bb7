-- The limits of a run, as the numbers of the options give them.
use Rattle.std.specs.Prelude.{◌≡◌, ℕ, ◌==◌, ◌≤◌, if◌then◌else◌, Option, Some, None, unwrap_or}
use Rattle.task_table.specs.declared.order.Order.{Order}
use Rattle.task_table.specs.declared.order.Order.TheVariants.{ByNumber, ByCost}
use Rattle.pair_book.specs.declared.limits.Limits.{Limits}
use Rattle.command_floor.specs.declared.settings.Settings.{Settings}
use Rattle.command_floor.specs.declared.settings.TheConstants.{LEAST_ENTRIES, MOST_ENTRIES}
use Rattle.solve_commands.specs.declared.limits.TheConstants.{ENTRIES, LOG_TERMS, LOG_STEPS}

-- the limits of a run with so many entries, this budget and this order of tasks
abbrev pub limits_with : ℕ → Option ℕ → Order → Limits
limits_with entries budget order = record {
  entries = entries;
  terms = LOG_TERMS;
  steps = LOG_STEPS;
  budget = budget;
  order = order;
}

-- the order of tasks that has this number: by number for 1 and where none is given, and by cost otherwise
abbrev pub order_given : Option ℕ → Order
order_given None = ByNumber
order_given (Some n) = if n == 1 then ByNumber else ByCost

-- the limits of a run with these options
abbrev pub limits_given : Settings → Limits
limits_given s = limits_with (unwrap_or s.entries ENTRIES) s.budget (order_given s.order)

-- limits that options can give: the generators of every presentation are within them
pub record AreInTable (l : Limits) : Type 0 where
  pub least : LEAST_ENTRIES ≤ l.entries
  pub most : l.entries ≤ MOST_ENTRIES
  pub terms : l.terms ≡ LOG_TERMS
  pub steps : l.steps ≡ LOG_STEPS
