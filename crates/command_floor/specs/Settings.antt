-- The options of the commands: their names, the ranges of their numbers, and what is given.
use Rattle.std.specs.Prelude.{◌≤◌, ℕ, List, Option, Some, None, IfSome, option_map, option_and_then, codes}
use Rattle.clap.specs.Walk.{Row, first_of}
use Rattle.command_floor.specs.declared.settings.Setting.{Setting}
use Rattle.command_floor.specs.declared.settings.Setting.TheVariants.{Entries, Budget, Order, Workers, Report}
use Rattle.command_floor.specs.declared.settings.Settings.{Settings}
use Rattle.command_floor.specs.declared.settings.TheConstants.{LEAST_ENTRIES, MOST_ENTRIES, MOST_BUDGET}
use Rattle.command_floor.specs.declared.settings.TheConstants.{FIRST_ORDER, LAST_ORDER, MOST_WORKERS, LAST_REPORT}
use Rattle.command_floor.specs.Numbers.{number_between}

-- the name behind `--`
abbrev pub option_name : Setting → List ℕ
option_name Entries = codes "entries"
option_name Budget = codes "budget"
option_name Order = codes "order"
option_name Workers = codes "workers"
option_name Report = codes "report"

-- the range of its number
abbrev pub least_of : Setting → ℕ
least_of Entries = LEAST_ENTRIES
least_of Budget = 0
least_of Order = FIRST_ORDER
least_of Workers = 1
least_of Report = 1

abbrev pub most_of : Setting → ℕ
most_of Entries = MOST_ENTRIES
most_of Budget = MOST_BUDGET
most_of Order = LAST_ORDER
most_of Workers = MOST_WORKERS
most_of Report = LAST_REPORT

-- the number that an option is given: none where it isn't given, and no value where the text is no number of its range
abbrev pub number_given : ℕ → ℕ → Option (List ℕ) → Option (Option ℕ)
number_given least most None = Some None
number_given least most (Some text) = option_map Some (number_between least most text)

abbrev pub setting_in : Setting → List Row → Option (Option ℕ)
setting_in s rows = number_given (least_of s) (most_of s) (first_of (option_name s) rows)

-- the numbers of all options that clap found
abbrev pub settings_in : List Row → Option Settings
settings_in rows =
    option_and_then (λ entries. option_and_then (λ budget.
    option_and_then (λ order. option_and_then (λ workers. option_map (λ report. record {
      entries = entries;
      budget = budget;
      order = order;
      workers = workers;
      report = report;
    }) (setting_in Report rows)) (setting_in Workers rows)) (setting_in Order rows))
    (setting_in Budget rows)) (setting_in Entries rows)

-- a number, if there is one, in the option's range
abbrev pub IsInRange : Setting → Option ℕ → Type 0
IsInRange s n = IfSome n (λ x. (least_of s ≤ x) × (x ≤ most_of s))

-- each number is in its option's range
pub record AreInRange (s : Settings) : Type 0 where
  pub entries : IsInRange Entries s.entries
  pub budget : IsInRange Budget s.budget
  pub order : IsInRange Order s.order
  pub workers : IsInRange Workers s.workers
  pub report : IsInRange Report s.report
