-- What of a log is limited.
use Rattle.std.specs.Prelude.{◌≡◌, ◌+◌, ◌<◌, ◌≤◌, ℕ, List, length}
use Rattle.outcomes.specs.declared.ends.Measure.{Measure}
use Rattle.outcomes.specs.declared.ends.Measure.TheVariants.{Entries, Terms, Steps}
use Rattle.basis_entry.specs.Entries.{BasisEntry}
use Rattle.pair_work.specs.Outcomes.{recipe_steps}
use Rattle.pair_book.specs.declared.limits.Limits.{Limits}
use Rattle.pair_book.specs.LogEntries.{terms_of, steps_of}

-- with the entry e this measure is the first of entries, terms and recipe steps to pass its limit, and it reaches c
abbrev pub PassesFirst : Limits → List BasisEntry → BasisEntry → Measure → ℕ → Type 0
PassesFirst limits es e Entries c = (c ≡ length es + 1) × (limits.entries < c)
PassesFirst limits es e Terms c = (length es + 1 ≤ limits.entries) × (c ≡ terms_of es + length e.vector)
    × (limits.terms < c)
PassesFirst limits es e Steps c = (length es + 1 ≤ limits.entries) × (terms_of es + length e.vector ≤ limits.terms)
    × (c ≡ steps_of es + recipe_steps e.recipe) × (limits.steps < c)
