-- Calls that are numbered from 1, and counts that stay at their last value.
use Rattle.std.specs.Prelude.{◌≡◌, ℕ, ◌+◌, ◌-◌, ◌^◌, min, List, Contains, Result, Ok, Err}
use Rattle.mb_io.specs.declared.shelf.Failed.{Failed}

-- one more than a count that stays at its last value
abbrev pub next_count : ℕ → ℕ
next_count n = min (n + 1) (2 ^ 64 - 1)

-- the numbers of the calls that are to fail, how many were made, and how many of those failed
pub record Calls : Type 0 where
  pub failing : List ℕ
  pub made : ℕ
  pub faults : ℕ

-- no calls yet
abbrev pub no_calls : List ℕ → Calls
no_calls failing = record { failing = failing; made = 0; faults = 0 }

-- the next call is to fail
abbrev pub IsDue : Calls → Type 0
IsDue calls = Contains calls.failing (next_count calls.made)

-- after a call that did not fail
abbrev pub after_call : Calls → Calls
after_call calls = record calls { made = next_count calls.made }

-- after a call that failed
abbrev pub after_fault : Calls → Calls
after_fault calls = record calls { made = next_count calls.made; faults = next_count calls.faults }

-- a call was counted: it fails exactly where it is to
abbrev pub Counts : Calls → Result (Unit {0}) Failed → Calls → Type 0
Counts old (Ok _) new = (¬ IsDue old) × (new ≡ after_call old)
Counts old (Err _) new = IsDue old × (new ≡ after_fault old)
