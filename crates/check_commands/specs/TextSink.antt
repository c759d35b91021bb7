-- A text in memory, as a sink.
use Rattle.std.specs.Prelude.{ℕ, List, []}

-- what was written, and how many writes failed
pub record TextState : Type 0 where
  pub text : List ℕ
  pub faults : ℕ

-- nothing was written
abbrev pub empty_text : TextState
empty_text = record { text = []; faults = 0 }
