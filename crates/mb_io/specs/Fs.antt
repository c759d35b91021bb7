-- A shelf over the files of a system.
use Rattle.std.specs.Prelude.{ℕ, Bool}

-- whether a file is read and not at its end, and how often a call failed
pub record FsState : Type 0 where
  pub is_reading : Bool
  pub faults : ℕ
