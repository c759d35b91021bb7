-- Entries whose leads have one component.
use Rattle.std.specs.Prelude.{◌≡◌, ◌≢◌, ℕ, ◌<◌, ◌^◌, List, length, Option, Some, None, slice_index_or}
use Rattle.strong_pairs.specs.Pairs.{lead_at}
use Rattle.basis_entry.specs.Entries.{BasisEntry, vectors_of}

-- the component of the lead of entry number k
abbrev pub component_at : List BasisEntry → ℕ → ℕ
component_at es k = (lead_at (vectors_of es) k).at.c

-- the last of the numbers below n that has the component c, or None where none has it
abbrev pub FindsLast : (ℕ → ℕ) → ℕ → ℕ → Option ℕ → Type 0
FindsLast component n c None = (m : ℕ) → m < n → component m ≢ c
FindsLast component n c (Some k) = (k < n) × (component k ≡ c) × ((m : ℕ) → k < m → m < n → component m ≢ c)

-- of n entries each has the last one before it in its component, and each component, a number of eight bits, its last
-- one
pub record AreLinked (component : ℕ → ℕ) (n : ℕ) (before last : List (Option ℕ)) : Type 0 where
  pub count : length before ≡ n
  pub each : (k : ℕ) → k < n → FindsLast component k (component k) (slice_index_or before k None)
  pub components : length last ≡ 2 ^ 8
  pub ends : (c : ℕ) → c < 2 ^ 8 → FindsLast component n c (slice_index_or last c None)
