-- Masks of monomials: 64 bits that say which variables stand in it, and which of the first ones more than once.
use Rattle.std.specs.Int.{bit_at}
use Rattle.std.specs.Prelude.{◌≡◌, ℕ, ◌-◌, ◌<◌, ◌≤◌, ◌^◌, Bool, List, nat_lt, slice_index, if◌then◌else◌}
use Rattle.laurent_terms.specs.declared.TheConstants.{VARIABLES}

-- what bit number `bit` says: the variable of this number stands in the monomial; from 48 on, it stands there more than
-- once
abbrev pub flag : List ℕ → ℕ → Bool
flag s bit = if nat_lt bit VARIABLES then nat_lt 0 (slice_index s bit) else nat_lt 1 (slice_index s (bit - VARIABLES))

abbrev pub bit_of : Bool → ℕ
bit_of b = if b then 1 else 0

pub record IsMask (s : List ℕ) (mask : ℕ) : Type 0 where
  pub bits : (bit : ℕ) → bit < 64 → bit_at mask bit ≡ bit_of (flag s bit)
  pub fits : mask < 2 ^ 64

-- the bits below n are those of the mask, and the others aren't set
pub record IsMaskUpTo (n : ℕ) (s : List ℕ) (mask : ℕ) : Type 0 where
  pub made : (bit : ℕ) → bit < n → bit_at mask bit ≡ bit_of (flag s bit)
  pub left : (bit : ℕ) → n ≤ bit → bit_at mask bit ≡ 0
