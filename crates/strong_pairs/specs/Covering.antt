-- Entries that cover a pair.
use Rattle.std.specs.Prelude.{◌≡◌, ℕ, ◌<◌, ◌%◌, ℤ, ◌*ℤ◌, unsigned_abs, Bool, nat_eq, List, length, Option, Some, None}
use Rattle.module_vec.specs.declared.places.Term.{Term}
use Rattle.module_vec.specs.Reducers.{Reduces}
use Rattle.strong_pairs.specs.Pairs.{lead_at, meeting_place}

-- k divides l
abbrev pub Divides : ℤ → ℤ → Type 0
Divides k l = (factor : ℤ) × (l ≡ factor *ℤ k)

-- whether k divides l, as a test of positive numbers
abbrev pub divides_number : ℤ → ℤ → Bool
divides_number k l = nat_eq (unsigned_abs l % unsigned_abs k) 0

-- a lead d covers the leads e and f: it divides the place at which they meet, and both coefficients, hence their
-- greatest common divisor
pub record CoversLeads (d e f : Term) : Type 0 where
  pub reduces : Reduces d (meeting_place e f)
  pub first : Divides d.k e.k
  pub second : Divides d.k f.k

-- entry number k covers the pair
abbrev pub Covers : List (List Term) → ℕ → ℕ → ℕ → Type 0
Covers b i j k = (k < length b) × CoversLeads (lead_at b k) (lead_at b i) (lead_at b j)

-- the least number below the front of an entry that covers the pair, or None where none does
abbrev pub FindsCover : List (List Term) → ℕ → ℕ → ℕ → Option ℕ → Type 0
FindsCover b front i j None = (k : ℕ) → k < front → Covers b i j k → ⊥
FindsCover b front i j (Some k) = (k < front) × Covers b i j k × ((l : ℕ) → l < k → Covers b i j l → ⊥)
