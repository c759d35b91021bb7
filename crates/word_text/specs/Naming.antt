-- The number that a list of names gives a name.
use Rattle.std.specs.Prelude.{◌≡◌, ℕ, ◌<◌, List, Option, Some, None, slice_get}

-- the number of the first of the names that is this one, or none where it isn't among them
abbrev pub IsNumberOf : List (List ℕ) → List ℕ → Option ℕ → Type 0
IsNumberOf names name (Some g) = (slice_get names g ≡ Some name) × ((k : ℕ) → k < g → slice_get names k ≡ Some name → ⊥)
IsNumberOf names name None = (k : ℕ) → slice_get names k ≡ Some name → ⊥
