-- How much a computation at flat places may take: limits on places, on the coefficients at one place, and on their
-- number.
use Rattle.std.specs.Prelude.{◌≢◌, ◌⊎◌, ℕ, ◌+◌, ◌<◌, if◌then◌else◌, unsigned_abs, List, [], ◌∷◌, length}
use Rattle.std.specs.List.{AllByRecursion}
use Rattle.formal_sums.specs.FormalSum.{FormalSum}
use Rattle.laurent_terms.specs.declared.TheConstants.{DEGREE}
use Rattle.laurent_terms.specs.Monomials.{degree}
use Rattle.module_vec.specs.declared.TheConstants.{COEFFICIENT}
use Rattle.module_vec.specs.declared.places.Place.{Place}
use Rattle.module_vec.specs.Places.{same_place}
use Rattle.flat_cert.specs.declared.TheConstants.{PLACES}

-- what the absolute values of the coefficients at x add up to
abbrev pub weight : FormalSum Place → Place → ℕ
weight [] x = 0
weight (t ∷ v) x = (if same_place t.1 x then unsigned_abs t.0 else 0) + weight v x

-- no place stands twice
abbrev pub AreDistinct : List Place → Type 0
AreDistinct [] = Unit {0}
AreDistinct (x ∷ xs) = AllByRecursion (λ y. y ≢ x) xs × AreDistinct xs

-- something stands at a place of too great a degree
abbrev pub IsFar : (Place → ℕ) → Type 0
IsFar W = (x : Place) × (0 < W x) × (DEGREE < degree x.m)

-- too much stands at one place
abbrev pub IsHeavy : (Place → ℕ) → Type 0
IsHeavy W = (x : Place) × (COEFFICIENT < W x)

-- something stands at too many places
abbrev pub AreMany : (Place → ℕ) → Type 0
AreMany W = (xs : List Place) × AreDistinct xs × AllByRecursion (λ x. 0 < W x) xs × (PLACES < length xs)

-- one of the limits is passed, where W says how much stands at each place
abbrev pub IsBeyond : (Place → ℕ) → Type 0
IsBeyond W = IsFar W ⊎ (IsHeavy W ⊎ AreMany W)
