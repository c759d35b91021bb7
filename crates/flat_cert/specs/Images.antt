-- Flat images: vectors over the group ring of the free abelian group, where x_g·y_g is 1.
use Rattle.std.specs.Prelude.{◌≡◌, ℕ, ◌-◌, ◌<◌, List, [], ◌∷◌, length}
use Rattle.std.specs.List.{AllByRecursion}
use Rattle.presentation.specs.Presented.{Presented}
use Rattle.formal_sums.specs.FormalSum.{FormalSum, rename}
use Rattle.formal_sums.specs.Span.{IsSpanned}
use Rattle.module_vec.specs.declared.places.Place.{Place}
use Rattle.module_vec.specs.Places.{same_place, moved}
use Rattle.vector_text.specs.Over.{PlaceIsOver}
use Rattle.fox_calculus.specs.Generators.{binomial, unit_monomial}
use Rattle.fox_calculus.specs.Module.{HasVariables}

-- x_g^a·y_g^b becomes the power of x_g by a - b, or of y_g by b - a, so that no generator keeps both its variables: the
-- monomial of the integer vector of the differences
abbrev pub cancelled : List ℕ → List ℕ
cancelled [] = []
cancelled (a ∷ []) = a ∷ []
cancelled (a ∷ b ∷ s) = (a - b) ∷ (b - a) ∷ cancelled s

-- the monomial is that of an integer vector
abbrev pub IsFlatMono : List ℕ → Type 0
IsFlatMono s = cancelled s ≡ s

abbrev pub flat_place : Place → Place
flat_place x = record { m = cancelled x.m; c = x.c }

-- the flat image of a sum: coefficients at places that fall together are added up
abbrev pub flat_image : FormalSum Place → FormalSum Place
flat_image v = rename flat_place v

-- the place is over so many generators, with an exponent for each variable that there may be
pub record IsPlaceOver (n : ℕ) (x : Place) : Type 0 where
  pub variables : HasVariables x.m
  pub over : PlaceIsOver n x

abbrev pub IsSumOver : ℕ → FormalSum Place → Type 0
IsSumOver n v = AllByRecursion (λ t. IsPlaceOver n t.1) v

-- (x_g·y_g - 1)·e_c for generators of the presentation
pub data IsUnitBinomial (p : Presented) : FormalSum Place → Type 0 where
  of_generator : (g c : ℕ) → g < length p.names → c < length p.names
      → IsUnitBinomial p (binomial (unit_monomial g) c)

-- a finite sum of multiples of unit binomials
abbrev pub IsSumOfUnits : Presented → FormalSum Place → Type 0
IsSumOfUnits p v = IsSpanned same_place moved HasVariables (IsUnitBinomial p) v
