-- Vectors as lists of terms, and what they stand for: formal sums of places, given by their coefficients.
use Rattle.std.specs.List.{AllByRecursion}
use Rattle.std.specs.Prelude.{◌≢◌, ℕ, ◌+◌, ◌<◌, ◌≤◌, ℤ, pos, unsigned_abs, ◌-ℤ◌, List, [], ◌∷◌, map, length}
use Rattle.formal_sums.specs.FormalSum.{FormalSum, coefficient, scale, rename, Falling}
use Rattle.laurent_terms.specs.declared.TheConstants.{DEGREE}
use Rattle.laurent_terms.specs.Monomials.{degree}
use Rattle.module_vec.specs.declared.TheConstants.{COEFFICIENT, TERMS}
use Rattle.module_vec.specs.declared.places.Place.{Place}
use Rattle.module_vec.specs.declared.places.Term.{Term}
use Rattle.module_vec.specs.Places.{IsBelow, IsPlace, same_place, moved}

-- the sum of the terms
abbrev pub sum_of : List Term → FormalSum Place
sum_of v = map (λ t. (t.k, t.at)) v

-- an integer for each place
abbrev pub Coefficients : Type 0
Coefficients = Place → ℤ

-- the coefficient of v at x
abbrev pub coefficient_at : List Term → Coefficients
coefficient_at v x = coefficient same_place (sum_of v) x

-- the multiple q·t·g of a vector by an integer and a monomial
abbrev pub multiple : ℤ → List ℕ → List Term → FormalSum Place
multiple q t g = scale q (rename (moved t) (sum_of g))

abbrev pub multiple_at : ℤ → List ℕ → List Term → Coefficients
multiple_at q t g x = coefficient same_place (multiple q t g) x

abbrev pub difference_at : Coefficients → Coefficients → Coefficients
difference_at f g x = f x -ℤ g x

-- the range of coefficients
abbrev pub InRange : ℤ → Type 0
InRange z = unsigned_abs z ≤ COEFFICIENT

abbrev pub IsWide : ℤ → Type 0
IsWide z = COEFFICIENT < unsigned_abs z

pub record IsTerm (t : Term) : Type 0 where
  pub place : IsPlace t.at
  pub nonzero : t.k ≢ pos 0
  pub range : InRange t.k

-- terms in strictly falling order, with nonzero coefficients in range
pub record IsSparse (v : List Term) : Type 0 where
  pub falling : Falling IsBelow (sum_of v)
  pub terms : AllByRecursion IsTerm v

-- what a ModVec holds
pub record IsVector (v : List Term) : Type 0 where
  pub sparse : IsSparse v
  pub most : length v ≤ TERMS

-- t·g is in reach: its degree is that of t and of the lead of g
abbrev pub HasRoom : List ℕ → List Term → Type 0
HasRoom t [] = Unit {0}
HasRoom t (e ∷ g) = degree t + degree e.at.m ≤ DEGREE
