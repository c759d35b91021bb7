-- Monomials, places and vectors over so many generators.
use Rattle.std.specs.List.{AllByRecursion}
use Rattle.std.specs.Prelude.{◌≡◌, ℕ, ◌*◌, ◌<◌, ◌≤◌, List, length, slice_get, slice_index, ◌-◌, MatchOption}
use Rattle.laurent_terms.specs.declared.TheConstants.{DEGREE}
use Rattle.laurent_terms.specs.Monomials.{IsMonomial}
use Rattle.module_vec.specs.declared.TheConstants.{TERMS}
use Rattle.module_vec.specs.declared.places.Place.{Place}
use Rattle.module_vec.specs.declared.places.Term.{Term}
use Rattle.module_vec.specs.Places.{IsBelow, IsPlace}
use Rattle.module_vec.specs.Vectors.{IsTerm, IsVector}
use Rattle.vector_text.specs.declared.factors.Factor.{Factor}
use Rattle.vector_text.specs.Spelling.{factors_from}

-- each variable of another generator has the exponent 0
abbrev pub MonoIsOver : ℕ → List ℕ → Type 0
MonoIsOver n s = (v : ℕ) → 2 * n ≤ v → slice_index s v ≡ 0

-- the component is one of the generators too
pub record PlaceIsOver (n : ℕ) (p : Place) : Type 0 where
  pub mono : MonoIsOver n p.m
  pub component : p.c < n

abbrev pub VectorIsOver : ℕ → List Term → Type 0
VectorIsOver n v = AllByRecursion (λ t. PlaceIsOver n t.at) v

-- what a Mono over n generators holds
pub record IsMonoOf (n : ℕ) (s : List ℕ) : Type 0 where
  pub mono : IsMonomial s
  pub over : MonoIsOver n s

-- the same, with a factor
pub record IsProductOf (n : ℕ) (s : List ℕ) : Type 0 where
  pub mono : IsMonoOf n s
  pub some : 0 < length (factors_from 0 s)

-- what a Place over n generators holds
pub record IsPlaceOf (n : ℕ) (p : Place) : Type 0 where
  pub place : IsPlace p
  pub over : PlaceIsOver n p

-- what a ModVec over n generators holds
pub record IsVectorOf (n : ℕ) (v : List Term) : Type 0 where
  pub vector : IsVector v
  pub over : VectorIsOver n v

-- what a Term over n generators holds
pub record IsTermOf (n : ℕ) (t : Term) : Type 0 where
  pub term : IsTerm t
  pub over : PlaceIsOver n t.at

-- a vector with a term
pub record IsSumOf (n : ℕ) (v : List Term) : Type 0 where
  pub vector : IsVectorOf n v
  pub some : 0 < length v

-- t may follow the terms: it stands below the last of them, and they aren't too many
pub record MayFollow (v : List Term) (t : Term) : Type 0 where
  pub room : length v < TERMS
  pub below : MatchOption (slice_get v (length v - 1)) (Unit {0}) (λ last. IsBelow t.at last.at)

-- the exponent of a factor
abbrev pub IsExponent : ℕ → Type 0
IsExponent e = (0 < e) × (e ≤ DEGREE)

-- a factor over n generators
pub record IsFactorOf (n : ℕ) (f : Factor) : Type 0 where
  pub variable : f.variable < 2 * n
  pub exponent : IsExponent f.exponent
