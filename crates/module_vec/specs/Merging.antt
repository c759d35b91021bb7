-- How the terms of a vector and those of a multiple are merged.
use Rattle.std.specs.Prelude.{◌≡◌, ◌≢◌, ◌⊎◌, ℕ, ℤ, pos, ◌-ℤ◌, ◌*ℤ◌, Bool, false, List, [], ◌∷◌, ◌++◌, Option, Some}
use Rattle.std.specs.Prelude.{None, Result, Ok, Err, length, take, drop, ◌<◌, ◌≤◌}
use Rattle.module_vec.specs.declared.TheConstants.{TERMS}
use Rattle.formal_sums.specs.FormalSum.{AllAbove}
use Rattle.module_vec.specs.declared.places.Place.{Place}
use Rattle.module_vec.specs.declared.places.Term.{Term}
use Rattle.module_vec.specs.declared.faults.Stop.TheVariants.{Wide, Long, Deep, Steep}
use Rattle.module_vec.specs.declared.faults.VecFault.{VecFault}
use Rattle.module_vec.specs.declared.faults.VecFault.TheVariants as faults
use Rattle.module_vec.specs.Places.{IsBelow, same_place}
use Rattle.module_vec.specs.Vectors.{Coefficients, sum_of, InRange, IsWide, IsSparse}
use Rattle.module_vec.specs.Results.{Has, Nowhere, IsGreatest}

-- v has the terms of f, however many, on the way to which nothing left the range
pub record IsFound (P : Place → Type 0) (f : Coefficients) (v : List Term) : Type 0 where
  pub sparse : IsSparse v
  pub is : Has v f
  pub narrow : Nowhere P

-- a number left the range
abbrev pub FailsBy : (Place → Type 0) → VecFault → Type 0
FailsBy P (faults.Stop (Wide p n)) = (n ≡ 0) × IsGreatest P p
FailsBy P (faults.Stop (Long terms n)) = ⊥
FailsBy P (faults.Stop Deep) = ⊥
FailsBy P (faults.Stop (Steep d)) = ⊥
FailsBy P faults.NoMemory = Unit {0}

-- the first term of v doesn't stand above p
abbrev pub BeginsAtMost : Place → List Term → Type 0
BeginsAtMost p [] = Unit {0}
BeginsAtMost p (t ∷ v) = IsBelow p t.at → ⊥

-- what stood above p in `rest` is now behind `made`
pub record Passes (p : Place) (made rest made' rest' : List Term) : Type 0 where
  pub front : List Term
  pub moved : made' ≡ made ++ front
  pub split : rest ≡ front ++ rest'
  pub above : AllAbove IsBelow p (sum_of front)
  pub stays : BeginsAtMost p rest'

-- the first term of v doesn't stand at p
abbrev pub BeginsElsewhere : Place → List Term → Type 0
BeginsElsewhere p [] = Unit {0}
BeginsElsewhere p (t ∷ v) = t.at ≢ p

-- k is the coefficient of the first term of v if that stands at p, and v' follows
abbrev pub TakesFirst : Place → List Term → ℤ → List Term → Type 0
TakesFirst p v k v' = (v ≡ record { at = p; k = k } ∷ v') ⊎ ((k ≡ pos 0) × (v' ≡ v) × BeginsElsewhere p v)

-- the same in one: what stood above p in `rest` is now behind `made`, k is the coefficient at p, and rest' follows
pub record PassesTo (p : Place) (made rest made' : List Term) (k : ℤ) (rest' : List Term) : Type 0 where
  pub from : List Term
  pub passed : Passes p made rest made' from
  pub taken : TakesFirst p from k rest'

-- whether the first term of v stands at p
abbrev pub begins_at : Place → List Term → Bool
begins_at p [] = false
begins_at p (t ∷ v) = same_place t.at p

-- the first n terms of v stand above p, and the next one doesn't; `met` is whether that stands at p
pub record Meets (p : Place) (v : List Term) (n : ℕ) (met : Bool) : Type 0 where
  pub bound : n ≤ length v
  pub above : AllAbove IsBelow p (sum_of (take n v))
  pub stays : BeginsAtMost p (drop n v)
  pub next : met ≡ begins_at p (drop n v)

-- q·k is taken from a
abbrev pub Subtracts : ℤ → ℤ → ℤ → Option ℤ → Type 0
Subtracts a q k None = IsWide (q *ℤ k) ⊎ IsWide (a -ℤ q *ℤ k)
Subtracts a q k (Some z) = (z ≡ a -ℤ q *ℤ k) × InRange z × InRange (q *ℤ k)

-- the vector with the terms v, or their number where that passes the limit
abbrev pub IsLimited : List Term → Result (List Term) VecFault → Type 0
IsLimited v (Ok made) = (made ≡ v) × (length v ≤ TERMS)
IsLimited v (Err (faults.Stop (Wide p n))) = ⊥
IsLimited v (Err (faults.Stop (Long terms n))) = (n ≡ 0) × (terms ≡ length v) × (TERMS < length v)
IsLimited v (Err (faults.Stop Deep)) = ⊥
IsLimited v (Err (faults.Stop (Steep d))) = ⊥
IsLimited v (Err faults.NoMemory) = ⊥
