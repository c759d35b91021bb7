-- What an index keeps: a candidate for each lead, in the order in which reducers are chosen.
use Rattle.std.specs.List.{AllByRecursion}
use Rattle.std.specs.Prelude.{◌≡◌, ℕ, ◌<◌, ◌≤◌, ◌⊎◌, ◌^◌, Bool, ◌&&◌, ◌||◌, ◌==◌, nat_lt, int_le, List, [], ◌∷◌, ◌++◌}
use Rattle.std.specs.Prelude.{length, Option, Some, None, slice_get}
use Rattle.module_vec.specs.declared.places.Place.{Place}
use Rattle.module_vec.specs.declared.places.Term.{Term}
use Rattle.module_vec.specs.Reducers.{Reduces, GoesBefore}
use Rattle.reducer_index.specs.declared.candidates.Candidate.{Candidate}
use Rattle.reducer_index.specs.Masks.{IsMask}

-- x is what the index keeps of the lead with its number
pub record IsCandidateOf (es : List Term) (x : Candidate) : Type 0 where
  pub lead : Term
  pub is : slice_get es x.number ≡ Some lead
  pub component : x.component ≡ lead.at.c
  pub coefficient : x.coefficient ≡ lead.k
  pub mask : IsMask lead.at.m x.mask

-- by component; within one, as reducers are chosen
abbrev pub Precedes : Candidate → Candidate → Type 0
Precedes x y = (x.component < y.component) ⊎ ((x.component ≡ y.component)
    × GoesBefore x.coefficient x.number y.coefficient y.number)

abbrev pub IsInOrder : List Candidate → Type 0
IsInOrder [] = Unit {0}
IsInOrder (x ∷ xs) = AllByRecursion (Precedes x) xs × IsInOrder xs

-- x stands before a new candidate, whose number is greater
abbrev pub stands_before : Candidate → Candidate → Bool
stands_before new x = nat_lt x.component new.component || (x.component ==
    new.component && int_le x.coefficient new.coefficient)

-- one of the candidates has this number
abbrev pub HasNumber : ℕ → List Candidate → Type 0
HasNumber i [] = ⊥
HasNumber i (x ∷ xs) = (x.number ≡ i) ⊎ HasNumber i xs

-- the candidates of all these leads, in order
pub record IsIndex (es : List Term) (xs : List Candidate) : Type 0 where
  pub candidates : AllByRecursion (IsCandidateOf es) xs
  pub order : IsInOrder xs
  pub all : (i : ℕ) → i < length es → HasNumber i xs
  pub few : length es < 2 ^ 32

-- the lead of x reduces p
abbrev pub IsReducing : List Term → Place → Candidate → Type 0
IsReducing es p x = (e : Term) × (slice_get es x.number ≡ Some e) × Reduces e p

-- x isn't below the front, or its lead doesn't reduce p
abbrev pub IsPassed : List Term → ℕ → Place → Candidate → Type 0
IsPassed es front p x = x.number < front → IsReducing es p x → ⊥

-- number n is that of the first candidate that isn't passed
pub record IsFound (es : List Term) (front : ℕ) (p : Place) (xs : List Candidate) (n : ℕ) : Type 0 where
  pub passed : List Candidate
  pub found : Candidate
  pub others : List Candidate
  pub split : xs ≡ passed ++ found ∷ others
  pub number : found.number ≡ n
  pub below : n < front
  pub reducing : IsReducing es p found
  pub all : AllByRecursion (IsPassed es front p) passed
  pub order : AllByRecursion (Precedes found) others

-- the number of the first candidate that isn't passed, or None where all are
abbrev pub FindsFirst : List Term → ℕ → Place → List Candidate → Option ℕ → Type 0
FindsFirst es front p xs None = AllByRecursion (IsPassed es front p) xs
FindsFirst es front p xs (Some n) = IsFound es front p xs n

-- what stands behind the components below c
pub record BeginsAt (c : ℕ) (xs rest : List Candidate) : Type 0 where
  pub before : List Candidate
  pub split : xs ≡ before ++ rest
  pub lower : AllByRecursion (λ x. x.component < c) before
  pub higher : AllByRecursion (λ x. c ≤ x.component) rest
