-- Where the cells of a row stand.
use Rattle.std.specs.List.{AllByRecursion}
use Rattle.std.specs.Prelude.{◌≡◌, ℕ, List, [], ◌∷◌, ◌++◌, length}
use mathlib.Core.List.{IsPrefix}
use Rattle.basis_log.specs.declared.TheConstants.{SEGMENT}
use Rattle.basis_log.specs.Rows.{Rowed}
use Rattle.basis_log.specs.Sights.{Sighted, cells_in}

-- a row, and the segments that were seen in its directory, each with the names of its cells
pub record Placed : Type 0 where
  pub row : Rowed
  pub segments : List (Sighted (List ℕ))

-- the names of the cells in the segments, in order
abbrev pub cells_of : List (Sighted (List ℕ)) → List ℕ
cells_of [] = []
cells_of (s ∷ ss) = s.value ++ cells_of ss

-- the segments stand in the first cells of the directory, in order, and each is full
pub record ArePlaced (directory : List ℕ) (ss : List (Sighted (List ℕ))) : Type 0 where
  pub cells : IsPrefix (cells_in ss) directory
  pub full : AllByRecursion (λ s. length s.value ≡ SEGMENT) ss
