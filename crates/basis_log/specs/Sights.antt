-- What was seen in cells that are set once.
use Rattle.std.specs.Prelude.{ℕ, List, map, ◌⊎◌}
use mathlib.Core.List.{IsPrefix}

-- a cell by its name, and the value that it holds for good
pub record Sighted (X : Type 0) : Type 0 where
  pub cell : ℕ
  pub value : X

abbrev pub cells_in : {X : Type 0} → List (Sighted X) → List ℕ
cells_in ss = map (λ s. s.cell) ss

abbrev pub values_in : {X : Type 0} → List (Sighted X) → List X
values_in ss = map (λ s. s.value) ss

-- one of the lists begins with the other
abbrev pub Agree : {X : Type 0} → List X → List X → Type 0
Agree xs ys = IsPrefix xs ys ⊎ IsPrefix ys xs
