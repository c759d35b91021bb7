-- Coefficients that change one after another.
use Rattle.std.specs.List.{AllByRecursion}
use Rattle.std.specs.Prelude.{◌≡◌, if◌then◌else◌, List, [], ◌∷◌}
use Rattle.module_vec.specs.declared.places.Place.{Place}
use Rattle.module_vec.specs.Places.{IsPlace, same_place}
use Rattle.module_vec.specs.Vectors.{Coefficients, difference_at, InRange}
use Rattle.module_vec.specs.Results.{DifferenceIsWide, Nowhere}
use Rattle.changed_terms.specs.declared.changes.Change.{Change}

-- what a change leaves is a coefficient
pub record IsChange (c : Change) : Type 0 where
  pub place : IsPlace c.at
  pub range : InRange c.after

-- f after one change, and after all
abbrev pub with_change : Change → Coefficients → Coefficients
with_change c f x = if same_place c.at x then c.after else f x

abbrev pub overwritten : List Change → Coefficients → Coefficients
overwritten [] f = f
overwritten (c ∷ cs) f = overwritten cs (with_change c f)

-- each change finds what it says
abbrev pub StartFrom : List Change → Coefficients → Type 0
StartFrom [] f = Unit {0}
StartFrom (c ∷ cs) f = (c.before ≡ f c.at) × StartFrom cs (with_change c f)

-- the changes take g from f, and nothing leaves the range
pub record AreChanges (f g : Coefficients) (changes : List Change) : Type 0 where
  pub are : AllByRecursion IsChange changes
  pub start : StartFrom changes f
  pub is : (x : Place) → overwritten changes f x ≡ difference_at f g x
  pub narrow : Nowhere (DifferenceIsWide f g)
