-- How sorted terms are collected, so that each place stands once.
use Rattle.std.specs.Prelude.{◌^◌, ℤ, pos, ◌+ℤ◌, ◌*ℤ◌, Bool, List, [], ◌∷◌}
use Rattle.module_vec.specs.declared.places.Place.{Place}
use Rattle.module_vec.specs.declared.places.Term.{Term}
use Rattle.module_vec.specs.declared.sums.WideSum.{WideSum}
use Rattle.module_vec.specs.Places.{same_place}
use Rattle.module_vec.specs.Merging.{BeginsAtMost}

-- the sum of the coefficients
abbrev pub total_of : List Term → ℤ
total_of [] = pos 0
total_of (t ∷ v) = t.k +ℤ total_of v

-- what the two words stand for
abbrev pub value_of : WideSum → ℤ
value_of t = t.low +ℤ t.high *ℤ pos (2 ^ 128)

-- no term stands above the one before it
abbrev pub Descends : List Term → Type 0
Descends [] = Unit {0}
Descends (t ∷ v) = BeginsAtMost t.at v × Descends v

abbrev pub stands_at : Place → Term → Bool
stands_at p t = same_place t.at p
