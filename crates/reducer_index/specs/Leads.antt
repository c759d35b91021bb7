-- The lead terms of a list of vectors, and the reducer of a place among them.
use Rattle.std.specs.Prelude.{◌≡◌, ℕ, pos, List, [], map, Option, Some, None, slice_get, slice_index_or}
use Rattle.module_vec.specs.declared.places.Place.{Place}
use Rattle.module_vec.specs.declared.places.Term.{Term}
use Rattle.module_vec.specs.Reducers.{Reduces, GoesBefore}

-- the lead of a vector, with the coefficient 0 where there is none
abbrev pub lead_of : List Term → Term
lead_of v = slice_index_or v 0 (record { at = record { m = []; c = 0 }; k = pos 0 })

-- the leads of the entries, in their order
abbrev pub AreLeads : List (List Term) → List Term → Type 0
AreLeads b es = es ≡ map lead_of b

-- number i has the lead e and is the reducer of p
pub record IsFirst (es : List Term) (p : Place) (i : ℕ) (e : Term) : Type 0 where
  pub lead : slice_get es i ≡ Some e
  pub reduces : Reduces e p
  pub first : (j : ℕ) (f : Term) → slice_get es j ≡ Some f → Reduces f p → GoesBefore e.k i f.k j

-- the number of the reducer of p among these leads, or None where none reduces it
abbrev pub FindsLead : List Term → Place → Option ℕ → Type 0
FindsLead es p None = (i : ℕ) (e : Term) → slice_get es i ≡ Some e → Reduces e p → ⊥
FindsLead es p (Some i) = (e : Term) × IsFirst es p i e
