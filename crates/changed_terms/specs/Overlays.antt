-- Falling terms with the coefficients of a map in their stead.
use Rattle.std.specs.List.{AllByRecursion}
use Rattle.std.specs.Ordering.{match_ordering}
use Rattle.std.specs.Prelude.{◌≡◌, ◌≢◌, ◌⊎◌, ℕ, zero, suc, ℤ, pos, negsuc, List, [], ◌∷◌, ◌++◌}
use Rattle.module_vec.specs.declared.places.Place.{Place}
use Rattle.module_vec.specs.declared.places.Term.{Term}
use Rattle.module_vec.specs.Places.{IsBelow, IsPlace, place_cmp}
use Rattle.module_vec.specs.Vectors.{InRange}

-- the term with the coefficient k, none where that is 0
abbrev pub kept : Place → ℤ → List Term
kept p (pos zero) = []
kept p (pos (suc n)) = record { at = p; k = pos (suc n) } ∷ []
kept p (negsuc n) = record { at = p; k = negsuc n } ∷ []

-- how many terms that are
abbrev pub presence : ℤ → ℕ
presence (pos zero) = 0
presence (pos (suc n)) = 1
presence (negsuc n) = 1

-- falling terms with the coefficient k at p
abbrev pub put : Place → ℤ → List Term → List Term
put p k [] = kept p k
put p k (t ∷ v) = match_ordering (place_cmp p t.at) (t ∷ put p k v) (kept p k ++ v) (kept p k ++ t ∷ v)

-- falling terms with the coefficients of a map
abbrev pub overlay : List (Place × ℤ) → List Term → List Term
overlay [] v = v
overlay (e ∷ es) v = put e.0 e.1 (overlay es v)

-- an entry of the map
pub record IsCoefficient (e : Place × ℤ) : Type 0 where
  pub place : IsPlace e.0
  pub range : InRange e.1

-- the keys stand below p
abbrev pub AreBelow : Place → List (Place × ℤ) → Type 0
AreBelow p es = AllByRecursion (λ e. IsBelow e.0 p) es

-- the first of the terms stands above the keys
abbrev pub IsFirstAbove : List Term → List (Place × ℤ) → Type 0
IsFirstAbove [] es = ⊥
IsFirstAbove (t ∷ v) es = AreBelow t.at es

-- the first term is left out if it stands at p
abbrev pub Skips : Place → List Term → List Term → Type 0
Skips p [] left = left ≡ []
Skips p (t ∷ v) left = ((t.at ≡ p) × (left ≡ v)) ⊎ ((t.at ≢ p) × (left ≡ t ∷ v))

-- t is the greatest term, or nothing where its coefficient is 0
abbrev pub Passes : List Term → Term → List Term → Type 0
Passes old t new = ((t.k ≡ pos 0) × (new ≡ old)) ⊎ ((t.k ≢ pos 0) × (old ≡ t ∷ new))
