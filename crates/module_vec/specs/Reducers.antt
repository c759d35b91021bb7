-- Lists of vectors with positive leads, and the reducer of a place among them.
use Rattle.std.specs.List.{AllByRecursion}
use Rattle.std.specs.Prelude.{◌≡◌, ℕ, ◌≤◌, true, ◌⊎◌, ℤ, pos, ◌<ℤ◌, List, ◌∷◌, Option, Some, None, slice_get}
use Rattle.laurent_terms.specs.Monomials.{divides}
use Rattle.module_vec.specs.declared.places.Place.{Place}
use Rattle.module_vec.specs.declared.places.Term.{Term}
use Rattle.module_vec.specs.Vectors.{IsVector}

-- a vector with a positive lead coefficient; so it isn't empty
pub record IsEntry (v : List Term) : Type 0 where
  pub vector : IsVector v
  pub lead : Term
  pub others : List Term
  pub is : v ≡ lead ∷ others
  pub positive : pos 0 <ℤ lead.k

abbrev pub AreEntries : List (List Term) → Type 0
AreEntries b = AllByRecursion IsEntry b

-- entry number i of b has the lead e, and g are its other terms
abbrev pub Entry : List (List Term) → ℕ → Term → List Term → Type 0
Entry b i e g = slice_get b i ≡ Some (e ∷ g)

-- an entry with the lead e reduces p: it has p's component, and its lead monomial divides that of p
abbrev pub Reduces : Term → Place → Type 0
Reduces e p = (e.at.c ≡ p.c) × (divides e.at.m p.m ≡ true)

-- the rule: of the entries that reduce a place the one is taken that has the least lead coefficient and, among those,
-- the least number. Number i with k goes before number j with l
abbrev pub GoesBefore : ℤ → ℕ → ℤ → ℕ → Type 0
GoesBefore k i l j = (k <ℤ l) ⊎ ((k ≡ l) × (i ≤ j))

-- entry number i of b is the reducer of p; e is its lead, and g are its other terms
pub record IsReducer (b : List (List Term)) (p : Place) (i : ℕ) (e : Term) (g : List Term) : Type 0 where
  pub entry : Entry b i e g
  pub reduces : Reduces e p
  pub first : (j : ℕ) (f : Term) (h : List Term) → Entry b j f h → Reduces f p → GoesBefore e.k i f.k j

-- the number of the reducer, or None where no entry reduces p
abbrev pub FindsReducer : List (List Term) → Place → Option ℕ → Type 0
FindsReducer b p None = (i : ℕ) (e : Term) (g : List Term) → Entry b i e g → Reduces e p → ⊥
FindsReducer b p (Some i) = (e : Term) × (g : List Term) × IsReducer b p i e g
