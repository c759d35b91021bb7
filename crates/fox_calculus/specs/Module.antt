-- The module of a presentation.
use Rattle.std.specs.Prelude.{◌≡◌, ℕ, ◌<◌, List, length, Contains}
use Rattle.free_words.specs.declared.letter.Letter.{Letter}
use Rattle.presentation.specs.Presented.{Presented}
use Rattle.formal_sums.specs.FormalSum.{FormalSum}
use Rattle.formal_sums.specs.Span.{IsSpanned}
use Rattle.laurent_terms.specs.declared.TheConstants.{VARIABLES}
use Rattle.module_vec.specs.declared.places.Place.{Place}
use Rattle.module_vec.specs.Places.{same_place, moved}
use Rattle.fox_calculus.specs.Fox.{fox, image}
use Rattle.fox_calculus.specs.Generators.{binomial, unit_monomial, constant}

-- one of the four kinds of generators
pub data IsGenerator (p : Presented) : FormalSum Place → Type 0 where
  relator_vector : (r : List Letter) → Contains p.relators r → IsGenerator p (fox r)
  relator_binomial : (r : List Letter) (c : ℕ) → Contains p.relators r → c < length p.names
      → IsGenerator p (binomial (image r) c)
  unit_binomial : (g c : ℕ) → g < length p.names → c < length p.names → IsGenerator p (binomial (unit_monomial g) c)
  modulus_vector : (c : ℕ) → 0 < p.modulus → c < length p.names → IsGenerator p (constant p.modulus c)

-- a monomial of any degree
abbrev pub HasVariables : List ℕ → Type 0
HasVariables t = length t ≡ VARIABLES

-- v lies in the module: it is a finite sum of multiples q·t·g of generators, with q an integer and t a monomial
abbrev pub IsMember : Presented → FormalSum Place → Type 0
IsMember p v = IsSpanned same_place moved HasVariables (IsGenerator p) v
