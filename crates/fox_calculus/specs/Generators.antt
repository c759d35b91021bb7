-- The generators of the module of a presentation.
use Rattle.std.specs.Prelude.{◌≢◌, ℕ, ◌+◌, ◌*◌, ◌==◌, pos, negsuc, List, [], ◌∷◌, ◌++◌, map, length, if◌then◌else◌}
use Rattle.std.specs.List.{range_with_len, flat_map}
use Rattle.presentation.specs.Presented.{Presented}
use Rattle.formal_sums.specs.FormalSum.{FormalSum, Same}
use Rattle.laurent_terms.specs.Monomials.{one, variable, product}
use Rattle.module_vec.specs.declared.places.Place.{Place}
use Rattle.module_vec.specs.declared.places.Term.{Term}
use Rattle.module_vec.specs.Places.{same_place}
use Rattle.module_vec.specs.Vectors.{sum_of, IsSparse}
use Rattle.fox_calculus.specs.Fox.{fox, image}

-- (m - 1)·e_c
abbrev pub binomial : List ℕ → ℕ → FormalSum Place
binomial m c = (pos 1, record { m = m; c = c }) ∷ (negsuc 0, record { m = one; c = c }) ∷ []

-- x_g·y_g, which stands for 1
abbrev pub unit_monomial : ℕ → List ℕ
unit_monomial g = product (variable (2 * g)) (variable (2 * g + 1))

-- m·e_c for a number m
abbrev pub constant : ℕ → ℕ → FormalSum Place
constant m c = (pos m, record { m = one; c = c }) ∷ []

-- the components of the presentation's vectors, one for each generator, in order
abbrev pub components : Presented → List ℕ
components p = range_with_len 0 (length p.names)

-- the Fox vector of each relator
abbrev pub relator_vectors : Presented → List (FormalSum Place)
relator_vectors p = map fox p.relators

-- (x^a - 1)·e_c for each relator, whose exponent sums are a, and within it for each component c
abbrev pub relator_binomials : Presented → List (FormalSum Place)
relator_binomials p = flat_map (λ r. map (binomial (image r)) (components p)) p.relators

-- (x_g·y_g - 1)·e_c for each generator g, and within it for each component c
abbrev pub unit_binomials : Presented → List (FormalSum Place)
unit_binomials p = flat_map (λ g. map (binomial (unit_monomial g)) (components p)) (components p)

-- m·e_c for each component c, where there is a modulus m
abbrev pub modulus_vectors : Presented → List (FormalSum Place)
modulus_vectors p = if p.modulus == 0 then [] else map (constant p.modulus) (components p)

-- the four kinds in order
abbrev pub candidates : Presented → List (FormalSum Place)
candidates p = relator_vectors p ++ (relator_binomials p ++ (unit_binomials p ++ modulus_vectors p))

-- the sum is zero
abbrev pub IsZero : FormalSum Place → Type 0
IsZero f = Same same_place f []

-- g is the sum f, written as a vector
pub record IsWritten (f : FormalSum Place) (g : List Term) : Type 0 where
  pub sparse : IsSparse g
  pub same : Same same_place (sum_of g) f

-- the list has these sums in order, written as vectors, those that are zero left out
pub data AreWritten : List (FormalSum Place) → List (List Term) → Type 0 where
  nothing : AreWritten [] []
  left_out : (f : FormalSum Place) (fs : List (FormalSum Place)) (gs : List (List Term)) → IsZero f → AreWritten fs gs
      → AreWritten (f ∷ fs) gs
  written : (f : FormalSum Place) (g : List Term) (fs : List (FormalSum Place)) (gs : List (List Term)) → g ≢ []
      → IsWritten f g
      → AreWritten fs gs → AreWritten (f ∷ fs) (g ∷ gs)

-- the list of generators of the presentation
abbrev pub AreGenerators : Presented → List (List Term) → Type 0
AreGenerators p gens = AreWritten (candidates p) gens
