-- Entries of a basis as contracts see them.
use Rattle.std.specs.List.{AllByRecursion}
use Rattle.std.specs.Prelude.{◌≡◌, ℕ, List, length, map}
use Rattle.laurent_terms.specs.Monomials.{IsMonomial}
use Rattle.presentation.specs.Presented.{Presented}
use Rattle.module_vec.specs.declared.places.Term.{Term}
use Rattle.module_vec.specs.declared.steps.Step.{Step}
use Rattle.module_vec.specs.Reducers.{IsEntry}
use Rattle.module_vec.specs.Vectors.{sum_of}
use Rattle.vector_text.specs.Over.{MonoIsOver, VectorIsOver}
use Rattle.fox_calculus.specs.Module.{IsMember}
use Rattle.basis_entry.specs.declared.recipes.Recipe.{Recipe}
use Rattle.basis_entry.specs.declared.recipes.Recipe.TheVariants.{Gen, Sum}

-- a vector, the presentation in whose module it lies, and how it was made
pub record BasisEntry : Type 0 where
  pub source : Presented
  pub vector : List Term
  pub recipe : Recipe

-- the monomials of the steps are over n generators
abbrev pub MonosAreOver : ℕ → List Step → Type 0
MonosAreOver n steps = AllByRecursion (λ s. MonoIsOver n s.t) steps

abbrev pub RecipeIsOver : ℕ → Recipe → Type 0
RecipeIsOver n (Gen number negated) = Unit {0}
RecipeIsOver n (Sum steps) = MonosAreOver n steps

-- the steps of a recipe have monomials, within the limit on degrees
abbrev pub HasMonomials : Recipe → Type 0
HasMonomials (Gen number negated) = Unit {0}
HasMonomials (Sum steps) = AllByRecursion (λ s. IsMonomial s.t) steps

-- what holds of every entry: its vector has a positive lead coefficient, and lies in the module of its presentation.
-- Variables and components are those of the presentation's generators
pub record IsBasisEntry (e : BasisEntry) : Type 0 where
  pub entry : IsEntry e.vector
  pub member : IsMember e.source (sum_of e.vector)
  pub over : VectorIsOver (length e.source.names) e.vector
  pub recipe : RecipeIsOver (length e.source.names) e.recipe
  pub monomials : HasMonomials e.recipe

-- the entries are of this presentation
abbrev pub AreOf : Presented → List BasisEntry → Type 0
AreOf p es = AllByRecursion (λ e. e.source ≡ p) es

abbrev pub vectors_of : List BasisEntry → List (List Term)
vectors_of es = map (λ e. e.vector) es
