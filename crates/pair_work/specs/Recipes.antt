-- Recipes of what the work of a pair makes.
use Rattle.std.specs.Prelude.{◌≡◌, ◌⊎◌, ℕ, neg_ℤ, List, ◌∷◌, map}
use Rattle.formal_sums.specs.FormalSum.{Falling}
use Rattle.outcomes.specs.declared.kinds.PairKind.{PairKind}
use Rattle.outcomes.specs.declared.kinds.PairKind.TheVariants.{S, G}
use Rattle.outcomes.specs.declared.tasks.Task.{Task}
use Rattle.module_vec.specs.declared.places.Place.{Place}
use Rattle.module_vec.specs.declared.places.Term.{Term}
use Rattle.module_vec.specs.declared.steps.Step.{Step}
use Rattle.module_vec.specs.Places.{IsBelow}
use Rattle.step_lists.specs.Sums.{IsValue}
use Rattle.strong_pairs.specs.Pairs.{pair_place, ArePairSteps}
use Rattle.strong_pairs.specs.Tasks.{IsUpTo, AreStepsAt, step_places}
use Rattle.basis_entry.specs.declared.recipes.Recipe.TheVariants.{Sum}
use Rattle.basis_entry.specs.Entries.{BasisEntry}

-- where the multiples of a recipe stand that come behind those of its pair: below the pair's place for an S-vector, and
-- up to it for a G-vector
abbrev pub StandsFor : PairKind → Place → Place → Type 0
StandsFor S p x = IsBelow x p
StandsFor G p x = IsUpTo x p

abbrev pub turned : Step → Step
turned s = record s { q = neg_ℤ s.q }

-- the steps of a pair's vector, and further ones whose lead places fall
pub record IsPairRecipe (kind : PairKind) (b : List (List Term)) (i j : ℕ) (steps : List Step) : Type 0 where
  pub first : Step
  pub second : Step
  pub further : List Step
  pub is : steps ≡ first ∷ (second ∷ further)
  pub pair : ArePairSteps kind b i j first second
  pub stand : AreStepsAt (StandsFor kind (pair_place b i j)) b further
  pub falling : Falling IsBelow (step_places b further)

-- the steps are such a recipe, or one with all signs turned
abbrev pub IsFromPair : PairKind → List (List Term) → ℕ → ℕ → List Step → Type 0
IsFromPair kind b i j steps = IsPairRecipe kind b i j steps
    ⊎ ((others : List Step) × IsPairRecipe kind b i j others × (steps ≡ map turned others))

-- e is the value of a recipe from the task's pair, over entries with these vectors
pub record IsMadeFor (b : List (List Term)) (t : Task) (e : BasisEntry) : Type 0 where
  pub steps : List Step
  pub recipe : e.recipe ≡ Sum steps
  pub value : IsValue b steps e.vector
  pub from : IsFromPair t.kind b t.i t.j steps
