-- Outcomes of work: the entries that were used, and what they show.
use Rattle.std.specs.Prelude.{◌≡◌, ◌<◌, ◌≤◌, ◌+◌, ℕ, List, [], ◌∷◌, ◌++◌, length, slice_get, Some}
use Rattle.std.specs.Arc.{arc_value}
use Rattle.outcomes.specs.declared.kinds.PairKind.TheVariants.{S, G}
use Rattle.outcomes.specs.declared.tasks.Task.{Task}
use Rattle.module_vec.specs.declared.TheConstants.{STEPS}
use Rattle.module_vec.specs.declared.places.Place.{Place}
use Rattle.module_vec.specs.declared.places.Term.{Term}
use Rattle.module_vec.specs.declared.steps.Step.{Step}
use Rattle.module_vec.specs.Modules.{steps_at}
use Rattle.strong_pairs.specs.Covering.{Covers}
use Rattle.strong_pairs.specs.Pairs.{IsPair, pair_place, ArePairSteps, both_at}
use Rattle.strong_pairs.specs.Tasks.{AreStepsBelow, IsClosed}
use Rattle.basis_entry.specs.declared.recipes.Recipe.{Recipe}
use Rattle.basis_entry.specs.declared.recipes.Recipe.TheVariants.{Gen, Sum}
use Rattle.basis_entry.specs.Entries.{BasisEntry, vectors_of}
use Rattle.pair_work.specs.declared.outcome.Close.{Close}
use Rattle.pair_work.specs.declared.outcome.Close.TheVariants.{Covered, Zero, Rest}
use Rattle.pair_work.specs.declared.used.Used.{Used}
use Rattle.pair_work.specs.Recipes.{IsMadeFor}

-- an entry that was used, and its number
pub record UsedEntry : Type 0 where
  pub number : ℕ
  pub entry : BasisEntry

abbrev pub used_entry : Used → UsedEntry
used_entry u = record { number = u.number; entry = arc_value u.entry }

-- the list has the used entry under its number
abbrev pub IsThere : List BasisEntry → UsedEntry → Type 0
IsThere es u = slice_get es u.number ≡ Some u.entry

abbrev pub AllThere : List BasisEntry → List UsedEntry → Type 0
AllThere es used = (m : ℕ) (u : UsedEntry) → slice_get used m ≡ Some u → IsThere es u

-- the numbers rise strictly
abbrev pub AreRising : List UsedEntry → Type 0
AreRising used = (m n : ℕ) (u v : UsedEntry) → m < n → slice_get used m ≡ Some u → slice_get used n ≡ Some v
    → u.number < v.number

-- an outcome as its callers see it
pub record Worked : Type 0 where
  pub task : Task
  pub front : ℕ
  pub used : List UsedEntry
  pub close : Close

-- the steps make the S-vector of the pair of multiples whose lead places lie below the pair's place
pub record Zeroes (b : List (List Term)) (i j : ℕ) (steps : List Step) : Type 0 where
  pub first : Step
  pub second : Step
  pub pair : ArePairSteps S b i j first second
  pub below : AreStepsBelow b (pair_place b i j) steps
  pub is : (x : Place) → both_at b first second x ≡ steps_at b steps x

-- how many steps the recipe of an entry has; a generator has none
abbrev pub recipe_steps : Recipe → ℕ
recipe_steps (Gen number negated) = 0
recipe_steps (Sum steps) = length steps

-- the recipe is no longer than the two steps of a pair and those of a chain
abbrev pub IsShort : BasisEntry → Type 0
IsShort e = recipe_steps e.recipe ≤ STEPS + 2

-- e is the rest of a task: it is made from the task's pair, and with it an S task is closed
pub record IsRestOf (b : List (List Term)) (t : Task) (e : BasisEntry) : Type 0 where
  pub made : IsMadeFor b t e
  pub short : IsShort e
  pub closes : t.kind ≡ S → IsClosed (b ++ e.vector ∷ []) S t.i t.j

-- the close of a task is true of entries with these vectors
abbrev pub IsTrueOf : List (List Term) → Task → Close → Type 0
IsTrueOf b t (Covered by) = (t.kind ≡ G) × Covers b t.i t.j by
IsTrueOf b t (Zero steps) = (t.kind ≡ S) × Zeroes b t.i t.j steps
IsTrueOf b t (Rest e) = IsRestOf b t (arc_value e)

-- the pair and its close are true of each list that has the used entries under their numbers
pub record IsOutcome (w : Worked) : Type 0 where
  pub rising : AreRising w.used
  pub pair : (es : List BasisEntry) → AllThere es w.used → IsPair (vectors_of es) w.task.i w.task.j
  pub close : (es : List BasisEntry) → AllThere es w.used → IsTrueOf (vectors_of es) w.task w.close
