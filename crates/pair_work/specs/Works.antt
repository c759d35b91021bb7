-- What the work of a task comes to.
use Rattle.std.specs.Prelude.{◌≡◌, ◌≢◌, ◌⊎◌, ◌↔◌, ℕ, MatchBool, negsuc, List, [], ◌∷◌, ◌++◌, map, length, Contains}
use Rattle.std.specs.Prelude.{Bool, true, cond, slice_get, Option, Some, None, Result, Ok, Err}
use Rattle.std.specs.Arc.{arc_value}
use Rattle.formal_sums.specs.FormalSum.{scale}
use Rattle.presentation.specs.Presented.{Presented}
use Rattle.outcomes.specs.declared.kinds.PairKind.TheVariants.{G}
use Rattle.outcomes.specs.declared.tasks.Task.{Task}
use Rattle.module_vec.specs.declared.places.Term.{Term}
use Rattle.module_vec.specs.declared.steps.Step.{Step}
use Rattle.module_vec.specs.declared.faults.Stop.{Stop as TheStop}
use Rattle.module_vec.specs.Vectors.{sum_of, coefficient_at}
use Rattle.module_vec.specs.Chains.{ChainStops}
use Rattle.strong_pairs.specs.declared.faults.PairFault.TheVariants as of_pair
use Rattle.strong_pairs.specs.Covering.{FindsCover}
use Rattle.strong_pairs.specs.Pairs.{ArePairSteps}
use Rattle.strong_pairs.specs.Results.{MakesPair, IsPairVector, IsInReach}
use Rattle.reduce_cofactor.specs.Answers.{IsRest}
use Rattle.basis_entry.specs.declared.recipes.Recipe.{Recipe}
use Rattle.basis_entry.specs.declared.recipes.Recipe.TheVariants.{Gen, Sum}
use Rattle.basis_entry.specs.Base.{has_negative_lead}
use Rattle.basis_entry.specs.Entries.{BasisEntry, vectors_of}
use Rattle.pair_work.specs.declared.outcome.Close.{Close}
use Rattle.pair_work.specs.declared.outcome.Close.TheVariants.{Covered, Zero, Rest}
use Rattle.pair_work.specs.declared.faults.WorkFault.{WorkFault}
use Rattle.pair_work.specs.declared.faults.WorkFault.TheVariants.{Stop, NoMemory}
use Rattle.pair_work.specs.Recipes.{turned}
use Rattle.pair_work.specs.Outcomes.{Worked, UsedEntry, AllThere, AreRising}

-- a G task whose pair an entry covers is not worked further
abbrev pub IsUncovered : List (List Term) → Task → Type 0
IsUncovered b t = t.kind ≡ G → FindsCover b (length b) t.i t.j None

-- the recipe of a rest: the two steps of the pair, and what the chain took away with its signs turned
abbrev pub recipe_of : Step → Step → List Step → List Step
recipe_of first second steps = first ∷ (second ∷ map turned steps)

-- e is the entry of the rest w with this recipe: all signs are turned where the lead coefficient of w is negative
pub record IsOfRest (p : Presented) (w : List Term) (steps : List Step) (e : BasisEntry) : Type 0 where
  pub source : e.source ≡ p
  pub vector : MatchBool (has_negative_lead w) (sum_of e.vector ≡ scale (negsuc 0) (sum_of w)) (e.vector ≡ w)
  pub recipe : MatchBool (has_negative_lead w) (e.recipe ≡ Sum (map turned steps)) (e.recipe ≡ Sum steps)

-- the chain of the pair's vector ends in w
pub record Reduces (b : List (List Term)) (t : Task) (steps : List Step) (w : List Term) : Type 0 where
  pub uncovered : IsUncovered b t
  pub vector : List Term
  pub pair : IsPairVector t.kind b t.i t.j vector
  pub rest : IsRest b (coefficient_at vector) w steps

-- a nonempty rest and its entry
pub record LeavesRest (p : Presented) (b : List (List Term)) (t : Task) (e : BasisEntry) : Type 0 where
  pub first : Step
  pub second : Step
  pub pair_steps : ArePairSteps t.kind b t.i t.j first second
  pub steps : List Step
  pub rest : List Term
  pub reduces : Reduces b t steps rest
  pub some : rest ≢ []
  pub entry : IsOfRest p rest (recipe_of first second steps) e

abbrev pub ClosesAs : Presented → List (List Term) → Task → Close → Type 0
ClosesAs p b t (Covered by) = (t.kind ≡ G) × FindsCover b (length b) t.i t.j (Some by)
ClosesAs p b t (Zero steps) = Reduces b t steps []
ClosesAs p b t (Rest e) = LeavesRest p b t (arc_value e)

-- the pair has no vector, or its vector's chain stops
abbrev pub Halts : List (List Term) → Task → TheStop → Type 0
Halts b t stop = MakesPair t.kind b t.i t.j (Err (of_pair.Stop stop))
    ⊎ ((v : List Term) × IsPairVector t.kind b t.i t.j v × ChainStops b (coefficient_at v) stop)

abbrev pub Stops : List (List Term) → Task → TheStop → Type 0
Stops b t stop = IsUncovered b t × Halts b t stop

-- the numbers of the entries that steps name
abbrev pub numbers_of : List Step → List ℕ
numbers_of steps = map (λ s. s.by) steps

abbrev pub recipe_numbers : Recipe → List ℕ
recipe_numbers (Gen number negated) = []
recipe_numbers (Sum steps) = numbers_of steps

-- the numbers of the entries that a close names
abbrev pub close_numbers : Close → List ℕ
close_numbers (Covered by) = by ∷ []
close_numbers (Zero steps) = numbers_of steps
close_numbers (Rest e) = recipe_numbers (arc_value e).recipe

-- the entries used are the two of the pair and those that the close names, each once, by rising numbers, and no further
-- ones
pub record AreUsedFor (t : Task) (close : Close) (used : List UsedEntry) : Type 0 where
  pub rising : AreRising used
  pub exactly : (n : ℕ) → Contains (map (λ (u : UsedEntry). u.number) used) n
      ↔ Contains (t.i ∷ (t.j ∷ close_numbers close)) n

-- the work of a task by a list of entries
abbrev pub Works : Presented → List BasisEntry → Task → Result Worked WorkFault → Type 0
Works p es t (Ok w) = (w.task ≡ t) × (w.front ≡ length es) × AllThere es w.used × ClosesAs p (vectors_of es) t w.close
    × AreUsedFor t w.close w.used
Works p es t (Err (Stop stop)) = Stops (vectors_of es) t stop
Works p es t (Err NoMemory) = Unit {0}

-- ---- how the work is done

-- the steps, all signs turned where the rest was negated
abbrev pub signed : Bool → List Step → List Step
signed negated steps = cond negated (map turned steps) steps

-- the least entry that covers the pair of a G task
abbrev pub FindsCovering : List (List Term) → Task → Option ℕ → Type 0
FindsCovering b t None = IsUncovered b t
FindsCovering b t (Some by) = (t.kind ≡ G) × FindsCover b (length b) t.i t.j (Some by)

-- why the pair's chain isn't carried out
abbrev pub HaltsBy : List (List Term) → Task → WorkFault → Type 0
HaltsBy b t (Stop stop) = Halts b t stop
HaltsBy b t NoMemory = Unit {0}

-- one of the used entries has the number
abbrev pub IsAmong : List UsedEntry → ℕ → Type 0
IsAmong used n = (m : ℕ) × (u : UsedEntry) × (slice_get used m ≡ Some u) × (u.number ≡ n)

-- the used entries are the list's, by rising numbers; they have the numbers given and those that the steps name, and no
-- others
pub record AreUsed (es : List BasisEntry) (numbers : List ℕ) (steps : List Step) (used : List UsedEntry) : Type 0 where
  pub there : AllThere es used
  pub rising : AreRising used
  pub numbered : (k n : ℕ) → slice_get numbers k ≡ Some n → IsAmong used n
  pub stepped : (k : ℕ) (s : Step) → slice_get steps k ≡ Some s → IsAmong used s.by
  pub only : (m : ℕ) (u : UsedEntry) → slice_get used m ≡ Some u → Contains (numbers ++ numbers_of steps) u.number

-- the used entries are those whose mark is set, by rising numbers
pub record AreMarked (es : List BasisEntry) (marks : List Bool) (used : List UsedEntry) : Type 0 where
  pub there : AllThere es used
  pub rising : AreRising used
  pub each : (n : ℕ) → slice_get marks n ≡ Some true → IsAmong used n
  pub only : (m : ℕ) (u : UsedEntry) → slice_get used m ≡ Some u → slice_get marks u.number ≡ Some true

-- the two steps of a pair, and the steps and the rest of the chain of its vector
pub record IsCarriedOut (b : List (List Term)) (t : Task) (first second : Step) (steps : List Step)
    (w : List Term) : Type 0 where
  pub pair_steps : ArePairSteps t.kind b t.i t.j first second
  pub first_reach : IsInReach b first
  pub second_reach : IsInReach b second
  pub vector : List Term
  pub pair : IsPairVector t.kind b t.i t.j vector
  pub rest : IsRest b (coefficient_at vector) w steps
