-- Which tasks of a list come to nothing new, and which is the first that doesn't.
use Rattle.std.specs.Prelude.{◌≡◌, ◌≢◌, ◌⊎◌, ℕ, ◌<◌, List, []}
use Rattle.module_vec.specs.declared.places.Term.{Term}
use Rattle.module_vec.specs.declared.steps.Step.{Step}
use Rattle.module_vec.specs.declared.faults.Stop.{Stop}
use Rattle.outcomes.specs.declared.kinds.PairKind.TheVariants.{S, G}
use Rattle.outcomes.specs.declared.tasks.Task.{Task}
use Rattle.module_vec.specs.Vectors.{coefficient_at}
use Rattle.reduce_cofactor.specs.Answers.{IsRest}
use Rattle.strong_pairs.specs.Covering.{Covers}
use Rattle.strong_pairs.specs.Pairs.{IsPair}
use Rattle.strong_pairs.specs.Results.{IsPairVector}
use Rattle.strong_pairs.specs.Tasks.{IsClosedFromStart}
use Rattle.pair_work.specs.Works.{Reduces, Stops}
use Rattle.saved_basis.specs.declared.faults.BasisFault.{BasisFault}
use Rattle.saved_basis.specs.declared.faults.BasisFault.TheVariants.{Line, Open, Stopped, NoMemory}

-- ---- one task

-- its work by the whole list adds nothing: an entry covers the pair of a G task, or the chain of the pair's vector ends
-- at zero
abbrev pub AddsNothing : List (List Term) → Task → Type 0
AddsNothing b t = ((t.kind ≡ G) × ((k : ℕ) × Covers b t.i t.j k)) ⊎ ((steps : List Step) × Reduces b t steps [])

-- its work leaves a rest
abbrev pub LeavesRest : List (List Term) → Task → Type 0
LeavesRest b t = (rest : List Term) × (rest ≢ []) × ((steps : List Step) × Reduces b t steps rest)

-- it needs no work, or its work adds nothing
abbrev pub Passes : List (List Term) → Task → Type 0
Passes b t = IsClosedFromStart b t.kind t.i t.j ⊎ AddsNothing b t

-- ---- all tasks, by j, then i, then G before S

-- u stands before t
abbrev pub IsEarlier : Task → Task → Type 0
IsEarlier u t = (u.j < t.j) ⊎ ((u.j ≡ t.j) × ((u.i < t.i) ⊎ ((u.i ≡ t.i) × (u.kind ≡ G) × (t.kind ≡ S))))

-- every task of the list passes
abbrev pub AllPass : List (List Term) → Type 0
AllPass b = (t : Task) → IsPair b t.i t.j → Passes b t

-- of the tasks of which P holds, t is one that needs work, and those before it pass
pub record IsFirstToFail (P : Task → Type 0) (b : List (List Term)) (t : Task) : Type 0 where
  pub pair : IsPair b t.i t.j
  pub of : P t
  pub needed : IsClosedFromStart b t.kind t.i t.j → ⊥
  pub before : (u : Task) → IsPair b u.i u.j → P u → IsEarlier u t → Passes b u

-- of every task
abbrev pub IsAny : Task → Type 0
IsAny t = Unit {0}

-- the work of t leaves a rest
abbrev pub IsOpenTask : (Task → Type 0) → List (List Term) → Task → Type 0
IsOpenTask P b t = IsFirstToFail P b t × LeavesRest b t

-- it stops for this reason
abbrev pub IsStoppedTask : (Task → Type 0) → List (List Term) → Task → Stop → Type 0
IsStoppedTask P b t stop = IsFirstToFail P b t × Stops b t stop

-- ---- how the test goes on

-- the tasks with this j; and those of one pair
abbrev pub IsOfRow : ℕ → Task → Type 0
IsOfRow j t = t.j ≡ j

abbrev pub IsOfPair : ℕ → ℕ → Task → Type 0
IsOfPair i j t = (t.j ≡ j) × (t.i ≡ i)

-- the tasks of which P holds pass
abbrev pub PassWhere : (Task → Type 0) → List (List Term) → Type 0
PassWhere P b = (t : Task) → IsPair b t.i t.j → P t → Passes b t

-- the fault tells the first of them that fails, and why
abbrev pub TellsFirst : (Task → Type 0) → List (List Term) → BasisFault → Type 0
TellsFirst P b (Line n k) = ⊥
TellsFirst P b (Open i j kind) = IsOpenTask P b (record { i = i; j = j; kind = kind })
TellsFirst P b (Stopped i j kind stop) = IsStoppedTask P b (record { i = i; j = j; kind = kind }) stop
TellsFirst P b NoMemory = Unit {0}

-- the fault tells how the work of t fails
abbrev pub TellsTask : List (List Term) → Task → BasisFault → Type 0
TellsTask b t (Line n k) = ⊥
TellsTask b t (Open i j kind) = (record { i = i; j = j; kind = kind } ≡ t) × LeavesRest b t
TellsTask b t (Stopped i j kind stop) = (record { i = i; j = j; kind = kind } ≡ t) × Stops b t stop
TellsTask b t NoMemory = Unit {0}

-- the chain of the pair's vector ends in w
abbrev pub EndsIn : List (List Term) → Task → List Term → Type 0
EndsIn b t w = (v : List Term) × IsPairVector t.kind b t.i t.j v
    × ((steps : List Step) × IsRest b (coefficient_at v) w steps)
