-- How a completion ends: what holds of its presentation, its limits and the entries of its log, whatever the book is.
use Rattle.std.specs.List.{AllByRecursion}
use Rattle.std.specs.Prelude.{◌≡◌, ◌≢◌, ◌⊎◌, ◌+◌, ◌≤◌, ℕ, List, [], ◌∷◌, length, Some}
use Rattle.presentation.specs.Presented.{Presented}
use Rattle.outcomes.specs.declared.ends.End.{End}
use Rattle.outcomes.specs.declared.ends.End.TheVariants.{Sealed, Stopped, Full, Spent}
use Rattle.outcomes.specs.declared.ends.Measure.{Measure}
use Rattle.outcomes.specs.declared.tasks.Task.{Task}
use Rattle.module_vec.specs.declared.faults.Stop.{Stop}
use Rattle.module_vec.specs.declared.places.Term.{Term}
use Rattle.fox_calculus.specs.Generators.{AreGenerators}
use Rattle.strong_pairs.specs.Pairs.{IsPair}
use Rattle.strong_pairs.specs.Tasks.{IsClosed, IsClosedFromStart}
use Rattle.task_table.specs.declared.order.Order.{Order}
use Rattle.task_table.specs.Orders.{Before}
use Rattle.basis_entry.specs.Entries.{BasisEntry, vectors_of}
use Rattle.basis_entry.specs.Seals.{IsStrongBasis}
use Rattle.pair_book.specs.declared.limits.Limits.{Limits}
use Rattle.pair_book.specs.Measures.{PassesFirst}
use Rattle.pair_work.specs.Works.{Stops, LeavesRest}

-- t is a task of the entries: its two entries have leads in one component
abbrev pub IsTaskOf : List BasisEntry → Task → Type 0
IsTaskOf es t = IsPair (vectors_of es) t.i t.j

abbrev pub IsTrulyClosed : List BasisEntry → Task → Type 0
IsTrulyClosed es t = IsClosed (vectors_of es) t.kind t.i t.j

-- one lead coefficient of a G task divides the other
abbrev pub IsClosedAtStart : List BasisEntry → Task → Type 0
IsClosedAtStart es t = IsClosedFromStart (vectors_of es) t.kind t.i t.j

-- the work of the task by all entries is this Stop
abbrev pub StopsAt : List BasisEntry → Task → Stop → Type 0
StopsAt es t stop = Stops (vectors_of es) t stop

-- the work of the task by all entries has this rest
abbrev pub HasRest : Presented → List BasisEntry → Task → BasisEntry → Type 0
HasRest p es t e = LeavesRest p (vectors_of es) t e

-- every task that goes before t is truly closed
abbrev pub AreClosedBefore : Order → List BasisEntry → Task → Type 0
AreClosedBefore order es t = (u : Task) → IsTaskOf es u → Before order (vectors_of es) u t → IsTrulyClosed es u

-- no two of the tasks are the same
abbrev pub AreApart : List Task → Type 0
AreApart [] = Unit {0}
AreApart (t ∷ ts) = AllByRecursion (λ u. u ≢ t) ts × AreApart ts

-- t stops, each task before it is truly closed, and each other one is truly closed or stops
pub record IsStopped (order : Order) (es : List BasisEntry) (t : Task) (stop : Stop) : Type 0 where
  pub task : IsTaskOf es t
  pub stops : StopsAt es t stop
  pub before : AreClosedBefore order es t
  pub others : (u : Task) → IsTaskOf es u → IsTrulyClosed es u ⊎ ((s : Stop) × StopsAt es u s)

-- some task has a rest, with which a limit would be passed
pub record IsFull (p : Presented) (limits : Limits) (es : List BasisEntry) (m : Measure) (c : ℕ) : Type 0 where
  pub task : Task
  pub is_task : IsTaskOf es task
  pub entry : BasisEntry
  pub rest : HasRest p es task entry
  pub passes : PassesFirst limits es entry m c

-- the budget is c, and c is no more than what commits can be for: the entries behind the generators, and the truly
-- closed tasks other than t that weren't closed from the start. Of these, so many different ones are listed
pub record IsSpent (p : Presented) (limits : Limits) (es : List BasisEntry) (c : ℕ) (t : Task) : Type 0 where
  pub budget : limits.budget ≡ Some c
  pub task : IsTaskOf es t
  pub not_at_start : IsClosedAtStart es t → ⊥
  pub before : AreClosedBefore limits.order es t
  pub gens : List (List Term)
  pub generators : AreGenerators p gens
  pub closed : List Task
  pub apart : AreApart closed
  pub each : AllByRecursion (λ u. IsTaskOf es u × (u ≢ t) × IsTrulyClosed es u × (IsClosedAtStart es u → ⊥)) closed
  pub count : c + length gens ≤ length es + length closed

abbrev pub Ends : Presented → Limits → List BasisEntry → End → Type 0
Ends p limits es Sealed = IsStrongBasis p (vectors_of es)
Ends p limits es (Stopped t stop) = IsStopped limits.order es t stop
Ends p limits es (Full m c) = IsFull p limits es m c
Ends p limits es (Spent c t) = IsSpent p limits es c t
