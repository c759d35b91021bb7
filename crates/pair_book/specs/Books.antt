-- A book as its callers see it.
use Rattle.std.specs.List.{AllByRecursion}
use Rattle.std.specs.Prelude.{◌≡◌, ℕ, ◌+◌, ◌≤◌, List, Bool, true, false, Option, Some, None, length, sum_by, cond}
use Rattle.presentation.specs.Presented.{Presented}
use Rattle.outcomes.specs.declared.tasks.Task.{Task}
use Rattle.strong_pairs.specs.Pairs.{lead_at, IsPair}
use Rattle.strong_pairs.specs.Tasks.{IsClosed}
use Rattle.task_table.specs.declared.states.TaskState.{TaskState}
use Rattle.task_table.specs.declared.states.TaskState.TheVariants.{Open, Hard}
use Rattle.task_table.specs.declared.states.Wanted.TheVariants.{Unclosed}
use Rattle.task_table.specs.Tasks.{IsTask, is_taken, is_unclosed, is_never, is_closed_later}
use Rattle.task_table.specs.Tables.{Table, IsTable, IsOver, Takes, NoneIs, IsLeast, state_of, put}
use Rattle.task_table.specs.Rows.{settled_of, first_state}
use Rattle.basis_entry.specs.Entries.{BasisEntry, vectors_of}
use Rattle.basis_entry.specs.Base.{AreBase}
use Rattle.basis_entry.specs.Seals.{Seal}
use Rattle.pair_book.specs.declared.faults.SealFault.{SealFault}
use Rattle.pair_book.specs.declared.faults.SealFault.TheVariants.{StillOpen, NoMemory}
use Rattle.pair_book.specs.declared.limits.Limits.{Limits}
use Rattle.pair_book.specs.Logs.{IsLawful}
use Rattle.pair_book.specs.Settled.{settled_by}
use Rattle.pair_work.specs.Outcomes.{IsShort}
use Rattle.pair_book.specs.LogEntries.{terms_of, steps_of}

-- the presentation, the limits, the number of generator entries, the entries of the log, the tasks, the number of
-- commits and the seal
pub record Held : Type 0 where
  pub source : Presented
  pub limits : Limits
  pub base : ℕ
  pub entries : List BasisEntry
  pub tasks : Table
  pub commits : ℕ
  pub seal : Option Seal

-- the seal that a cell holds
abbrev pub seal_value : {A : Type 0} → (A → Seal) → Option A → Option Seal
seal_value value None = None
seal_value value (Some s) = Some (value s)

-- how many tasks are closed that were not closed from the start
abbrev pub closed_once : TaskState → ℕ
closed_once s = cond (is_closed_later s) 1 0

abbrev pub closed_later : Table → ℕ
closed_later tasks = sum_by closed_once tasks.states

-- a seal is that of all entries, and then every task is closed
abbrev pub IsSealedBy : Held → Option Seal → Type 0
IsSealedBy h None = Unit {0}
IsSealedBy h (Some s) = (s ≡ record { source = h.source; entries = h.entries }) × NoneIs Unclosed h.tasks

-- what holds of every book: its log is lawful and within the limits, and a closed task is truly closed
pub record IsBook (h : Held) : Type 0 where
  pub lawful : IsLawful h.source h.base h.entries
  pub short : AllByRecursion IsShort h.entries
  pub within : length h.entries ≤ h.limits.entries
  pub terms : terms_of h.entries ≤ h.limits.terms
  pub steps : steps_of h.entries ≤ h.limits.steps
  pub table : IsTable h.tasks
  pub order : h.tasks.order ≡ h.limits.order
  pub count : h.tasks.count ≡ length h.entries
  pub over : IsOver (vectors_of h.entries) h.tasks
  pub room : h.tasks.room ≡ h.limits.entries
  pub truly : (t : Task) → IsTask (length h.entries) t → is_unclosed (state_of h.tasks t) ≡ false
      → IsPair (vectors_of h.entries) t.i t.j → IsClosed (vectors_of h.entries) t.kind t.i t.j
  pub settled : (t : Task) → IsTask (length h.entries) t → is_never (state_of h.tasks t)
      ≡ settled_of t.kind (settled_by (lead_at (vectors_of h.entries) t.i) (lead_at (vectors_of h.entries) t.j))
  pub commits : h.commits + h.base ≤ length h.entries + closed_later h.tasks
  pub seal : IsSealedBy h h.seal

-- one task gets another state
abbrev pub with_state : Held → Task → TaskState → Held
with_state h t s = record h { tasks = put h.tasks t s }

-- the least open task is taken, where a task is open
abbrev pub TakesTask : Held → Option Task → Held → Type 0
TakesTask old answer new = (new ≡ record old { tasks = new.tasks })
    × Takes (vectors_of old.entries) old.tasks answer new.tasks

abbrev pub given_state : Bool → TaskState
given_state true = Hard
given_state false = Open

-- the task is taken in this book
abbrev pub IsTaken : Held → Task → Type 0
IsTaken h t = IsTask (length h.entries) t × (is_taken (state_of h.tasks t) ≡ true)

-- a taken task becomes hard or open; for any other nothing changes
pub record GivesBack (old : Held) (t : Task) (hard : Bool) (new : Held) : Type 0 where
  pub taken : IsTaken old t → new ≡ with_state old t (given_state hard)
  pub other : (IsTaken old t → ⊥) → new ≡ old

-- the book has the seal of all its entries, and every task is closed
abbrev pub IsSealed : Held → Seal → Held → Type 0
IsSealed old s new = NoneIs Unclosed old.tasks × (s ≡ record { source = old.source; entries = old.entries })
    × (new ≡ record old { seal = Some s })

-- the least task that isn't closed is named
abbrev pub IsNotSealed : Held → SealFault → Held → Type 0
IsNotSealed old (StillOpen t) new = IsLeast Unclosed (vectors_of old.entries) old.tasks t × (new ≡ old)
IsNotSealed old NoMemory new = new ≡ old

-- ---- opening

-- the generator entries of the presentation are within the limits on entries and terms
abbrev pub AreWithin : Presented → Limits → Type 0
AreWithin p limits = (es : List BasisEntry) → AreBase p es → (length es ≤ limits.entries) × (terms_of es ≤ limits.terms)

-- each task of the log is as it comes: closed where it is settled, and open otherwise
pub record AreNew (es : List BasisEntry) (tasks : Table) : Type 0 where
  pub table : IsTable tasks
  pub count : tasks.count ≡ length es
  pub over : IsOver (vectors_of es) tasks
  pub each : (t : Task) → IsTask (length es) t → state_of tasks t
      ≡ first_state (settled_of t.kind (settled_by (lead_at (vectors_of es) t.i) (lead_at (vectors_of es) t.j)))

-- the book of the generator entries, without commits
pub record IsOpened (p : Presented) (limits : Limits) (h : Held) : Type 0 where
  pub base : AreBase p h.entries
  pub tasks : AreNew h.entries h.tasks
  pub is : h ≡ record {
    source = p;
    limits = limits;
    base = length h.entries;
    entries = h.entries;
    tasks = h.tasks;
    commits = 0;
    seal = None;
  }
