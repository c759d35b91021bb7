-- What a commit answers and does.
use Rattle.std.specs.Prelude.{◌≡◌, ◌≢◌, ◌⊎◌, ◌↔◌, ◌+◌, ◌<◌, ◌≤◌, ℕ, List, [], ◌∷◌, ◌++◌, Bool, true, IsTrue, Option}
use Rattle.std.specs.Prelude.{Some, None, length, slice_get, Result, Ok, Err, cond}
use Rattle.std.specs.Arc.{arc_value}
use Rattle.outcomes.specs.declared.ends.Measure.{Measure}
use Rattle.outcomes.specs.declared.tasks.Task.{Task}
use Rattle.strong_pairs.specs.Pairs.{lead_of, lead_at}
use Rattle.strong_pairs.specs.Tasks.{IsClosed}
use Rattle.task_table.specs.declared.states.TaskState.{TaskState}
use Rattle.task_table.specs.declared.states.TaskState.TheVariants.{Open, Closed}
use Rattle.task_table.specs.Tables.{put}
use Rattle.task_table.specs.Rows.{grown}
use Rattle.basis_entry.specs.Entries.{BasisEntry, vectors_of}
use Rattle.pair_work.specs.declared.outcome.Close.{Close}
use Rattle.pair_work.specs.declared.outcome.Close.TheVariants.{Covered, Zero, Rest}
use Rattle.pair_book.specs.declared.faults.CommitFault.{CommitFault}
use Rattle.pair_book.specs.declared.faults.CommitFault.TheVariants.{NotTaken, Spent, Stranger, Stale, Full}
use Rattle.pair_book.specs.declared.faults.Committed.{Committed}
use Rattle.pair_book.specs.declared.faults.Committed.TheVariants as done
use Rattle.pair_book.specs.Logs.{DividesLead, NoneDivides}
use Rattle.pair_book.specs.Settled.{settled_row}
use Rattle.pair_work.specs.Outcomes.{Worked, UsedEntry, IsThere, AllThere, recipe_steps}
use Rattle.pair_book.specs.LogEntries.{terms_of, steps_of}
use Rattle.pair_book.specs.Measures.{PassesFirst}
use Rattle.pair_book.specs.Books.{Held, IsTaken, with_state}
use Rattle.pair_book.specs.Chaining.{ClosesChained}

-- k is the least number of a used entry that isn't the log's
pub record IsStranger (es : List BasisEntry) (used : List UsedEntry) (k : ℕ) : Type 0 where
  pub place : ℕ
  pub one : UsedEntry
  pub found : slice_get used place ≡ Some one
  pub number : one.number ≡ k
  pub differs : IsThere es one → ⊥
  pub least : (m : ℕ) (u : UsedEntry) → slice_get used m ≡ Some u → u.number < k → IsThere es u

-- k is the least number of an entry whose lead term divides that of the rest
pub record IsLeadDivisor (es : List BasisEntry) (e : BasisEntry) (k : ℕ) : Type 0 where
  pub within : k < length es
  pub divides : DividesLead (lead_at (vectors_of es) k) (lead_of e.vector)
  pub least : (m : ℕ) → m < k → DividesLead (lead_at (vectors_of es) m) (lead_of e.vector) → ⊥

-- there is a rest, and P holds of it
abbrev pub OnRest : Close → (BasisEntry → Type 0) → Type 0
OnRest (Covered by) P = ⊥
OnRest (Zero steps) P = ⊥
OnRest (Rest e) P = P (arc_value e)

-- P holds of the rest if there is one
abbrev pub IfRest : Close → (BasisEntry → Type 0) → Type 0
IfRest (Covered by) P = Unit {0}
IfRest (Zero steps) P = Unit {0}
IfRest (Rest e) P = P (arc_value e)

-- ---- refusals: each of these passes the refusals before it

abbrev pub MayCommit : Held → Task → Type 0
MayCommit h t = IsTaken h t × (h.seal ≡ None)

abbrev pub HasBudget : Held → Task → Type 0
HasBudget h t = MayCommit h t × (h.limits.budget ≢ Some h.commits)

pub record IsFresh (h : Held) (w : Worked) (e : BasisEntry) : Type 0 where
  pub budget : HasBudget h w.task
  pub there : AllThere h.entries w.used
  pub source : e.source ≡ h.source
  pub front : length h.entries ≤ w.front

-- with the entry a limit would be passed
abbrev pub Passes : Held → BasisEntry → Measure → ℕ → Type 0
Passes h e m c = PassesFirst h.limits h.entries e m c

abbrev pub Fits : Held → BasisEntry → Type 0
Fits h e = (length h.entries + 1 ≤ h.limits.entries) × (terms_of h.entries + length e.vector ≤ h.limits.terms)
    × (steps_of h.entries + recipe_steps e.recipe ≤ h.limits.steps)

-- the refusal that comes, or none
abbrev pub Refuses : Held → Worked → Option CommitFault → Type 0
Refuses h w (Some NotTaken) = MayCommit h w.task → ⊥
Refuses h w (Some (Spent n)) = MayCommit h w.task × (h.limits.budget ≡ Some h.commits) × (n ≡ h.commits)
Refuses h w (Some (Stranger k)) = HasBudget h w.task × (IsStranger h.entries w.used k
    ⊎ (AllThere h.entries w.used × OnRest w.close (λ e. (e.source ≢ h.source) × (k ≡ length h.entries)))
    ⊎ OnRest w.close (λ e. IsFresh h w e × IsLeadDivisor h.entries e k))
Refuses h w (Some (Stale front now)) = HasBudget h w.task × AllThere h.entries w.used
    × OnRest w.close (λ e. (e.source ≡ h.source) × (front ≡ w.front) × (now ≡ length h.entries) × (front < now))
Refuses h w (Some (Full m c)) = OnRest w.close (λ e. IsFresh h w e
    × NoneDivides (vectors_of h.entries) (lead_of e.vector) × Passes h e m c)
Refuses h w None = HasBudget h w.task × AllThere h.entries w.used
    × IfRest w.close (λ e. IsFresh h w e × NoneDivides (vectors_of h.entries) (lead_of e.vector) × Fits h e)

-- the refusal that comes of a task, or none, whatever its outcome is
abbrev pub RefusesTask : Held → Task → Option CommitFault → Type 0
RefusesTask h t None = HasBudget h t
RefusesTask h t (Some NotTaken) = MayCommit h t → ⊥
RefusesTask h t (Some (Spent n)) = MayCommit h t × (h.limits.budget ≡ Some h.commits) × (n ≡ h.commits)
RefusesTask h t (Some (Stranger k)) = ⊥
RefusesTask h t (Some (Stale front now)) = ⊥
RefusesTask h t (Some (Full m c)) = ⊥

-- the refusal that comes of a rest that is the outcome's, or none, where the refusals before those of rests don't come
abbrev pub RefusesRest : Held → Worked → BasisEntry → Option CommitFault → Type 0
RefusesRest h w e (Some NotTaken) = ⊥
RefusesRest h w e (Some (Spent n)) = ⊥
RefusesRest h w e (Some (Stranger k)) = ((e.source ≢ h.source) × (k ≡ length h.entries))
    ⊎ (IsFresh h w e × IsLeadDivisor h.entries e k)
RefusesRest h w e (Some (Stale front now)) = (e.source ≡ h.source) × (front ≡ w.front) × (now ≡ length h.entries)
    × (front < now)
RefusesRest h w e (Some (Full m c)) = IsFresh h w e × NoneDivides (vectors_of h.entries) (lead_of e.vector)
    × Passes h e m c
RefusesRest h w e None = IsFresh h w e × NoneDivides (vectors_of h.entries) (lead_of e.vector) × Fits h e

-- ---- what a commit does

abbrev pub state_after : Bool → TaskState
state_after closed = cond closed Closed Open

-- the task is closed
abbrev pub closed_by : Held → Task → Held
closed_by h t = record (with_state h t Closed) { commits = h.commits + 1 }

-- the entry and its tasks are added, and the task is closed or open again
abbrev pub appended_by : Held → Task → BasisEntry → Bool → Held
appended_by h t e closed = record h {
  entries = h.entries ++ e ∷ [];
  tasks = put (grown h.tasks (settled_row h.entries e.vector) e.vector) t (state_after closed);
  commits = h.commits + 1;
}

-- what is left where the outcome isn't refused
abbrev pub IsCommitted : Held → Worked → Committed → Held → Type 0
IsCommitted old w done.Closed new = Refuses old w None × (OnRest w.close (λ e. Unit {0}) → ⊥)
    × ClosesChained (closed_by old w.task) w.task true new
IsCommitted old w (done.Appended k closed) new = Refuses old w None × (k ≡ length old.entries)
    × OnRest w.close (λ e. (IsTrue closed ↔ IsClosed (vectors_of (old.entries ++ e ∷ [])) w.task.kind
    w.task.i w.task.j) ×
    ClosesChained (appended_by old w.task e closed) w.task closed new)

abbrev pub Commits : Held → Worked → Result Committed (CommitFault × Worked) → Held → Type 0
Commits old w (Err (fault, back)) new = Refuses old w (Some fault) × (back ≡ w) × (new ≡ old)
Commits old w (Ok committed) new = IsCommitted old w committed new
