-- One round of a completion, and what is left to do.
use Rattle.std.specs.Prelude.{◌≡◌, ◌≢◌, ◌<◌, ◌+◌, ◌-◌, ◌*◌, ℕ, List, Bool, true, false, cond, length, sum_by, Result}
use Rattle.std.specs.Prelude.{Ok, Err}
use Rattle.presentation.specs.Presented.{Presented}
use Rattle.outcomes.specs.declared.ends.Measure.{Measure}
use Rattle.outcomes.specs.declared.tasks.Task.{Task}
use Rattle.module_vec.specs.declared.faults.Stop.{Stop}
use Rattle.module_vec.specs.declared.places.Term.{Term}
use Rattle.task_table.specs.declared.states.TaskState.{TaskState}
use Rattle.task_table.specs.declared.states.TaskState.TheVariants.{Open, Taken, Hard, Closed, Never}
use Rattle.task_table.specs.Tasks.{IsTask, is_taken, is_hard}
use Rattle.task_table.specs.declared.states.Wanted.TheVariants.{OpenOnes}
use Rattle.task_table.specs.Tables.{IsLeast, state_of, put}
use Rattle.reducer_index.specs.Leads.{AreLeads}
use Rattle.basis_entry.specs.Entries.{BasisEntry, vectors_of}
use Rattle.pair_book.specs.declared.faults.CommitFault.{CommitFault}
use Rattle.pair_book.specs.declared.faults.CommitFault.TheVariants.{NotTaken, Spent, Stranger, Stale, Full}
use Rattle.pair_book.specs.Books.{Held, IsTaken}
use Rattle.pair_book.specs.Commits.{Passes}
use Rattle.completion_solo.specs.declared.rounds.Round.{Round}
use Rattle.completion_solo.specs.declared.rounds.Round.TheVariants.{Ended, GoesOn}
use Rattle.completion_solo.specs.Ends.{IsTaskOf, StopsAt, HasRest}
use Rattle.completion_solo.specs.Finishing.{Continues, NoneTaken, IsWithinBudget, EndsWith, LacksMemory}

-- how many rounds a task can still take before the log grows, if hard tasks aren't opened again
abbrev pub weight : TaskState → ℕ
weight Open = 2
weight Taken = 2
weight Hard = 1
weight Closed = 0
weight Never = 0

abbrev pub weigh : Held → ℕ
weigh h = sum_by weight h.tasks.states

-- the measure of a completion. An append costs more than all tasks of a log can weigh, and more than opening hard ones
-- adds
abbrev pub left : Held → Bool → ℕ
left h stale = (4096 - length h.entries) * 67200000 + (cond stale 33600000 0 + weigh h)

-- each hard task stops by the log as it is
abbrev pub HardOnesStop : Held → Type 0
HardOnesStop h = (t : Task) → IsTask (length h.entries) t → is_hard (state_of h.tasks t) ≡ true
    → (stop : Stop) × StopsAt h.entries t stop

-- what is known when a round begins. `stale` says that some hard task may have stopped by a shorter log
pub record IsReady (p : Presented) (h : Held) (leads : List Term) (stale : Bool) : Type 0 where
  pub source : h.source ≡ p
  pub none_taken : NoneTaken h
  pub are_leads : AreLeads (vectors_of h.entries) leads
  pub hard : stale ≡ false → HardOnesStop h

-- t alone is taken, it was the least open task, and its outcome can be committed
pub record IsInHand (h : Held) (t : Task) : Type 0 where
  pub taken : IsTaken h t
  pub others : (u : Task) → IsTask (length h.entries) u → u ≢ t → is_taken (state_of h.tasks u) ≡ false
  pub pair : IsTaskOf h.entries t
  pub first : IsLeast OpenOnes (vectors_of h.entries) (put h.tasks t Open) t
  pub budget : IsWithinBudget h

-- what is known when a task is worked
pub record IsWorkDue (h : Held) (leads : List Term) (t : Task) (stale : Bool) : Type 0 where
  pub hand : IsInHand h t
  pub are_leads : AreLeads (vectors_of h.entries) leads
  pub hard : stale ≡ false → HardOnesStop h

-- the task has a rest, for which there is no room
pub record HasNoRoomFor (h : Held) (t : Task) (m : Measure) (c : ℕ) : Type 0 where
  pub entry : BasisEntry
  pub rest : HasRest h.source h.entries t entry
  pub passes : Passes h entry m c

-- a commit is refused for want of room, and for no other cause
abbrev pub IsFullAt : Held → Task → CommitFault → Type 0
IsFullAt h t NotTaken = ⊥
IsFullAt h t (Spent n) = ⊥
IsFullAt h t (Stranger k) = ⊥
IsFullAt h t (Stale front now) = ⊥
IsFullAt h t (Full m c) = HasNoRoomFor h t m c

-- another round is due
abbrev pub LeadsOn : Presented → Held → Bool → Held → List Term → Bool → Type 0
LeadsOn p old stale new leads again = Continues old new × (new.seal ≡ old.seal) × IsReady p new leads again
    × (left new again < left old stale)

-- what a round answers, and what it leaves of the book and of the leads
abbrev pub Rounds : {E : Type 0} → Presented → Held → Bool → Result Round E → Held → List Term → Type 0
Rounds p old stale (Ok (Ended end)) new leads = EndsWith p old end new
Rounds p old stale (Ok (GoesOn again)) new leads = LeadsOn p old stale new leads again
Rounds p old stale (Err e) new leads = LacksMemory old new
