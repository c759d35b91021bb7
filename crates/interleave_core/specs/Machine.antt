-- The machine of workers and sessions: its state, what one event does, by cases, and runs over lists of events.
use Rattle.std.specs.Prelude.{◌≡◌, ◌⊎◌, ◌↔◌, ℕ, ◌-◌, ◌<◌, ◌≤◌, List, [], ◌∷◌, ◌++◌, Bool, true, IsTrue, Option, Some}
use Rattle.std.specs.Prelude.{length, slice_get, slice_set, Ok, Err}
use Rattle.presentation.specs.Presented.{Presented}
use Rattle.outcomes.specs.declared.kinds.PairKind.TheVariants.{S}
use Rattle.outcomes.specs.declared.tasks.Task.{Task}
use Rattle.strong_pairs.specs.Pairs.{IsPair}
use Rattle.strong_pairs.specs.Tasks.{IsClosed}
use Rattle.task_table.specs.declared.states.TaskState.TheVariants.{Open, Taken, Hard, Closed}
use Rattle.task_table.specs.declared.states.Wanted.TheVariants.{OpenOnes, Unclosed}
use Rattle.task_table.specs.Tasks.{IsTask}
use Rattle.task_table.specs.Tables.{IsLeast, NoneIs, state_of}
use Rattle.session_text.specs.declared.question.Event.{Event}
use Rattle.session_text.specs.declared.question.Event.TheVariants.{Worker, Session}
use Rattle.session_text.specs.declared.question.Question.{Question}
use Rattle.basis_entry.specs.Entries.{BasisEntry, vectors_of}
use Rattle.basis_entry.specs.Seals.{Seal}
use Rattle.pair_work.specs.declared.outcome.Close.{Close}
use Rattle.pair_work.specs.declared.outcome.Close.TheVariants.{Covered, Zero, Rest}
use Rattle.pair_work.specs.declared.faults.WorkFault.TheVariants as work
use Rattle.pair_book.specs.Books.{Held, with_state}
use Rattle.pair_book.specs.Chaining.{is_waiting}
use Rattle.pair_book.specs.Commits.{OnRest, Fits, closed_by, appended_by}
use Rattle.pair_work.specs.Outcomes.{Worked}
use Rattle.pair_work.specs.Works.{Works}
use Rattle.session_core.specs.declared.kept.Kept.{Kept}
use Rattle.session_core.specs.Replies.{IsReply}
use Rattle.session_core.specs.Sessions.{SessionState}
use Rattle.interleave_core.specs.declared.hands.Hand.{Hand}
use Rattle.interleave_core.specs.declared.hands.Hand.TheVariants.{Idle, Holds, Stopped}

-- the book, with its log, the states of the tasks, the commits and the seal; what each worker holds; and each session
-- with its replies
pub record State : Type 0 where
  pub book : Held
  pub hands : List Hand
  pub sessions : List SessionState

-- ---- a worker that holds nothing

-- the work of the task by the whole log has come to what is held
abbrev pub HoldsWork : Held → Task → Hand → Type 0
HoldsWork h t Idle = ⊥
HoldsWork h t (Holds w) = Works h.source h.entries t (Ok w)
HoldsWork h t (Stopped u stop) = (u ≡ t) × Works h.source h.entries t (Err (work.Stop stop))

-- the least open task is taken, and worked by the log
pub record StartsTask (old new : Held) (hand : Hand) : Type 0 where
  pub task : Task
  pub least : IsLeast OpenOnes (vectors_of old.entries) old.tasks task
  pub is : new ≡ with_state old task Taken
  pub work : HoldsWork old task hand

-- all tasks are closed: the log is sealed
pub record SealsLog (old new : Held) (hand : Hand) : Type 0 where
  pub closed : NoneIs Unclosed old.tasks
  pub is : new ≡ record old { seal = Some (record { source = old.source; entries = old.entries }) }
  pub idle : hand ≡ Idle

-- no task is open, and not all are closed: nothing changes
pub record FindsNone (old new : Held) (hand : Hand) : Type 0 where
  pub none_open : NoneIs OpenOnes old.tasks
  pub unclosed : NoneIs Unclosed old.tasks → ⊥
  pub is : new ≡ old
  pub idle : hand ≡ Idle

-- ---- a worker that holds the outcome of its task

-- the commits have reached the budget
abbrev pub IsSpent : Held → Type 0
IsSpent h = h.limits.budget ≡ Some h.commits

-- the task was closed without a rest
abbrev pub HasNoRest : Close → Type 0
HasNoRest (Covered by) = Unit {0}
HasNoRest (Zero steps) = Unit {0}
HasNoRest (Rest e) = ⊥

abbrev pub IsTrulyClosed : List BasisEntry → Task → Type 0
IsTrulyClosed es t = IsPair (vectors_of es) t.i t.j × IsClosed (vectors_of es) t.kind t.i t.j

-- Some open or hard tasks that are truly closed are closed too. The choice among them is free
pub record AlsoCloses (mid new : Held) : Type 0 where
  pub is : new ≡ record mid { tasks = record mid.tasks { states = new.tasks.states } }
  pub each : (u : Task) → IsTask (length mid.entries) u → (state_of new.tasks u ≡ state_of mid.tasks u)
      ⊎ ((is_waiting (state_of mid.tasks u) ≡ true) × IsTrulyClosed mid.entries u × (state_of new.tasks u ≡ Closed))

-- the budget is spent: the task is given back
pub record GivesBackSpent (old : Held) (t : Task) (new : Held) (hand : Hand) : Type 0 where
  pub spent : IsSpent old
  pub is : new ≡ with_state old t Open
  pub idle : hand ≡ Idle

-- the task is closed, by one more commit
pub record ClosesTask (old : Held) (w : Worked) (new : Held) (hand : Hand) : Type 0 where
  pub budget : IsSpent old → ⊥
  pub none : HasNoRest w.close
  pub closes : AlsoCloses (closed_by old w.task) new
  pub idle : hand ≡ Idle

-- the log has grown since the task was worked to a rest: it is worked again, by the log as it is
pub record WorksAgain (old : Held) (w : Worked) (new : Held) (hand : Hand) : Type 0 where
  pub budget : IsSpent old → ⊥
  pub stale : OnRest w.close (λ e. w.front < length old.entries)
  pub is : new ≡ old
  pub work : HoldsWork old w.task hand

-- there is no room for the rest: the task is given back
pub record GivesBackFull (old : Held) (w : Worked) (new : Held) (hand : Hand) : Type 0 where
  pub budget : IsSpent old → ⊥
  pub full : OnRest w.close (λ e. (w.front ≡ length old.entries) × (Fits old e → ⊥))
  pub is : new ≡ with_state old w.task Open
  pub idle : hand ≡ Idle

-- the entry is appended by one more commit, with its tasks. An S task is closed then, and a G task where its pair is
-- covered now; else it is open again
pub record AppendsEntry (old : Held) (w : Worked) (e : BasisEntry) (new : Held) : Type 0 where
  pub front : w.front ≡ length old.entries
  pub fits : Fits old e
  pub closed : Bool
  pub closed_s : w.task.kind ≡ S → closed ≡ true
  pub truly : IsTrue closed ↔ IsClosed (vectors_of (old.entries ++ e ∷ [])) w.task.kind w.task.i w.task.j
  pub closes : AlsoCloses (appended_by old w.task e closed) new

pub record AppendsRest (old : Held) (w : Worked) (new : Held) (hand : Hand) : Type 0 where
  pub budget : IsSpent old → ⊥
  pub appends : OnRest w.close (λ e. AppendsEntry old w e new)
  pub idle : hand ≡ Idle

-- ---- one event

-- a worker's turn, by what it holds: the book and the hand before it, and behind it
abbrev pub Turns : Held → Hand → Held → Hand → Type 0
Turns old Idle new hand = StartsTask old new hand ⊎ (SealsLog old new hand ⊎ FindsNone old new hand)
Turns old (Stopped t stop) new hand = (new ≡ with_state old t Hard) × (hand ≡ Idle)
Turns old (Holds w) new hand = GivesBackSpent old w.task new hand ⊎ (ClosesTask old w new hand
    ⊎ (WorksAgain old w new hand ⊎ (GivesBackFull old w new hand ⊎ AppendsRest old w new hand)))

-- the next question is answered by all items
pub record Answers (p : Presented) (es : List BasisEntry) (seal : Option Seal) (old new : SessionState) : Type 0 where
  pub question : Question
  pub next : slice_get old.questions (length old.kept) ≡ Some question
  pub reply : Kept
  pub is_reply : IsReply p es seal question reply
  pub is : new ≡ record old { kept = old.kept ++ reply ∷ [] }

-- a session's turn: its next question is answered, and where none is left nothing changes
abbrev pub Asks : Presented → List BasisEntry → Option Seal → SessionState → SessionState → Type 0
Asks p es seal old new = Answers p es seal old new ⊎ ((length old.questions ≤ length old.kept) × (new ≡ old))

-- a turn of worker number n. Each other worker and all sessions stay as they were
pub record WorkerStep (old : State) (n : ℕ) (new : State) : Type 0 where
  pub before : Hand
  pub found : slice_get old.hands (n - 1) ≡ Some before
  pub after : Hand
  pub turns : Turns old.book before new.book after
  pub is : new ≡ record { book = new.book; hands = slice_set old.hands (n - 1) after; sessions = old.sessions }

-- a turn of session number n. The book, all workers and each other session stay as they were
pub record SessionStep (old : State) (n : ℕ) (new : State) : Type 0 where
  pub before : SessionState
  pub found : slice_get old.sessions (n - 1) ≡ Some before
  pub after : SessionState
  pub asks : Asks old.book.source old.book.entries old.book.seal before after
  pub is : new ≡ record old { sessions = slice_set old.sessions (n - 1) after }

abbrev pub Step : State → Event → State → Type 0
Step old (Worker n) new = WorkerStep old n new
Step old (Session n) new = SessionStep old n new
