-- What holds of the machine between two events.
use Rattle.std.specs.Prelude.{◌≡◌, ℕ, List, ◌++◌, Some, length, slice_get, Ok}
use Rattle.outcomes.specs.declared.tasks.Task.{Task}
use Rattle.basis_entry.specs.Entries.{BasisEntry}
use Rattle.pair_work.specs.Outcomes.{Worked}
use Rattle.pair_work.specs.Works.{Works}
use Rattle.pair_book.specs.Books.{Held, IsBook, IsTaken}
use Rattle.interleave_core.specs.declared.TheConstants.{WORKERS}
use Rattle.interleave_core.specs.declared.hands.Hand.{Hand}
use Rattle.interleave_core.specs.declared.hands.Hand.TheVariants.{Idle, Holds, Stopped}
use Rattle.interleave_core.specs.Askers.{AreAskers}
use Rattle.interleave_core.specs.Machine.{State}

-- the task that a worker has in hand
abbrev pub IsTaskOf : Hand → Task → Type 0
IsTaskOf Idle t = ⊥
IsTaskOf (Holds w) t = w.task ≡ t
IsTaskOf (Stopped u stop) t = u ≡ t

-- the outcome is the work of its task by the first entries of the log
pub record IsOutcomeOf (h : Held) (w : Worked) : Type 0 where
  pub first : List BasisEntry
  pub more : List BasisEntry
  pub entries : h.entries ≡ first ++ more
  pub works : Works h.source first w.task (Ok w)

-- the task in hand is taken in the book
abbrev pub IsHand : Held → Hand → Type 0
IsHand h Idle = Unit {0}
IsHand h (Holds w) = IsTaken h w.task × IsOutcomeOf h w
IsHand h (Stopped t stop) = IsTaken h t

-- no task is in the hands of two workers
abbrev pub AreApart : List Hand → Type 0
AreApart hands = (m n : ℕ) (x y : Hand) (t : Task) → slice_get hands m ≡ Some x → slice_get hands n ≡ Some y
    → IsTaskOf x t → IsTaskOf y t → m ≡ n

-- the log is lawful, a task that is marked closed is truly closed, and each reply is the verdict by the items below its
-- front
pub record IsCore (s : State) : Type 0 where
  pub book : IsBook s.book
  pub count : length s.hands ≡ WORKERS
  pub hands : (n : ℕ) (x : Hand) → slice_get s.hands n ≡ Some x → IsHand s.book x
  pub apart : AreApart s.hands
  pub sessions : AreAskers s.book s.sessions
