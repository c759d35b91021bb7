-- How the machine begins, and what is left of it.
use Rattle.std.specs.List.{AllByRecursion}
use Rattle.std.specs.Prelude.{◌≡◌, ℕ, ◌+◌, List, [], ◌∷◌, length, replicate, slice_get, Some}
use Rattle.presentation.specs.Presented.{Presented}
use Rattle.task_table.specs.declared.states.TaskState.TheVariants.{Open, Hard}
use Rattle.basis_entry.specs.Base.{AreBase}
use Rattle.basis_entry.specs.Entries.{BasisEntry}
use Rattle.pair_book.specs.declared.limits.Limits.{Limits}
use Rattle.pair_book.specs.Books as books
use Rattle.pair_book.specs.Books.{Held, with_state}
use Rattle.session_core.specs.Questions.{CanBeAsked}
use Rattle.session_core.specs.Sessions.{SessionState}
use Rattle.interleave_core.specs.declared.TheConstants.{WORKERS}
use Rattle.interleave_core.specs.declared.hands.Hand.{Hand}
use Rattle.interleave_core.specs.declared.hands.Hand.TheVariants.{Idle, Holds, Stopped}
use Rattle.interleave_core.specs.Askers.{AreAskers}
use Rattle.interleave_core.specs.Machine.{State}

-- session number n before its first reply. Its base is the number of the presentation's generator entries
pub record IsNewSession (p : Presented) (n : ℕ) (s : SessionState) : Type 0 where
  pub number : s.number ≡ n
  pub base : (es : List BasisEntry) → AreBase p es → s.base ≡ length es
  pub questions : AllByRecursion (CanBeAsked p) s.questions
  pub kept : s.kept ≡ []

abbrev pub AreNewSessions : Presented → List SessionState → Type 0
AreNewSessions p ss = (i : ℕ) (s : SessionState) → slice_get ss i ≡ Some s → IsNewSession p (i + 1) s

-- the book of the generator entries, workers that hold nothing, and these sessions
pub record IsOpened (p : Presented) (limits : Limits) (ss : List SessionState) (s : State) : Type 0 where
  pub book : books.IsOpened p limits s.book
  pub hands : s.hands ≡ replicate WORKERS Idle
  pub sessions : s.sessions ≡ ss

-- the task in hand is given back: an outcome's becomes open, and one that has met a limit hard
abbrev pub given_back : Held → Hand → Held
given_back h Idle = h
given_back h (Holds w) = with_state h w.task Open
given_back h (Stopped t stop) = with_state h t Hard

-- all tasks in hand are given back, in the order of the workers
abbrev pub all_given_back : Held → List Hand → Held
all_given_back h [] = h
all_given_back h (x ∷ hands) = all_given_back (given_back h x) hands

-- The book and the sessions that are left of the machine. All tasks in hand are given back, and nothing else of the
-- book changes; the sessions ask its items
pub record IsLeft (s : State) (book : Held) (ss : List SessionState) : Type 0 where
  pub given : book ≡ all_given_back s.book s.hands
  pub rest : book ≡ record s.book { tasks = book.tasks }
  pub sessions : ss ≡ s.sessions
  pub askers : AreAskers book ss
