-- What an actor does to itself.
use Rattle.std.specs.List.{AllByRecursion}
use Rattle.std.specs.Prelude.{◌≡◌, ◌↔◌, ◌≤◌, ◌<◌, ℕ, List, [], Bool, false, IsTrue, length, slice_get, Some}
use Rattle.presentation.specs.Presented.{Presented}
use Rattle.basis_log.specs.Rows.{row_source}
use Rattle.basis_log.specs.Seats.{Seen}
use Rattle.session_core.specs.Questions.{CanBeAsked}
use Rattle.session_core.specs.Sessions.{SessionState, AreRising}
use Rattle.completion_workers.specs.declared.actors.Actor.{Actor}
use Rattle.completion_workers.specs.declared.actors.Actor.TheVariants.{Worker, Session}
use Rattle.completion_workers.specs.Growth.{HasGrown}
use Rattle.completion_workers.specs.Answers.{AreAnswers}
use Rattle.completion_workers.specs.Asking.{HasGoneOn}

-- a session that has kept no reply yet: its base is the number of generator entries, with which the seat's list begins,
-- and its questions can be asked
pub record IsFresh (p : Presented) (s : SessionState) (seat : Seen) (is_dry : Bool) : Type 0 where
  pub source : row_source seat.row ≡ p
  pub base : s.base ≡ length seat.row.base
  pub begins : length seat.row.base ≤ length seat.items
  pub questions : AllByRecursion (CanBeAsked p) s.questions
  pub kept : s.kept ≡ []
  pub dry : is_dry ≡ false

-- what is asked of an actor before a run over the presentation
abbrev pub IsReady : Presented → Actor → Type 0
IsReady p (Worker number seat) = row_source seat.row ≡ p
IsReady p (Session s seat dry) = IsFresh p s seat dry

-- what a run leaves of a session and its seat: each reply that is kept is by the items below its front, and fronts are
-- at least the base and don't fall
pub record IsLeft (p : Presented) (s : SessionState) (seat : Seen) : Type 0 where
  pub source : row_source seat.row ≡ p
  pub questions : AllByRecursion (CanBeAsked p) s.questions
  pub base : s.base ≡ length seat.row.base
  pub answers : AreAnswers p seat.items s
  pub rising : AreRising s.base s.kept

-- the session is as it was but for its replies. It is dry exactly where a question has no reply
pub record HasAnswered (p : Presented) (old new : SessionState) (before after : Seen) (is_dry : Bool) : Type 0 where
  pub number : new.number ≡ old.number
  pub questions : new.questions ≡ old.questions
  pub base : new.base ≡ old.base
  pub seat : HasGrown before after
  pub left : IsLeft p new after
  pub within : length new.kept ≤ length new.questions
  pub dry : IsTrue is_dry ↔ (length new.kept < length new.questions)

-- so far: a session has gone on, and a worker is as it was
abbrev pub HasAnsweredSome : Presented → Actor → Actor → Type 0
HasAnsweredSome p (Worker n seat) new = new ≡ Worker n seat
HasAnsweredSome p (Session s seat d) (Session t after e) = HasGoneOn p s t seat after × (e ≡ d)
HasAnsweredSome p (Session s seat d) (Worker m after) = ⊥

-- whether it is a session that has a question without a reply; the fronts of its replies are from its base on
abbrev pub HasQuestion : Actor → Bool → Type 0
HasQuestion (Worker number seat) has = has ≡ false
HasQuestion (Session s seat dry) has = (IsTrue has ↔ (length s.kept < length s.questions))
    × (length s.kept ≤ length s.questions) × AreRising s.base s.kept

-- what an actor does to itself in a run: a worker keeps its number, and each seat's list grows
abbrev pub HasActed : Presented → Actor → Actor → Type 0
HasActed p (Worker n seat) (Worker m after) = (m ≡ n) × HasGrown seat after
HasActed p (Session s seat d) (Session t after dry) = HasAnswered p s t seat after dry
HasActed p (Worker n seat) (Session t after dry) = ⊥
HasActed p (Session s seat d) (Worker m after) = ⊥

abbrev pub HaveActed : Presented → List Actor → List Actor → Type 0
HaveActed p olds news = (i : ℕ) (old new : Actor) → slice_get olds i ≡ Some old → slice_get news i ≡ Some new
    → HasActed p old new
