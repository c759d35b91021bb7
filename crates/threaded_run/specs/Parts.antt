-- The actors of a run, and the sessions among them.
use Rattle.std.specs.List.{AllByRecursion, filter_map, range_with_len}
use Rattle.std.specs.Prelude.{◌≡◌, ℕ, List, Option, None, Some}
use Rattle.presentation.specs.Presented.{Presented}
use Rattle.session_core.specs.Sessions.{SessionState}
use Rattle.completion_workers.specs.declared.actors.Actor.{Actor}
use Rattle.completion_workers.specs.declared.actors.Actor.TheVariants.{Worker, Session}
use Rattle.completion_workers.specs.Acting.{IsReady}
use Rattle.legal_report.specs.Seats.{Seated, sessions_of}

-- the session of an actor, with its seat, if it is one
abbrev pub session_in : Actor → Option Seated
session_in (Worker number seat) = None
session_in (Session s seat dry) = Some (s, Some seat)

-- the sessions among actors, each with its seat, in order
abbrev pub seated_in : List Actor → List Seated
seated_in xs = filter_map session_in xs

-- the number of an actor that is a worker
abbrev pub number_in : Actor → Option ℕ
number_in (Worker number seat) = Some number
number_in (Session s seat dry) = None

-- the numbers of the workers among actors, in order
abbrev pub numbers_in : List Actor → List ℕ
numbers_in xs = filter_map number_in xs

-- actors that can begin a run over the presentation: so many workers, numbered from 1, and these sessions, in order
pub record AreCast (p : Presented) (count : ℕ) (ss : List SessionState) (xs : List Actor) : Type 0 where
  pub ready : AllByRecursion (IsReady p) xs
  pub workers : numbers_in xs ≡ range_with_len 1 count
  pub sessions : sessions_of (seated_in xs) ≡ ss
