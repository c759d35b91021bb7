-- Sessions that have asked over the items of seats, and what becomes of their replies.
use Rattle.std.specs.Prelude.{◌≡◌, ◌⊎◌, ℕ, ◌+◌, List, [], ◌∷◌, ◌++◌, length, map, slice_get, Option, Some, None, MatchOption}
use mathlib.Core.List.{IsPrefix}
use Rattle.presentation.specs.Presented.{Presented}
use Rattle.basis_entry.specs.Base.{AreBase}
use Rattle.basis_entry.specs.Entries.{BasisEntry}
use Rattle.basis_entry.specs.Seals.{Seal}
use Rattle.basis_log.specs.Items.{LogItem, entries_of, seal_of}
use Rattle.basis_log.specs.Seats.{Seen}
use Rattle.pair_book.specs.declared.limits.Limits.{Limits}
use Rattle.pair_book.specs.Books.{Held}
use Rattle.session_core.specs.Sessions.{SessionState}
use Rattle.legal_report.specs.Gathering.{HasAsked, IsAsker, AreAnsweredOn}

-- the items of a log in order: its entries, and the seal if there is one
abbrev pub items_in : List BasisEntry → Option Seal → List LogItem
items_in es None = map LogItem.an_entry es
items_in es (Some s) = map LogItem.an_entry es ++ LogItem.a_seal s ∷ []

-- the list of the seat begins these items
abbrev pub Begins : Seen → List BasisEntry → Option Seal → Type 0
Begins seat es seal = IsPrefix seat.items (items_in es seal)

-- a session, and the seat over which it has asked, if it has one
abbrev pub Seated : Type 0
Seated = SessionState × Option Seen

abbrev pub sessions_of : List Seated → List SessionState
sessions_of ss = map (λ s. s.0) ss

-- n is the number of generator entries of the presentation
abbrev pub IsBaseCount : Presented → ℕ → Type 0
IsBaseCount p n = (es : List BasisEntry) → AreBase p es → length es ≡ n

-- the session has asked over the items of the seat
pub record HasAskedOver (p : Presented) (seat : Seen) (n : ℕ) (s : SessionState) : Type 0 where
  pub base : IsBaseCount p s.base
  pub asked : HasAsked p s.base (entries_of seat.items) (seal_of seat.items) n s

-- a session with this number: it has asked over the items of its seat or, where it has none, over those of a book of
-- the presentation and of these limits
abbrev pub IsActor : Presented → Limits → Held → ℕ → Seated → Type 0
IsActor p limits book n s = MatchOption s.1
    ((book.source ≡ p) × (book.limits ≡ limits) × IsAsker book n s.0)
    (λ seat. HasAskedOver p seat n s.0)

-- sessions numbered from 1
abbrev pub AreActors : Presented → Limits → Held → List Seated → Type 0
AreActors p limits book ss = (i : ℕ) (s : Seated) → slice_get ss i ≡ Some s → IsActor p limits book (i + 1) s

-- The session keeps its replies where it has no seat, or one whose list begins these items. Else it forgets them
abbrev pub Keeps : List BasisEntry → Option Seal → Seated → SessionState → Type 0
Keeps es seal old new = MatchOption old.1 (new ≡ old.0) (λ seat.
    (Begins seat es seal × (new ≡ old.0)) ⊎ ((Begins seat es seal → ⊥) × (new ≡ record old.0 { kept = [] })))

-- so it is with each of them
pub record AreKept (es : List BasisEntry) (seal : Option Seal) (olds : List Seated)
    (news : List SessionState) : Type 0 where
  pub count : length news ≡ length olds
  pub each : (i : ℕ) (old : Seated) (new : SessionState) → slice_get olds i ≡ Some old → slice_get news i ≡ Some new
      → Keeps es seal old new

-- each session keeps its replies so, and each of its questions that has none then is answered by all items
pub record AreEnded (p : Presented) (es : List BasisEntry) (seal : Option Seal) (olds : List Seated)
    (news : List SessionState) : Type 0 where
  pub kept : List SessionState
  pub keeps : AreKept es seal olds kept
  pub answered : AreAnsweredOn p es seal kept news
