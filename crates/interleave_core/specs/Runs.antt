-- Runs of the machine over lists of events, and what they keep.
use Rattle.std.specs.Prelude.{◌≡◌, ◌⊎◌, ℕ, List, [], ◌∷◌, ◌++◌, length, map, slice_get, Some, None}
use Rattle.presentation.specs.Presented.{Presented}
use Rattle.session_text.specs.declared.question.Event.{Event}
use Rattle.basis_entry.specs.Entries.{BasisEntry}
use Rattle.pair_book.specs.declared.limits.Limits.{Limits}
use Rattle.pair_book.specs.Books.{Held}
use Rattle.session_core.specs.declared.kept.Kept.{Kept}
use Rattle.session_core.specs.Sessions.{SessionState}
use Rattle.interleave_core.specs.Askers.{AreAskers}
use Rattle.interleave_core.specs.Machine.{State, Step}
use Rattle.interleave_core.specs.Invariants.{IsCore}
use Rattle.interleave_core.specs.Opening.{IsOpened, IsLeft}

-- The events in order lead from the one state to the other. In each state on the way, the first and the last among
-- them, the log is lawful, closed tasks are truly closed, and replies are verdicts by the items below their fronts
abbrev pub Run : State → List Event → State → Type 0
Run old [] new = IsCore old × (new ≡ old)
Run old (e ∷ es) new = IsCore old × ((mid : State) × Step old e mid × Run mid es new)

-- the session's replies stand, and further ones may have come behind them
pub record KeepsReplies (old new : SessionState) : Type 0 where
  pub more : List Kept
  pub is : new ≡ record old { kept = old.kept ++ more }

-- the old items begin the new ones: a seal stands, and no entry comes behind it
pub record KeepsItems (old new : Held) : Type 0 where
  pub source : new.source ≡ old.source
  pub limits : new.limits ≡ old.limits
  pub base : new.base ≡ old.base
  pub more : List BasisEntry
  pub entries : new.entries ≡ old.entries ++ more
  pub seal : (old.seal ≡ None) ⊎ ((more ≡ []) × (new.seal ≡ old.seal))

-- the items stand, and each session keeps its replies
pub record Keeps (old new : State) : Type 0 where
  pub items : KeepsItems old.book new.book
  pub count : length new.sessions ≡ length old.sessions
  pub sessions : (n : ℕ) (s : SessionState) → slice_get old.sessions n ≡ Some s → (t : SessionState)
      × (slice_get new.sessions n ≡ Some t) × KeepsReplies s t

-- the book and the sessions that are left of a machine that was opened with the sessions ss and has played these events
pub record IsPlayed (p : Presented) (l : Limits) (ss : List SessionState) (es : List Event) (book : Held)
    (ts : List SessionState) : Type 0 where
  pub start : State
  pub opened : IsOpened p l ss start
  pub end : State
  pub run : Run start es end
  pub left : IsLeft end book ts

-- they are of the presentation, of these limits, and of the questions of the sessions ss; the sessions ask the book's
-- items
pub record CanBeEnded (p : Presented) (l : Limits) (ss : List SessionState) (book : Held)
    (ts : List SessionState) : Type 0 where
  pub source : book.source ≡ p
  pub limits : book.limits ≡ l
  pub askers : AreAskers book ts
  pub questions : map (λ s. s.questions) ts ≡ map (λ s. s.questions) ss
