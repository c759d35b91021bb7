-- Reading a schedule: its events, or its first fault.
use Rattle.std.specs.Prelude.{◌≡◌, ℕ, zero, suc, ◌-◌, ◌≤◌, ◌==◌, ◌&&◌, nat_le, nat_lt, Bool, List, [], ◌∷◌, ◌++◌}
use Rattle.std.specs.Prelude.{length, drop, take_while, not}
use Rattle.std.specs.Prelude.{option_map, Option, Some, None, Result, Ok, Err, Vec, if◌then◌else◌}
use Rattle.std.specs.declared.alloc.Global.{Global}
use Rattle.word_text.specs.declared.fault.Fault.{Fault}
use Rattle.word_text.specs.declared.fault.TextKind.TheVariants.{Expected, NoSession}
use Rattle.word_text.specs.declared.fault.ReadFault.{ReadFault}
use Rattle.word_text.specs.declared.fault.ReadFault.TheVariants as faults
use Rattle.word_text.specs.Scan.{◌>>=◌, is_blank, after_blanks}
use Rattle.word_text.specs.Place.{placed}
use Rattle.session_text.specs.declared.question.Event.{Event}
use Rattle.session_text.specs.declared.question.Event.TheVariants.{Worker, Session}

-- an event of one of 16 workers, or of one of so many sessions
abbrev pub IsEvent : ℕ → Event → Type 0
IsEvent sessions (Worker n) = (1 ≤ n) × (n ≤ 16)
IsEvent sessions (Session n) = (1 ≤ n) × (n ≤ 16) × (n ≤ sessions)

-- the number from 1 to 16 that is spelled without a leading zero
abbrev pub small_number : List ℕ → Option ℕ
small_number [] = None
small_number (a ∷ []) = if nat_le 49 a && nat_le a 57 then Some (a - 48) else None
small_number (a ∷ b ∷ []) = if (a == 49) && (nat_le 48 b && nat_le b 54) then Some (b - 38) else None
small_number (a ∷ b ∷ c ∷ ds) = None

-- the event of a token, which is `w` or `s` and such a number
abbrev pub event_of : List ℕ → Option Event
event_of [] = None
event_of (b ∷ bs) =
    if b == 119 then option_map (λ n. Worker n) (small_number bs)
    else if b == 115 then option_map (λ n. Session n) (small_number bs)
    else None

-- a token has every byte but blanks
unfoldable pub is_token_byte : ℕ → Bool
is_token_byte b = not (is_blank b)

-- the token that stands here, which goes up to the next blank or the end, and what follows it
unfoldable pub token_at : List ℕ → List ℕ
token_at bs = take_while is_token_byte bs

unfoldable pub after_token : List ℕ → List ℕ
after_token bs = drop (length (take_while is_token_byte bs)) bs

-- the fault where a token stands that is no event
abbrev pub expected : List ℕ → Fault
expected bs = record { kind = Expected; left = length bs }

-- the event that stands here and what follows it, where there are so many sessions
abbrev pub event_by : ℕ → List ℕ → Option Event → Result (Event × List ℕ) Fault
event_by sessions bs None = Err (expected bs)
event_by sessions bs (Some (Worker n)) = Ok (Worker n, after_token bs)
event_by sessions bs (Some (Session n)) =
    if nat_lt sessions n then Err (record { kind = NoSession; left = length bs }) else Ok (Session n, after_token bs)

abbrev pub event_at : ℕ → List ℕ → Result (Event × List ℕ) Fault
event_at sessions bs = event_by sessions bs (event_of (token_at bs))

-- the events from here on behind those before them, in at most so many turns
abbrev pub events_from : ℕ → ℕ → List Event → List ℕ → Result (List Event) Fault
events_from zero sessions before bs = Err (expected bs)
events_from (suc n) sessions before bs =
    if length bs == 0 then Ok before else event_at sessions bs >>=
    λ e. events_from n sessions (before ++ e.0 ∷ []) (after_blanks e.1)

-- the events that are the whole text
unfoldable pub schedule_text : ℕ → List ℕ → Result (List Event) Fault
schedule_text sessions text = events_from (suc (length text)) sessions [] (after_blanks text)

-- what a reader of a schedule answers: the events, or the first fault with its place
abbrev pub ReadsSchedule : List ℕ → Result (List Event) Fault → Result (Vec Event Global) ReadFault → Type 0
ReadsSchedule text read (Ok events) = read ≡ Ok events.items
ReadsSchedule text read (Err faults.NoMemory) = Unit {0}
ReadsSchedule text read (Err (faults.Text f)) = (e : Fault) × (read ≡ Err e) × (f ≡ placed text e)
