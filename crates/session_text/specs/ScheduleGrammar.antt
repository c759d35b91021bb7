-- The grammar of schedules between bytes and events, apart from any reader.
use Rattle.std.specs.Prelude.{◌≡◌, ℕ, codes, decimal, List, [], ◌∷◌, ◌++◌}
use Rattle.word_text.specs.Scan.{after_blanks}
use Rattle.session_text.specs.declared.question.Event.{Event}
use Rattle.session_text.specs.declared.question.Event.TheVariants.{Worker, Session}
use Rattle.session_text.specs.Schedule.{IsEvent, token_at, after_token}

-- the name of an event: `w` or `s`, and its number
abbrev pub event_name : Event → List ℕ
event_name (Worker n) = codes "w" ++ decimal n
event_name (Session n) = codes "s" ++ decimal n

-- the bytes from the next one that is no blank to the blank behind it, or to the end
abbrev pub TokenAt : List ℕ → List ℕ → List ℕ → Type 0
TokenAt bs token rest = (token_at (after_blanks bs) ≡ token) × (rest ≡ after_token (after_blanks bs))

-- The text is a schedule with these events, where there are so many sessions: the name of each event in order, each as
-- a whole token with blanks before it, and blanks alone behind the last.
abbrev pub IsSchedule : ℕ → List ℕ → List Event → Type 0
IsSchedule sessions text [] = after_blanks text ≡ []
IsSchedule sessions text (e ∷ es) = (rest : List ℕ) × TokenAt text (event_name e) rest × IsEvent sessions e
    × IsSchedule sessions rest es
