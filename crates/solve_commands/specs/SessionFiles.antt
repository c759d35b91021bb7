-- What the texts of sessions that a command reads lead to.
use Rattle.std.specs.List.{AllByRecursion}
use Rattle.std.specs.Prelude.{◌≡◌, ℕ, ◌<◌, ◌≤◌, ◌⊎◌, ◌||◌, nat_lt, List, [], ◌∷◌, length, take, slice_get, Option}
use Rattle.std.specs.Prelude.{Some, None}
use Rattle.std.specs.Prelude.{IfSome, Result, Ok, Err, Vec, if◌then◌else◌}
use Rattle.std.specs.declared.alloc.Global.{Global}
use Rattle.presentation.specs.Presented.{Presented}
use Rattle.session_text.specs.declared.TheConstants.{QUESTIONS}
use Rattle.session_text.specs.declared.question.Question.{Question}
use Rattle.session_text.specs.declared.fault.SessionFault.{SessionFault}
use Rattle.session_text.specs.declared.fault.SessionFault.TheVariants as sessions
use Rattle.session_text.specs.Reading.{session_text}
use Rattle.session_core.specs.declared.sessions.Session.{Session}
use Rattle.session_core.specs.Questions.{CanBeAsked}
use Rattle.command_floor.specs.declared.answer.Halt.{Halt}
use Rattle.command_floor.specs.declared.answer.Halt.TheVariants.{Says, NoMemory}
use Rattle.solve_commands.specs.declared.sessions.TheConstants.{SESSION_BYTES, SESSIONS}
use Rattle.command_floor.specs.Numbers.{is_empty}
use Rattle.command_floor.specs.Answers.{Answer, unread, too_long, refused, image_too_long}
use Rattle.legal_report.specs.Gathering.{questions_of}

-- the answer to what is wrong with a session
abbrev pub RefusesSession : List ℕ → SessionFault → Halt → Type 0
RefusesSession name (sessions.Text f) (Says a) = a ≡ refused name f
RefusesSession name (sessions.ImageTooLong line relator) (Says a) = a ≡ image_too_long name line relator
RefusesSession name sessions.NoMemory (Says a) = ⊥
RefusesSession name fault NoMemory = Unit {0}

-- why a session has no questions
abbrev pub SessionFails : Type 0 → Presented → List ℕ → Option (List ℕ) → Answer → Type 0
SessionFails counted p name told a =
    (counted × (a ≡ unread name)) ⊎ IfSome told (λ bytes.
    ((SESSION_BYTES < length bytes) × (a ≡ too_long name SESSION_BYTES))
    ⊎ ((length bytes ≤ SESSION_BYTES) × ((f : SessionFault) × (session_text p bytes ≡ Err f)
    × RefusesSession name f (Says a))))

-- these are the questions of the session's text
abbrev pub AreQuestionsIn : Presented → Option (List ℕ) → List Question → Type 0
AreQuestionsIn p told qs = IfSome told (λ bytes. (length bytes ≤ SESSION_BYTES) × (session_text p bytes ≡ Ok qs))

-- what reading a session whole and parsing it answers: its questions, or what is wrong
abbrev pub SessionGives : Type 0 → Presented → List ℕ → Option (List ℕ) → Result (Vec Question Global) Halt → Type 0
SessionGives counted p name told (Ok qs) = AreQuestionsIn p told qs.items
SessionGives counted p name told (Err (Says a)) = SessionFails counted p name told a
SessionGives counted p name told (Err NoMemory) = Unit {0}

-- what parsing a session that is at hand answers: its questions, or what is wrong with the text, which has this name
abbrev pub QuestionsGive : List ℕ → Result (List Question) SessionFault → Result (Vec Question Global) Halt → Type 0
QuestionsGive name read (Ok qs) = read ≡ Ok qs.items
QuestionsGive name read (Err (Says a)) = (f : SessionFault) × (read ≡ Err f) × RefusesSession name f (Says a)
QuestionsGive name read (Err NoMemory) = Unit {0}

-- questions that a session may have
abbrev pub AreAskable : Presented → List Question → Type 0
AreAskable p qs = (length qs ≤ QUESTIONS) × AllByRecursion (CanBeAsked p) qs

-- a presentation's name and those of 1 to so many sessions
abbrev pub session_names : List (List ℕ) → Option (List ℕ × List (List ℕ))
session_names [] = None
session_names (p ∷ ss) = if is_empty ss || nat_lt SESSIONS (length ss) then None else Some (p, ss)

-- in order the questions of the sessions under these names
abbrev pub AreQuestionsUnder : (List ℕ → Option (List ℕ)) → Presented → List (List ℕ) → List (List Question) → Type 0
AreQuestionsUnder under p [] [] = Unit {0}
AreQuestionsUnder under p [] (qs ∷ qss) = ⊥
AreQuestionsUnder under p (name ∷ names) [] = ⊥
AreQuestionsUnder under p (name ∷ names) (qs ∷ qss) = AreQuestionsIn p (under name) qs
    × AreQuestionsUnder under p names qss

-- one of the sessions has no questions, and each before it has
pub record SessionsFail (counted : Type 0) (under : List ℕ
    → Option (List ℕ)) (p : Presented) (names : List (List ℕ)) (a : Answer) : Type 0 where
  pub place : ℕ
  pub name : List ℕ
  pub is : slice_get names place ≡ Some name
  pub before : List (List Question)
  pub read : AreQuestionsUnder under p (take place names) before
  pub fails : SessionFails counted p name (under name) a

-- what reading the sessions under these names answers
abbrev pub SessionsGive : Type 0 → (List ℕ → Option (List ℕ)) → Presented → List (List ℕ)
    → Result (Vec Session Global) Halt → Type 0
SessionsGive counted under p names (Ok ss) = AreQuestionsUnder under p names (questions_of ss.items)
SessionsGive counted under p names (Err (Says a)) = SessionsFail counted under p names a
SessionsGive counted under p names (Err NoMemory) = Unit {0}
