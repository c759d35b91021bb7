-- Sessions as contracts see them.
use Rattle.std.specs.List.{AllByRecursion}
use Rattle.std.specs.Prelude.{ℕ, ◌+◌, ◌<◌, ◌≤◌, ◌^◌, nat_lt, List, [], ◌∷◌, length, Option, Some, None, if◌then◌else◌}
use Rattle.session_text.specs.declared.TheConstants.{QUESTIONS}
use Rattle.session_text.specs.declared.question.Question.{Question}
use Rattle.session_text.specs.Questions.{HasSource}
use Rattle.session_core.specs.declared.kept.Kept.{Kept}

-- a session's number, its questions in order, its base, and the replies kept so far: that to question number j stands
-- at place j - 1
pub record SessionState : Type 0 where
  pub number : ℕ
  pub questions : List Question
  pub base : ℕ
  pub kept : List Kept

-- the front of the last reply, and the base where there is none
abbrev pub front_after : ℕ → List Kept → ℕ
front_after base [] = base
front_after base (k ∷ ks) = front_after k.front ks

abbrev pub last_front : SessionState → ℕ
last_front s = front_after s.base s.kept

-- the fronts begin at the base at least, and don't fall
abbrev pub AreRising : ℕ → List Kept → Type 0
AreRising base [] = Unit {0}
AreRising base (k ∷ ks) = (base ≤ k.front) × AreRising k.front ks

-- what holds of every session: the source of each map that it asks about is a presentation
pub record IsSession (s : SessionState) : Type 0 where
  pub number : s.number < 2 ^ 32
  pub few : length s.questions ≤ QUESTIONS
  pub within : length s.kept ≤ length s.questions
  pub rising : AreRising s.base s.kept
  pub sources : AllByRecursion HasSource s.questions

-- the number of the next question, counted from 1, if there is one
abbrev pub next_question : SessionState → Option ℕ
next_question s = if nat_lt (length s.kept) (length s.questions) then Some (length s.kept + 1) else None
