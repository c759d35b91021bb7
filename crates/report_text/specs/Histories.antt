-- The history that a report tells, and its lines in their order.
use Rattle.std.specs.Prelude.{ℕ, ◌+◌, ◌==◌, if◌then◌else◌, List, [], ◌∷◌, ◌++◌, Option, Some, None}
use Rattle.module_vec.specs.declared.steps.Step.{Step}
use Rattle.outcomes.specs.declared.ends.End.{End}
use Rattle.outcomes.specs.declared.verdicts.Verdict.{Verdict}
use Rattle.session_text.specs.declared.question.Question.{Question}
use Rattle.report_lines.specs.declared.lines.Made.{Made}
use Rattle.report_lines.specs.declared.lines.Made.TheVariants as made
use Rattle.report_lines.specs.declared.lines.Line.{Line}
use Rattle.report_lines.specs.declared.lines.Line.TheVariants as lines
use Rattle.basis_entry.specs.declared.recipes.Recipe.{Recipe}
use Rattle.basis_entry.specs.declared.recipes.Recipe.TheVariants as recipes
use Rattle.basis_entry.specs.Entries.{BasisEntry}
use Rattle.basis_entry.specs.Seals.{Seal}

-- what is answered to a question by the items below a front, and the steps that show each subject of a yes
pub record Reply : Type 0 where
  pub front : ℕ
  pub verdict : Verdict
  pub proofs : List (List Step)

-- a question, what was answered to it, and what is answered once more behind the end, if anything
pub record Answered : Type 0 where
  pub question : Question
  pub live : Reply
  pub closing : Option Reply

-- the questions of a session in order, with the answers. They are numbered from 1
pub record SessionAnswers : Type 0 where
  pub number : ℕ
  pub answers : List Answered

-- The items are the entries, and the seal behind them if there is one. A front is a number of items
pub record History : Type 0 where
  pub entries : List BasisEntry
  pub seal : Option Seal
  pub end : End
  pub sessions : List SessionAnswers

-- ---- the lines of one answer

-- the proofs of the subjects from number j on
abbrev pub proof_lines : ℕ → List (List Step) → List Line
proof_lines j [] = []
proof_lines j (steps ∷ proofs) = lines.Proof j steps ∷ proof_lines (j + 1) proofs

-- the answer to question number n of session number s, and its proofs
abbrev pub live_lines : ℕ → ℕ → Answered → List Line
live_lines s n a = lines.Live s n a.live.front a.question a.live.verdict ∷ proof_lines 1 a.live.proofs

-- what is answered behind the end
abbrev pub closing_lines : ℕ → ℕ → Question → Option Reply → List Line
closing_lines s n q None = []
closing_lines s n q (Some r) = lines.Close s n q r.verdict ∷ proof_lines 1 r.proofs

-- ---- the lines of all answers

-- of the questions from number n on, those that were answered at the front
abbrev pub live_from : ℕ → ℕ → ℕ → List Answered → List Line
live_from front s n [] = []
live_from front s n (a ∷ others) = (if a.live.front == front then live_lines s n a else [])
    ++ live_from front s (n + 1) others

-- by session and question, what was answered at the front
abbrev pub live_at : ℕ → List SessionAnswers → List Line
live_at front [] = []
live_at front (s ∷ ss) = live_from front s.number 1 s.answers ++ live_at front ss

-- of the questions from number n on, those that are answered behind the end
abbrev pub closing_from : ℕ → ℕ → List Answered → List Line
closing_from s n [] = []
closing_from s n (a ∷ others) = closing_lines s n a.question a.closing ++ closing_from s (n + 1) others

-- by session and question, what is answered behind the end
abbrev pub closing_of : List SessionAnswers → List Line
closing_of [] = []
closing_of (s ∷ ss) = closing_from s.number 1 s.answers ++ closing_of ss

-- ---- the lines of the items

abbrev pub made_by : Recipe → Made
made_by (recipes.Gen number negated) = made.Gen negated
made_by (recipes.Sum steps) = made.Sum steps

-- the entries from number k on
abbrev pub entry_lines : ℕ → List BasisEntry → List Line
entry_lines k [] = []
entry_lines k (e ∷ es) = lines.Entry k (made_by e.recipe) e.vector ∷ entry_lines (k + 1) es

abbrev pub seal_lines : Option Seal → List Line
seal_lines None = []
seal_lines (Some seal) = lines.Seal ∷ []

abbrev pub item_lines : List BasisEntry → Option Seal → List Line
item_lines es seal = entry_lines 0 es ++ seal_lines seal

-- behind k items: each further one, and after it what was answered at the front that it completes
abbrev pub told_from : List SessionAnswers → ℕ → List Line → List Line
told_from sessions k [] = []
told_from sessions k (item ∷ items) = item ∷ (live_at (k + 1) sessions ++ told_from sessions (k + 1) items)

-- the lines of a report behind the two at its head
abbrev pub lines_of : History → List Line
lines_of h = told_from h.sessions 0 (item_lines h.entries h.seal)
    ++ (lines.End h.end ∷ (closing_of h.sessions ++ lines.Done ∷ []))
