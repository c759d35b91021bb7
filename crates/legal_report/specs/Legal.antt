-- Which reports are legal.
use Rattle.std.specs.List.{AllByRecursion}
use Rattle.std.specs.Prelude.{◌≡◌, ◌≤◌, ℕ, ◌+◌, List, length, slice_get, Option, Some, None}
use Rattle.presentation.specs.Presented.{Presented}
use Rattle.outcomes.specs.declared.ends.End.{End}
use Rattle.outcomes.specs.declared.ends.End.TheVariants.{Sealed, Stopped, Full, Spent}
use Rattle.session_text.specs.declared.question.Question.{Question}
use Rattle.basis_entry.specs.Entries.{BasisEntry}
use Rattle.basis_entry.specs.Seals.{Seal, item_count}
use Rattle.pair_book.specs.declared.limits.Limits.{Limits}
use Rattle.pair_book.specs.Logs.{IsLawful}
use Rattle.pair_book.specs.LogEntries.{terms_of, steps_of}
use Rattle.session_core.specs.declared.kept.Kept.{Kept}
use Rattle.session_core.specs.Sessions.{SessionState, AreRising}
use Rattle.completion_solo.specs.Ends.{Ends}
use Rattle.report_text.specs.Reports.{Reported, IsReplied}

-- the entries, their terms and the steps of their recipes are within the limits
pub record AreWithinLimits (limits : Limits) (es : List BasisEntry) : Type 0 where
  pub entries : length es ≤ limits.entries
  pub terms : terms_of es ≤ limits.terms
  pub steps : steps_of es ≤ limits.steps

-- the seal of a log with this end: there is one exactly where the end is `Sealed`
abbrev pub seal_at : Presented → List BasisEntry → End → Option Seal
seal_at p es Sealed = Some (record { source = p; entries = es })
seal_at p es (Stopped t stop) = None
seal_at p es (Full m c) = None
seal_at p es (Spent c t) = None

-- a session of these questions with this number. Each question has its reply, by the items below a front that is at
-- least `base`, and the fronts don't fall
pub record IsLegalSession (p : Presented) (base : ℕ) (es : List BasisEntry) (seal : Option Seal) (n : ℕ)
    (qs : List Question) (s : SessionState) : Type 0 where
  pub number : s.number ≡ n
  pub questions : s.questions ≡ qs
  pub replied : IsReplied p es seal s
  pub rising : AreRising base s.kept

-- A report over the presentation, the limits and the sessions' questions is legal: its log is lawful and within the
-- limits, it ends as it says, and each question has its reply.
pub record IsLegal (p : Presented) (limits : Limits) (questions : List (List Question)) (r : Reported) : Type 0 where
  pub pres : r.pres ≡ p
  pub base : ℕ
  pub lawful : IsLawful p base r.entries
  pub within : AreWithinLimits limits r.entries
  pub ends : Ends p limits r.entries r.end
  pub seal : r.seal ≡ seal_at p r.entries r.end
  pub count : length r.sessions ≡ length questions
  pub sessions : (i : ℕ) (qs : List Question) (s : SessionState) → slice_get questions i ≡ Some qs
      → slice_get r.sessions i ≡ Some s
      → IsLegalSession p base r.entries r.seal (i + 1) qs s

-- the replies are by all items of the log
abbrev pub AreByAll : List BasisEntry → Option Seal → List Kept → Type 0
AreByAll es seal ks = AllByRecursion (λ k. k.front ≡ item_count es seal) ks
