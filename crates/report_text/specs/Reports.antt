-- What a report is written from, and the text that is written.
use Rattle.std.specs.List.{AllByRecursion}
use Rattle.std.specs.Prelude.{◌≡◌, ◌↔◌, ℕ, ◌+◌, ◌<◌, ◌≤◌, ◌^◌, List, length, map, take, slice_get, Option, Some, IsSome}
use Rattle.std.specs.Prelude.{option_map}
use Rattle.std.specs.Arc.{arc_value}
use Rattle.presentation.specs.Presented.{Presented}
use Rattle.module_vec.specs.declared.places.Term.{Term}
use Rattle.module_vec.specs.declared.steps.Step.{Step}
use Rattle.step_lists.specs.Sums.{IsValue}
use Rattle.vector_text.specs.Over.{VectorIsOver}
use Rattle.outcomes.specs.declared.ends.End.{End}
use Rattle.outcomes.specs.declared.ends.End.TheVariants.{Sealed}
use Rattle.session_text.specs.declared.question.Question.{Question}
use Rattle.report_lines.specs.Lines.{EndIsOver, MadeIsOver}
use Rattle.report_lines.specs.Texts.{report_text}
use Rattle.basis_entry.specs.declared.recipes.Recipe.TheVariants.{Sum}
use Rattle.basis_entry.specs.Base.{AreBase}
use Rattle.basis_entry.specs.Entries.{BasisEntry, AreOf, vectors_of}
use Rattle.basis_entry.specs.Items.{seal_below}
use Rattle.basis_entry.specs.Seals.{Seal}
use Rattle.session_core.specs.declared.kept.Kept.{Kept}
use Rattle.session_core.specs.Questions.{CanBeAsked}
use Rattle.session_core.specs.Replies.{IsReply}
use Rattle.session_core.specs.Sessions.{SessionState}
use Rattle.report_text.specs.declared.report.Report.{Report}
use Rattle.report_text.specs.Histories.{History, made_by, lines_of}
use Rattle.report_text.specs.Logs.{LogItems}
use Rattle.report_text.specs.Answers.{AreAnswered}

-- a report as its readers see it
pub record Reported : Type 0 where
  pub pres : Presented
  pub entries : List BasisEntry
  pub seal : Option Seal
  pub end : End
  pub sessions : List SessionState

abbrev pub reported : Report → Reported
reported r = record {
  pres = arc_value r.pres;
  entries = map arc_value r.entries.items;
  seal = option_map arc_value r.sealed;
  end = r.end;
  sessions = r.sessions.items;
}

-- what is reported of a log, with its end and the sessions
abbrev pub reported_of : LogItems → End → List SessionState → Reported
reported_of log end sessions = record {
  pres = log.pres;
  entries = log.entries;
  seal = log.seal;
  end = end;
  sessions = sessions;
}

-- ---- what is told

-- the history of the report, with right answers. There is one alone
pub record IsHistoryOf (r : Reported) (h : History) : Type 0 where
  pub entries : h.entries ≡ r.entries
  pub seal : h.seal ≡ r.seal
  pub end : h.end ≡ r.end
  pub answered : AreAnswered r.pres r.entries r.seal r.sessions h.sessions

abbrev pub text_of : Reported → History → List ℕ
text_of r h = report_text r.pres (lines_of h)

-- ---- which reports can be written

-- the entry is the sum of its recipe's steps, none of them with the factor 0, over entries with these vectors
pub record IsSumOver (b : List (List Term)) (e : BasisEntry) : Type 0 where
  pub steps : List Step
  pub recipe : e.recipe ≡ Sum steps
  pub value : IsValue b steps e.vector

-- entries of the presentation: first those of the generators, `base` of them, and then sums over those before
pub record IsRecord (p : Presented) (base : ℕ) (es : List BasisEntry) : Type 0 where
  pub source : AreOf p es
  pub within : base ≤ length es
  pub begins : AreBase p (take base es)
  pub later : (k : ℕ) (e : BasisEntry) → base ≤ k → slice_get es k ≡ Some e → IsSumOver (vectors_of (take k es)) e

-- variables and components are those of n generators
pub record EntryIsOver (n : ℕ) (e : BasisEntry) : Type 0 where
  pub vector : VectorIsOver n e.vector
  pub recipe : MadeIsOver n (made_by e.recipe)

-- entries of the presentation, over its generators
pub record IsLog (p : Presented) (es : List BasisEntry) : Type 0 where
  pub source : AreOf p es
  pub over : AllByRecursion (EntryIsOver (length p.names)) es

-- each question can be asked and has its reply, by the items below the reply's front
pub record IsReplied (p : Presented) (es : List BasisEntry) (seal : Option Seal) (s : SessionState) : Type 0 where
  pub asked : AllByRecursion (CanBeAsked p) s.questions
  pub count : length s.kept ≡ length s.questions
  pub each : (i : ℕ) (q : Question) (k : Kept) → slice_get s.questions i ≡ Some q → slice_get s.kept i ≡ Some k
      → IsReply p (take k.front es) (seal_below es seal k.front) q k

-- no front is below that of the generators' entries
abbrev pub AreFrom : ℕ → SessionState → Type 0
AreFrom base s = AllByRecursion (λ k. base ≤ k.front) s.kept

-- what a report has to be, to be written
pub record IsReportable (r : Reported) : Type 0 where
  pub base : ℕ
  pub entries : IsRecord r.pres base r.entries
  pub few : length r.entries + 1 < 2 ^ 32
  pub over : AllByRecursion (EntryIsOver (length r.pres.names)) r.entries
  pub end : EndIsOver (length r.pres.names) r.end
  pub sealed : IsSome r.seal ↔ (r.end ≡ Sealed)
  pub numbers : (i : ℕ) (s : SessionState) → slice_get r.sessions i ≡ Some s → s.number ≡ i + 1
  pub fronts : AllByRecursion (AreFrom base) r.sessions
  pub replies : AllByRecursion (IsReplied r.pres r.entries r.seal) r.sessions
