-- Reports that answer by their log, however that came about.
use Rattle.std.specs.List.{AllByRecursion}
use Rattle.std.specs.Prelude.{◌≡◌, ℕ, ◌+◌, List, length, slice_get, Some}
use Rattle.presentation.specs.Presented.{Presented}
use Rattle.outcomes.specs.declared.ends.End.TheVariants.{Sealed}
use Rattle.session_text.specs.declared.question.Question.{Question}
use Rattle.basis_entry.specs.Entries.{BasisEntry, IsBasisEntry, AreOf, vectors_of}
use Rattle.basis_entry.specs.Seals.{IsStrongBasis}
use Rattle.session_core.specs.Sessions.{SessionState}
use Rattle.report_text.specs.Reports.{Reported}
use Rattle.legal_report.specs.Legal.{IsLegalSession, seal_at}

-- What every kind of legal report has, and what its answers rest on: the entries are of the presentation and, where the
-- end is `Sealed`, a strong basis; and each question has its reply
pub record IsAnswering (p : Presented) (questions : List (List Question)) (r : Reported) : Type 0 where
  pub pres : r.pres ≡ p
  pub base : ℕ
  pub source : AreOf p r.entries
  pub entries : AllByRecursion IsBasisEntry r.entries
  pub strong : r.end ≡ Sealed → IsStrongBasis p (vectors_of r.entries)
  pub seal : r.seal ≡ seal_at p r.entries r.end
  pub count : length r.sessions ≡ length questions
  pub sessions : (i : ℕ) (qs : List Question) (s : SessionState) → slice_get questions i ≡ Some qs
      → slice_get r.sessions i ≡ Some s
      → IsLegalSession p base r.entries r.seal (i + 1) qs s
