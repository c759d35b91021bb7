-- Which answers are right.
use Rattle.std.specs.Prelude.{◌≡◌, ℕ, List, [], length, slice_get, Option, Some, None}
use Rattle.free_words.specs.declared.letter.Letter.{Letter}
use Rattle.presentation.specs.Presented.{Presented}
use Rattle.module_vec.specs.declared.places.Term.{Term}
use Rattle.module_vec.specs.declared.steps.Step.{Step}
use Rattle.outcomes.specs.declared.verdicts.Verdict.{Verdict}
use Rattle.outcomes.specs.declared.verdicts.Verdict.TheVariants as verdicts
use Rattle.session_text.specs.declared.question.Question.{Question}
use Rattle.session_text.specs.Questions.{subjects}
use Rattle.basis_entry.specs.Entries.{BasisEntry}
use Rattle.basis_entry.specs.Items.{vectors_below, seal_below}
use Rattle.basis_entry.specs.Seals.{Seal, item_count}
use Rattle.session_core.specs.declared.kept.Kept.{Kept}
use Rattle.session_core.specs.Proofs.{AreStepsOf}
use Rattle.session_core.specs.Sessions.{SessionState}
use Rattle.session_core.specs.Verdicts.{IsVerdict}
use Rattle.report_text.specs.Histories.{Reply, Answered, SessionAnswers}

-- ---- one reply

-- the subjects that have to be shown: all of them for a yes
abbrev pub to_show : Question → Verdict → List (List Letter)
to_show q verdicts.Trivial = subjects q
to_show q verdicts.NotTrivial = []
to_show q (verdicts.Normal v) = []
to_show q verdicts.Extends = subjects q
to_show q (verdicts.Fails j) = []
to_show q (verdicts.Unknown j) = []
to_show q (verdicts.Stop j stop) = []

-- for each word in order the steps of its Fox vector's chain
pub record AreProofsOf (b : List (List Term)) (ws : List (List Letter)) (proofs : List (List Step)) : Type 0 where
  pub count : length proofs ≡ length ws
  pub each : (i : ℕ) (w : List Letter) (steps : List Step) → slice_get ws i ≡ Some w → slice_get proofs i ≡ Some steps
      → AreStepsOf b w steps

-- the reply is the verdict on the question by the items below its front, with its proofs by the entries below it
pub record IsReplyTo (p : Presented) (es : List BasisEntry) (seal : Option Seal) (q : Question)
    (r : Reply) : Type 0 where
  pub verdict : IsVerdict p (vectors_below es r.front) (seal_below es seal r.front) q r.verdict
  pub proofs : AreProofsOf (vectors_below es r.front) (to_show q r.verdict) r.proofs

-- ---- one question

-- the verdict leaves the question open
abbrev pub IsOpen : Verdict → Type 0
IsOpen verdicts.Trivial = ⊥
IsOpen verdicts.NotTrivial = ⊥
IsOpen (verdicts.Normal v) = ⊥
IsOpen verdicts.Extends = ⊥
IsOpen (verdicts.Fails j) = ⊥
IsOpen (verdicts.Unknown j) = Unit {0}
IsOpen (verdicts.Stop j stop) = Unit {0}

-- a reply by all items
pub record IsClosingReply (p : Presented) (es : List BasisEntry) (seal : Option Seal) (q : Question)
    (r : Reply) : Type 0 where
  pub front : r.front ≡ item_count es seal
  pub reply : IsReplyTo p es seal q r

-- a question that was left open, and no other, is answered once more by all items
abbrev pub IsClosing : Presented → List BasisEntry → Option Seal → Question → Verdict → Option Reply → Type 0
IsClosing p es seal q live None = IsOpen live → ⊥
IsClosing p es seal q live (Some r) = IsOpen live × IsClosingReply p es seal q r

-- the verdict on the question by the items below the front of the reply that was kept, and a closing one where that
-- leaves it open
pub record IsAnswered (p : Presented) (es : List BasisEntry) (seal : Option Seal) (q : Question) (k : Kept)
    (a : Answered) : Type 0 where
  pub question : a.question ≡ q
  pub front : a.live.front ≡ k.front
  pub live : IsReplyTo p es seal q a.live
  pub closing : IsClosing p es seal q a.live.verdict a.closing

-- ---- all questions

-- each question of the session is answered
pub record IsSessionAnswered (p : Presented) (es : List BasisEntry) (seal : Option Seal) (s : SessionState)
    (t : SessionAnswers) : Type 0 where
  pub number : t.number ≡ s.number
  pub count : length t.answers ≡ length s.questions
  pub each : (i : ℕ) (q : Question) (k : Kept) (a : Answered) → slice_get s.questions i ≡ Some q
      → slice_get s.kept i ≡ Some k → slice_get t.answers i ≡ Some a
      → IsAnswered p es seal q k a

-- each session is answered
pub record AreAnswered (p : Presented) (es : List BasisEntry) (seal : Option Seal) (ss : List SessionState)
    (ts : List SessionAnswers) : Type 0 where
  pub count : length ts ≡ length ss
  pub each : (i : ℕ) (s : SessionState) (t : SessionAnswers) → slice_get ss i ≡ Some s → slice_get ts i ≡ Some t
      → IsSessionAnswered p es seal s t
