-- What a line of a report over a presentation is.
use Rattle.std.specs.Prelude.{ℕ, ◌<◌, ◌≤◌, length}
use Rattle.spelling.specs.Spelling.{IsSmall}
use Rattle.presentation.specs.Presented.{Presented}
use Rattle.module_vec.specs.declared.faults.Stop.{Stop}
use Rattle.module_vec.specs.declared.faults.Stop.TheVariants.{Wide, Long, Deep, Steep}
use Rattle.outcomes.specs.declared.kinds.PairKind.{PairKind}
use Rattle.outcomes.specs.declared.ends.Measure.{Measure}
use Rattle.outcomes.specs.declared.tasks.Task.{Task}
use Rattle.outcomes.specs.declared.ends.End.{End}
use Rattle.outcomes.specs.declared.ends.End.TheVariants as ends
use Rattle.outcomes.specs.declared.verdicts.Verdict.{Verdict}
use Rattle.outcomes.specs.declared.verdicts.Verdict.TheVariants as verdicts
use Rattle.session_text.specs.declared.question.Question.{Question}
use Rattle.session_text.specs.declared.question.Question.TheVariants as questions
use Rattle.session_text.specs.Questions.{IsQuestion, IsWritable}
use Rattle.vector_text.specs.Over.{PlaceIsOver, VectorIsOver, IsPlaceOf, IsVectorOf}
use Rattle.step_text.specs.Over.{StepsAreOver, AreStepsOf}
use Rattle.report_lines.specs.declared.lines.Made.{Made}
use Rattle.report_lines.specs.declared.lines.Made.TheVariants.{Gen, Sum}
use Rattle.report_lines.specs.declared.lines.Line.{Line}
use Rattle.report_lines.specs.declared.lines.Line.TheVariants as lines

-- ---- which verdicts answer which questions

-- the number of a question's subjects: one for each relator of a source, and one for each other question
abbrev pub subject_count : Question → ℕ
subject_count (questions.Trivial w) = 1
subject_count (questions.Equal u v) = 1
subject_count (questions.Normal w) = 1
subject_count (questions.Hom source images) = length source.relators

-- subjects are numbered from 1
abbrev pub IsSubject : Question → ℕ → Type 0
IsSubject q j = (0 < j) × (j ≤ subject_count q)

-- the question is about one word: `trivial`, `equal` or `normal`
abbrev pub IsAboutWord : Question → Type 0
IsAboutWord (questions.Trivial w) = Unit {0}
IsAboutWord (questions.Equal u v) = Unit {0}
IsAboutWord (questions.Normal w) = Unit {0}
IsAboutWord (questions.Hom source images) = ⊥

-- the question is `trivial` or `equal`
abbrev pub IsTest : Question → Type 0
IsTest (questions.Trivial w) = Unit {0}
IsTest (questions.Equal u v) = Unit {0}
IsTest (questions.Normal w) = ⊥
IsTest (questions.Hom source images) = ⊥

-- the question is `normal`
abbrev pub IsNormal : Question → Type 0
IsNormal (questions.Trivial w) = ⊥
IsNormal (questions.Equal u v) = ⊥
IsNormal (questions.Normal w) = Unit {0}
IsNormal (questions.Hom source images) = ⊥

-- the question is `hom`
abbrev pub IsHom : Question → Type 0
IsHom (questions.Trivial w) = ⊥
IsHom (questions.Equal u v) = ⊥
IsHom (questions.Normal w) = ⊥
IsHom (questions.Hom source images) = Unit {0}

-- a reduction never meets the limit on degrees
abbrev pub IsNotSteep : Stop → Type 0
IsNotSteep (Wide at step) = Unit {0}
IsNotSteep (Long terms step) = Unit {0}
IsNotSteep Deep = Unit {0}
IsNotSteep (Steep degree) = ⊥

-- the verdict may stand for the question
abbrev pub MayAnswer : Question → Verdict → Type 0
MayAnswer q verdicts.Trivial = IsAboutWord q
MayAnswer q verdicts.NotTrivial = IsTest q
MayAnswer q (verdicts.Normal v) = IsNormal q
MayAnswer q verdicts.Extends = IsHom q
MayAnswer q (verdicts.Fails subject) = IsHom q × IsSubject q subject
MayAnswer q (verdicts.Unknown subject) = IsSubject q subject
MayAnswer q (verdicts.Stop subject stop) = IsSubject q subject × IsNotSteep stop

-- ---- what is over n generators

abbrev pub StopIsOver : ℕ → Stop → Type 0
StopIsOver n (Wide at step) = PlaceIsOver n at
StopIsOver n (Long terms step) = Unit {0}
StopIsOver n Deep = Unit {0}
StopIsOver n (Steep degree) = Unit {0}

abbrev pub MadeIsOver : ℕ → Made → Type 0
MadeIsOver n (Gen negated) = Unit {0}
MadeIsOver n (Sum steps) = StepsAreOver n steps

abbrev pub EndIsOver : ℕ → End → Type 0
EndIsOver n ends.Sealed = Unit {0}
EndIsOver n (ends.Stopped task stop) = StopIsOver n stop
EndIsOver n (ends.Full measure count) = Unit {0}
EndIsOver n (ends.Spent commits task) = Unit {0}

abbrev pub VerdictIsOver : ℕ → Verdict → Type 0
VerdictIsOver n verdicts.Trivial = Unit {0}
VerdictIsOver n verdicts.NotTrivial = Unit {0}
VerdictIsOver n (verdicts.Normal v) = VectorIsOver n v
VerdictIsOver n verdicts.Extends = Unit {0}
VerdictIsOver n (verdicts.Fails subject) = Unit {0}
VerdictIsOver n (verdicts.Unknown subject) = Unit {0}
VerdictIsOver n (verdicts.Stop subject stop) = StopIsOver n stop

-- each part of the line is over the presentation's generators, so that the line can be written
abbrev pub LineIsOver : Presented → Line → Type 0
LineIsOver p (lines.Entry number made vector) = MadeIsOver (length p.names) made × VectorIsOver (length p.names) vector
LineIsOver p lines.Seal = Unit {0}
LineIsOver p (lines.Live session number front question verdict) =
    IsQuestion p question × VerdictIsOver (length p.names) verdict
LineIsOver p (lines.Proof subject steps) = StepsAreOver (length p.names) steps
LineIsOver p (lines.End end) = EndIsOver (length p.names) end
LineIsOver p (lines.Close session number question verdict) = IsQuestion p question
    × VerdictIsOver (length p.names) verdict
LineIsOver p lines.Done = Unit {0}

-- ---- what is read: the values with numbers of at most 2^32 - 1

abbrev pub IsStopOf : ℕ → Stop → Type 0
IsStopOf n (Wide at step) = IsPlaceOf n at × IsSmall step
IsStopOf n (Long terms step) = IsSmall terms × IsSmall step
IsStopOf n Deep = Unit {0}
IsStopOf n (Steep degree) = IsSmall degree

abbrev pub IsMadeOf : ℕ → Made → Type 0
IsMadeOf n (Gen negated) = Unit {0}
IsMadeOf n (Sum steps) = AreStepsOf n steps

-- each kind, and each measure
abbrev pub IsKind : PairKind → Type 0
IsKind kind = Unit {0}

abbrev pub IsMeasure : Measure → Type 0
IsMeasure measure = Unit {0}

pub record IsTask (t : Task) : Type 0 where
  pub i : IsSmall t.i
  pub j : IsSmall t.j

abbrev pub IsEndOf : ℕ → End → Type 0
IsEndOf n ends.Sealed = Unit {0}
IsEndOf n (ends.Stopped task stop) = IsTask task × IsStopOf n stop
IsEndOf n (ends.Full measure count) = IsSmall count
IsEndOf n (ends.Spent commits task) = IsSmall commits × IsTask task

abbrev pub IsVerdictOf : ℕ → Verdict → Type 0
IsVerdictOf n verdicts.Trivial = Unit {0}
IsVerdictOf n verdicts.NotTrivial = Unit {0}
IsVerdictOf n (verdicts.Normal v) = IsVectorOf n v
IsVerdictOf n verdicts.Extends = Unit {0}
IsVerdictOf n (verdicts.Fails subject) = IsSmall subject
IsVerdictOf n (verdicts.Unknown subject) = IsSmall subject
IsVerdictOf n (verdicts.Stop subject stop) = IsSmall subject × IsStopOf n stop

-- a question, and a verdict that may stand for it
pub record IsAnswer (p : Presented) (q : Question) (v : Verdict) : Type 0 where
  pub question : IsWritable p q
  pub verdict : IsVerdictOf (length p.names) v
  pub answers : MayAnswer q v

-- a line of a report over p; that the images of a homomorphism are short is another rule
abbrev pub IsLineOf : Presented → Line → Type 0
IsLineOf p (lines.Entry number made vector) = IsSmall number
    × (IsMadeOf (length p.names) made × IsVectorOf (length p.names) vector)
IsLineOf p lines.Seal = Unit {0}
IsLineOf p (lines.Live session number front question verdict) = IsSmall session
    × (IsSmall number × (IsSmall front × IsAnswer p question verdict))
IsLineOf p (lines.Proof subject steps) = IsSmall subject × AreStepsOf (length p.names) steps
IsLineOf p (lines.End end) = IsEndOf (length p.names) end
IsLineOf p (lines.Close session number question verdict) = IsSmall session
    × (IsSmall number × IsAnswer p question verdict)
IsLineOf p lines.Done = Unit {0}
