-- What is written is read back.
use Rattle.std.proofs.Common.{◌≡◌, ℕ, List, [], ◌∷◌, length, Option, Some, None, sym, ap, ◌∙◌}
use Rattle.presentation.specs.Presented.{Presented, IsPresented}
use Rattle.spelling.specs.Spelling.{IsRead}
use Rattle.module_vec.specs.declared.faults.Stop.{Stop}
use Rattle.module_vec.specs.declared.faults.Stop.TheVariants.{Wide, Long, Deep, Steep}
use Rattle.module_vec.specs.declared.steps.Step.{Step}
use Rattle.outcomes.specs.declared.ends.End as ends
use Rattle.outcomes.specs.declared.ends.End.TheVariants.{Sealed, Stopped, Full, Spent}
use Rattle.outcomes.specs.declared.verdicts.Verdict as verdicts
use Rattle.outcomes.specs.declared.verdicts.Verdict.TheVariants as verdict
use Rattle.session_text.proofs.QuestionLemmas.{written_is_over}
use Rattle.step_text.specs.Over.{StepsAreOver, AreStepsOf}
use Rattle.report_lines.specs.declared.lines.Made.{Made}
use Rattle.report_lines.specs.declared.lines.Made.TheVariants.{Gen, Sum}
use Rattle.report_lines.specs.declared.lines.Line.{Line}
use Rattle.report_lines.specs.declared.lines.Line.TheVariants.{Entry, Seal, Live, Proof, End, Close, Done}
use Rattle.report_lines.specs.Texts.{line_text}
use Rattle.report_lines.specs.Lines.{StopIsOver, MadeIsOver, EndIsOver, VerdictIsOver, LineIsOver, IsStopOf, IsMadeOf, IsEndOf, IsVerdictOf, IsLineOf}
use Rattle.report_lines.specs.Reading.{IsLineReadBack}
use Rattle.report_lines.proofs.LineTexts.{line_same}

pub one_line : (p : Presented) (l m : Line) → IsPresented p → IsLineOf p l → IsLineOf p m → line_text p l ≡ line_text p m → l ≡ m
one_line p l m known h k e = line_same p known l m h k e

pub line_back : (p : Presented) (l : Line) (text : List ℕ) → IsPresented p → IsLineOf p l → text ≡ line_text p l → IsLineReadBack p l text
line_back p l text known h e = λ read r. by read r where
  by : (read : Option Line) → IsRead (line_text p) (IsLineOf p) text read → read ≡ Some l
  by (Some m) r = ap (λ (x : Line). Some x) (line_same p known m l r.0 h (sym r.1 ∙ e))
  by None r = absurd (r l h e)

-- ---- what is read can be written

steps_are_over : (n : ℕ) (ss : List Step) → AreStepsOf n ss → StepsAreOver n ss
steps_are_over n [] h = tt
steps_are_over n (s ∷ ss) h = (record { nonzero = h.0.nonzero; range = h.0.range; mono = h.0.mono.over }, steps_are_over n ss h.1)

pub made_is_over : (n : ℕ) (m : Made) → IsMadeOf n m → MadeIsOver n m
made_is_over n (Gen negated) h = tt
made_is_over n (Sum steps) h = steps_are_over n steps h

stop_is_over : (n : ℕ) (s : Stop) → IsStopOf n s → StopIsOver n s
stop_is_over n (Wide at step) h = (h.0).over
stop_is_over n (Long terms step) h = tt
stop_is_over n Deep h = tt
stop_is_over n (Steep degree) h = tt

end_is_over : (n : ℕ) (e : ends.End) → IsEndOf n e → EndIsOver n e
end_is_over n Sealed h = tt
end_is_over n (Stopped task stop) h = stop_is_over n stop h.1
end_is_over n (Full measure count) h = tt
end_is_over n (Spent commits task) h = tt

verdict_is_over : (n : ℕ) (v : verdicts.Verdict) → IsVerdictOf n v → VerdictIsOver n v
verdict_is_over n verdict.Trivial h = tt
verdict_is_over n verdict.NotTrivial h = tt
verdict_is_over n (verdict.Normal v) h = h.over
verdict_is_over n verdict.Extends h = tt
verdict_is_over n (verdict.Fails subject) h = tt
verdict_is_over n (verdict.Unknown subject) h = tt
verdict_is_over n (verdict.Stop subject stop) h = stop_is_over n stop h.1

pub line_is_over : (p : Presented) (l : Line) → IsLineOf p l → LineIsOver p l
line_is_over p (Entry number made vector) h = (made_is_over (length p.names) made h.1.0, h.1.1.over)
line_is_over p Seal h = tt
line_is_over p (Live session number front question verdict) h =
    (written_is_over p question h.1.1.1.question.0, verdict_is_over (length p.names) verdict h.1.1.1.verdict)
line_is_over p (Proof subject steps) h = steps_are_over (length p.names) steps h.1
line_is_over p (End end) h = end_is_over (length p.names) end h
line_is_over p (Close session number question verdict) h =
    (written_is_over p question h.1.1.question.0, verdict_is_over (length p.names) verdict h.1.1.verdict)
line_is_over p Done h = tt
