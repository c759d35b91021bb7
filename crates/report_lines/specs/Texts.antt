-- The one spelling of the lines of a report, without their line ends, over the names of generators.
use Rattle.std.specs.List.{flat_map}
use Rattle.std.specs.Prelude.{ℕ, if◌then◌else◌, codes, decimal, List, [], ◌∷◌, ◌++◌}
use Rattle.presentation.specs.Presented.{Presented}
use Rattle.presentation.specs.Writing.{written_presentation}
use Rattle.module_vec.specs.declared.faults.Stop.{Stop}
use Rattle.module_vec.specs.declared.faults.Stop.TheVariants.{Wide, Long, Deep, Steep}
use Rattle.outcomes.specs.declared.kinds.PairKind.{PairKind}
use Rattle.outcomes.specs.declared.kinds.PairKind.TheVariants.{G, S}
use Rattle.outcomes.specs.declared.tasks.Task.{Task}
use Rattle.outcomes.specs.declared.ends.Measure.{Measure}
use Rattle.outcomes.specs.declared.ends.Measure.TheVariants.{Entries, Terms, Steps}
use Rattle.outcomes.specs.declared.ends.End.{End}
use Rattle.outcomes.specs.declared.ends.End.TheVariants as ends
use Rattle.outcomes.specs.declared.verdicts.Verdict.{Verdict}
use Rattle.outcomes.specs.declared.verdicts.Verdict.TheVariants as verdicts
use Rattle.session_text.specs.declared.question.Question.{Question}
use Rattle.session_text.specs.Writing.{written_question}
use Rattle.vector_text.specs.Spelling.{place_text, vector_text}
use Rattle.step_text.specs.Spelling.{steps_text}
use Rattle.report_lines.specs.declared.lines.Made.{Made}
use Rattle.report_lines.specs.declared.lines.Made.TheVariants.{Gen, Sum}
use Rattle.report_lines.specs.declared.lines.Line.{Line}
use Rattle.report_lines.specs.declared.lines.Line.TheVariants as lines

-- the first line
abbrev pub title : List ℕ
title = codes "metab report 1"

-- the second line
abbrev pub pres_line : Presented → List ℕ
pres_line p = codes "pres " ++ written_presentation p

-- two parts with one space between them
abbrev pub spaced : List ℕ → List ℕ → List ℕ
spaced a b = a ++ (codes " " ++ b)

-- two parts with a colon between them, and a space on each side of it
abbrev pub coloned : List ℕ → List ℕ → List ℕ
coloned a b = a ++ (codes " : " ++ b)

-- how an entry was made: the sign of a generator, or the steps of a sum
abbrev pub made_text : List (List ℕ) → Made → List ℕ
made_text names (Gen negated) = if negated then codes "gen -" else codes "gen +"
made_text names (Sum steps) = codes "sum " ++ steps_text names steps

-- the reason of a stop
abbrev pub stop_text : List (List ℕ) → Stop → List ℕ
stop_text names (Wide at step) = codes "wide " ++ spaced (decimal step) (place_text names at)
stop_text names (Long terms step) = codes "long " ++ spaced (decimal step) (decimal terms)
stop_text names Deep = codes "deep"
stop_text names (Steep degree) = codes "steep " ++ decimal degree

abbrev pub kind_text : PairKind → List ℕ
kind_text G = codes "G"
kind_text S = codes "S"

abbrev pub task_text : Task → List ℕ
task_text t = spaced (decimal t.i) (spaced (decimal t.j) (kind_text t.kind))

abbrev pub measure_text : Measure → List ℕ
measure_text Entries = codes "entries"
measure_text Terms = codes "terms"
measure_text Steps = codes "steps"

abbrev pub end_text : List (List ℕ) → End → List ℕ
end_text names ends.Sealed = codes "sealed"
end_text names (ends.Stopped task stop) = codes "stopped " ++ spaced (task_text task) (stop_text names stop)
end_text names (ends.Full measure count) = codes "full " ++ spaced (measure_text measure) (decimal count)
end_text names (ends.Spent commits task) = codes "spent " ++ spaced (decimal commits) (task_text task)

abbrev pub verdict_text : List (List ℕ) → Verdict → List ℕ
verdict_text names verdicts.Trivial = codes "trivial"
verdict_text names verdicts.NotTrivial = codes "not-trivial"
verdict_text names (verdicts.Normal v) = codes "normal " ++ vector_text names v
verdict_text names verdicts.Extends = codes "extends"
verdict_text names (verdicts.Fails subject) = codes "fails " ++ decimal subject
verdict_text names (verdicts.Unknown subject) = codes "unknown " ++ decimal subject
verdict_text names (verdicts.Stop subject stop) = codes "stop " ++ spaced (decimal subject) (stop_text names stop)

-- a question and its verdict
abbrev pub answer_text : List (List ℕ) → Question → Verdict → List ℕ
answer_text names q v = coloned (written_question names q) (verdict_text names v)

abbrev pub line_text : Presented → Line → List ℕ
line_text p (lines.Entry number made vector) =
    codes "entry " ++ spaced (decimal number) (coloned (made_text p.names made) (vector_text p.names vector))
line_text p lines.Seal = codes "seal"
line_text p (lines.Live session number front question verdict) =
    codes "live " ++ spaced (decimal session) (spaced (decimal number)
    (spaced (decimal front) (answer_text p.names question verdict)))
line_text p (lines.Proof subject steps) = codes "proof " ++ spaced (decimal subject) (steps_text p.names steps)
line_text p (lines.End end) = codes "end " ++ end_text p.names end
line_text p (lines.Close session number question verdict) =
    codes "close " ++ spaced (decimal session) (spaced (decimal number) (answer_text p.names question verdict))
line_text p lines.Done = codes "done"

-- each of these lines, with its end
abbrev pub lines_text : Presented → List Line → List ℕ
lines_text p ls = flat_map (λ l. line_text p l ++ 10 ∷ []) ls

-- a whole report: the two lines at the head, and these lines
abbrev pub report_text : Presented → List Line → List ℕ
report_text p ls = title ++ 10 ∷ (pres_line p ++ 10 ∷ lines_text p ls)
