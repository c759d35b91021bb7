-- No line end stands within a line of a report.
use Rattle.std.proofs.Common.{inl, ℕ, true, false, List, [], ◌∷◌, ◌++◌, length, codes, decimal, refl, arith}
use Rattle.std.specs.List.{AllByRecursion}
use Rattle.spelling.specs.Spelling.{IsSmall, coefficient}
use Rattle.spelling.proofs.Lacking.{coefficient_lacks}
use Rattle.word_text.specs.Scan.{is_name_byte, is_letter, is_digit}
use Rattle.presentation.specs.Presented.{Presented, IsPresented}
use Rattle.presentation.specs.Writing.{written_presentation}
use Rattle.presentation.proofs.WritingBack.{AreNames, names_of}
use Rattle.module_vec.specs.declared.places.Term.{Term}
use Rattle.module_vec.specs.declared.steps.Step.{Step}
use Rattle.module_vec.specs.declared.faults.Stop.{Stop}
use Rattle.module_vec.specs.declared.faults.Stop.TheVariants as stops
use Rattle.module_vec.specs.Vectors.{IsTerm}
use Rattle.outcomes.specs.declared.kinds.PairKind.{PairKind}
use Rattle.outcomes.specs.declared.kinds.PairKind.TheVariants.{G, S}
use Rattle.outcomes.specs.declared.tasks.Task.{Task}
use Rattle.outcomes.specs.declared.ends.Measure.{Measure}
use Rattle.outcomes.specs.declared.ends.Measure.TheVariants as measures
use Rattle.outcomes.specs.declared.ends.End.{End}
use Rattle.outcomes.specs.declared.ends.End.TheVariants as ends
use Rattle.outcomes.specs.declared.verdicts.Verdict.{Verdict}
use Rattle.outcomes.specs.declared.verdicts.Verdict.TheVariants as verdicts
use Rattle.session_text.specs.declared.question.Question.{Question}
use Rattle.session_text.specs.Writing.{written_question}
use Rattle.vector_text.specs.Spelling.{place_text, term_text, vector_text}
use Rattle.vector_text.specs.Over.{PlaceIsOver, VectorIsOver, IsVectorOf}
use Rattle.vector_text.proofs.Parts.{listed_lacks, all_weaker}
use Rattle.vector_text.proofs.PlaceTexts.{place_lacks}
use Rattle.vector_text.proofs.Writing.{spelled_coefficient}
use Rattle.step_text.specs.Spelling.{step_text, steps_text}
use Rattle.step_text.specs.Over.{AreStepsOf}
use Rattle.step_text.proofs.StepTexts.{IsOutside, step_lacks}
use Rattle.report_lines.specs.declared.lines.Made.{Made}
use Rattle.report_lines.specs.declared.lines.Made.TheVariants.{Gen, Sum}
use Rattle.report_lines.specs.declared.lines.Line.{Line}
use Rattle.report_lines.specs.declared.lines.Line.TheVariants as lines
use Rattle.report_lines.specs.Texts.{pres_line, spaced, coloned, made_text, stop_text, kind_text, task_text, measure_text, end_text, verdict_text, answer_text}
use Rattle.report_lines.specs.Texts.{line_text}
use Rattle.report_lines.specs.Lines.{IsStopOf, IsMadeOf, IsTask, IsEndOf, IsVerdictOf, IsAnswer, IsLineOf}
use Rattle.report_lines.specs.declared.trimmed.TrimmedLine.{TrimmedLine}
use Rattle.report_lines.specs.declared.trimmed.TrimmedLine.TheVariants as trimmed
use Rattle.report_lines.specs.Trimmed.{items_line, recipe_text, trimmed_line_text, IsTrimmedLineOf}
use Rattle.report_reading.specs.declared.form.Form.{Form}
use Rattle.report_reading.specs.declared.form.Form.TheVariants.{Whole, Trimmed}
use Rattle.report_reading.specs.Forms.{LineIn, IsLineIn, text_in}
use Rattle.report_lines.proofs.Pairs.{literal}
use Rattle.report_reading.proofs.WordBytes.{IsOneLine, number_line, join_line, presentation_line, question_line}

outside : IsOutside 10
unfolding is_name_byte is_letter is_digit
outside = record {
  other = record { name = refl; digit = inl (omega arith); tick = λ e. omega (arith, e); hat = λ e. omega (arith, e) };
  point = λ e. omega (arith, e);
  plus = λ e. omega (arith, e);
  minus = λ e. omega (arith, e);
  star = refl;
  at = refl;
}

small_line : (n : ℕ) → IsSmall n → IsOneLine (decimal n)
small_line n h = number_line n (omega (arith, h))

spaced_line : (a b : List ℕ) → IsOneLine a → IsOneLine b → IsOneLine (spaced a b)
spaced_line a b h k = join_line a (codes " " ++ b) h (refl, k)

coloned_line : (a b : List ℕ) → IsOneLine a → IsOneLine b → IsOneLine (coloned a b)
coloned_line a b h k = join_line a (codes " : " ++ b) h (refl, (refl, (refl, k)))

kind_line : (k : PairKind) → IsOneLine (kind_text k)
kind_line G = (refl, tt)
kind_line S = (refl, tt)

task_line : (t : Task) → IsTask t → IsOneLine (task_text t)
task_line t h = spaced_line (decimal t.i) (spaced (decimal t.j) (kind_text t.kind)) (small_line t.i h.i)
    (spaced_line (decimal t.j) (kind_text t.kind) (small_line t.j h.j) (kind_line t.kind))

measure_line : (m : Measure) → IsOneLine (measure_text m)
measure_line measures.Entries = literal 10 (codes "entries") refl
measure_line measures.Terms = literal 10 (codes "terms") refl
measure_line measures.Steps = literal 10 (codes "steps") refl

module _ (names : List (List ℕ)) (known : AreNames names) where
  term_line : (t : Term) → IsTerm t → PlaceIsOver (length names) t.at → IsOneLine (term_text names t)
  term_line t h over =
      join_line (coefficient t.k) (42 ∷ place_text names t.at)
      (coefficient_lacks 10 t.k (inl (omega arith)) (λ e. omega (arith, e)) (λ e. omega (arith, e)) (spelled_coefficient t h))
      (refl, place_lacks 10 names t.at outside.other outside.point (λ e. omega (arith, e)) known (record { place = h.place; over = over }))

  term_lines : (v : List Term) → AllByRecursion IsTerm v → VectorIsOver (length names) v → AllByRecursion (λ t. IsOneLine (term_text names t)) v
  term_lines [] h over = tt
  term_lines (t ∷ v) h over = (term_line t h.0 over.0, term_lines v h.1 over.1)

  vector_line : (v : List Term) → IsVectorOf (length names) v → IsOneLine (vector_text names v)
  vector_line [] h = (refl, tt)
  vector_line (t ∷ v) h = listed_lacks 10 32 (term_text names) (t ∷ v) (λ e. omega (arith, e)) (term_lines (t ∷ v) h.vector.sparse.terms h.over)

  steps_line : (ss : List Step) → AreStepsOf (length names) ss → IsOneLine (steps_text names ss)
  steps_line [] h = (refl, tt)
  steps_line (s ∷ ss) h = listed_lacks 10 32 (step_text names) (s ∷ ss) (λ e. omega (arith, e))
      (all_weaker (s ∷ ss) (λ x q. step_lacks 10 names outside known x q) h)

  made_line : (m : Made) → IsMadeOf (length names) m → IsOneLine (made_text names m)
  made_line (Gen true) h = literal 10 (codes "gen -") refl
  made_line (Gen false) h = literal 10 (codes "gen +") refl
  made_line (Sum steps) h = join_line (codes "sum ") (steps_text names steps) (literal 10 (codes "sum ") refl) (steps_line steps h)

  stop_line : (s : Stop) → IsStopOf (length names) s → IsOneLine (stop_text names s)
  stop_line (stops.Wide at step) h =
      join_line (codes "wide ") (spaced (decimal step) (place_text names at)) (literal 10 (codes "wide ") refl)
      (spaced_line (decimal step) (place_text names at) (small_line step h.1) (place_lacks 10 names at outside.other outside.point
      (λ e. omega (arith, e)) known h.0))
  stop_line (stops.Long terms step) h =
      join_line (codes "long ") (spaced (decimal step) (decimal terms)) (literal 10 (codes "long ") refl)
      (spaced_line (decimal step) (decimal terms) (small_line step h.1) (small_line terms h.0))
  stop_line stops.Deep h = literal 10 (codes "deep") refl
  stop_line (stops.Steep degree) h = join_line (codes "steep ") (decimal degree) (literal 10 (codes "steep ") refl) (small_line degree h)

  end_line : (e : End) → IsEndOf (length names) e → IsOneLine (end_text names e)
  end_line ends.Sealed h = literal 10 (codes "sealed") refl
  end_line (ends.Stopped task stop) h =
      join_line (codes "stopped ") (spaced (task_text task) (stop_text names stop)) (literal 10 (codes "stopped ") refl)
      (spaced_line (task_text task) (stop_text names stop) (task_line task h.0) (stop_line stop h.1))
  end_line (ends.Full measure count) h =
      join_line (codes "full ") (spaced (measure_text measure) (decimal count)) (literal 10 (codes "full ") refl)
      (spaced_line (measure_text measure) (decimal count) (measure_line measure) (small_line count h))
  end_line (ends.Spent commits task) h =
      join_line (codes "spent ") (spaced (decimal commits) (task_text task)) (literal 10 (codes "spent ") refl)
      (spaced_line (decimal commits) (task_text task) (small_line commits h.0) (task_line task h.1))

  verdict_line : (v : Verdict) → IsVerdictOf (length names) v → IsOneLine (verdict_text names v)
  verdict_line verdicts.Trivial h = literal 10 (codes "trivial") refl
  verdict_line verdicts.NotTrivial h = literal 10 (codes "not-trivial") refl
  verdict_line (verdicts.Normal v) h = join_line (codes "normal ") (vector_text names v) (literal 10 (codes "normal ") refl) (vector_line v h)
  verdict_line verdicts.Extends h = literal 10 (codes "extends") refl
  verdict_line (verdicts.Fails j) h = join_line (codes "fails ") (decimal j) (literal 10 (codes "fails ") refl) (small_line j h)
  verdict_line (verdicts.Unknown j) h = join_line (codes "unknown ") (decimal j) (literal 10 (codes "unknown ") refl) (small_line j h)
  verdict_line (verdicts.Stop j stop) h =
      join_line (codes "stop ") (spaced (decimal j) (stop_text names stop)) (literal 10 (codes "stop ") refl)
      (spaced_line (decimal j) (stop_text names stop) (small_line j h.0) (stop_line stop h.1))

module _ (p : Presented) (known : IsPresented p) where
  answer_line : (q : Question) (v : Verdict) → IsAnswer p q v → IsOneLine (answer_text p.names q v)
  answer_line q v h = coloned_line (written_question p.names q) (verdict_text p.names v) (question_line p known q h.question)
      (verdict_line p.names (names_of p known) v h.verdict)

  pub whole_line : (l : Line) → IsLineOf p l → IsOneLine (line_text p l)
  whole_line (lines.Entry number made vector) h =
      join_line (codes "entry ") (spaced (decimal number) (coloned (made_text p.names made) (vector_text p.names vector))) (literal 10 (codes "entry ") refl)
      (spaced_line (decimal number) (coloned (made_text p.names made) (vector_text p.names vector)) (small_line number h.0)
      (coloned_line (made_text p.names made) (vector_text p.names vector) (made_line p.names (names_of p known) made h.1.0)
      (vector_line p.names (names_of p known) vector h.1.1)))
  whole_line lines.Seal h = literal 10 (codes "seal") refl
  whole_line (lines.Live session number front question verdict) h =
      let answer : IsOneLine (answer_text p.names question verdict) = answer_line question verdict h.1.1.1 in
      let from : IsOneLine (spaced (decimal front) (answer_text p.names question verdict)) =
      spaced_line (decimal front) (answer_text p.names question verdict) (small_line front h.1.1.0) answer in
      let numbered : IsOneLine (spaced (decimal number) (spaced (decimal front) (answer_text p.names question verdict))) =
      spaced_line (decimal number) (spaced (decimal front) (answer_text p.names question verdict)) (small_line number h.1.0) from in
      join_line (codes "live ") (spaced (decimal session) (spaced (decimal number) (spaced (decimal front) (answer_text p.names question verdict))))
      (literal 10 (codes "live ") refl)
      (spaced_line (decimal session) (spaced (decimal number) (spaced (decimal front) (answer_text p.names question verdict)))
      (small_line session h.0) numbered)
  whole_line (lines.Proof subject steps) h =
      join_line (codes "proof ") (spaced (decimal subject) (steps_text p.names steps)) (literal 10 (codes "proof ") refl)
      (spaced_line (decimal subject) (steps_text p.names steps) (small_line subject h.0) (steps_line p.names (names_of p known) steps h.1))
  whole_line (lines.End end) h = join_line (codes "end ") (end_text p.names end) (literal 10 (codes "end ") refl) (end_line p.names (names_of p known) end h)
  whole_line (lines.Close session number question verdict) h =
      let answer : IsOneLine (answer_text p.names question verdict) = answer_line question verdict h.1.1 in
      join_line (codes "close ") (spaced (decimal session) (spaced (decimal number) (answer_text p.names question verdict))) (literal 10 (codes "close ") refl)
      (spaced_line (decimal session) (spaced (decimal number) (answer_text p.names question verdict)) (small_line session h.0)
      (spaced_line (decimal number) (answer_text p.names question verdict) (small_line number h.1.0) answer))
  whole_line lines.Done h = literal 10 (codes "done") refl

  pub head_line : IsOneLine (pres_line p)
  head_line = join_line (codes "pres ") (written_presentation p) (literal 10 (codes "pres ") refl) (presentation_line p known)

  whole_trimmed_line : (l : TrimmedLine) → IsTrimmedLineOf p l → IsOneLine (trimmed_line_text p l)
  whole_trimmed_line (trimmed.Entry number from made vector) h =
      let last : IsOneLine (recipe_text p made vector) =
      coloned_line (made_text p.names made) (vector_text p.names vector) (made_line p.names (names_of p known) made h.1.1.0)
      (vector_line p.names (names_of p known) vector h.1.1.1) in
      let placed : IsOneLine (codes "from " ++ spaced (decimal from) (recipe_text p made vector)) =
      join_line (codes "from ") (spaced (decimal from) (recipe_text p made vector)) (literal 10 (codes "from ") refl)
      (spaced_line (decimal from) (recipe_text p made vector) (small_line from h.1.0) last) in
      join_line (codes "entry ") (spaced (decimal number) (codes "from " ++ spaced (decimal from) (recipe_text p made vector)))
      (literal 10 (codes "entry ") refl)
      (spaced_line (decimal number) (codes "from " ++ spaced (decimal from) (recipe_text p made vector)) (small_line number h.0) placed)
  whole_trimmed_line (trimmed.Other l) h = whole_line l h.1

  pub whole_line_in : (f : Form) (l : LineIn f) → IsLineIn f p l → IsOneLine (text_in f p l)
  whole_line_in Whole l h = whole_line l h
  whole_line_in (Trimmed n) l h = whole_trimmed_line l h

pub items_whole : (n : ℕ) → IsSmall n → IsOneLine (items_line n)
items_whole n h = join_line (codes "items ") (decimal n) (literal 10 (codes "items ") refl) (small_line n h)
