-- A question has one verdict, and what is shown has one proof.
use Rattle.std.proofs.Common.{◌≡◌, ◌⊎◌, inl, inr, ℕ, zero, suc, ◌<◌, List, [], length, Option, refl, sym, ap, subst, ◌∙◌, arith}
use Rattle.std.specs.List.{AllByRecursion}
use Rattle.free_words.specs.declared.letter.Letter.{Letter}
use Rattle.presentation.specs.Presented.{Presented}
use Rattle.module_vec.specs.declared.places.Term.{Term}
use Rattle.module_vec.specs.declared.steps.Step.{Step}
use Rattle.module_vec.specs.declared.faults.Stop.{Stop}
use Rattle.module_vec.specs.Reducers.{AreEntries}
use Rattle.vector_text.specs.Over.{VectorIsOver}
use Rattle.reduce_cofactor.proofs.Answering.{one_rest, rest_or_stop, one_stop}
use Rattle.report_lines.specs.Lines.{VerdictIsOver}
use Rattle.session_text.specs.declared.question.Question.{Question}
use Rattle.session_text.specs.declared.question.Question.TheVariants as questions
use Rattle.hom_check.specs.Subjects.{subject_at}
use Rattle.hom_check.specs.Shown.{fox_at, EndsIn, IsShown, LeavesRest, StopsAt, IsFirstUnshown}
use Rattle.hom_check.proofs.Fitting.{Fits, all_at, subject_fits}
use Rattle.basis_entry.specs.Seals.{Seal}
use Rattle.outcomes.specs.declared.verdicts.Verdict.{Verdict}
use Rattle.outcomes.specs.declared.verdicts.Verdict.TheVariants as verdicts
use Rattle.session_core.specs.Proofs.{AreStepsOf}
use Rattle.session_core.specs.Questions.{CanBeAsked, AsksWhetherTrivial, AsksForNormal, AsksWhetherExtends}
use Rattle.session_core.specs.Verdicts.{AllAreShown, LeavesSome, IsVerdict}
use Rattle.report_text.specs.Answers.{to_show}
use Rattle.report_text.proofs.Chains.{rest_over, stop_over}

pub one_proof : (b : List (List Term)) (w : List Letter) (ss rs : List Step) → AreStepsOf b w ss → AreStepsOf b w rs → ss ≡ rs
one_proof b w ss rs h g = let same = one_rest b (fox_at w) h.0 g.0 ss rs h.1 g.1 in same.1

-- ---- how the chain of a word ends

module _ (b : List (List Term)) (w : List Letter) where
  one_end : (v u : List Term) → EndsIn b v w → EndsIn b u w → v ≡ u
  one_end v u h g = let same = one_rest b (fox_at w) v u h.0 g.0 h.1 g.1 in same.0

  end_or_stop : (v : List Term) (stop : Stop) → EndsIn b v w → StopsAt b stop w → ⊥
  end_or_stop v stop h g = rest_or_stop b (fox_at w) v h.0 stop h.1 g

  shown_or_rest : (v : List Term) → IsShown b w → LeavesRest b v w → ⊥
  shown_or_rest v h g = g.0 (sym (one_end [] v h g.1))

  pub shown_or_some : IsShown b w → LeavesSome b w → ⊥
  shown_or_some h g = shown_or_rest g.0 h g.1

  pub shown_or_stop : (stop : Stop) → IsShown b w → StopsAt b stop w → ⊥
  shown_or_stop stop h g = end_or_stop [] stop h g

  some_or_stop : (stop : Stop) → LeavesSome b w → StopsAt b stop w → ⊥
  some_or_stop stop h g = end_or_stop h.0 stop h.1.1 g

-- ---- the first subject that isn't shown

module _ (b : List (List Term)) (q : Question) where
  none_first : (j : ℕ) (G : List Letter → Type 0) → ((w : List Letter) → IsShown b w → G w → ⊥) → AllAreShown b q → IsFirstUnshown b q j G → ⊥
  none_first j G apart all first = apart (subject_at q j) (all_at (IsShown b) q j all first.number first.within) first.goes

  data Order (i j : ℕ) : Type 0 where
    less : i < j → Order i j
    same : i ≡ j → Order i j
    more : j < i → Order i j

  order : (i j : ℕ) → Order i j
  order zero zero = same refl
  order zero (suc j) = less (omega arith)
  order (suc i) zero = more (omega arith)
  order (suc i) (suc j) = up (order i j)
    where
      up : Order i j → Order (suc i) (suc j)
      up (less h) = less (omega (arith, h))
      up (same h) = same (ap (λ k. suc k) h)
      up (more h) = more (omega (arith, h))

  one_first : (i j : ℕ) (G H : List Letter → Type 0) → ((w : List Letter) → IsShown b w → G w → ⊥) → ((w : List Letter) → IsShown b w → H w → ⊥)
      → IsFirstUnshown b q i G → IsFirstUnshown b q j H → i ≡ j
  one_first i j G H g_apart h_apart g h = by (order i j)
    where
      by : Order i j → i ≡ j
      by (less lt) = absurd (g_apart (subject_at q i) (h.before i g.number lt) g.goes)
      by (same e) = e
      by (more lt) = absurd (h_apart (subject_at q j) (g.before j h.number lt) h.goes)

  both_first : (i j : ℕ) (G H : List Letter → Type 0) → ((w : List Letter) → IsShown b w → G w → ⊥) → ((w : List Letter) → IsShown b w → H w → ⊥)
      → IsFirstUnshown b q i G → IsFirstUnshown b q j H → G (subject_at q j) × H (subject_at q j)
  both_first i j G H g_apart h_apart g h = (subst (λ k. G (subject_at q k)) (one_first i j G H g_apart h_apart g h) g.goes, h.goes)

  some_first : (v : List Term) (j : ℕ) → IsFirstUnshown b q j (LeavesRest b v) → IsFirstUnshown b q j (LeavesSome b)
  some_first v j h = record { number = h.number; within = h.within; goes = (v, h.goes); before = h.before }

  all_some : (j : ℕ) → AllAreShown b q → IsFirstUnshown b q j (LeavesSome b) → ⊥
  all_some j all first = none_first j (LeavesSome b) (λ w. shown_or_some b w) all first

  all_stop : (j : ℕ) (stop : Stop) → AllAreShown b q → IsFirstUnshown b q j (StopsAt b stop) → ⊥
  all_stop j stop all first = none_first j (StopsAt b stop) (λ w. shown_or_stop b w stop) all first

  some_stop : (i j : ℕ) (stop : Stop) → IsFirstUnshown b q i (LeavesSome b) → IsFirstUnshown b q j (StopsAt b stop) → ⊥
  some_stop i j stop g h =
      let both = both_first i j (LeavesSome b) (StopsAt b stop) (λ w. shown_or_some b w) (λ w. shown_or_stop b w stop) g h in
      some_or_stop b (subject_at q j) stop both.0 both.1

  same_some : (i j : ℕ) → IsFirstUnshown b q i (LeavesSome b) → IsFirstUnshown b q j (LeavesSome b) → i ≡ j
  same_some i j g h = one_first i j (LeavesSome b) (LeavesSome b) (λ w. shown_or_some b w) (λ w. shown_or_some b w) g h

  same_rest : (v u : List Term) → IsFirstUnshown b q 1 (LeavesRest b v) → IsFirstUnshown b q 1 (LeavesRest b u) → v ≡ u
  same_rest v u g h = one_end b (subject_at q 1) v u g.goes.1 h.goes.1

  same_number : (i j : ℕ) (s t : Stop) → IsFirstUnshown b q i (StopsAt b s) → IsFirstUnshown b q j (StopsAt b t) → i ≡ j
  same_number i j s t g h = one_first i j (StopsAt b s) (StopsAt b t) (λ w. shown_or_stop b w s) (λ w. shown_or_stop b w t) g h

  same_stop : (i j : ℕ) (s t : Stop) → IsFirstUnshown b q i (StopsAt b s) → IsFirstUnshown b q j (StopsAt b t) → s ≡ t
  same_stop i j s t g h =
      let both = both_first i j (StopsAt b s) (StopsAt b t) (λ w. shown_or_stop b w s) (λ w. shown_or_stop b w t) g h in
      one_stop b (fox_at (subject_at q j)) s t both.0 both.1

-- ---- kinds of questions

word_or_map : (q : Question) → (AsksWhetherTrivial q ⊎ AsksForNormal q) → AsksWhetherExtends q → ⊥
word_or_map (questions.Trivial w) h g = g
word_or_map (questions.Equal u v) h g = g
word_or_map (questions.Normal w) h g = g
word_or_map (questions.Hom source images) (inl h) g = h
word_or_map (questions.Hom source images) (inr h) g = h

test_or_normal : (q : Question) → AsksWhetherTrivial q → AsksForNormal q → ⊥
test_or_normal (questions.Trivial w) h g = g
test_or_normal (questions.Equal u v) h g = g
test_or_normal (questions.Normal w) h g = h
test_or_normal (questions.Hom source images) h g = h

-- ---- one verdict

module _ (p : Presented) (b : List (List Term)) (seal : Option Seal) (q : Question) where
  pub one_verdict : (v w : Verdict) → IsVerdict p b seal q v → IsVerdict p b seal q w → v ≡ w
  one_verdict verdicts.Trivial verdicts.Trivial h g = refl
  one_verdict verdicts.Trivial verdicts.NotTrivial h g = absurd (all_some b q 1 h.1 g.2)
  one_verdict verdicts.Trivial (verdicts.Normal u) h g = absurd (all_some b q 1 h.1 (some_first b q u 1 g.2))
  one_verdict verdicts.Trivial verdicts.Extends h g = absurd (word_or_map q h.0 g.0)
  one_verdict verdicts.Trivial (verdicts.Fails j) h g = absurd (all_some b q j h.1 g.2)
  one_verdict verdicts.Trivial (verdicts.Unknown j) h g = absurd (all_some b q j h.1 g.1)
  one_verdict verdicts.Trivial (verdicts.Stop j t) h g = absurd (all_stop b q j t h.1 g)
  one_verdict verdicts.NotTrivial verdicts.Trivial h g = absurd (all_some b q 1 g.1 h.2)
  one_verdict verdicts.NotTrivial verdicts.NotTrivial h g = refl
  one_verdict verdicts.NotTrivial (verdicts.Normal u) h g = absurd (test_or_normal q h.1 g.1)
  one_verdict verdicts.NotTrivial verdicts.Extends h g = absurd (all_some b q 1 g.1 h.2)
  one_verdict verdicts.NotTrivial (verdicts.Fails j) h g = absurd (word_or_map q (inl h.1) g.1)
  one_verdict verdicts.NotTrivial (verdicts.Unknown j) h g = absurd (g.0 h.0)
  one_verdict verdicts.NotTrivial (verdicts.Stop j t) h g = absurd (some_stop b q 1 j t h.2 g)
  one_verdict (verdicts.Normal v) verdicts.Trivial h g = absurd (all_some b q 1 g.1 (some_first b q v 1 h.2))
  one_verdict (verdicts.Normal v) verdicts.NotTrivial h g = absurd (test_or_normal q g.1 h.1)
  one_verdict (verdicts.Normal v) (verdicts.Normal u) h g = ap (λ x. verdicts.Normal x) (same_rest b q v u h.2 g.2)
  one_verdict (verdicts.Normal v) verdicts.Extends h g = absurd (all_some b q 1 g.1 (some_first b q v 1 h.2))
  one_verdict (verdicts.Normal v) (verdicts.Fails j) h g = absurd (word_or_map q (inr h.1) g.1)
  one_verdict (verdicts.Normal v) (verdicts.Unknown j) h g = absurd (g.0 h.0)
  one_verdict (verdicts.Normal v) (verdicts.Stop j t) h g = absurd (some_stop b q 1 j t (some_first b q v 1 h.2) g)
  one_verdict verdicts.Extends verdicts.Trivial h g = absurd (word_or_map q g.0 h.0)
  one_verdict verdicts.Extends verdicts.NotTrivial h g = absurd (all_some b q 1 h.1 g.2)
  one_verdict verdicts.Extends (verdicts.Normal u) h g = absurd (all_some b q 1 h.1 (some_first b q u 1 g.2))
  one_verdict verdicts.Extends verdicts.Extends h g = refl
  one_verdict verdicts.Extends (verdicts.Fails j) h g = absurd (all_some b q j h.1 g.2)
  one_verdict verdicts.Extends (verdicts.Unknown j) h g = absurd (all_some b q j h.1 g.1)
  one_verdict verdicts.Extends (verdicts.Stop j t) h g = absurd (all_stop b q j t h.1 g)
  one_verdict (verdicts.Fails i) verdicts.Trivial h g = absurd (all_some b q i g.1 h.2)
  one_verdict (verdicts.Fails i) verdicts.NotTrivial h g = absurd (word_or_map q (inl g.1) h.1)
  one_verdict (verdicts.Fails i) (verdicts.Normal u) h g = absurd (word_or_map q (inr g.1) h.1)
  one_verdict (verdicts.Fails i) verdicts.Extends h g = absurd (all_some b q i g.1 h.2)
  one_verdict (verdicts.Fails i) (verdicts.Fails j) h g = ap (λ x. verdicts.Fails x) (same_some b q i j h.2 g.2)
  one_verdict (verdicts.Fails i) (verdicts.Unknown j) h g = absurd (g.0 h.0)
  one_verdict (verdicts.Fails i) (verdicts.Stop j t) h g = absurd (some_stop b q i j t h.2 g)
  one_verdict (verdicts.Unknown i) verdicts.Trivial h g = absurd (all_some b q i g.1 h.1)
  one_verdict (verdicts.Unknown i) verdicts.NotTrivial h g = absurd (h.0 g.0)
  one_verdict (verdicts.Unknown i) (verdicts.Normal u) h g = absurd (h.0 g.0)
  one_verdict (verdicts.Unknown i) verdicts.Extends h g = absurd (all_some b q i g.1 h.1)
  one_verdict (verdicts.Unknown i) (verdicts.Fails j) h g = absurd (h.0 g.0)
  one_verdict (verdicts.Unknown i) (verdicts.Unknown j) h g = ap (λ x. verdicts.Unknown x) (same_some b q i j h.1 g.1)
  one_verdict (verdicts.Unknown i) (verdicts.Stop j t) h g = absurd (some_stop b q i j t h.1 g)
  one_verdict (verdicts.Stop i s) verdicts.Trivial h g = absurd (all_stop b q i s g.1 h)
  one_verdict (verdicts.Stop i s) verdicts.NotTrivial h g = absurd (some_stop b q 1 i s g.2 h)
  one_verdict (verdicts.Stop i s) (verdicts.Normal u) h g = absurd (some_stop b q 1 i s (some_first b q u 1 g.2) h)
  one_verdict (verdicts.Stop i s) verdicts.Extends h g = absurd (all_stop b q i s g.1 h)
  one_verdict (verdicts.Stop i s) (verdicts.Fails j) h g = absurd (some_stop b q j i s g.2 h)
  one_verdict (verdicts.Stop i s) (verdicts.Unknown j) h g = absurd (some_stop b q j i s g.1 h)
  one_verdict (verdicts.Stop i s) (verdicts.Stop j t) h g = ap (λ x. verdicts.Stop x s) (same_number b q i j s t h g)
      ∙ ap (λ x. verdicts.Stop j x) (same_stop b q i j s t h g)

  -- a yes is shown
  pub yes_is_shown : (v : Verdict) → IsVerdict p b seal q v → AllByRecursion (IsShown b) (to_show q v)
  yes_is_shown verdicts.Trivial h = h.1
  yes_is_shown verdicts.NotTrivial h = tt
  yes_is_shown (verdicts.Normal v) h = tt
  yes_is_shown verdicts.Extends h = h.1
  yes_is_shown (verdicts.Fails j) h = tt
  yes_is_shown (verdicts.Unknown j) h = tt
  yes_is_shown (verdicts.Stop j stop) h = tt

  -- what a verdict names is over the generators of the presentation
  pub verdict_over : (v : Verdict) → CanBeAsked p q → AreEntries b → AllByRecursion (VectorIsOver (length p.names)) b → IsVerdict p b seal q v
      → VerdictIsOver (length p.names) v
  verdict_over verdicts.Trivial asked entries over h = tt
  verdict_over verdicts.NotTrivial asked entries over h = tt
  verdict_over (verdicts.Normal v) asked entries over h =
      let fits : Fits (length p.names) (subject_at q 1) = subject_fits p q 1 asked.0 asked.1 h.2.number h.2.within in
      rest_over (length p.names) b entries over (subject_at q 1) fits.0 fits.1 v h.2.goes.1.0 h.2.goes.1.1
  verdict_over verdicts.Extends asked entries over h = tt
  verdict_over (verdicts.Fails j) asked entries over h = tt
  verdict_over (verdicts.Unknown j) asked entries over h = tt
  verdict_over (verdicts.Stop j stop) asked entries over h =
      let fits : Fits (length p.names) (subject_at q j) = subject_fits p q j asked.0 asked.1 h.number h.within in
      stop_over (length p.names) b entries over (subject_at q j) fits.0 fits.1 stop h.goes
