-- The verdict on a question may stand behind it.
use Rattle.std.proofs.Common.{◌≡◌, ◌⊎◌, inl, inr, ℕ, ◌<◌, ◌≤◌, ◌^◌, List, length, Option, refl, arith}
use Rattle.std.proofs.lemmas.List.{length-map}
use Rattle.std.specs.List.{AllByRecursion}
use Rattle.free_words.specs.declared.letter.Letter.{Letter}
use Rattle.free_words.specs.Words.{word_image}
use Rattle.free_words.proofs.OverLemmas.{IsOver-more}
use Rattle.presentation.specs.Presented.{Presented, IsPresented}
use Rattle.module_vec.specs.declared.places.Term.{Term}
use Rattle.module_vec.specs.declared.faults.Stop as stops
use Rattle.module_vec.specs.declared.faults.Stop.TheVariants as reasons
use Rattle.module_vec.specs.Reducers.{AreEntries}
use Rattle.outcomes.specs.declared.verdicts.Verdict.{Verdict}
use Rattle.outcomes.specs.declared.verdicts.Verdict.TheVariants.{Trivial, NotTrivial, Normal, Extends, Fails, Unknown, Stop}
use Rattle.vector_text.specs.Over.{VectorIsOver}
use Rattle.session_text.specs.declared.question.Question.{Question}
use Rattle.session_text.specs.declared.question.Question.TheVariants as questions
use Rattle.session_text.specs.Questions.{HasSource, subjects}
use Rattle.hom_check.specs.Shown.{StopsAt, IsFirstUnshown}
use Rattle.hom_check.specs.Subjects.{subject_at}
use Rattle.hom_check.proofs.Fitting.{Fits, subjects_fit, subject_fits}
use Rattle.basis_entry.specs.Seals.{Seal}
use Rattle.report_lines.specs.Lines.{subject_count, IsSubject, IsAboutWord, IsTest, IsNormal, IsHom, IsNotSteep, MayAnswer, IsVerdictOf, IsAnswer}
use Rattle.session_core.specs.Questions.{CanBeAsked, AsksWhetherTrivial, AsksForNormal, AsksWhetherExtends}
use Rattle.session_core.specs.Verdicts.{IsVerdict}
use Rattle.cert_checker.specs.States.{asked}
use Rattle.report_text.specs.Answers.{to_show}
use Rattle.report_text.proofs.Verdicts.{verdict_over}
use Rattle.report_acceptance.proofs.Stopping.{word_stop}

-- ---- kinds of questions

about_word : (q : Question) → AsksWhetherTrivial q ⊎ AsksForNormal q → IsAboutWord q
about_word (questions.Trivial w) h = tt
about_word (questions.Equal u v) h = tt
about_word (questions.Normal w) h = tt
about_word (questions.Hom source images) (inl h) = h
about_word (questions.Hom source images) (inr h) = h

a_test : (q : Question) → AsksWhetherTrivial q → IsTest q
a_test (questions.Trivial w) h = tt
a_test (questions.Equal u v) h = tt
a_test (questions.Normal w) h = h
a_test (questions.Hom source images) h = h

a_normal : (q : Question) → AsksForNormal q → IsNormal q
a_normal (questions.Trivial w) h = h
a_normal (questions.Equal u v) h = h
a_normal (questions.Normal w) h = tt
a_normal (questions.Hom source images) h = h

a_hom : (q : Question) → AsksWhetherExtends q → IsHom q
a_hom (questions.Trivial w) h = h
a_hom (questions.Equal u v) h = h
a_hom (questions.Normal w) h = h
a_hom (questions.Hom source images) h = tt

-- ---- subjects

pub count_is : (q : Question) → length (subjects q) ≡ subject_count q
count_is (questions.Trivial w) = refl
count_is (questions.Equal u v) = refl
count_is (questions.Normal w) = refl
count_is (questions.Hom source images) = length-map source.relators (word_image images)

few_subjects : (q : Question) → HasSource q → length (subjects q) ≤ 64
few_subjects (questions.Trivial w) h = omega arith
few_subjects (questions.Equal u v) h = omega arith
few_subjects (questions.Normal w) h = omega arith
few_subjects (questions.Hom source images) h = let e = length-map source.relators (word_image images) in omega (arith, e, h.few_relators)

a_subject : (b : List (List Term)) (q : Question) (j : ℕ) (Goes : List Letter → Type 0) → IsFirstUnshown b q j Goes → IsSubject q j
a_subject b q j Goes h = let e = count_is q in (omega (arith, h.number), omega (arith, e, h.within))

small_subject : (b : List (List Term)) (q : Question) (j : ℕ) (Goes : List Letter → Type 0) → HasSource q → IsFirstUnshown b q j Goes → j < 2 ^ 32
small_subject b q j Goes source h = let e = few_subjects q source in omega (arith, e, h.within)

-- the subjects that the checker asks for are those that are shown
pub asked_is : (q : Question) (v : Verdict) → asked q v ≡ to_show q v
asked_is q Trivial = refl
asked_is q NotTrivial = refl
asked_is q (Normal v) = refl
asked_is q Extends = refl
asked_is q (Fails j) = refl
asked_is q (Unknown j) = refl
asked_is q (Stop j stop) = refl

pub few_shown : (q : Question) (v : Verdict) → HasSource q → length (to_show q v) < 2 ^ 32
few_shown q Trivial h = let e = few_subjects q h in omega (arith, e)
few_shown q NotTrivial h = omega arith
few_shown q (Normal v) h = omega arith
few_shown q Extends h = let e = few_subjects q h in omega (arith, e)
few_shown q (Fails j) h = omega arith
few_shown q (Unknown j) h = omega arith
few_shown q (Stop j stop) h = omega arith

pub shown_fit : (p : Presented) (q : Question) (v : Verdict) → CanBeAsked p q → AllByRecursion (Fits (length p.names)) (to_show q v)
shown_fit p q Trivial h = subjects_fit p q h.0 h.1
shown_fit p q NotTrivial h = tt
shown_fit p q (Normal v) h = tt
shown_fit p q Extends h = subjects_fit p q h.0 h.1
shown_fit p q (Fails j) h = tt
shown_fit p q (Unknown j) h = tt
shown_fit p q (Stop j stop) h = tt

-- ---- verdicts

not_steep : (b : List (List Term)) (w : List Letter) (stop : stops.Stop) → StopsAt b stop w → IsNotSteep stop
not_steep b w (reasons.Wide at step) h = tt
not_steep b w (reasons.Long terms step) h = tt
not_steep b w reasons.Deep h = tt
not_steep b w (reasons.Steep degree) h = h.stops

module _ (p : Presented) (known : IsPresented p) (b : List (List Term)) (seal : Option Seal) (q : Question) where
  may_answer : (v : Verdict) → IsVerdict p b seal q v → MayAnswer q v
  may_answer Trivial h = about_word q h.0
  may_answer NotTrivial h = a_test q h.1
  may_answer (Normal v) h = a_normal q h.1
  may_answer Extends h = a_hom q h.0
  may_answer (Fails j) h = (a_hom q h.1, a_subject b q j _ h.2)
  may_answer (Unknown j) h = a_subject b q j _ h.1
  may_answer (Stop j stop) h = (a_subject b q j (StopsAt b stop) h, not_steep b (subject_at q j) stop h.goes)

  module _ (ask : CanBeAsked p q) (source : HasSource q) (entries : AreEntries b) (over : AllByRecursion (VectorIsOver (length p.names)) b) where
    verdict_of : (v : Verdict) → IsVerdict p b seal q v → IsVerdictOf (length p.names) v
    verdict_of Trivial h = tt
    verdict_of NotTrivial h = tt
    verdict_of (Normal v) h = record { vector = h.2.goes.1.1.vector; over = verdict_over p b seal q (Normal v) ask entries over h }
    verdict_of Extends h = tt
    verdict_of (Fails j) h = small_subject b q j _ source h.2
    verdict_of (Unknown j) h = small_subject b q j _ source h.1
    verdict_of (Stop j stop) h =
        let fits : Fits (length p.names) (subject_at q j) = subject_fits p q j ask.0 ask.1 h.number h.within in (
          small_subject b q j (StopsAt b stop) source h,
          word_stop (length p.names) b entries (subject_at q j) stop (IsOver-more (length p.names) 24 (subject_at q j) known.few_names fits.0) fits.1 h.goes
              (verdict_over p b seal q (Stop j stop) ask entries over h),
        )

    pub is_answer : (v : Verdict) → IsVerdict p b seal q v → IsAnswer p q v
    is_answer v h = record { question = (ask.0, source); verdict = verdict_of v h; answers = may_answer v h }
