-- The rule of verdicts, case by case.
use Rattle.std.proofs.Common.{◌≡◌, ◌↔◌, ℕ, Bool, true, false, IsTrue, List, length, Option, refl, sym, subst, ◌∙◌, arith}
use Rattle.presentation.specs.Presented.{Presented}
use Rattle.module_vec.specs.declared.places.Term.{Term}
use Rattle.free_words.specs.declared.letter.Letter.{Letter}
use Rattle.session_text.specs.declared.question.Question.{Question}
use Rattle.session_text.specs.declared.question.Question.TheVariants as questions
use Rattle.session_text.specs.Questions.{subjects}
use Rattle.hom_check.specs.Shown.{LeavesRest, IsFirstUnshown}
use Rattle.basis_entry.specs.Seals.{Seal}
use Rattle.session_core.specs.Questions.{AsksWhetherTrivial}
use Rattle.session_core.specs.Verdicts.{LeavesSome, IsSealedFor}

-- a rest that isn't empty is some rest
pub some_rest : (b : List (List Term)) (q : Question) (j : ℕ) (rest : List Term) → IsFirstUnshown b q j (LeavesRest b rest)
    → IsFirstUnshown b q j (LeavesSome b)
some_rest b q j rest first = record { number = first.number; within = first.within; goes = (rest, first.goes); before = first.before }

-- of a question with one subject that is the first one
pub only_one : (b : List (List Term)) (q : Question) (j : ℕ) (Goes : List Letter → Type 0) → length (subjects q) ≡ 1 → IsFirstUnshown b q j Goes
    → IsFirstUnshown b q 1 Goes
only_one b q j Goes one first =
    let low = first.number in
    let high = first.within in
    let is : j ≡ 1 = omega (arith, one, low, high) in
    subst (λ (i : ℕ). IsFirstUnshown b q i Goes) is first

pub not_sealed : (t : Bool) (p : Presented) (seal : Option Seal) → t ≡ false → (IsTrue t ↔ IsSealedFor p seal) → IsSealedFor p seal → ⊥
not_sealed t p seal off same sealed = let e : true ≡ false = sym (same.1 sealed) ∙ off in absurd (cc)

-- a question that asks whether a word is trivial has one subject
pub one_subject : (q : Question) → AsksWhetherTrivial q → length (subjects q) ≡ 1
one_subject (questions.Trivial w) asks = refl
one_subject (questions.Equal u v) asks = refl
one_subject (questions.Normal w) asks = absurd asks
one_subject (questions.Hom source images) asks = absurd asks
