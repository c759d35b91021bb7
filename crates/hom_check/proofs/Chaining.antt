-- Chains of Fox vectors.
use Rattle.std.proofs.Common.{◌≡◌, ◌+◌, ◌<◌, ◌≤◌, ℕ, List, [], ◌∷◌, length, sym, subst, ⊎_elim, arith}
use Rattle.std.proofs.lemmas.Bool.{cases_eq}
use borrow.Author.Differences.{ints}
use Rattle.std.specs.List.{AllByRecursion}
use Rattle.free_words.specs.declared.letter.Letter.{Letter}
use Rattle.module_vec.specs.declared.places.Term.{Term}
use Rattle.module_vec.specs.declared.steps.Step.{Step}
use Rattle.module_vec.specs.Vectors.{Coefficients, coefficient_at}
use Rattle.fox_calculus.specs.Fox.{fox}
use Rattle.fox_calculus.specs.Generators.{IsWritten}
use Rattle.reduce_cofactor.specs.Answers.{IsRest}
use Rattle.session_text.specs.declared.question.Question.{Question}
use Rattle.session_text.specs.Questions.{subjects}
use Rattle.hom_check.specs.Subjects.{subject_at}
use Rattle.hom_check.specs.Shown.{fox_at, EndsIn, IsShown, IsSum, IsFirstUnshown}
use Rattle.hom_check.proofs.Fitting.{at_all}

-- a Fox vector that was written down has the coefficients of the Fox vector
pub written_at : (w : List Letter) (v : List Term) → IsWritten (fox w) v → Path Coefficients (coefficient_at v) (fox_at w)
written_at w v is = λ i x. is.same x i

pub ends : (b : List (List Term)) (w : List Letter) (v rest : List Term) (steps : List Step) → IsWritten (fox w) v → IsRest b (coefficient_at v) rest steps
    → EndsIn b rest w
ends b w v rest steps is chain = (steps, subst (λ (f : Coefficients). IsRest b f rest steps) (written_at w v is) chain)

-- what is shown is a sum of multiples
pub shown_sum : (b : List (List Term)) (w : List Letter) → IsShown b w → IsSum b w
shown_sum b w h =
    let chain : IsRest b (fox_at w) [] h.0 = h.1 in
    record { steps = h.0; are = chain.are; is = λ x. let e = chain.sum x in omega (arith, ints, e) }

pub shown_sums : (b : List (List Term)) (ws : List (List Letter)) → AllByRecursion (IsShown b) ws → AllByRecursion (IsSum b) ws
shown_sums b [] h = tt
shown_sums b (w ∷ ws) h = (shown_sum b w h.0, shown_sums b ws h.1)

-- ---- subjects one after another

-- the subjects up to number n are shown
abbrev pub AreShownTo : List (List Term) → Question → ℕ → Type 0
AreShownTo b q n = (i : ℕ) → 1 ≤ i → i ≤ n → IsShown b (subject_at q i)

pub one_more : (b : List (List Term)) (q : Question) (n : ℕ) → AreShownTo b q n → IsShown b (subject_at q (n + 1)) → AreShownTo b q (n + 1)
one_more b q n before now i first last =
    ⊎_elim (λ e. subst (λ (k : ℕ). IsShown b (subject_at q k)) (sym e) now) (λ other. before i first (omega (arith, last, other))) (cases_eq i (n + 1))

pub all_shown : (b : List (List Term)) (q : Question) (n : ℕ) → AreShownTo b q n → length (subjects q) ≤ n → AllByRecursion (IsShown b) (subjects q)
all_shown b q n before all = at_all (IsShown b) q (λ i first last. before i first (omega (arith, last, all)))

pub is_first : (b : List (List Term)) (q : Question) (n : ℕ) (w : List Letter) (Goes : List Letter → Type 0) → n < length (subjects q) → AreShownTo b q n
    → w ≡ subject_at q (n + 1) → Goes w
    → IsFirstUnshown b q (n + 1) Goes
is_first b q n w Goes within before is goes =
    record { number = omega arith; within = omega (arith, within); goes = subst Goes is goes; before = λ i first last. before i first (omega (arith, last)) }
