-- Lists that are built element by element, and the proofs of what is shown.
use Rattle.std.proofs.Common.{◌≡◌, ℕ, zero, suc, ◌<◌, List, [], ◌∷◌, length, slice_get, Some, refl, ap, subst, arith}
use Rattle.std.specs.List.{AllByRecursion}
use Rattle.free_words.specs.declared.letter.Letter.{Letter}
use Rattle.module_vec.specs.declared.places.Term.{Term}
use Rattle.module_vec.specs.declared.steps.Step.{Step}
use Rattle.hom_check.specs.Shown.{IsShown}
use Rattle.session_core.specs.Proofs.{AreStepsOf}
use Rattle.report_text.specs.Answers.{AreProofsOf}

-- a list whose elements have a property each
pub record Listed {A : Type 0} (n : ℕ) (P : ℕ → A → Type 0) : Type 0 where
  pub items : List A
  pub count : length items ≡ n
  pub each : (i : ℕ) (a : A) → slice_get items i ≡ Some a → P i a

one_more : {A : Type 0} (n : ℕ) (P : ℕ → A → Type 0) (a : A) → P 0 a → Listed n (λ i. P (suc i)) → Listed (suc n) P
one_more {A} n P a first rest = record { items = a ∷ rest.items; count = ap (λ k. suc k) rest.count; each = each }
  where
    each : (i : ℕ) (b : A) → slice_get (a ∷ rest.items) i ≡ Some b → P i b
    each zero b is = let e : a ≡ b = cc in subst (P 0) e first
    each (suc i) b is = rest.each i b is

pub listed : {A : Type 0} (n : ℕ) (P : ℕ → A → Type 0) → ((i : ℕ) → i < n → (a : A) × P i a) → Listed n P
listed zero P f = record { items = []; count = refl; each = λ i a is. absurd cc }
listed (suc n) P f =
    let here = f 0 (omega arith) in
    one_more n P here.0 here.1 (listed n (λ i. P (suc i)) (λ i lt. f (suc i) (omega (arith, lt))))

-- ---- proofs

proofs_listed : (b : List (List Term)) (ws : List (List Letter)) → AllByRecursion (IsShown b) ws
    → Listed (length ws) (λ i steps. (w : List Letter) → slice_get ws i ≡ Some w → AreStepsOf b w steps)
proofs_listed b [] h = record { items = []; count = refl; each = λ i a is. absurd cc }
proofs_listed b (w ∷ ws) h =
    one_more (length ws) (λ i steps. (u : List Letter) → slice_get (w ∷ ws) i ≡ Some u → AreStepsOf b u steps) h.0.0
    (λ u is. let e : w ≡ u = cc in subst (λ x. AreStepsOf b x h.0.0) e ([], h.0.1))
    (proofs_listed b ws h.1)

pub proofs_there : (b : List (List Term)) (ws : List (List Letter)) → AllByRecursion (IsShown b) ws → (proofs : List (List Step)) × AreProofsOf b ws proofs
proofs_there b ws h =
    let made = proofs_listed b ws h in
    (made.items, record { count = made.count; each = λ i w steps is at. made.each i steps at w is })
