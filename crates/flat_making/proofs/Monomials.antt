-- Monomials in which x_g·y_g is cancelled.
use Rattle.std.proofs.Common.{◌≡◌, ◌∙◌, ℕ, zero, suc, ◌+◌, ◌-◌, ◌*◌, ◌<◌, ◌≤◌, List, [], ◌∷◌, ◌++◌, length, replicate, slice_index, refl, sym, ap, arith}
use Rattle.free_words.specs.declared.TheConstants.{GENERATORS}
use Rattle.laurent_terms.specs.declared.TheConstants.{VARIABLES}
use Rattle.laurent_terms.specs.Monomials.{one, product}
use Rattle.laurent_terms.proofs.Division.{product_comm}
use Rattle.magnus_laws.proofs.Monomials.{unit_monomial-is}
use Rattle.vector_text.specs.Over.{MonoIsOver}
use Rattle.fox_calculus.specs.Generators.{unit_monomial}
use Rattle.fox_calculus.specs.Module.{HasVariables}
use Rattle.flat_cert.specs.Images.{cancelled, IsFlatMono}

pub length-cancelled : (s : List ℕ) → length (cancelled s) ≡ length s
length-cancelled [] = refl
length-cancelled (a ∷ []) = refl
length-cancelled (a ∷ b ∷ s) = omega (arith, length-cancelled s)

-- once is enough
pub cancelled_is_flat : (s : List ℕ) → IsFlatMono (cancelled s)
cancelled_is_flat [] = refl
cancelled_is_flat (a ∷ []) = refl
cancelled_is_flat (a ∷ b ∷ s) =
    let first : (a - b) - (b - a) ≡ a - b = omega arith in
    let second : (b - a) - (a - b) ≡ b - a = omega arith in
    λ i. first i ∷ second i ∷ cancelled_is_flat s i

-- it may be done before the product
pub cancelled_first : (s t : List ℕ) → length s ≡ length t → cancelled (product (cancelled s) t) ≡ cancelled (product s t)
cancelled_first [] t e = refl
cancelled_first (a ∷ []) t e = refl
cancelled_first (a ∷ b ∷ s) [] e = refl
cancelled_first (a ∷ b ∷ s) (c ∷ []) e = absurd (omega (arith, e))
cancelled_first (a ∷ b ∷ s) (c ∷ d ∷ t) e =
    let first : ((a - b) + c) - ((b - a) + d) ≡ (a + c) - (b + d) = omega arith in
    let second : ((b - a) + d) - ((a - b) + c) ≡ (b + d) - (a + c) = omega arith in
    λ i. first i ∷ second i ∷ cancelled_first s t (omega (arith, e)) i

cancelled_least : (s : List ℕ) (v : ℕ) → slice_index (cancelled s) v ≤ slice_index s v
cancelled_least [] v = omega arith
cancelled_least (a ∷ []) v = omega arith
cancelled_least (a ∷ b ∷ s) zero = omega arith
cancelled_least (a ∷ b ∷ s) (suc zero) = omega arith
cancelled_least (a ∷ b ∷ s) (suc (suc v)) = cancelled_least s v

pub cancelled_over : (n : ℕ) (s : List ℕ) → MonoIsOver n s → MonoIsOver n (cancelled s)
cancelled_over n s over v le = omega (arith, cancelled_least s v, over v le)

-- ---- x_g·y_g is 1

zeros_cancelled : (k : ℕ) → cancelled (replicate k 0) ≡ replicate k 0
zeros_cancelled zero = refl
zeros_cancelled (suc zero) = refl
zeros_cancelled (suc (suc k)) = ap (λ (s : List ℕ). 0 ∷ 0 ∷ s) (zeros_cancelled k)

pair_cancelled : (g m : ℕ) → cancelled (replicate (2 * g) 0 ++ 1 ∷ 1 ∷ replicate m 0) ≡ replicate (2 * g + suc (suc m)) 0
pair_cancelled zero m =
    let all : suc (suc m) ≡ 2 * 0 + suc (suc m) = omega arith in
    ap (λ (s : List ℕ). 0 ∷ 0 ∷ s) (zeros_cancelled m) ∙ ap (λ z. replicate z 0) all
pair_cancelled (suc g) m =
    let more : 2 * suc g ≡ suc (suc (2 * g)) = omega arith in
    let all : suc (suc (2 * g + suc (suc m))) ≡ 2 * suc g + suc (suc m) = omega arith in
    ap (λ z. cancelled (replicate z 0 ++ 1 ∷ 1 ∷ replicate m 0)) more
    ∙ ap (λ (s : List ℕ). 0 ∷ 0 ∷ s) (pair_cancelled g m)
    ∙ ap (λ z. replicate z 0) all

pub unit_cancelled : (g : ℕ) → g < GENERATORS → cancelled (unit_monomial g) ≡ one
unit_cancelled g below =
    let m : ℕ = VARIABLES - 2 * g - 2 in
    let e : 2 * g + suc (suc m) ≡ VARIABLES = omega (arith, below) in
    ap cancelled (unit_monomial-is g m e) ∙ pair_cancelled g m ∙ ap (λ z. replicate z 0) e

pub length-unit : (g : ℕ) → g < GENERATORS → HasVariables (unit_monomial g)
length-unit g below = sym (length-cancelled (unit_monomial g)) ∙ ap length (unit_cancelled g below)

-- so multiples of it are those of 1
pub unit_moves_nothing : (g : ℕ) (s : List ℕ) → g < GENERATORS → HasVariables s → cancelled (product s (unit_monomial g)) ≡ cancelled (product s one)
unit_moves_nothing g s below long =
    ap cancelled (product_comm s (unit_monomial g))
    ∙ sym (cancelled_first (unit_monomial g) s (length-unit g below ∙ sym long))
    ∙ ap (λ u. cancelled (product u s)) (unit_cancelled g below)
    ∙ ap cancelled (product_comm one s)
