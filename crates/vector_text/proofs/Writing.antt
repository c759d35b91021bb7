-- The factors that are written, and those that are left.
use Rattle.std.proofs.Common.{◌≡◌, ◌≢◌, ℕ, zero, suc, ◌+◌, ◌*◌, ◌<◌, ◌≤◌, ◌==◌, Bool, true, false, if◌then◌else◌, List, [], ◌∷◌, ◌++◌, length, drop, get_or}
use Rattle.std.proofs.Common.{map, codes, refl, ap, ◌∙◌, arith, append_assoc, append-nil, add-one, ℤ, pos, negsuc}
use Rattle.std.proofs.lemmas.List.{drop_more, get_or-drop}
use Rattle.std.proofs.lemmas.Bool.Decides.{nat_tests}
use Rattle.spelling.specs.Spelling.{IsCoefficient}
use Rattle.presentation.specs.Writing.{led_by}
use Rattle.module_vec.specs.declared.places.Term.{Term}
use Rattle.module_vec.specs.Vectors.{InRange, IsTerm}
use Rattle.vector_text.specs.Spelling.{factor_text, factors_from, product_text}
use Rattle.vector_text.specs.Over.{MonoIsOver}

-- what follows some factors, or none
abbrev pub remaining : Bool → List (List ℕ) → List ℕ
remaining true ts = led_by (codes ".") ts
remaining false ts = product_text ts

-- what is written, and the factors from the variable v on, make the whole
abbrev pub Remains : List (List ℕ) → List ℕ → Bool → List ℕ → ℕ → List ℕ → Type 0
Remains names out begun s v whole = out ++ remaining begun (map (factor_text names) (factors_from v (drop v s))) ≡ whole

next_factors : (s : List ℕ) (v : ℕ) → v < length s → factors_from v (drop v s) ≡ factors_from v (get_or s v 0 ∷ drop (v + 1) s)
next_factors s v lt = ap (factors_from v) (drop_more s v 0 lt)

pub factor_left_out : (names : List (List ℕ)) (out : List ℕ) (begun : Bool) (s : List ℕ) (v : ℕ) (whole : List ℕ) → v < length s → get_or s v 0 ≡ 0
    → Remains names out begun s v whole → Remains names out begun s (v + 1) whole
factor_left_out names out begun s v whole lt e h =
    let k : factors_from v (drop v s) ≡ factors_from (v + 1) (drop (v + 1) s) = next_factors s v lt ∙ rw (e, add-one) refl in
    rw (← k) h

some_is : (e : ℕ) → 0 < e → (e == 0) ≡ false
some_is e lt = grind (arith, nat_tests)

written_by : (begun : Bool) (out t : List ℕ) (ts : List (List ℕ))
    → (out ++ (if begun then codes "." else [])) ++ t ++ remaining true ts ≡ out ++ remaining begun (t ∷ ts)
written_by true out t ts = simp append_assoc
written_by false out t ts = simp (append-nil, append_assoc)

pub factor_written : (names : List (List ℕ)) (out : List ℕ) (begun : Bool) (s : List ℕ) (v e : ℕ) (whole : List ℕ) → v < length s → get_or s v 0 ≡ e → 0 < e
    → Remains names out begun s v whole
    → Remains names ((out ++ (if begun then codes "." else [])) ++ factor_text names (record { variable = v; exponent = e })) true s (v + 1) whole
factor_written names out begun s v e whole lt is some h =
    let k : factors_from v (drop v s) ≡ record { variable = v; exponent = e } ∷ factors_from (v + 1) (drop (v + 1) s) =
    next_factors s v lt ∙ rw (is, some_is e some, add-one) refl in
    let h' = rw k at h in
    written_by begun out (factor_text names (record { variable = v; exponent = e })) (map (factor_text names) (factors_from (v + 1) (drop (v + 1) s))) ∙ h'

-- no factor where all exponents are 0
pub no_factors : (s : List ℕ) (v : ℕ) → ((k : ℕ) → get_or s k 0 ≡ 0) → factors_from v s ≡ []
no_factors [] v h = refl
no_factors (e ∷ s) v h = let first : e ≡ 0 = h 0 in rw first (no_factors s (suc v) (λ k. h (suc k)))

pub factors_end : (names : List (List ℕ)) (out : List ℕ) (begun : Bool) (s : List ℕ) (v : ℕ) (whole : List ℕ) → MonoIsOver (length names) s
    → 2 * length names ≤ v → Remains names out begun s v whole → out ++ remaining begun [] ≡ whole
factors_end names out begun s v whole over le h =
    let none : factors_from v (drop v s) ≡ [] = no_factors (drop v s) v (λ k. get_or-drop v s k 0 ∙ over (v + k) (omega arith)) in
    rw none at h

nonzero : (n : ℕ) → pos n ≢ pos 0 → 0 < n
nonzero zero some = absurd (some refl)
nonzero (suc n) some = omega arith

coefficient_by : (z : ℤ) → z ≢ pos 0 → InRange z → IsCoefficient z
coefficient_by (pos n) some h = (omega (arith, nonzero n some), omega (arith, h))
coefficient_by (negsuc n) some h = omega (arith, h)

pub spelled_coefficient : (t : Term) → IsTerm t → IsCoefficient t.k
spelled_coefficient t h = coefficient_by t.k h.nonzero h.range

-- the factors of a monomial, written one after another
pub ruleset factors_written = (factor_left_out, factor_written, factors_end)
