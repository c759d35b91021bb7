-- Bytes that don't stand in a spelling.
use Rattle.std.proofs.Common.{◌≡◌, ◌≢◌, ℕ, suc, ◌+◌, ◌%◌, ◌<◌, ◌≤◌, ◌^◌, ◌==◌, false, List, [], ◌∷◌, ◌++◌, None, decimal, ℤ, pos, negsuc, refl, sym, ap, inl}
use Rattle.std.proofs.Common.{inr, ◌⊎◌, arith}
use Rattle.std.proofs.lemmas.Fmt.{decimal_by_steps_wide}
use Rattle.std.proofs.lemmas.Bool.Decides.{nat_tests}
use Rattle.std.specs.List.{AllByRecursion}
use Rattle.spelling.specs.Spelling.{cut, IsCoefficient, coefficient}
use Rattle.spelling.proofs.Numbers.{decimal_same}

abbrev pub Lacks : ℕ → List ℕ → Type 0
Lacks c text = AllByRecursion (λ b. (b == c) ≡ false) text

pub lacks_append : (c : ℕ) (a b : List ℕ) → Lacks c a → Lacks c b → Lacks c (a ++ b)
lacks_append c [] b h k = k
lacks_append c (x ∷ a) b h k = (h.0, lacks_append c a b h.1 k)

pub apart : (b c : ℕ) → b ≢ c → (b == c) ≡ false
apart b c ne = grind (arith, nat_tests)

no_digit : (c b : ℕ) → (c < 48) ⊎ (57 < c) → 48 ≤ b → b ≤ 57 → (b == c) ≡ false
no_digit c b (inl h) le ge = grind (arith, nat_tests)
no_digit c b (inr h) le ge = grind (arith, nat_tests)

-- a byte that is no digit stands in no number
pub decimal_lacks : (c n : ℕ) → (c < 48) ⊎ (57 < c) → n < 2 ^ 128 → Lacks c (decimal n)
decimal_lacks c n out small = decimal_by_steps_wide (λ _ ds. Lacks c ds) one more n (omega arith) where
  one : (n : ℕ) → n < 10 → Lacks c ((48 + n) ∷ [])
  one n lt = (no_digit c (48 + n) out (omega arith) (omega arith), tt)

  more : (n : ℕ) (ds : List ℕ) → 10 ≤ n → Lacks c ds → Lacks c (ds ++ ((48 + n % 10) ∷ []))
  more n ds le h = lacks_append c ds ((48 + n % 10) ∷ []) h (no_digit c (48 + n % 10) out (omega arith) (omega arith), tt)

-- a byte that is no digit and no sign stands in no coefficient
pub coefficient_lacks : (c : ℕ) (z : ℤ) → (c < 48) ⊎ (57 < c) → c ≢ 43 → c ≢ 45 → IsCoefficient z → Lacks c (coefficient z)
coefficient_lacks c (pos n) out plus minus h = (apart 43 c (λ e. plus (sym e)), decimal_lacks c n out (omega (arith, h.1)))
coefficient_lacks c (negsuc n) out plus minus h = (apart 45 c (λ e. minus (sym e)), decimal_lacks c (suc n) out (omega (arith, h)))

tail_same : {a b : ℕ} {s t : List ℕ} → a ∷ s ≡ b ∷ t → (a ≡ b) × (s ≡ t)
tail_same e = (cc, cc)

-- a text is the spelling of one coefficient
pub coefficient_same : (y z : ℤ) → IsCoefficient y → IsCoefficient z → coefficient y ≡ coefficient z → y ≡ z
coefficient_same (pos m) (pos n) h k e = ap pos (decimal_same m n (omega (arith, h.1)) (omega (arith, k.1)) (tail_same e).1)
coefficient_same (pos m) (negsuc n) h k e = absurd (omega (arith, (tail_same e).0))
coefficient_same (negsuc m) (pos n) h k e = absurd (omega (arith, (tail_same e).0))
coefficient_same (negsuc m) (negsuc n) h k e =
    let same : suc m ≡ suc n = decimal_same (suc m) (suc n) (omega (arith, h)) (omega (arith, k)) (tail_same e).1 in
    ap negsuc (omega (arith, same))

-- a text without the separator isn't cut
pub not_cut : (c : ℕ) (text : List ℕ) → Lacks c text → cut c text ≡ None
not_cut c [] h = refl
not_cut c (b ∷ bs) h = rw (h.0, not_cut c bs h.1) refl
