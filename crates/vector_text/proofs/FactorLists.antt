-- The factors of a monomial, by its exponents.
use Rattle.std.proofs.Common.{◌≡◌, ◌⊎◌, inl, inr, ℕ, zero, suc, ◌+◌, ◌*◌, ◌<◌, ◌≤◌, ◌==◌, Bool, true, false, if◌then◌else◌, List, [], ◌∷◌, ◌++◌, length, get_or}
use Rattle.std.proofs.Common.{slice_set, replicate, refl, sym, ap, subst, ◌∙◌, arith}
use Rattle.std.proofs.lemmas.Bool.{cases_lt}
use Rattle.std.proofs.lemmas.Bool.Decides.{nat_tests}
use Rattle.std.proofs.lemmas.List.Sums.{sum_by-cons}
use Rattle.std.specs.List.{AllByRecursion}
use Rattle.laurent_terms.specs.declared.TheConstants.{DEGREE}
use Rattle.laurent_terms.specs.Monomials.{degree, product}
use Rattle.vector_text.specs.declared.factors.Factor.{Factor}
use Rattle.vector_text.specs.Spelling.{factors_from}
use Rattle.vector_text.specs.Over.{IsFactorOf}
use Rattle.vector_text.proofs.Writing.{no_factors}

abbrev pub factor : ℕ → ℕ → Factor
factor v e = record { variable = v; exponent = e }

pub degree-cons : (e : ℕ) (s : List ℕ) → degree (e ∷ s) ≡ e + degree s
degree-cons e s = sum_by-cons (λ v. v) e s

is_zero : (e : ℕ) → (e == 0) ≡ true → e ≡ 0
is_zero e h = grind (arith, nat_tests)

is_some : (e : ℕ) → (e == 0) ≡ false → 0 < e
is_some e h = grind (arith, nat_tests)

some_is : (e : ℕ) → 0 < e → (e == 0) ≡ false
some_is e h = grind (arith, nat_tests)

below : (n v e : ℕ) → (2 * n ≤ v + 0 → e ≡ 0) → 0 < e → v < 2 * n
below n v e h some = by (cases_lt v (2 * n)) where
  by : (v < 2 * n) ⊎ (2 * n ≤ v) → v < 2 * n
  by (inl lt) = lt
  by (inr le) = absurd (omega (arith, h (omega arith)))

-- the factors over n generators are factors over them
pub factors_valid : (n v : ℕ) (s : List ℕ) → ((k : ℕ) → 2 * n ≤ v + k → get_or s k 0 ≡ 0) → degree s ≤ DEGREE → AllByRecursion (IsFactorOf n) (factors_from v s)
factors_valid n v [] over le = tt
factors_valid n v (e ∷ s) over le =
    let split = degree-cons e s in
    by (e == 0) refl (factors_valid n (suc v) s (λ k h. over (suc k) (omega (arith, h))) (omega (arith, split, le))) where
      by : (t : Bool) → (e == 0) ≡ t → AllByRecursion (IsFactorOf n) (factors_from (suc v) s)
          → AllByRecursion (IsFactorOf n) (if t then factors_from (suc v) s else record { variable = v; exponent = e } ∷ factors_from (suc v) s)
      by true h rest = rest
      by false h rest = (record { variable = below n v e (over 0) (is_some e h); exponent = (is_some e h, omega (arith, degree-cons e s, le)) }, rest)

-- what the exponents of factors add up to
abbrev pub total : List Factor → ℕ
total [] = 0
total (f ∷ fs) = f.exponent + total fs

pub total-append : (fs gs : List Factor) → total (fs ++ gs) ≡ total fs + total gs
total-append [] gs = omega arith
total-append (f ∷ fs) gs = omega (arith, total-append fs gs)

pub total_is : (v : ℕ) (s : List ℕ) → total (factors_from v s) ≡ degree s
total_is v [] = refl
total_is v (e ∷ s) = by (e == 0) refl (total_is (suc v) s) where
  by : (t : Bool) → (e == 0) ≡ t → total (factors_from (suc v) s) ≡ degree s
      → total (if t then factors_from (suc v) s else record { variable = v; exponent = e } ∷ factors_from (suc v) s) ≡ degree (e ∷ s)
  by true h k = omega (arith, k, degree-cons e s, is_zero e h)
  by false h k = omega (arith, k, degree-cons e s)

-- the factors behind the first one begin with a later variable
pub record First (v : ℕ) (f : Factor) (fs : List Factor) : Type 0 where
  pub from : v ≤ f.variable
  pub some : 0 < f.exponent
  pub rest : List ℕ
  pub is : fs ≡ factors_from (suc f.variable) rest

head_same : {f g : Factor} {fs gs : List Factor} → f ∷ fs ≡ g ∷ gs → (f ≡ g) × (fs ≡ gs)
head_same e = (cc, cc)

later : (v : ℕ) (f : Factor) (fs : List Factor) → First (suc v) f fs → First v f fs
later v f fs h = record { from = omega (arith, h.from); some = h.some; rest = h.rest; is = h.is }

pub first_factor : (v : ℕ) (s : List ℕ) (f : Factor) (fs : List Factor) → factors_from v s ≡ f ∷ fs → First v f fs
first_factor v [] f fs e = cc
first_factor v (x ∷ s) f fs e = by (x == 0) refl e (first_factor (suc v) s f fs) where
  by : (t : Bool) → (x == 0) ≡ t → (if t then factors_from (suc v) s else record { variable = v; exponent = x } ∷ factors_from (suc v) s) ≡ f ∷ fs
      → (factors_from (suc v) s ≡ f ∷ fs → First (suc v) f fs) → First v f fs
  by true h e' again = later v f fs (again e')
  by false h e' again =
      let k = head_same e' in
      let P : Factor → Type 0 = λ g. First v g fs in
      subst P k.0 (record { from = omega arith; some = is_some x h; rest = s; is = sym k.1 })

-- the variables of factors rise
pub rises : (v : ℕ) (s : List ℕ) (fs : List Factor) (f g : Factor) (gs : List Factor) → factors_from v s ≡ fs ++ f ∷ g ∷ gs → f.variable < g.variable
rises v s [] f g gs e =
    let h = first_factor v s f (g ∷ gs) e in
    let k = first_factor (suc f.variable) h.rest g gs (sym h.is) in omega (arith, k.from)
rises v s (x ∷ fs) f g gs e =
    let h = first_factor v s x (fs ++ f ∷ g ∷ gs) e in rises (suc x.variable) h.rest fs f g gs (sym h.is)

-- factors are those of one monomial
pub factors_same : (v : ℕ) (s t : List ℕ) → length s ≡ length t → factors_from v s ≡ factors_from v t → s ≡ t
factors_same v [] [] l e = refl
factors_same v [] (y ∷ t) l e = absurd (omega (arith, l))
factors_same v (x ∷ s) [] l e = absurd (omega (arith, l))
factors_same v (x ∷ s) (y ∷ t) l e = by (x == 0) (y == 0) refl refl e (factors_same (suc v) s t (omega (arith, l))) where
  by : (p q : Bool) → (x == 0) ≡ p → (y == 0) ≡ q
      → (if p then factors_from (suc v) s else record { variable = v; exponent = x } ∷ factors_from (suc v) s)
      ≡ (if q then factors_from (suc v) t else record { variable = v; exponent = y } ∷ factors_from (suc v) t)
      → (factors_from (suc v) s ≡ factors_from (suc v) t → s ≡ t) → x ∷ s ≡ y ∷ t
  by true true a b e' again = let k = again e' in let z : x ≡ y = is_zero x a ∙ sym (is_zero y b) in cc (k, z)
  by true false a b e' again = absurd (omega (arith, (first_factor (suc v) s (factor v y) (factors_from (suc v) t) e').from))
  by false true a b e' again = absurd (omega (arith, (first_factor (suc v) t (factor v x) (factors_from (suc v) s) (sym e')).from))
  by false false a b e' again =
      let h = head_same e' in let k = again h.1 in let z : x ≡ y = ap (λ (f : Factor). f.exponent) h.0 in cc (k, z)

-- one more factor, behind all others
pub factor_more : (v : ℕ) (s : List ℕ) (at e : ℕ) → at < length s → ((k : ℕ) → at ≤ k → get_or s k 0 ≡ 0) → 0 < e
    → factors_from v (slice_set s at e) ≡ factors_from v s ++ factor (v + at) e ∷ []
factor_more v [] at e lt free some = absurd (omega arith)
factor_more v (x ∷ s) zero e lt free some =
    let here : x ≡ 0 = free 0 (omega arith) in
    let none = no_factors s (suc v) (λ k. free (suc k) (omega arith)) in
    let same : v ≡ v + 0 = omega arith in
    rw (some_is e some, here, none, ← same) refl
factor_more v (x ∷ s) (suc at) e lt free some =
    by (x == 0) refl (factor_more (suc v) s at e (omega arith) (λ k h. free (suc k) (omega (arith, h))) some) where
      by : (t : Bool) → (x == 0) ≡ t → factors_from (suc v) (slice_set s at e) ≡ factors_from (suc v) s ++ factor (suc v + at) e ∷ []
          → (if t then factors_from (suc v) (slice_set s at e) else record { variable = v; exponent = x } ∷ factors_from (suc v) (slice_set s at e))
          ≡ (if t then factors_from (suc v) s else record { variable = v; exponent = x } ∷ factors_from (suc v) s) ++ factor (v + suc at) e ∷ []
      by true h k = let same : suc v + at ≡ v + suc at = omega arith in rw (same) at k
      by false h k = let same : suc v + at ≡ v + suc at = omega arith in ap (λ (fs : List Factor). record { variable = v; exponent = x } ∷ fs) (rw (same) at k)

combined_zeros : (s : List ℕ) (n : ℕ) → length s ≡ n → product s (replicate n 0) ≡ s
combined_zeros [] zero l = refl
combined_zeros [] (suc n) l = refl
combined_zeros (x ∷ s) zero l = absurd (omega (arith, l))
combined_zeros (x ∷ s) (suc n) l = let rest = combined_zeros s n (omega (arith, l)) in let x_is : x + 0 ≡ x = omega arith in rw (rest, x_is) refl

-- a product with a power of a variable that isn't there
pub product_set : (s : List ℕ) (n at e : ℕ) → length s ≡ n → get_or s at 0 ≡ 0 → product s (slice_set (replicate n 0) at e) ≡ slice_set s at e
product_set [] n at e l z = refl
product_set (x ∷ s) zero at e l z = absurd (omega (arith, l))
product_set (x ∷ s) (suc n) zero e l z = let rest = combined_zeros s n (omega (arith, l)) in let x_is : x + e ≡ e = omega (arith, z) in rw (rest, x_is) refl
product_set (x ∷ s) (suc n) (suc at) e l z = let rest = product_set s n at e (omega (arith, l)) z in let x_is : x + 0 ≡ x = omega arith in rw (rest, x_is) refl
