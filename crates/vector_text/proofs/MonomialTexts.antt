-- The texts of monomials, read factor by factor.
use Rattle.std.proofs.Common.{◌≡◌, ◌≢◌, ◌⊎◌, inl, inr, ℕ, zero, suc, ◌+◌, ◌*◌, ◌/◌, ◌%◌, ◌<◌, ◌≤◌, ◌==◌, Bool, true, false, if◌then◌else◌, List, [], ◌∷◌, ◌++◌}
use Rattle.std.proofs.Common.{length, get_or, slice_set, replicate, map, Option, Some, None, codes, decimal, refl, sym, ap, subst, ◌∙◌, arith, append_assoc}
use Rattle.std.proofs.lemmas.List.{get_or-set_other, length-replicate}
use Rattle.std.proofs.lemmas.List.Sums.{sum_by-set}
use Rattle.std.proofs.lemmas.List.Folds.{sum_by-replicate}
use Rattle.std.specs.List.{AllByRecursion}
use Rattle.laurent_terms.specs.declared.TheConstants.{VARIABLES, DEGREE}
use Rattle.laurent_terms.specs.Monomials.{one, degree, product, IsMonomial}
use Rattle.spelling.specs.Spelling.{IsRead, first_part}
use Rattle.spelling.proofs.Lacking.{Lacks, lacks_append, apart, decimal_lacks}
use Rattle.word_text.specs.Scan.{is_name_byte, is_letter, is_digit, mark_of, mark_byte}
use Rattle.word_text.specs.declared.scan.Mark.TheVariants as marks
use Rattle.presentation.specs.Presented.{IsName}
use Rattle.presentation.specs.Writing.{joined, led_by, name_of}
use Rattle.presentation.proofs.WritingBytes.{Passes}
use Rattle.presentation.proofs.WritingEnds.{name_byte_other}
use Rattle.presentation.proofs.WritingNames.{name_holds, name_passes, name_marked}
use Rattle.presentation.proofs.WritingBack.{AreNames}
use Rattle.vector_text.specs.declared.factors.Factor.{Factor}
use Rattle.vector_text.specs.Spelling.{variable_text, exponent_text, factor_text, factors_from, product_text, monomial_text, factors_text}
use Rattle.vector_text.specs.Over.{MonoIsOver, IsMonoOf, IsProductOf, IsFactorOf}
use Rattle.vector_text.proofs.Parts.{IsApart, Leaves, listed, goes_on, unread, read_next, listed_same, listed_lacks, all_weaker}
use Rattle.vector_text.proofs.FactorTexts.{factor_same}
use Rattle.vector_text.proofs.FactorLists.{factor, factors_valid, factors_same, total, total-append, total_is, rises, factor_more, product_set}

-- a byte that stands in no factor
pub record IsSeparator (c : ℕ) : Type 0 where
  pub name : is_name_byte c ≡ false
  pub digit : (c < 48) ⊎ (57 < c)
  pub tick : c ≢ 39
  pub hat : c ≢ 94

name_bytes : (c : ℕ) (n : List ℕ) → is_name_byte c ≡ false → Passes is_name_byte n → Lacks c n
name_bytes c [] o h = tt
name_bytes c (b ∷ bs) o h = (name_byte_other b c h.0 o, name_bytes c bs o h.1)

pub name_lacks : (c : ℕ) (names : List (List ℕ)) (g : ℕ) → is_name_byte c ≡ false → AreNames names → g < length names → Lacks c (name_of names g)
name_lacks c names g o known lt = name_bytes c (name_of names g) o (name_passes (name_of names g) (name_holds IsName names g known.each lt))

tick_lacks : (c : ℕ) (t : Bool) → c ≢ 39 → Lacks c (if t then [] else 39 ∷ [])
tick_lacks c true o = tt
tick_lacks c false o = (apart 39 c (λ e. o (sym e)), tt)

exponent_lacks : (c e : ℕ) (t : Bool) → IsSeparator c → e ≤ DEGREE → Lacks c (if t then [] else 94 ∷ decimal e)
exponent_lacks c e true o le = tt
exponent_lacks c e false o le = (apart 94 c (λ k. o.hat (sym k)), decimal_lacks c e o.digit (omega (arith, le)))

pub factor_lacks : (c : ℕ) (names : List (List ℕ)) (f : Factor) → IsSeparator c → AreNames names → IsFactorOf (length names) f → Lacks c (factor_text names f)
factor_lacks c names f o known h =
    lacks_append c (variable_text names f.variable) (exponent_text f.exponent)
    (lacks_append c (name_of names (f.variable / 2)) (if f.variable % 2 == 0 then [] else 39 ∷ [])
    (name_lacks c names (f.variable / 2) o.name known (omega (arith, h.variable)))
    (tick_lacks c (f.variable % 2 == 0) o.tick))
    (exponent_lacks c f.exponent (f.exponent == 1) o h.exponent.1)

point : IsSeparator 46
unfolding is_name_byte is_letter is_digit
point = record { name = refl; digit = inl (omega arith); tick = λ e. omega (arith, e); hat = λ e. omega (arith, e) }

abbrev IsFactorHere : List (List ℕ) → Factor → Type 0
IsFactorHere names = IsFactorOf (length names)

factors_apart : (names : List (List ℕ)) → AreNames names → IsApart 46 (factor_text names) (IsFactorHere names)
factors_apart names known = record {
  lacks = λ f h. factor_lacks 46 names f point known h;
  one = λ f g h k e. factor_same names known f g h k e;
}

valid : (n : ℕ) (s : List ℕ) → IsMonomial s → MonoIsOver n s → AllByRecursion (IsFactorOf n) (factors_from 0 s)
valid n s mono over = factors_valid n 0 s (λ k le. over k (omega (arith, le))) mono.most

-- a product on its way: its factors so far, all before the variable `next`, and what is left of the text
pub record Going (names : List (List ℕ)) (text made : List ℕ) (next : ℕ) (left : Option (List ℕ)) : Type 0 where
  pub leaves : Leaves 46 (factor_text names) text (factors_from 0 made) left
  pub mono : IsMonomial made
  pub free : (k : ℕ) → next ≤ k → get_or made k 0 ≡ 0
  pub bound : next ≤ 2 * length names
  pub rising : (s : List ℕ) (f : Factor) (fs : List Factor) → f.variable < next → factors_from 0 s ≡ factors_from 0 made ++ f ∷ fs → ⊥

pub zero_in : (n k : ℕ) → get_or {A = ℕ} (replicate n 0) k 0 ≡ 0
zero_in zero k = refl
zero_in (suc n) zero = refl
zero_in (suc n) (suc k) = zero_in n k

pub zero_at : (k : ℕ) → get_or one k 0 ≡ 0
zero_at k = zero_in VARIABLES k

pub begins : (names : List (List ℕ)) (text : List ℕ) → IsMonomial one → Going names text one 0 (Some text)
begins names text mono = record {
  leaves = refl;
  mono = mono;
  free = λ k le. zero_at k;
  bound = omega arith;
  rising = λ s f fs lt e. omega (arith, lt);
}

over : (names : List (List ℕ)) (text made : List ℕ) (next : ℕ) (left : Option (List ℕ)) → Going names text made next left → MonoIsOver (length names) made
over names text made next left h = λ k le. h.free k (omega (arith, le, h.bound))

all_made : (names : List (List ℕ)) (text made : List ℕ) (next : ℕ) (left : Option (List ℕ)) → Going names text made next left
    → AllByRecursion (IsFactorHere names) (factors_from 0 made)
all_made names text made next left h = valid (length names) made h.mono (over names text made next left h)

-- something is left
pub still : (names : List (List ℕ)) (text made : List ℕ) (next : ℕ) (left : Option (List ℕ)) (rest : List ℕ) → left ≡ Some rest
    → Going names text made next left → Going names text made next (Some rest)
still names text made next left rest e h = let P : Option (List ℕ) → Type 0 = Going names text made next in subst P e h

-- no monomial's text goes on with this part
pub no_factor : (names : List (List ℕ)) → AreNames names → (text made rest front : List ℕ) (next : ℕ) (after : Option (List ℕ))
    → Going names text made next (Some rest)
    → first_part 46 rest ≡ (front, after) → IsRead (factor_text names) (IsFactorHere names) front None
    → IsRead (factors_text names) (IsProductOf (length names)) text None
no_factor names known text made rest front next after h e bad = λ s k is.
    unread 46 (factor_text names) (IsFactorHere names) (factors_apart names known) text rest front after (factors_from 0 made) (factors_from 0 s)
    h.leaves e (all_made names text made next (Some rest) h) bad (valid (length names) s k.mono.mono k.mono.over) k.some is

-- the factor that is read is the next one of each monomial with this text
next_factor : (names : List (List ℕ)) → AreNames names → (text made rest front : List ℕ) (next : ℕ) (after : Option (List ℕ)) (f : Factor)
    → Going names text made next (Some rest)
    → first_part 46 rest ≡ (front, after) → IsRead (factor_text names) (IsFactorHere names) front (Some f)
    → (s : List ℕ) → IsProductOf (length names) s → text ≡ factors_text names s → (fs : List Factor) × (factors_from 0 s ≡ factors_from 0 made ++ f ∷ fs)
next_factor names known text made rest front next after f h e good s k is =
    read_next 46 (factor_text names) (IsFactorHere names) (factors_apart names known) text rest front after (factors_from 0 made) (factors_from 0 s) f
    h.leaves e (all_made names text made next (Some rest) h) good (valid (length names) s k.mono.mono k.mono.over) k.some is

-- the variables rise
pub not_rising : (names : List (List ℕ)) → AreNames names → (text made rest front : List ℕ) (next : ℕ) (after : Option (List ℕ)) (f : Factor)
    → Going names text made next (Some rest)
    → first_part 46 rest ≡ (front, after) → IsRead (factor_text names) (IsFactorHere names) front (Some f) → f.variable < next
    → IsRead (factors_text names) (IsProductOf (length names)) text None
not_rising names known text made rest front next after f h e good lt = λ s k is.
    let n = next_factor names known text made rest front next after f h e good s k is in h.rising s f n.0 lt n.1

degree_power : (n v e : ℕ) → v < n → degree (slice_set (replicate n 0) v e) ≡ e
degree_power n v e lt =
    let whole = sum_by-set (λ x. x) (replicate n 0) v e 0 (omega (arith, length-replicate {A = ℕ} n 0)) in
    omega (arith, whole, sum_by-replicate (λ x. x) n 0, zero_in n v)

-- and the degree stays within its limit
pub too_high : (names : List (List ℕ)) → AreNames names → (text made rest front : List ℕ) (next : ℕ) (after : Option (List ℕ)) (f : Factor) (power : List ℕ)
    → Going names text made next (Some rest)
    → first_part 46 rest ≡ (front, after) → IsRead (factor_text names) (IsFactorHere names) front (Some f) → f.variable < VARIABLES
    → power ≡ slice_set one f.variable f.exponent → DEGREE < degree made + degree power
    → IsRead (factors_text names) (IsProductOf (length names)) text None
too_high names known text made rest front next after f power h e good lt power_is high = λ s k is.
    let n = next_factor names known text made rest front next after f h e good s k is in
    let sum : total (factors_from 0 s) ≡ total (factors_from 0 made) + (f.exponent + total n.0) = ap total n.1 ∙ total-append (factors_from 0 made) (f ∷ n.0) in
    omega (arith, high, ap degree power_is, degree_power VARIABLES f.variable f.exponent lt, sum, total_is 0 s, total_is 0 made, k.mono.mono.most)

free_after : (made : List ℕ) (at e k : ℕ) → at + 1 ≤ k → get_or made k 0 ≡ 0 → get_or (slice_set made at e) k 0 ≡ 0
free_after made at e k le z = let ne : k ≢ at = λ q. omega (arith, q, le) in get_or-set_other made at k e 0 ne ∙ z

-- one more factor
pub going_on : (names : List (List ℕ)) → 2 * length names ≤ VARIABLES
    → (text made rest front : List ℕ) (next : ℕ) (after : Option (List ℕ)) (f : Factor) (power more : List ℕ)
    → Going names text made next (Some rest) → first_part 46 rest ≡ (front, after) → IsRead (factor_text names) (IsFactorHere names) front (Some f)
    → next ≤ f.variable
    → power ≡ slice_set one f.variable f.exponent → more ≡ product made power → IsMonomial more → Going names text more (f.variable + 1) after
going_on names few text made rest front next after f power more h e good le power_is more_is mono =
    let lt : f.variable < length made = omega (arith, h.mono.variables, few, good.0.variable) in
    let set : more ≡ slice_set made f.variable f.exponent =
    more_is ∙ ap (product made) power_is ∙ product_set made VARIABLES f.variable f.exponent h.mono.variables (h.free f.variable le) in
    let front_number : 0 + f.variable ≡ f.variable = omega arith in
    let factors : factors_from 0 more ≡ factors_from 0 made ++ f ∷ [] =
    ap (factors_from 0) set ∙ factor_more 0 made f.variable f.exponent lt (λ k q. h.free k (omega (arith, q, le))) good.0.exponent.0
    ∙ ap (λ (v : ℕ). factors_from 0 made ++ factor v f.exponent ∷ []) front_number in
    record {
      leaves = rw factors (goes_on 46 (factor_text names) text rest front after (factors_from 0 made) f h.leaves e good.1);
      mono = mono;
      free = λ k q. ap (λ (s : List ℕ). get_or s k 0) set ∙ free_after made f.variable f.exponent k q (h.free k (omega (arith, q, le)));
      bound = omega (arith, good.0.variable);
      rising = λ s g gs q is.
          let split : factors_from 0 s ≡ factors_from 0 made ++ f ∷ g ∷ gs = is ∙ rw factors (append_assoc (factors_from 0 made) (f ∷ []) (g ∷ gs)) in
          omega (arith, q, rises 0 s (factors_from 0 made) f g gs split);
    }

-- the whole text is read
pub whole_read : (names : List (List ℕ)) (text made : List ℕ) (next : ℕ) → Going names text made next None
    → IsRead (factors_text names) (IsProductOf (length names)) text (Some made)
whole_read names text made next h =
    (record { mono = record { mono = h.mono; over = over names text made next None h }; some = h.leaves.0 }, h.leaves.1)

one_text : (names : List (List ℕ)) → monomial_text names one ≡ codes "1"
one_text names = refl

pub one_read : (names : List (List ℕ)) (text made : List ℕ) → text ≡ codes "1" → made ≡ one → IsMonomial made
    → IsRead (monomial_text names) (IsMonoOf (length names)) text (Some made)
one_read names text made is made_is mono =
    (record { mono = mono; over = λ k le. ap (λ (s : List ℕ). get_or s k 0) made_is ∙ zero_at k }, is ∙ sym (ap (monomial_text names) made_is))

-- a monomial with a factor, and one without
product_is : (names : List (List ℕ)) (fs : List Factor) → 0 < length fs → product_text (map (factor_text names) fs)
    ≡ joined (46 ∷ []) (map (factor_text names) fs)
product_is names [] some = absurd (omega arith)
product_is names (f ∷ fs) some = refl

none_is : (names : List (List ℕ)) (fs : List Factor) → length fs ≡ 0 → product_text (map (factor_text names) fs) ≡ 49 ∷ []
none_is names [] e = refl
none_is names (f ∷ fs) e = absurd (omega (arith, e))

pub product_some : (names : List (List ℕ)) (text made : List ℕ) → IsRead (factors_text names) (IsProductOf (length names)) text (Some made)
    → IsRead (monomial_text names) (IsMonoOf (length names)) text (Some made)
product_some names text made h = (h.0.mono, h.1 ∙ sym (product_is names (factors_from 0 made) h.0.some))

some_or_none : (n : ℕ) → (n ≡ 0) ⊎ (0 < n)
some_or_none zero = inl refl
some_or_none (suc n) = inr (omega arith)

pub product_none : (names : List (List ℕ)) (text : List ℕ) → text ≢ 49 ∷ [] → IsRead (factors_text names) (IsProductOf (length names)) text None
    → IsRead (monomial_text names) (IsMonoOf (length names)) text None
product_none names text other bad = λ s h e. by s h e (some_or_none (length (factors_from 0 s))) where
  by : (s : List ℕ) → IsMonoOf (length names) s → text ≡ monomial_text names s → (length (factors_from 0 s) ≡ 0) ⊎ (0 < length (factors_from 0 s)) → ⊥
  by s h e (inl none) = other (e ∙ none_is names (factors_from 0 s) none)
  by s h e (inr some) = bad s (record { mono = h; some = some }) (e ∙ product_is names (factors_from 0 s) some)

not_digit_one : (c : ℕ) → (c < 48) ⊎ (57 < c) → (49 == c) ≡ false
not_digit_one c (inl lt) = apart 49 c (λ e. omega (arith, lt, e))
not_digit_one c (inr lt) = apart 49 c (λ e. omega (arith, lt, e))

-- a monomial's text lacks each byte that isn't its factors' or their separator
pub monomial_lacks : (c : ℕ) (names : List (List ℕ)) (s : List ℕ) → IsSeparator c → 46 ≢ c → AreNames names → IsMonoOf (length names) s
    → Lacks c (monomial_text names s)
monomial_lacks c names s o ne known h = by (factors_from 0 s) (valid (length names) s h.mono h.over) where
  by : (fs : List Factor) → AllByRecursion (IsFactorHere names) fs → Lacks c (product_text (map (factor_text names) fs))
  by [] k = (not_digit_one c o.digit, tt)
  by (f ∷ fs) k = listed_lacks c 46 (factor_text names) (f ∷ fs) ne (all_weaker (f ∷ fs) (λ g q. factor_lacks c names g o known q) k)

first_marked : (names : List (List ℕ)) (f : Factor) (fs : List Factor) → AreNames names → IsFactorOf (length names) f
    → mark_of (listed 46 (factor_text names) (f ∷ fs)) ≡ marks.Letter
first_marked names f fs known h =
    let below : f.variable / 2 < length names = omega (arith, h.variable) in
    let tick : List ℕ = if f.variable % 2 == 0 then [] else 39 ∷ [] in
    let more : List ℕ = led_by (46 ∷ []) (map (factor_text names) fs) in
    let is : listed 46 (factor_text names) (f ∷ fs) ≡ name_of names (f.variable / 2) ++ (tick ++ (exponent_text f.exponent ++ more)) = simp append_assoc in
    ap mark_of is ∙ name_marked (name_of names (f.variable / 2)) (tick ++ (exponent_text f.exponent ++ more))
    (name_holds IsName names (f.variable / 2) known.each below)

one_marked : mark_of (49 ∷ []) ≡ marks.One
unfolding mark_byte is_letter
one_marked = refl

-- a text is that of one monomial
pub monomial_same : (names : List (List ℕ)) → AreNames names → (s t : List ℕ) → IsMonoOf (length names) s → IsMonoOf (length names) t
    → monomial_text names s ≡ monomial_text names t → s ≡ t
monomial_same names known s t h k e =
    factors_same 0 s t (h.mono.variables ∙ sym k.mono.variables)
    (by (factors_from 0 s) (factors_from 0 t) (valid (length names) s h.mono h.over) (valid (length names) t k.mono k.over) e) where
      by : (fs gs : List Factor) → AllByRecursion (IsFactorHere names) fs → AllByRecursion (IsFactorHere names) gs
          → product_text (map (factor_text names) fs) ≡ product_text (map (factor_text names) gs) → fs ≡ gs
      by [] [] p q e' = refl
      by [] (g ∷ gs) p q e' = let m : marks.One ≡ marks.Letter = sym one_marked ∙ ap mark_of e' ∙ first_marked names g gs known q.0 in cc
      by (f ∷ fs) [] p q e' = let m : marks.One ≡ marks.Letter = sym one_marked ∙ ap mark_of (sym e') ∙ first_marked names f fs known p.0 in cc
      by (f ∷ fs) (g ∷ gs) p q e' = listed_same 46 (factor_text names) (IsFactorHere names) (factors_apart names known) (f ∷ fs) (g ∷ gs) p q (ap Some e')
