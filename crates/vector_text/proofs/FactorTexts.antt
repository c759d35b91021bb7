-- The texts of factors.
use Rattle.std.proofs.Common.{◌≡◌, ℕ, zero, suc, ◌+◌, ◌*◌, ◌/◌, ◌%◌, ◌<◌, ◌≤◌, ◌^◌, ◌==◌, Bool, true, false, if◌then◌else◌, List, [], ◌∷◌, ◌++◌, length, take}
use Rattle.std.proofs.Common.{drop, Option, Some, None, decimal, refl, sym, ap, subst, ◌∙◌, arith, append_assoc, append-nil}
use Rattle.std.proofs.lemmas.Bool.Decides.{nat_tests}
use Rattle.std.proofs.lemmas.Option.{none-some, same_Some}
use Rattle.laurent_terms.specs.declared.TheConstants.{DEGREE}
use Rattle.spelling.specs.Spelling.{IsRead, IsSmall}
use Rattle.spelling.proofs.Numbers.{decimal_same}
use Rattle.word_text.specs.Scan.{is_letter, is_digit, is_name_byte, name_at, after_name, first_is}
use Rattle.std.specs.List.{prefix_len}
use Rattle.word_text.specs.Machine.{finding}
use Rattle.word_text.specs.Naming.{IsNumberOf}
use Rattle.word_text.proofs.Naming.{finding_first}
use Rattle.presentation.specs.Presented.{IsName}
use Rattle.presentation.specs.Writing.{name_of}
use Rattle.presentation.proofs.WritingBytes.{Stops}
use Rattle.presentation.proofs.WritingEnds.{hat_no_name}
use Rattle.presentation.proofs.WritingNames.{name_holds, name_taken, name_left, name_found}
use Rattle.presentation.proofs.WritingBack.{AreNames}
use Rattle.vector_text.specs.declared.factors.Factor.{Factor}
use Rattle.vector_text.specs.Spelling.{exponent_text, factor_text}
use Rattle.vector_text.specs.Over.{IsExponent, IsFactorOf}

-- what stands behind `^`
hat_same : (ds es : List ℕ) → 94 ∷ ds ≡ 94 ∷ es → ds ≡ es
hat_same ds es e = cc

exponent_by : (ds : List ℕ) (x : ℕ) (t : Bool) → (x == 1) ≡ t → 94 ∷ ds ≡ (if t then [] else 94 ∷ decimal x) → ds ≡ decimal x
exponent_by ds x true t e = cc
exponent_by ds x false t e = hat_same ds (decimal x) e

-- an exponent that is written is that of its digits
pub digits_are : (ds : List ℕ) (x : ℕ) → 94 ∷ ds ≡ exponent_text x → ds ≡ decimal x
digits_are ds x e = exponent_by ds x (x == 1) refl e

wide : (x : ℕ) → IsExponent x → x < 2 ^ 32
wide x h = omega (arith, h.1)

pub no_number : (ds : List ℕ) → IsRead decimal IsSmall ds None → IsRead exponent_text IsExponent (94 ∷ ds) None
no_number ds bad = λ x h e. bad x (wide x h) (digits_are ds x e)

number_is : (ds : List ℕ) (n x : ℕ) → IsRead decimal IsSmall ds (Some n) → IsExponent x → ds ≡ decimal x → n ≡ x
number_is ds n x good h e = decimal_same n x (omega (arith, good.0)) (omega (arith, wide x h)) (sym good.1 ∙ e)

one_text : (ds : List ℕ) (x : ℕ) → x ≡ 1 → 94 ∷ ds ≡ exponent_text x → ⊥
one_text ds x one e = let k : 94 ∷ ds ≡ [] = rw one at e in cc

-- the exponent 1 isn't written, and 0 is none
pub one_written : (ds : List ℕ) (n : ℕ) → IsRead decimal IsSmall ds (Some n) → n < 2 → IsRead exponent_text IsExponent (94 ∷ ds) None
one_written ds n good lt = λ x h e. let same = number_is ds n x good h (digits_are ds x e) in one_text ds x (omega (arith, h.0)) e

pub past_degree : (ds : List ℕ) (n : ℕ) → IsRead decimal IsSmall ds (Some n) → DEGREE < n → IsRead exponent_text IsExponent (94 ∷ ds) None
past_degree ds n good lt = λ x h e. let same = number_is ds n x good h (digits_are ds x e) in omega (arith, h.1)

other_by : (text : List ℕ) (x : ℕ) (t : Bool) → (length text == 0) ≡ false → ((ds : List ℕ) → text ≡ 94 ∷ ds → ⊥)
    → text ≡ (if t then [] else 94 ∷ decimal x) → ⊥
other_by text x true some other e = let k : true ≡ false = sym (ap (λ (bs : List ℕ). length bs == 0) e) ∙ some in cc
other_by text x false some other e = other (decimal x) e

-- an exponent that is written has `^`
pub no_hat : (text : List ℕ) → (length text == 0) ≡ false → ((ds : List ℕ) → text ≡ 94 ∷ ds → ⊥) → IsRead exponent_text IsExponent text None
no_hat text some other = λ x h e. other_by text x (x == 1) some other e

not_one : (n : ℕ) → 2 ≤ n → (n == 1) ≡ false
not_one n le = grind (arith, nat_tests)

pub exponent_read : (ds : List ℕ) (n : ℕ) → IsRead decimal IsSmall ds (Some n) → 2 ≤ n → n ≤ DEGREE → IsRead exponent_text IsExponent (94 ∷ ds) (Some n)
exponent_read ds n good low high = ((omega arith, high), rw (not_one n low) (ap (λ (bs : List ℕ). 94 ∷ bs) good.1))

-- a text is that of one exponent
same_by : (x y : ℕ) (s t : Bool) → (x == 1) ≡ s → (y == 1) ≡ t → IsExponent x → IsExponent y
    → (if s then [] else 94 ∷ decimal x) ≡ (if t then [] else 94 ∷ decimal y) → x ≡ y
same_by x y true true p q h k e = grind (arith, nat_tests)
same_by x y true false p q h k e = cc
same_by x y false true p q h k e = cc
same_by x y false false p q h k e =
    decimal_same x y (omega (arith, wide x h)) (omega (arith, wide y k)) (hat_same (decimal x) (decimal y) e)

pub exponent_same : (x y : ℕ) → IsExponent x → IsExponent y → exponent_text x ≡ exponent_text y → x ≡ y
exponent_same x y h k e = same_by x y (x == 1) (y == 1) refl refl h k e

-- what stands behind a factor's name
abbrev pub behind_name : Factor → List ℕ
behind_name f = (if f.variable % 2 == 0 then [] else 39 ∷ []) ++ exponent_text f.exponent

tick_no_name : is_name_byte 39 ≡ false
unfolding is_name_byte is_letter is_digit
tick_no_name = refl

exponent_stops : (x : ℕ) (t : Bool) → (x == 1) ≡ t → Stops is_name_byte (if t then [] else 94 ∷ decimal x)
exponent_stops x true e = tt
exponent_stops x false e = hat_no_name

behind_by : (f : Factor) (t : Bool) → (f.variable % 2 == 0) ≡ t → Stops is_name_byte ((if t then [] else 39 ∷ []) ++ exponent_text f.exponent)
behind_by f true e = exponent_stops f.exponent (f.exponent == 1) refl
behind_by f false e = tick_no_name

behind_stops : (f : Factor) → Stops is_name_byte (behind_name f)
behind_stops f = behind_by f (f.variable % 2 == 0) refl

-- the name of a factor's generator, and what stands behind it
pub record Parts (names : List (List ℕ)) (f : Factor) : Type 0 where
  pub below : f.variable / 2 < length names
  pub text : factor_text names f ≡ name_of names (f.variable / 2) ++ behind_name f
  pub name : name_at (factor_text names f) ≡ name_of names (f.variable / 2)
  pub found : finding names (name_at (factor_text names f)) ≡ Some (f.variable / 2)
  pub rest : after_name (factor_text names f) ≡ behind_name f

pub parts : (names : List (List ℕ)) → AreNames names → (f : Factor) → IsFactorOf (length names) f → Parts names f
parts names known f h =
    let below : f.variable / 2 < length names = omega (arith, h.variable) in
    let is : factor_text names f ≡ name_of names (f.variable / 2) ++ behind_name f =
    append_assoc (name_of names (f.variable / 2)) (if f.variable % 2 == 0 then [] else 39 ∷ []) (exponent_text f.exponent) in
    let holds = name_holds IsName names (f.variable / 2) known.each below in
    let name : name_at (factor_text names f) ≡ name_of names (f.variable / 2) =
    rw is (name_taken (name_of names (f.variable / 2)) (behind_name f) holds (behind_stops f)) in
    record {
      below = below;
      text = is;
      name = name;
      found = rw name (name_found names (f.variable / 2) known.distinct below);
      rest = rw is (name_left (name_of names (f.variable / 2)) (behind_name f) holds (behind_stops f));
    }

tick_first : (x : ℕ) (t : Bool) → (x == 1) ≡ t → first_is 39 (if t then [] else 94 ∷ decimal x) ≡ false
tick_first x true e = refl
tick_first x false e = refl

-- an exponent doesn't begin with an apostrophe
pub no_tick : (x : ℕ) (rest : List ℕ) → 39 ∷ rest ≡ exponent_text x → ⊥
no_tick x rest e = let k : true ≡ false = ap (first_is 39) e ∙ tick_first x (x == 1) refl in cc

tail_same : {a b : ℕ} {s t : List ℕ} → a ∷ s ≡ b ∷ t → s ≡ t
tail_same e = cc

behind_same : (s t : Bool) (x y : ℕ) → IsExponent x → IsExponent y
    → (if s then [] else 39 ∷ []) ++ exponent_text x ≡ (if t then [] else 39 ∷ []) ++ exponent_text y → (s ≡ t) × (x ≡ y)
behind_same true true x y h k e = (refl, exponent_same x y h k e)
behind_same true false x y h k e = absurd (no_tick x (exponent_text y) (sym e))
behind_same false true x y h k e = absurd (no_tick y (exponent_text x) e)
behind_same false false x y h k e = (refl, exponent_same x y h k (tail_same e))

same_number : (v w : ℕ) → v / 2 ≡ w / 2 → (v % 2 == 0) ≡ (w % 2 == 0) → v ≡ w
same_number v w e p = by (v % 2 == 0) (w % 2 == 0) refl refl p where
  by : (s t : Bool) → (v % 2 == 0) ≡ s → (w % 2 == 0) ≡ t → s ≡ t → v ≡ w
  by true true a b q = grind (arith, nat_tests)
  by true false a b q = cc
  by false true a b q = cc
  by false false a b q = grind (arith, nat_tests)

factor_is : (f g : Factor) → f.variable ≡ g.variable → f.exponent ≡ g.exponent → f ≡ g
factor_is f g v e = let k : record { variable = f.variable; exponent = f.exponent } ≡ g = rw (v, e) refl in k

-- a text is that of one factor
pub factor_same : (names : List (List ℕ)) → AreNames names → (f g : Factor) → IsFactorOf (length names) f → IsFactorOf (length names) g
    → factor_text names f ≡ factor_text names g → f ≡ g
factor_same names known f g h k e =
    let a = parts names known f h in
    let b = parts names known g k in
    let half : f.variable / 2 ≡ g.variable / 2 = same_Some (f.variable / 2) (g.variable / 2) (sym a.found
    ∙ ap (λ (t : List ℕ). finding names (name_at t)) e ∙ b.found) in
    let behind = behind_same (f.variable % 2 == 0) (g.variable % 2 == 0) f.exponent g.exponent h.exponent k.exponent (sym a.rest ∙ ap after_name e ∙ b.rest) in
    let v = same_number f.variable g.variable half behind.0 in
    factor_is f g v behind.1

-- the exits of the reader
pub no_generator : (names : List (List ℕ)) → AreNames names → (text : List ℕ) → finding names (name_at text) ≡ None
    → IsRead (factor_text names) (IsFactorOf (length names)) text None
no_generator names known text none = λ f h e.
    none-some (f.variable / 2) (sym none ∙ ap (λ (t : List ℕ). finding names (name_at t)) e ∙ (parts names known f h).found)

behind_odd : (t : Bool) (x : ℕ) (rest : List ℕ) → 39 ∷ rest ≡ (if t then [] else 39 ∷ []) ++ exponent_text x → rest ≡ exponent_text x
behind_odd true x rest e = absurd (no_tick x rest e)
behind_odd false x rest e = tail_same e

pub no_inverse_exponent : (names : List (List ℕ)) → AreNames names → (text rest : List ℕ) → after_name text ≡ 39 ∷ rest
    → IsRead exponent_text IsExponent rest None
    → IsRead (factor_text names) (IsFactorOf (length names)) text None
no_inverse_exponent names known text rest is bad = λ f h e.
    bad f.exponent h.exponent (behind_odd (f.variable % 2 == 0) f.exponent rest (sym is ∙ ap after_name e ∙ (parts names known f h).rest))

behind_even : (t : Bool) (x : ℕ) (rest : List ℕ) → ((bs : List ℕ) → rest ≡ 39 ∷ bs → ⊥) → rest ≡ (if t then [] else 39 ∷ []) ++ exponent_text x
    → rest ≡ exponent_text x
behind_even true x rest other e = e
behind_even false x rest other e = absurd (other (exponent_text x) e)

pub no_exponent : (names : List (List ℕ)) → AreNames names → (text : List ℕ) → ((bs : List ℕ) → after_name text ≡ 39 ∷ bs → ⊥)
    → IsRead exponent_text IsExponent (after_name text) None
    → IsRead (factor_text names) (IsFactorOf (length names)) text None
no_exponent names known text other bad = λ f h e.
    bad f.exponent h.exponent (behind_even (f.variable % 2 == 0) f.exponent (after_name text) other (ap after_name e ∙ (parts names known f h).rest))

whole : (n : ℕ) (xs : List ℕ) → take n xs ++ drop (length (take n xs)) xs ≡ xs
whole zero xs = refl
whole (suc n) [] = refl
whole (suc n) (x ∷ xs) = ap (λ (ys : List ℕ). x ∷ ys) (whole n xs)

-- a text is a name and what stands behind it
named : (text : List ℕ) → text ≡ name_at text ++ after_name text
unfolding name_at after_name
named text = sym (whole (prefix_len is_name_byte text) text)

-- the generator that is found has this name
pub name_is : (names : List (List ℕ)) (name : List ℕ) (g : ℕ) → finding names name ≡ Some g → name ≡ name_of names g
name_is names name g e =
    let P : Option ℕ → Type 0 = IsNumberOf names name in
    let h = subst P e (finding_first names name) in
    rw h.0 refl

even_half : (g : ℕ) → (2 * g / 2 ≡ g) × ((2 * g % 2 == 0) ≡ true)
even_half g = (omega arith, grind (arith, nat_tests))

odd_half : (g : ℕ) → ((2 * g + 1) / 2 ≡ g) × (((2 * g + 1) % 2 == 0) ≡ false)
odd_half g = (omega arith, grind (arith, nat_tests))

pub inverse_read : (names : List (List ℕ)) → AreNames names → (text rest : List ℕ) (g e : ℕ) → finding names (name_at text) ≡ Some g → g < length names
    → after_name text ≡ 39 ∷ rest
    → IsRead exponent_text IsExponent rest (Some e) → IsRead (factor_text names) (IsFactorOf (length names)) text
    (Some (record { variable = 2 * g + 1; exponent = e }))
inverse_read names known text rest g e found lt is good =
    let a = odd_half g in (
      record { variable = omega arith; exponent = good.0 },
      named text ∙ rw (name_is names (name_at text) g found, is, good.1, a.0, a.1) (sym (append_assoc (name_of names g) (39 ∷ []) (exponent_text e))),
    )

pub factor_read : (names : List (List ℕ)) → AreNames names → (text : List ℕ) (g e : ℕ) → finding names (name_at text) ≡ Some g → g < length names
    → IsRead exponent_text IsExponent (after_name text) (Some e)
    → IsRead (factor_text names) (IsFactorOf (length names)) text (Some (record { variable = 2 * g; exponent = e }))
factor_read names known text g e found lt good =
    let a = even_half g in (
      record { variable = omega arith; exponent = good.0 },
      named text ∙ rw (name_is names (name_at text) g found, good.1, a.0, a.1, append-nil (name_of names g)) refl,
    )

-- each way that a factor is read
pub ruleset factors_read = (no_generator, no_inverse_exponent, no_exponent, inverse_read, factor_read)

-- each way that an exponent is read
pub ruleset exponents_read = (no_number, no_hat, one_written, past_degree, exponent_read)
