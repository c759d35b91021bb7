-- Tokens that stay where other bytes stand behind them.
use Rattle.std.proofs.Common.{◌==◌, ◌≡◌, ℕ, ◌<◌, Bool, true, false, List, [], ◌∷◌, ◌++◌, length, drop, take_while, refl, sym, ◌∙◌, ap, subst, arith}
use Rattle.std.proofs.lemmas.Bool.Decides.{nat_tests}
use Rattle.std.proofs.lemmas.List.{append_assoc}
use Rattle.std.proofs.Math.Seq.{drop-append_seam}
use Rattle.word_text.specs.declared.scan.Mark.{Mark}
use Rattle.word_text.specs.declared.scan.Mark.TheVariants as marks
use Rattle.word_text.specs.Scan.{is_blank, is_digit, is_name_byte, first_is, after_blanks, name_at, after_name, digits_at, after_digits, mark_of}
use Rattle.word_text.specs.Grammar.{IsSize, IsExponent}
use Rattle.word_text.proofs.Marks.{name_byte_marked}
use Rattle.word_text.proofs.Swaps.{Halts, Fits, Swap, weaker, both, Past, past_fits, run, taken, none_taken}

pub halts_blank : (cs : List ℕ) → Halts cs → Past is_blank cs
halts_blank [] h = tt
halts_blank (c ∷ cs) h = h.2

pub halts_digit : (cs : List ℕ) → Halts cs → Past is_digit cs
halts_digit [] h = tt
halts_digit (c ∷ cs) h = h.1

halts_name : (cs : List ℕ) → Halts cs → Past is_name_byte cs
halts_name [] h = tt
halts_name (c ∷ cs) h = h.0

-- blanks, and any byte but a blank behind them
pub past_blanks : (bs : List ℕ) → Past is_blank (after_blanks bs)
unfolding after_blanks
past_blanks bs = (run is_blank bs).past

abbrev pub Gap : (List ℕ → List ℕ → Type 0) → List ℕ → List ℕ → Type 0
Gap R bs rest = (q : List ℕ) × (bs ≡ q ++ rest) × ((cs : List ℕ) → Past is_blank cs → Fits bs (q ++ cs) × R (q ++ cs) cs)

abbrev pub Opening_gap : List ℕ → List ℕ → Type 0
Opening_gap bs rest = (q : List ℕ) × (bs ≡ q ++ rest) × ((cs : List ℕ) → Past is_blank cs → cs ≡ after_blanks (q ++ cs))

pub blanks_gap : (bs : List ℕ) → Opening_gap bs (after_blanks bs)
unfolding after_blanks
blanks_gap bs =
    let r = run is_blank bs in
    (take_while is_blank bs, r.splits, λ cs h. rw (r.again cs h) (sym (drop-append_seam (take_while is_blank bs) cs)))

-- blanks
abbrev pub Skips : List ℕ → List ℕ → Type 0
Skips bs rest = rest ≡ after_blanks bs

pub skipped : (bs : List ℕ) → Swap Skips bs (after_blanks bs)
unfolding after_blanks
skipped bs =
    let r = run is_blank bs in (
      take_while is_blank bs,
      r.splits,
      λ cs h.
          let past : Past is_blank cs = past_fits is_blank (drop (length (take_while is_blank bs)) bs) cs h r.past (halts_blank cs) in
          rw (r.again cs past) (sym (drop-append_seam (take_while is_blank bs) cs)),
    )

-- a byte with a mark, or a certain byte, and the blanks behind it
abbrev pub Marked : Mark → List ℕ → List ℕ → Type 0
Marked m bs rest = (mark_of bs ≡ m) × (rest ≡ after_blanks (drop 1 bs))

abbrev pub Token : ℕ → List ℕ → List ℕ → Type 0
Token c bs rest = (first_is c bs ≡ true) × (rest ≡ after_blanks (drop 1 bs))

pub marked : (m : Mark) (bs : List ℕ) → mark_of bs ≡ m → (m ≡ marks.Other → ⊥) → Swap (Marked m) bs (after_blanks (drop 1 bs))
marked m [] e n = absurd (n (sym e))
marked m (b ∷ bs) e n = let s = skipped bs in (b ∷ s.0, ap (λ (l : List ℕ). b ∷ l) s.1, λ cs h. (e, s.2 cs h))

pub token : (c : ℕ) (bs : List ℕ) → first_is c bs ≡ true → Swap (Token c) bs (after_blanks (drop 1 bs))
token c [] e = cc
token c (b ∷ bs) e = let s = skipped bs in (b ∷ s.0, ap (λ (l : List ℕ). b ∷ l) s.1, λ cs h. (e, s.2 cs h))

pub token_gap : (c : ℕ) (bs : List ℕ) → first_is c bs ≡ true → Gap (Token c) bs (after_blanks (drop 1 bs))
token_gap c [] e = cc
token_gap c (b ∷ bs) e =
    let g = blanks_gap bs in
    (b ∷ g.0, ap (λ (l : List ℕ). b ∷ l) g.1, λ cs h. (Fits.alike b bs (g.0 ++ cs), (e, g.2 cs h)))

pub both_gaps : (R S T : List ℕ → List ℕ → Type 0) (a b c : List ℕ) → Gap R a b → Gap S b c → Past is_blank b
    → ((x y z : List ℕ) → R x y → S y z → T x z) → Gap T a c
both_gaps R S T a b c f g past t = (
  f.0 ++ g.0,
  f.1 ∙ (ap (λ (l : List ℕ). f.0 ++ l) g.1 ∙ sym (append_assoc f.0 g.0 c)),
  λ cs h.
      let y = g.2 cs h in
      let x = f.2 (g.0 ++ cs) (past_fits is_blank b (g.0 ++ cs) y.0 past (halts_blank (g.0 ++ cs))) in
      subst (λ (l : List ℕ). Fits a l × T l cs) (sym (append_assoc f.0 g.0 cs)) (x.0, t (f.0 ++ (g.0 ++ cs)) (g.0 ++ cs) cs x.1 y.1),
)

pub then_gap : (R S T : List ℕ → List ℕ → Type 0) (a b c : List ℕ) → Swap R a b → Gap S b c → ((x y z : List ℕ) → R x y → S y z → T x z)
    → (q : List ℕ) × (a ≡ q ++ c) × ((cs : List ℕ) → Past is_blank cs → T (q ++ cs) cs)
then_gap R S T a b c f g t = (
  f.0 ++ g.0,
  f.1 ∙ (ap (λ (l : List ℕ). f.0 ++ l) g.1 ∙ sym (append_assoc f.0 g.0 c)),
  λ cs h.
      let y = g.2 cs h in
      subst (λ (l : List ℕ). T l cs) (sym (append_assoc f.0 g.0 cs)) (t (f.0 ++ (g.0 ++ cs)) (g.0 ++ cs) cs (f.2 (g.0 ++ cs) y.0) y.1),
)

-- a byte alone
abbrev pub Single : Mark → List ℕ → List ℕ → Type 0
Single m bs rest = (mark_of bs ≡ m) × (rest ≡ drop 1 bs)

abbrev pub Byte : ℕ → List ℕ → List ℕ → Type 0
Byte c bs rest = (first_is c bs ≡ true) × (rest ≡ drop 1 bs)

pub single : (m : Mark) (bs : List ℕ) → mark_of bs ≡ m → (m ≡ marks.Other → ⊥) → Swap (Single m) bs (drop 1 bs)
single m [] e n = absurd (n (sym e))
single m (b ∷ bs) e n = (b ∷ [], refl, λ cs h. (e, refl))

pub byte : (c : ℕ) (bs : List ℕ) → first_is c bs ≡ true → Swap (Byte c) bs (drop 1 bs)
byte c [] e = cc
byte c (b ∷ bs) e = (b ∷ [], refl, λ cs h. (e, refl))

-- names
abbrev pub Named : List ℕ → List ℕ → List ℕ → Type 0
Named name bs rest = (mark_of bs ≡ marks.Letter) × (name_at bs ≡ name) × (rest ≡ after_name bs)

pub named : (bs : List ℕ) → mark_of bs ≡ marks.Letter → Swap (Named (name_at bs)) bs (after_name bs)
unfolding name_at after_name
named [] e = cc
named (b ∷ bs) e =
    let r = run is_name_byte (b ∷ bs) in
    let q : List ℕ = take_while is_name_byte (b ∷ bs) in
    let t : q ≡ b ∷ take_while is_name_byte bs = taken is_name_byte b bs (name_byte_marked b e) in (
      q,
      r.splits,
      λ cs h.
          let past : Past is_name_byte cs = past_fits is_name_byte (drop (length q) (b ∷ bs)) cs h r.past (halts_name cs) in
          (subst (λ (l : List ℕ). mark_of (l ++ cs) ≡ marks.Letter) (sym t) e, r.again cs past, rw (r.again cs past) (sym (drop-append_seam q cs))),
    )

-- numbers
abbrev pub Sized : ℕ → List ℕ → List ℕ → Type 0
Sized n bs rest = IsSize bs n rest

numbered : (bs : List ℕ) (n : ℕ) → IsSize bs n (after_digits bs) → Swap (Sized n) bs (after_digits bs)
unfolding digits_at after_digits
numbered bs n i =
    let r = run is_digit bs in
    let q : List ℕ = take_while is_digit bs in (
      q,
      r.splits,
      λ cs h.
          let past : Past is_digit cs = past_fits is_digit (drop (length q) bs) cs h r.past (halts_digit cs) in
          (rw (r.again cs past) (i.0), rw (r.again cs past) (i.1), i.2, rw (r.again cs past) (sym (drop-append_seam q cs))),
    )

pub sized : (bs : List ℕ) (n : ℕ) (rest : List ℕ) → IsSize bs n rest → Swap (Sized n) bs rest
sized bs n rest i =
    subst (λ (l : List ℕ). Swap (Sized n) bs l) (sym i.3) (numbered bs n (i.0, i.1, i.2, refl))

-- exponents
digit_is : (b : ℕ) → is_digit b ≡ true → (b == 45) ≡ false
unfolding is_digit
digit_is b e = grind (arith, nat_tests)

minus_digit : (b : ℕ) (bs : List ℕ) (t : Bool) → is_digit b ≡ t → 0 < length (digits_at (b ∷ bs)) → (b == 45) ≡ false
unfolding digits_at
minus_digit b bs true e lt = digit_is b e
minus_digit b bs false e lt =
    let none : take_while is_digit (b ∷ bs) ≡ [] = none_taken is_digit b bs e in
    absurd (omega (arith, ap length none))

no_minus : (bs : List ℕ) → 0 < length (digits_at bs) → first_is 45 bs ≡ false
no_minus [] lt = refl
no_minus (b ∷ bs) lt = minus_digit b bs (is_digit b) refl lt

abbrev pub Exponent : Bool → ℕ → List ℕ → List ℕ → Type 0
Exponent negative n bs rest = IsExponent bs negative n rest

pub exponent : (bs : List ℕ) (negative : Bool) (n : ℕ) (rest : List ℕ) → IsExponent bs negative n rest → Swap (Exponent negative n) bs rest
exponent bs true n rest i =
    both (Token 45) (Sized n) (Exponent true n) bs (after_blanks (drop 1 bs)) rest (token 45 bs i.0) (sized (after_blanks (drop 1 bs)) n rest i.1)
    (λ x y z p q. (p.0, subst (λ (l : List ℕ). IsSize l n z) p.1 q))
exponent bs false n rest i = weaker (Sized n) (Exponent false n) bs rest (sized bs n rest i.1) (λ x y q. (no_minus x q.0, q))
