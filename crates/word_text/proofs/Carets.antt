-- What stands before a missing exponent can be continued to a word.
use Rattle.std.proofs.Common.{◌≡◌, inl, inr, ℕ, ◌+◌, Bool, true, false, List, [], ◌∷◌, ◌++◌, length, drop, take_while, refl, sym, ◌∙◌, ap, subst, arith}
use Rattle.free_words.specs.declared.letter.Letter.{Letter}
use Rattle.word_text.specs.declared.machine.Spot.{Spot}
use Rattle.word_text.specs.Scan.{is_blank, is_digit, first_is, after_blanks, digits_at, after_digits}
use Rattle.word_text.specs.Powers.{power_of}
use Rattle.word_text.specs.Machine.{Frame, Find}
use Rattle.word_text.specs.Grammar.{IsSize, IsExponent, Raised, Atom, SpelledWithin}
use Rattle.word_text.specs.Faults.{IsSomeWord}
use Rattle.word_text.proofs.Inside.{Inside}
use Rattle.word_text.proofs.Exponents.{SizePlace}
use Rattle.word_text.proofs.Swaps.{Halts, Swap, both, Past, past_nothing, taken}
use Rattle.word_text.proofs.TokensStay.{halts_digit, past_blanks, Token, token_gap, both_gaps, then_gap}
use Rattle.word_text.proofs.PartsStay.{Raises_behind, behind_blanks, raised_moves, raised_wider, Parts, moves, wider}
use Rattle.word_text.proofs.Completed.{SomeFactor, by_factor, closers, halts_closers, halts_clear, halts_caret, Makes_word, text_completes, Splits}

-- powers behind powers
raised_then : (limit : ℕ) (a v u : List Letter) (bs at rest : List ℕ) → Raised limit a bs v at → Raised limit v at u rest → Raised limit a bs u rest
raised_then limit _ _ u _ _ rest (Raised.none w bs) q = q
raised_then limit _ _ u _ _ rest (Raised.more w v bs mid at negative n c x short p) q =
    Raised.more w u bs mid rest negative n c x short (raised_then limit (power_of negative n w) v u (after_blanks mid) at rest p q)

-- the powers that go on with a factor close all brackets and make a word of the text
abbrev pub Makes_powers : Find → List Frame → List Letter → List ℕ → List ℕ → Type 0
Makes_powers find frames v text at = (m : ℕ) (u : List Letter) → Raised m v at u (closers frames) → IsSomeWord find text

abbrev Atom_raised : ℕ → Find → List Letter → List Letter → List ℕ → List ℕ → Type 0
Atom_raised limit find a v place at = (mid : List ℕ) × SpelledWithin limit find Atom place a mid × Raised limit a (after_blanks mid) v at

factor_here : (limit m : ℕ) (find : Find) (frames : List Frame) (a v u : List Letter) (place mid at : List ℕ) → SpelledWithin limit find Atom place a mid
    → Raised limit a (after_blanks mid) v at → Raised m v at u (closers frames) → SomeFactor find place (closers frames)
factor_here limit m find frames a v u place mid at atom p q =
    let n : ℕ = limit + m in (
      n,
      u,
      SpelledWithin.powers place mid (closers frames) a u (wider limit n find Atom place a mid (omega arith) atom) (
        raised_then n a v u (after_blanks mid) at (closers frames) (raised_wider limit n a v (after_blanks mid) at (omega arith) p)
            (raised_wider m n v u at (closers frames) (omega arith) q),
        halts_caret (closers frames) (halts_closers frames),
      ),
    )

powers_complete : (limit : ℕ) (find : Find) (text : List ℕ) (frames : List Frame) (outer a v : List Letter) (spot : Spot) (place mid at : List ℕ)
    → Inside limit find (after_blanks text) frames outer spot place → SpelledWithin limit find Atom place a mid → Raised limit a (after_blanks mid) v at
    → Swap (Makes_powers find frames v) text at
powers_complete limit find text frames outer a v spot place mid at h atom p =
    both (Makes_word find frames spot) (Atom_raised limit find a v) (Makes_powers find frames v) text place at
    (text_completes limit find text frames outer spot place h)
    (both (Parts limit find Atom a) (Raises_behind limit a v) (Atom_raised limit find a v) place mid at
    (moves limit limit find Atom place a mid (omega arith) atom)
    (behind_blanks limit a v mid at (raised_moves limit limit a v (after_blanks mid) at (omega arith) p)) (λ x y z r s. (y, r, s)))
    (λ x y z f g m u q. f (by_factor find spot y (closers frames) (factor_here limit m find frames a v u y g.0 z g.1 g.2 q)))

-- the exponent 0
zero_digit : (cs : List ℕ) → Halts cs → digits_at (48 ∷ cs) ≡ 48 ∷ []
unfolding digits_at is_digit
zero_digit cs h = taken is_digit 48 cs refl ∙ ap (λ (l : List ℕ). 48 ∷ l) (past_nothing is_digit cs (halts_digit cs h))

zero_behind : (cs : List ℕ) → Halts cs → after_digits (48 ∷ cs) ≡ cs
unfolding after_digits digits_at
zero_behind cs h =
    let e : take_while is_digit (48 ∷ cs) ≡ 48 ∷ [] = zero_digit cs h in
    rw e refl

zero_size : (cs : List ℕ) → Halts cs → IsSize (48 ∷ cs) 0 cs
zero_size cs h = (rw (zero_digit cs h) (omega arith), rw (zero_digit cs h) refl, omega arith, sym (zero_behind cs h))

zero_past : (cs : List ℕ) → Past is_blank (48 ∷ cs)
unfolding is_blank
zero_past cs = refl

zero_power : (frames : List Frame) (v : List Letter) (bs : List ℕ) (negative : Bool) → first_is 94 bs ≡ true
    → IsExponent (after_blanks (drop 1 bs)) negative 0 (closers frames) → Raised (length (power_of negative 0 v)) v bs (power_of negative 0 v) (closers frames)
zero_power frames v bs negative c x =
    let u : List Letter = power_of negative 0 v in
    Raised.more v u bs (closers frames) (closers frames) negative 0 c x (omega arith)
    (subst (λ (l : List ℕ). Raised (length u) u l u (closers frames)) (sym (halts_clear (closers frames) (halts_closers frames)))
    (Raised.none u (closers frames)))

-- `^`, or `^` and `-`, with the digits' place behind it
abbrev Minus : List ℕ → List ℕ → Type 0
Minus bs rest = (first_is 94 bs ≡ true) × (first_is 45 (after_blanks (drop 1 bs)) ≡ true) × (rest ≡ after_blanks (drop 1 (after_blanks (drop 1 bs))))

abbrev Before_digits : Find → List Frame → List ℕ → List ℕ → Type 0
Before_digits find frames text here = IsSize here 0 (closers frames) → first_is 45 here ≡ false → IsSomeWord find text

abbrev Gapped : Find → List Frame → List ℕ → List ℕ → Type 0
Gapped find frames text place = (q : List ℕ) × (text ≡ q ++ place) × ((cs : List ℕ) → Past is_blank cs → Before_digits find frames (q ++ cs) cs)

digits_next : (find : Find) (text : List ℕ) (frames : List Frame) (v : List Letter) (at place : List ℕ) → Swap (Makes_powers find frames v) text at
    → first_is 94 at ≡ true
    → SizePlace (after_blanks (drop 1 at)) place → Gapped find frames text place
digits_next find text frames v at place s c (inr p) =
    subst (λ (l : List ℕ). Gapped find frames text l) (sym p.1)
    (then_gap (Makes_powers find frames v) (Token 94) (Before_digits find frames) text at (after_blanks (drop 1 at)) s (token_gap 94 at c)
    (λ x y z f t size minus. f (length (power_of false 0 v)) (power_of false 0 v)
    (zero_power frames v y false t.0 (subst (λ (l : List ℕ). IsExponent l false 0 (closers frames)) t.1 (minus, size)))))
digits_next find text frames v at place s c (inl p) =
    let here : List ℕ = after_blanks (drop 1 at) in
    subst (λ (l : List ℕ). Gapped find frames text l) (sym p.1)
    (then_gap (Makes_powers find frames v) Minus (Before_digits find frames) text at (after_blanks (drop 1 here)) s
    (both_gaps (Token 94) (Token 45) Minus at here (after_blanks (drop 1 here)) (token_gap 94 at c) (token_gap 45 here p.0) (past_blanks (drop 1 at))
    (λ x y z t u. (t.0, subst (λ (l : List ℕ). first_is 45 l ≡ true) t.1 u.0, subst (λ (l : List ℕ). z ≡ after_blanks (drop 1 l)) t.1 u.1)))
    (λ x y z f t size minus. f (length (power_of true 0 v)) (power_of true 0 v)
    (zero_power frames v y true t.0 (t.1, subst (λ (l : List ℕ). IsSize l 0 (closers frames)) t.2 size))))

pub exponent_splits : (limit : ℕ) (find : Find) (text : List ℕ) (frames : List Frame) (outer a v : List Letter) (spot : Spot) (factor mid at place : List ℕ)
    → Inside limit find (after_blanks text) frames outer spot factor → SpelledWithin limit find Atom factor a mid → Raised limit a (after_blanks mid) v at
    → first_is 94 at ≡ true → SizePlace (after_blanks (drop 1 at)) place → Splits find text place
exponent_splits limit find text frames outer a v spot factor mid at place h atom p c s =
    let g = digits_next find text frames v at place (powers_complete limit find text frames outer a v spot factor mid at h atom p) c s in
    let rest : List ℕ = 48 ∷ closers frames in
    (g.0, g.1, (rest, g.2 rest (zero_past (closers frames)) (zero_size (closers frames) (halts_closers frames)) refl))
