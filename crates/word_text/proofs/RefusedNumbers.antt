-- What no word goes on with behind `^`.
use Rattle.std.proofs.Common.{◌≡◌, inl, inr, ℕ, ◌+◌, ◌<◌, ◌≤◌, Bool, true, false, List, ◌∷◌, ◌++◌, length, drop, take_while, Err, refl, sym, ◌∙◌, ap, subst}
use Rattle.std.proofs.Common.{arith}
use Rattle.free_words.specs.declared.letter.Letter.{Letter}
use Rattle.word_text.specs.declared.fault.Fault.{Fault}
use Rattle.word_text.specs.declared.fault.TextKind.TheVariants.{ExponentTooLarge}
use Rattle.word_text.specs.declared.machine.Spot.{Spot}
use Rattle.word_text.specs.Scan.{is_blank, is_digit, first_is, after_blanks, digits_at, number, due}
use Rattle.word_text.specs.Powers.{written}
use Rattle.word_text.specs.Machine.{Frame, Find, factor_ends}
use Rattle.word_text.specs.Grammar.{Raised, Atom, SpelledWithin, IsWordWithin}
use Rattle.word_text.specs.Faults.{IsSomeWord, bytes_before}
use Rattle.word_text.proofs.Inside.{Inside}
use Rattle.word_text.proofs.Exponents.{NoSize, SizePlace, NoExponent}
use Rattle.word_text.proofs.PowersRead.{powers_fault}
use Rattle.word_text.proofs.Again.{at, complete}
use Rattle.word_text.proofs.Swaps.{Swap, both, Past, taken, none_taken}
use Rattle.word_text.proofs.TokensStay.{past_blanks, Token, token_gap, both_gaps, then_gap}
use Rattle.word_text.proofs.PartsStay.{Raises_behind, behind_blanks, raised_moves, Parts, moves}
use Rattle.word_text.proofs.Ends.{before_is}
use Rattle.word_text.proofs.Refused.{TextInside, text_moves, read_through, not_read, SameFirst, longer}

-- where an exponent has to stand and none does, no word goes on
no_exponent_ends : (limit : ℕ) (frames : List Frame) (outer : List Letter) (start : ℕ) (a v : List Letter) (mid at : List ℕ) (e : Fault)
    → Raised limit a (after_blanks mid) v at
    → first_is 94 at ≡ true → NoExponent (after_blanks (drop 1 at)) e → factor_ends limit frames outer start a mid ≡ Err e
unfolding factor_ends
no_exponent_ends limit frames outer start a v mid at e p c x = rw (powers_fault limit start a v mid at e p c x) refl

no_word_exponent : (limit : ℕ) (find : Find) (text : List ℕ) (frames : List Frame) (outer a v : List Letter) (spot : Spot) (place mid here : List ℕ) (e : Fault)
    (word : List Letter)
    → Inside limit find (after_blanks text) frames outer spot place → SpelledWithin limit find Atom place a mid → Raised limit a (after_blanks mid) v here
    → first_is 94 here ≡ true → NoExponent (after_blanks (drop 1 here)) e → IsWordWithin limit find text word → ⊥
no_word_exponent limit find text frames outer a v spot place mid here e word h atom p c none is =
    let x = read_through limit find text frames outer spot place word h is in
    let y = complete limit find Atom place a mid atom frames outer spot x.0 x.1 in
    not_read limit y.0 find (at frames outer spot) place word (factor_ends limit frames outer (length place) a mid)
    (inl (e, no_exponent_ends limit frames outer (length place) a v mid here e p c none)) (sym y.2 ∙ x.2)

-- `^` behind an atom and some of its powers
abbrev pub AtCaret : ℕ → Find → List Letter → List Letter → List ℕ → List ℕ → Type 0
AtCaret limit find a v text here = (frames : List Frame) × (outer : List Letter) × (spot : Spot) × (place : List ℕ) × (mid : List ℕ)
    × Inside limit find (after_blanks text) frames outer spot place × SpelledWithin limit find Atom place a mid × Raised limit a (after_blanks mid) v here

abbrev Atom_raised : ℕ → Find → List Letter → List Letter → List ℕ → List ℕ → Type 0
Atom_raised limit find a v place here = (mid : List ℕ) × SpelledWithin limit find Atom place a mid × Raised limit a (after_blanks mid) v here

pub caret_moves : (limit m : ℕ) (find : Find) (text : List ℕ) (frames : List Frame) (outer a v : List Letter) (spot : Spot)
    (place mid here : List ℕ) → limit ≤ m
    → Inside limit find (after_blanks text) frames outer spot place → SpelledWithin limit find Atom place a mid → Raised limit a (after_blanks mid) v here
    → Swap (AtCaret m find a v) text here
caret_moves limit m find text frames outer a v spot place mid here le h atom p =
    both (TextInside m find frames outer spot) (Atom_raised m find a v) (AtCaret m find a v) text place here
    (text_moves limit m find text frames outer spot place le h)
    (both (Parts m find Atom a) (Raises_behind m a v) (Atom_raised m find a v) place mid here (moves limit m find Atom place a mid le atom)
    (behind_blanks m a v mid here (raised_moves limit m a v (after_blanks mid) here le p)) (λ x y z r s. (y, r, s)))
    (λ x y z i r. (i.0, outer, spot, y, r.0, i.1, r.1, r.2))

-- the place of the digits behind it
abbrev AtDigits : ℕ → Find → List Letter → List Letter → List ℕ → List ℕ → Type 0
AtDigits limit find a v text place = (here : List ℕ) × AtCaret limit find a v text here × (first_is 94 here ≡ true)
    × SizePlace (after_blanks (drop 1 here)) place

abbrev WithoutMinus : ℕ → Find → List Letter → List Letter → List ℕ → List ℕ → Type 0
WithoutMinus limit find a v text place = first_is 45 place ≡ false → AtDigits limit find a v text place

abbrev Minus : List ℕ → List ℕ → Type 0
Minus bs rest = (first_is 94 bs ≡ true) × (first_is 45 (after_blanks (drop 1 bs)) ≡ true) × (rest ≡ after_blanks (drop 1 (after_blanks (drop 1 bs))))

abbrev Moves_digits : ℕ → Find → List Letter → List Letter → List ℕ → List ℕ → Type 0
Moves_digits limit find a v text place = (q : List ℕ) × (text ≡ q ++ place) × ((cs : List ℕ) → SameFirst place cs → AtDigits limit find a v (q ++ cs) cs)

same_past : (bs cs : List ℕ) → SameFirst bs cs → Past is_blank bs → Past is_blank cs
same_past _ _ SameFirst.none h = h
same_past _ _ (SameFirst.some b bs cs) h = h

same_minus : (bs cs : List ℕ) → SameFirst bs cs → first_is 45 bs ≡ false → first_is 45 cs ≡ false
same_minus _ _ SameFirst.none h = h
same_minus _ _ (SameFirst.some b bs cs) h = h

digits_move : (limit : ℕ) (find : Find) (text : List ℕ) (a v : List Letter) (here place : List ℕ) → Swap (AtCaret limit find a v) text here
    → first_is 94 here ≡ true
    → SizePlace (after_blanks (drop 1 here)) place → Moves_digits limit find a v text place
digits_move limit find text a v here place s c (inr p) =
    let next : List ℕ = after_blanks (drop 1 here) in
    let g = then_gap (AtCaret limit find a v) (Token 94) (WithoutMinus limit find a v) text here next s (token_gap 94 here c)
    (λ x y z r t minus. (y, r, t.0, inr (subst (λ (l : List ℕ). first_is 45 l ≡ false) t.1 minus, t.1))) in
    subst (λ (l : List ℕ). Moves_digits limit find a v text l) (sym p.1)
    (g.0, g.1, λ cs f. g.2 cs (same_past next cs f (past_blanks (drop 1 here))) (same_minus next cs f p.0))
digits_move limit find text a v here place s c (inl p) =
    let next : List ℕ = after_blanks (drop 1 here) in
    let last : List ℕ = after_blanks (drop 1 next) in
    let g = then_gap (AtCaret limit find a v) Minus (AtDigits limit find a v) text here last s
    (both_gaps (Token 94) (Token 45) Minus here next last (token_gap 94 here c) (token_gap 45 next p.0) (past_blanks (drop 1 here))
    (λ x y z t u. (t.0, subst (λ (l : List ℕ). first_is 45 l ≡ true) t.1 u.0, subst (λ (l : List ℕ). z ≡ after_blanks (drop 1 l)) t.1 u.1)))
    (λ x y z r t. (y, r, t.0, inl (t.1, t.2))) in
    subst (λ (l : List ℕ). Moves_digits limit find a v text l) (sym p.1)
    (g.0, g.1, λ cs f. g.2 cs (same_past last cs f (past_blanks (drop 1 next))))

pub refuses_exponent : (limit : ℕ) (find : Find) (text : List ℕ) (frames : List Frame) (outer a v : List Letter) (spot : Spot) (factor mid here place : List ℕ)
    → Inside limit find (after_blanks text) frames outer spot factor → SpelledWithin limit find Atom factor a mid → Raised limit a (after_blanks mid) v here
    → first_is 94 here ≡ true → SizePlace (after_blanks (drop 1 here)) place → (cs : List ℕ) (e : Fault) → SameFirst place cs → NoSize cs e
    → IsSomeWord find (bytes_before text (length place) ++ cs) → ⊥
refuses_exponent limit find text frames outer a v spot factor mid here place h atom p c s cs e f none x =
    let m : ℕ = limit + x.0 in
    let g = digits_move m find text a v here place (caret_moves limit m find text frames outer a v spot factor mid here (omega arith) h atom p) c s in
    let d = g.2 cs f in
    let r = d.1 in
    no_word_exponent m find (g.0 ++ cs) r.0 r.1 a v r.2 r.3 r.4 d.0 e x.1 r.5 r.6 r.7 d.2 (cs, d.3, none)
    (longer x.0 m find (g.0 ++ cs) x.1 (omega arith)
    (subst (λ (l : List ℕ). IsWordWithin x.0 find (l ++ cs) x.1) (before_is text g.0 place (length place) g.1 refl) x.2))

-- no digits, or the same ones
no_digits_by : (b : ℕ) (bs cs : List ℕ) (t : Bool) → is_digit b ≡ t → length (take_while is_digit (b ∷ bs)) ≡ 0 → length (take_while is_digit (b ∷ cs)) ≡ 0
no_digits_by b bs cs true e z = absurd (omega (arith, z, ap length (taken is_digit b bs e)))
no_digits_by b bs cs false e z = ap length (none_taken is_digit b cs e)

no_digits : (bs cs : List ℕ) → SameFirst bs cs → length (digits_at bs) ≡ 0 → length (digits_at cs) ≡ 0
unfolding digits_at
no_digits _ _ SameFirst.none z = z
no_digits _ _ (SameFirst.some b bs cs) z = no_digits_by b bs cs (is_digit b) refl z

pub no_size_due : (bs cs : List ℕ) → SameFirst bs cs → length (digits_at bs) ≡ 0 → NoSize cs (due cs)
no_size_due bs cs f z = inl (no_digits bs cs f z, refl)

pub no_size_large : (bs cs : List ℕ) → digits_at cs ≡ digits_at bs → 0 < length (digits_at bs) → written < number 0 (digits_at bs)
    → NoSize cs (record { kind = ExponentTooLarge; left = length cs })
no_size_large bs cs e lt large = inr (rw e lt, rw e large, refl)
