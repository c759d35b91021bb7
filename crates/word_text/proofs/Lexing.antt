-- Blanks, and how many bytes are left behind tokens.
use Rattle.std.proofs.Common.{◌==◌, ◌≡◌, ◌⊎◌, inl, inr, ℕ, ◌<◌, ◌≤◌, Bool, true, false, List, [], ◌∷◌, length, drop, take_while, refl, sym, ◌∙◌, arith}
use Rattle.std.proofs.Common.{length-drop}
use Rattle.std.proofs.lemmas.Bool.Decides.{nat_tests}
use Rattle.std.proofs.lemmas.List.Sums.{take_while-cons}
use Rattle.word_text.specs.declared.scan.Mark.{Mark}
use Rattle.word_text.specs.declared.scan.Mark.TheVariants as marks
use Rattle.word_text.specs.Scan.{is_blank, is_letter, is_digit, is_name_byte, is_known, mark_byte, first_is, after_blanks, after_name, after_digits, mark_of}
use Rattle.word_text.proofs.Marks.{name_some}

-- blanks are skipped once
pub skip_true : (b : ℕ) (bs : List ℕ) → is_blank b ≡ true → after_blanks (b ∷ bs) ≡ after_blanks bs
unfolding after_blanks
skip_true b bs e = rw (take_while-cons is_blank b bs, e) refl

pub skip_false : (b : ℕ) (bs : List ℕ) → is_blank b ≡ false → after_blanks (b ∷ bs) ≡ b ∷ bs
unfolding after_blanks
skip_false b bs e = rw (take_while-cons is_blank b bs, e) refl

blanks_of : (b : ℕ) (bs : List ℕ) (t : Bool) → is_blank b ≡ t → after_blanks (after_blanks bs) ≡ after_blanks bs
    → after_blanks (after_blanks (b ∷ bs)) ≡ after_blanks (b ∷ bs)
blanks_of b bs true e h = rw (skip_true b bs e) h
blanks_of b bs false e h = rw (skip_false b bs e) (skip_false b bs e)

pub no_blanks : after_blanks [] ≡ []
unfolding after_blanks
no_blanks = refl

pub blanks_once : (bs : List ℕ) → after_blanks (after_blanks bs) ≡ after_blanks bs
blanks_once [] = rw no_blanks no_blanks
blanks_once (b ∷ bs) = blanks_of b bs (is_blank b) refl (blanks_once bs)

-- blanks have no mark
is_byte : (b c : ℕ) → (b == c) ≡ true → b ≡ c
is_byte b c e = grind (arith, nat_tests)

blank_cases : (b : ℕ) → is_blank b ≡ true → (b ≡ 32) ⊎ ((b ≡ 9) ⊎ ((b ≡ 13) ⊎ (b ≡ 10)))
unfolding is_blank
blank_cases b e = grind (arith, nat_tests)

blank_bad : (b : ℕ) → (b ≡ 32) ⊎ ((b ≡ 9) ⊎ ((b ≡ 13) ⊎ (b ≡ 10))) → mark_byte b ≡ marks.Bad
unfolding mark_byte is_letter is_known is_name_byte is_digit
blank_bad b (inl e) = rw e refl
blank_bad b (inr (inl e)) = rw e refl
blank_bad b (inr (inr (inl e))) = rw e refl
blank_bad b (inr (inr (inr e))) = rw e refl

blank_marks : (b : ℕ) → is_blank b ≡ true → mark_byte b ≡ marks.Bad
blank_marks b e = blank_bad b (blank_cases b e)

marked_by : (b : ℕ) (bs : List ℕ) (m : Mark) (t : Bool) → is_blank b ≡ t → mark_byte b ≡ m → (m ≡ marks.Bad → ⊥) → after_blanks (b ∷ bs) ≡ b ∷ bs
marked_by b bs m true t e n = absurd (n (sym e ∙ blank_marks b t))
marked_by b bs m false t e n = skip_false b bs t

-- where a token with a mark of its own stands there are no blanks
pub marked_skip : (bs : List ℕ) (m : Mark) → mark_of bs ≡ m → (m ≡ marks.Bad → ⊥) → after_blanks bs ≡ bs
marked_skip [] m e n = no_blanks
marked_skip (b ∷ bs) m e n = marked_by b bs m (is_blank b) refl e n

-- a byte that closes, or a comma
pub closing : (c : ℕ) → mark_byte c ≡ marks.Other → is_blank c ≡ false → (bs : List ℕ) → first_is c bs ≡ true
    → (mark_of bs ≡ marks.Other) × (after_blanks bs ≡ bs)
closing c m n [] e = cc
closing c m n (b ∷ bs) e = let same = is_byte b c e in (rw same m, skip_false b bs (rw same n))

pub other : (mark_byte 41 ≡ marks.Other) × (mark_byte 44 ≡ marks.Other) × (mark_byte 93 ≡ marks.Other)
unfolding mark_byte is_letter is_known is_name_byte is_digit
other = (refl, refl, refl)

pub unblank : (is_blank 41 ≡ false) × (is_blank 44 ≡ false) × (is_blank 93 ≡ false)
unfolding is_blank
unblank = (refl, refl, refl)

-- lengths
pub skip_le : (bs : List ℕ) → length (after_blanks bs) ≤ length bs
unfolding after_blanks
skip_le bs = omega (arith, length-drop (length (take_while is_blank bs)) bs)

pub digits_le : (bs : List ℕ) → length (after_digits bs) ≤ length bs
unfolding after_digits
digits_le bs = omega (arith, length-drop (length (take_while is_digit bs)) bs)

some_bytes : (bs : List ℕ) → mark_of bs ≡ marks.Letter → 0 < length bs
some_bytes [] e = cc
some_bytes (b ∷ bs) e = omega arith

pub name_lt : (bs : List ℕ) → mark_of bs ≡ marks.Letter → length (after_name bs) < length bs
unfolding after_name
name_lt bs m = omega (arith, length-drop (length (take_while is_name_byte bs)) bs, name_some bs m, some_bytes bs m)

pub first_lt : (c : ℕ) (bs : List ℕ) → first_is c bs ≡ true → length (drop 1 bs) < length bs
first_lt c [] e = cc
first_lt c (b ∷ bs) e = omega arith

pub mark_some : (bs : List ℕ) (m : Mark) → mark_of bs ≡ m → (m ≡ marks.Other → ⊥) → length (drop 1 bs) < length bs
mark_some [] m e n = absurd (n (sym e))
mark_some (b ∷ bs) m e n = omega arith

pub drop_le : (bs : List ℕ) → length (drop 1 bs) ≤ length bs
drop_le bs = omega (arith, length-drop 1 bs)
