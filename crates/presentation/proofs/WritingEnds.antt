-- What follows a written word.
use Rattle.std.proofs.Common.{◌≡◌, ◌⊎◌, inl, inr, ℕ, ◌≤◌, ◌==◌, ◌||◌, Bool, true, false, not, if◌then◌else◌, List, [], ◌∷◌, length, take_while, refl, sym, ◌∙◌}
use Rattle.std.proofs.Common.{arith, length-drop}
use Rattle.std.proofs.lemmas.Bool.Decides.{nat_tests}
use Rattle.std.proofs.lemmas.List.Sums.{take_while-cons}
use Rattle.word_text.specs.declared.scan.Mark.{Mark}
use Rattle.word_text.specs.declared.scan.Mark.TheVariants as marks
use Rattle.word_text.specs.Scan.{is_blank, is_letter, is_digit, is_name_byte, is_known, after_blanks, first_is, mark_byte, mark_of}
use Rattle.presentation.specs.Writing.{is_of_word, ends_word}
use Rattle.presentation.proofs.WritingBytes.{Stops}

-- no factor begins at this mark
abbrev pub BeginsNone : Mark → Type 0
BeginsNone marks.Letter = ⊥
BeginsNone marks.One = ⊥
BeginsNone marks.Round = ⊥
BeginsNone marks.Square = ⊥
BeginsNone marks.Star = ⊥
BeginsNone marks.Bad = Unit {0}
BeginsNone marks.Other = Unit {0}

-- no name, number or power goes on here
pub record Apart (rest : List ℕ) : Type 0 where
  pub name : Stops is_name_byte rest
  pub power : first_is 94 (after_blanks rest) ≡ false

-- and no factor begins here
pub record Ends (rest : List ℕ) : Type 0 where
  pub apart : Apart rest
  pub factor : BeginsNone (mark_of (after_blanks rest))

pub skipped : (b : ℕ) (bs : List ℕ) → is_blank b ≡ true → after_blanks (b ∷ bs) ≡ after_blanks bs
unfolding after_blanks
skipped b bs e = rw (take_while-cons is_blank b bs, e) refl

pub kept : (b : ℕ) (bs : List ℕ) → is_blank b ≡ false → after_blanks (b ∷ bs) ≡ b ∷ bs
unfolding after_blanks
kept b bs e = rw (take_while-cons is_blank b bs, e) refl

pub skips_le : (bs : List ℕ) → length (after_blanks bs) ≤ length bs
unfolding after_blanks
skips_le bs = omega (arith, length-drop (length (take_while is_blank bs)) bs)

blank_cases : (b : ℕ) → is_blank b ≡ true → (b ≡ 32) ⊎ ((b ≡ 9) ⊎ ((b ≡ 13) ⊎ (b ≡ 10)))
unfolding is_blank
blank_cases b e = grind (arith, nat_tests)

blank_no_name : (b : ℕ) → (b ≡ 32) ⊎ ((b ≡ 9) ⊎ ((b ≡ 13) ⊎ (b ≡ 10))) → is_name_byte b ≡ false
unfolding is_name_byte is_letter is_digit
blank_no_name b (inl e) = rw e refl
blank_no_name b (inr (inl e)) = rw e refl
blank_no_name b (inr (inr (inl e))) = rw e refl
blank_no_name b (inr (inr (inr e))) = rw e refl

true_false : true ≡ false → ⊥
true_false h = cc

unblank_by : (b : ℕ) (t : Bool) → is_blank b ≡ t → is_name_byte b ≡ true → is_blank b ≡ false
unblank_by b true e n = absurd (true_false (sym n ∙ blank_no_name b (blank_cases b e)))
unblank_by b false e n = e

pub hat_no_name : is_name_byte 94 ≡ false
unfolding is_name_byte is_letter is_digit
hat_no_name = refl

same_byte : (b c : ℕ) → (b == c) ≡ true → b ≡ c
same_byte b c e = grind (arith, nat_tests)

other_by : (b c : ℕ) (t : Bool) → (b == c) ≡ t → is_name_byte b ≡ true → is_name_byte c ≡ false → (b == c) ≡ false
other_by b c true e n o = let k : is_name_byte c ≡ true = rw (same_byte b c e) at n in absurd (true_false (sym k ∙ o))
other_by b c false e n o = e

-- a byte of a name is no blank, and no byte that stands in no name
pub name_byte_unblank : (b : ℕ) → is_name_byte b ≡ true → is_blank b ≡ false
name_byte_unblank b n = unblank_by b (is_blank b) refl n

pub name_byte_other : (b c : ℕ) → is_name_byte b ≡ true → is_name_byte c ≡ false → (b == c) ≡ false
name_byte_other b c n o = other_by b c (b == c) refl n o

or_false : (p q : Bool) → (p || q) ≡ false → (p ≡ false) × (q ≡ false)
or_false true q e = cc
or_false false q e = (refl, e)

not_true : (p : Bool) → not p ≡ true → p ≡ false
not_true true e = cc
not_true false e = refl

-- a byte of no name is no letter and not `1`
no_letter : (b : ℕ) → is_name_byte b ≡ false → is_letter b ≡ false
unfolding is_name_byte
no_letter b e = (or_false (is_letter b) (is_digit b) (or_false (is_letter b || is_digit b) (b == 95) e).0).0

pub one_named : is_name_byte 49 ≡ true
unfolding is_name_byte is_letter is_digit
one_named = refl

no_one_by : (b : ℕ) (t : Bool) → (b == 49) ≡ t → is_name_byte b ≡ false → (b == 49) ≡ false
no_one_by b true e n = let k : is_name_byte 49 ≡ false = rw (same_byte b 49 e) at n in absurd (true_false (sym one_named ∙ k))
no_one_by b false e n = e

begins_by : (t : Bool) → BeginsNone (if t then marks.Other else marks.Bad)
begins_by true = tt
begins_by false = tt

begins_none : (b : ℕ) → is_of_word b ≡ false → BeginsNone (mark_byte b)
unfolding mark_byte
begins_none b e =
    let p = or_false _ (b == 91) e in
    let q = or_false _ (b == 40) p.0 in
    let r = or_false _ (b == 42) q.0 in
    let s = or_false (is_name_byte b) (b == 94) r.0 in
    rw (no_letter b s.0, no_one_by b (b == 49) refl s.0, q.1, p.1, r.1) (begins_by (is_known b))

no_more : (b : ℕ) → is_of_word b ≡ false → (is_name_byte b ≡ false) × ((b == 94) ≡ false)
no_more b e = or_false (is_name_byte b) (b == 94) (or_false _ (b == 42) (or_false _ (b == 40) (or_false _ (b == 91) e).0).0).0

ends_by : (b : ℕ) (bs : List ℕ) (t : Bool) → is_blank b ≡ t → (if t then ends_word bs else not (is_of_word b)) ≡ true → (ends_word bs ≡ true → Ends bs)
    → Ends (b ∷ bs)
ends_by b bs true blank e again =
    let h = again e in
    record {
      apart = record { name = blank_no_name b (blank_cases b blank); power = rw (skipped b bs blank) h.apart.power };
      factor = rw (skipped b bs blank) h.factor;
    }
ends_by b bs false blank e again =
    let o = not_true (is_of_word b) e in
    record { apart = record { name = (no_more b o).0; power = rw (kept b bs blank) (no_more b o).1 }; factor = rw (kept b bs blank) (begins_none b o) }

nothing : after_blanks [] ≡ []
unfolding after_blanks
nothing = refl

pub ends_from : (rest : List ℕ) → ends_word rest ≡ true → Ends rest
ends_from [] e = record { apart = record { name = tt; power = rw nothing refl }; factor = rw nothing tt }
ends_from (b ∷ bs) e = ends_by b bs (is_blank b) refl e (λ k. ends_from bs k)
