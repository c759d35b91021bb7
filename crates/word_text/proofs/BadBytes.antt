-- Bytes of no token.
use Rattle.std.proofs.Common.{◌==◌, ◌≡◌, ℕ, Bool, true, false, List, [], ◌∷◌, length, refl, sym, ◌∙◌, ap, arith, if◌then◌else◌}
use Rattle.std.proofs.lemmas.Bool.Decides.{nat_tests}
use Rattle.word_text.specs.declared.scan.Mark.TheVariants.{Letter, One, Round, Square, Star, Bad, Other}
use Rattle.word_text.specs.Scan.{is_blank, is_letter, is_digit, is_name_byte, is_known, mark_byte, after_blanks, mark_of}
use Rattle.word_text.specs.Faults.{IsBad}
use Rattle.word_text.proofs.Lexing.{skip_true, skip_le}

-- a mark of none is that of an unknown byte
chain : (l p q r s t : Bool) → (if l then Letter else if p then One else if q then Round else if r then Square else if s then Star else if t then Other else
    Bad) ≡ Bad → t ≡ false
chain true p q r s t e = cc
chain false true q r s t e = cc
chain false false true r s t e = cc
chain false false false true s t e = cc
chain false false false false true t e = cc
chain false false false false false true e = cc
chain false false false false false false e = refl

unknown : (b : ℕ) → mark_byte b ≡ Bad → is_known b ≡ false
unfolding mark_byte
unknown b e = chain _ _ _ _ _ (is_known b) e

-- and the other way round
no_letter : (b : ℕ) → is_known b ≡ false → is_letter b ≡ false
unfolding is_known is_name_byte
no_letter b e = grind (arith, nat_tests)

no_other : (b : ℕ) → is_known b ≡ false → ((b == 49) ≡ false) × ((b == 40) ≡ false) × ((b == 91) ≡ false) × ((b == 42) ≡ false)
unfolding is_known is_name_byte is_digit
no_other b e = (grind (arith, nat_tests), grind (arith, nat_tests), grind (arith, nat_tests), grind (arith, nat_tests))

bad_marked : (b : ℕ) → is_known b ≡ false → mark_byte b ≡ Bad
unfolding mark_byte
bad_marked b e =
    let o = no_other b e in
    rw (no_letter b e, o.0, o.1, o.2, o.3, e) refl

blank_skips : (b : ℕ) (bs : List ℕ) (t : Bool) → is_blank b ≡ t → after_blanks (b ∷ bs) ≡ b ∷ bs → is_blank b ≡ false
blank_skips b bs true e c =
    let same : after_blanks bs ≡ b ∷ bs = sym (skip_true b bs e) ∙ c in
    absurd (omega (arith, ap length same, skip_le bs))
blank_skips b bs false e c = e

pub bad_is : (bs : List ℕ) → mark_of bs ≡ Bad → after_blanks bs ≡ bs → IsBad bs
bad_is [] m c = cc
bad_is (b ∷ bs) m c = (unknown b m, blank_skips b bs (is_blank b) refl c)

pub is_bad : (bs : List ℕ) → IsBad bs → mark_of bs ≡ Bad
is_bad [] h = absurd h
is_bad (b ∷ bs) h = bad_marked b h.0
