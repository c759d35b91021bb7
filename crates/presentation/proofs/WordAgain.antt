-- A word of the grammar is read where a byte behind it shuts it.
use Rattle.std.proofs.Common.{◌≡◌, ℕ, zero, suc, ◌<◌, true, false, List, [], Ok, refl, ◌∙◌, arith}
use Rattle.free_words.specs.declared.letter.Letter.{Letter}
use Rattle.word_text.specs.declared.scan.Mark.TheVariants as marks
use Rattle.word_text.specs.declared.machine.Spot.{Spot}
use Rattle.word_text.specs.Powers.{written}
use Rattle.word_text.specs.Scan.{is_blank, is_letter, is_digit, is_name_byte, is_known, mark_byte, first_is, after_blanks}
use Rattle.word_text.specs.Machine.{Find, word_from, word_at}
use Rattle.word_text.specs.Grammar.{Product, Spelled}
use Rattle.word_text.proofs.Again.{Unstarred, no_star, at, closes_at, complete, from_text}

-- a byte that no word goes on with
abbrev pub Shuts : ℕ → Type 0
Shuts c = (mark_byte c ≡ marks.Other) × (is_blank c ≡ false)

pub comma : Shuts 44
unfolding mark_byte is_letter is_known is_name_byte is_digit is_blank
comma = (refl, refl)

pub equals : Shuts 61
unfolding mark_byte is_letter is_known is_name_byte is_digit is_blank
equals = (refl, refl)

pub greater : Shuts 62
unfolding mark_byte is_letter is_known is_name_byte is_digit is_blank
greater = (refl, refl)

shut_read : (m : ℕ) (find : Find) (s : Spot) (w : List Letter) (rest : List ℕ) (c : ℕ) → 0 < m → Unstarred (Product s) → Shuts c → first_is c rest ≡ true
    → word_from written m find (at [] w s) rest ≡ Ok (w, rest)
unfolding word_from
shut_read zero find s w rest c lt u shut e = absurd (omega arith)
shut_read (suc m) find s w rest c lt u shut e = rw (closes_at written find s [] w c rest u shut.0 shut.1 e) refl

pub word_again : (find : Find) (s : Spot) (bs : List ℕ) (w : List Letter) (rest : List ℕ) (c : ℕ) → Shuts c → first_is c rest ≡ true
    → Spelled find (Product s) (after_blanks bs) w rest → word_at find bs ≡ Ok (w, rest)
word_again find s bs w rest c shut e h =
    let x = from_text written find bs (at [] w s) rest (complete written find (Product s) (after_blanks bs) w rest h []) in
    x.2 ∙ shut_read x.0 find s w rest c (omega (arith, x.1)) (no_star written find (Product s) (after_blanks bs) w rest h) shut e
