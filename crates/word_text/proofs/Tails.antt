-- What a word at the head of the bytes leaves is an end of them, behind blanks.
use Rattle.std.proofs.Common.{◌≡◌, ℕ, ◌-◌, ◌≤◌, List, length, drop, Ok, refl, ◌∙◌, ap}
use Rattle.free_words.specs.declared.letter.Letter.{Letter}
use Rattle.word_text.specs.Scan.{after_blanks}
use Rattle.word_text.specs.Powers.{written}
use Rattle.word_text.specs.Machine.{Find, word_at}
use Rattle.word_text.specs.Grammar.{Product}
pub use Rattle.word_text.proofs.Suffixes.{Tail}
use Rattle.word_text.proofs.Lexing.{blanks_once}
use Rattle.word_text.proofs.Suffixes.{join, blanks, spelled, place, clear}
use Rattle.word_text.proofs.Reached.{word_spelled}

pub word_clear : (find : Find) (bs : List ℕ) (w : List Letter) (rest : List ℕ) → word_at find bs ≡ Ok (w, rest) → after_blanks rest ≡ rest
word_clear find bs w rest e =
    let h = word_spelled find bs w rest e in
    clear written find (Product h.0) (after_blanks bs) w rest h.1 (blanks_once bs)

pub word_tail : (find : Find) (bs : List ℕ) (w : List Letter) (rest : List ℕ) → word_at find bs ≡ Ok (w, rest) → Tail bs rest
word_tail find bs w rest e =
    let h = word_spelled find bs w rest e in
    join bs (after_blanks bs) rest (blanks bs) (spelled written find (Product h.0) (after_blanks bs) w rest h.1)

pub word_left : (find : Find) (bs : List ℕ) (w : List Letter) (rest : List ℕ) → word_at find bs ≡ Ok (w, rest) → rest ≡ drop (length bs - length rest) bs
word_left find bs w rest e = place bs rest (word_tail find bs w rest e)

-- the same inside a longer line
pub word_left_at : (find : Find) (text : List ℕ) (i : ℕ) (w : List Letter) (rest : List ℕ) → i ≤ length text → word_at find (drop i text) ≡ Ok (w, rest)
    → word_at find (drop i text) ≡ Ok (w, drop (length text - length rest) text)
word_left_at find text i w rest le e =
    let t = join text (drop i text) rest (i, le, refl) (word_tail find (drop i text) w rest e) in
    e ∙ ap (λ (r : List ℕ). Ok (w, r)) (place text rest t)
