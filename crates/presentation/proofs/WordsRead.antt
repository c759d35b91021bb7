-- The letters of a word that is read belong to the names, and it is no longer than a written word may be.
use Rattle.std.proofs.Common.{◌≡◌, ℕ, List, [], length, Result, Ok, Err, IfOk}
use Rattle.free_words.specs.declared.letter.Letter.{Letter}
use Rattle.word_text.specs.declared.machine.Spot.{Spot}
use Rattle.word_text.specs.declared.fault.ReadFault.{ReadFault}
use Rattle.word_text.specs.declared.fault.ReadFault.TheVariants as faults
use Rattle.word_text.specs.Powers.{written}
use Rattle.word_text.specs.Machine.{finding, word_at}
use Rattle.word_text.specs.Grammar.{Product, Spelled}
use Rattle.word_text.specs.Scan.{after_blanks}
use Rattle.word_text.specs.Place.{ReadsText, word_text}
use Rattle.word_text.proofs.Letters.{over_spelled, short}
use Rattle.word_text.proofs.Naming.{finding_below}
use Rattle.word_text.proofs.Reached.{word_spelled, text_spelled}
use Rattle.presentation.specs.Presented.{IsWritten}

pub product_written : (names : List (List ℕ)) (s : Spot) (bs : List ℕ) (w : List Letter) (rest : List ℕ)
    → Spelled (finding names) (Product s) bs w rest → IsWritten (length names) w
product_written names s bs w rest h =
    (over_spelled written (length names) (finding names) (finding_below names) (Product s) bs w rest h, short written (finding names) (Product s) bs w rest h)

pub word_written : (names : List (List ℕ)) (bs : List ℕ) (w : List Letter) (rest : List ℕ) → word_at (finding names) bs ≡ Ok (w, rest)
    → IsWritten (length names) w
word_written names bs w rest e =
    let h = word_spelled (finding names) bs w rest e in
    product_written names h.0 (after_blanks bs) w rest h.1

-- a word that is a whole text
pub text_written : (names : List (List ℕ)) (text : List ℕ) (result : Result (List Letter) ReadFault)
    → ReadsText text (word_text (finding names) text) result → IfOk result (λ w. IsWritten (length names) w)
text_written names text (Ok w) e =
    let h = text_spelled (finding names) text w e in
    product_written names h.0 (after_blanks text) w [] h.1
text_written names text (Err faults.NoMemory) e = tt
text_written names text (Err (faults.Text f)) e = tt
