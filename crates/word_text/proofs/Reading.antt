-- What a reader of a whole text gives, in the grammar's words.
use Rattle.std.proofs.Common.{ℕ, List, Result, Ok, Err, IfOk, sym, ◌∙◌}
use Rattle.free_words.specs.declared.letter.Letter.{Letter}
use Rattle.word_text.specs.declared.fault.ReadFault.{ReadFault}
use Rattle.word_text.specs.declared.fault.ReadFault.TheVariants as faults
use Rattle.word_text.specs.Machine.{Find}
use Rattle.word_text.specs.Place.{ReadsText, word_text}
use Rattle.word_text.specs.Grammar.{IsWord}
use Rattle.word_text.proofs.Reached.{text_spelled}
use Rattle.word_text.proofs.Again.{text_again}

pub is_found : (find : Find) (text : List ℕ) (result : Result (List Letter) ReadFault) → ReadsText text (word_text find text) result
    → IfOk result (λ w. IsWord find text w)
is_found find text (Ok w) e = text_spelled find text w e
is_found find text (Err faults.NoMemory) e = tt
is_found find text (Err (faults.Text f)) e = tt

pub is_only : (find : Find) (text : List ℕ) (result : Result (List Letter) ReadFault) (w : List Letter) → IsWord find text w
    → ReadsText text (word_text find text) result → ReadsText text (Ok w) result
is_only find text (Ok v) w h e = sym (text_again find text w h) ∙ e
is_only find text (Err faults.NoMemory) w h e = tt
is_only find text (Err (faults.Text f)) w h e = (e.0, sym (text_again find text w h) ∙ e.1, e.2)
