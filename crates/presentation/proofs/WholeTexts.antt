-- What a reader of a whole text gives, in the grammar's words.
use Rattle.std.proofs.Common.{ℕ, List, Result, Ok, Err, IfOk, sym, ◌∙◌}
use Rattle.word_text.specs.declared.fault.ReadFault.{ReadFault}
use Rattle.word_text.specs.declared.fault.ReadFault.TheVariants as faults
use Rattle.word_text.specs.Place.{ReadsText}
use Rattle.presentation.specs.Presented.{Presented}
use Rattle.presentation.specs.Reading.{presentation_text}
use Rattle.presentation.specs.Grammar.{IsPresentation}
use Rattle.presentation.proofs.SoundWhole.{text_sound}
use Rattle.presentation.proofs.Complete.{text_again}

pub is_found : (text : List ℕ) (result : Result Presented ReadFault) → ReadsText text (presentation_text text) result → IfOk result (λ p. IsPresentation text p)
is_found text (Ok p) e = text_sound text p e
is_found text (Err faults.NoMemory) e = tt
is_found text (Err (faults.Text f)) e = tt

pub is_only : (text : List ℕ) (result : Result Presented ReadFault) (p : Presented) → IsPresentation text p → ReadsText text (presentation_text text) result
    → ReadsText text (Ok p) result
is_only text (Ok q) p h e = sym (text_again text p h) ∙ e
is_only text (Err faults.NoMemory) p h e = tt
is_only text (Err (faults.Text f)) p h e = (e.0, sym (text_again text p h) ∙ e.1, e.2)
