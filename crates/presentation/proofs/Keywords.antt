-- What stands behind a name is an end of the bytes.
use Rattle.std.proofs.Common.{◌≡◌, ℕ, List, sym, subst}
use Rattle.word_text.specs.Scan.{after_blanks, after_name}
use Rattle.presentation.specs.Line.{IsEnd}
use Rattle.presentation.proofs.Ends.{join, blanks, name}

pub name_end : (bs here rest : List ℕ) → here ≡ after_blanks bs → rest ≡ after_name here → IsEnd bs rest
name_end bs here rest e f =
    rw (f, e) (join bs (after_blanks bs) (after_name (after_blanks bs)) (blanks bs) (name (after_blanks bs)))
