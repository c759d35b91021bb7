-- A word of the grammar is read where what follows it can't stand in a word.
use Rattle.std.proofs.Common.{◌≡◌, ℕ, zero, suc, ◌<◌, List, [], Ok, refl, sym, ◌∙◌, arith}
use Rattle.free_words.specs.declared.letter.Letter.{Letter}
use Rattle.word_text.specs.declared.scan.Mark.TheVariants as marks
use Rattle.word_text.specs.declared.machine.Spot.{Spot}
use Rattle.word_text.specs.declared.machine.Spot.TheVariants.{Start, After, Starred}
use Rattle.word_text.specs.Powers.{written}
use Rattle.word_text.specs.Scan.{after_blanks, mark_of}
use Rattle.word_text.specs.Machine.{Reading, Find, closes, stands_no_factor, turn, word_from, word_at}
use Rattle.word_text.specs.Grammar.{Product}
use Rattle.word_text.proofs.Lexing.{blanks_once}
use Rattle.word_text.proofs.Again.{Unstarred, no_star, at, turn_at, word_skips, complete, from_text}
use Rattle.derivation.specs.Grammar.{WordAt}

no_factor : (s : Spot) (state : Reading) (bs : List ℕ) → Unstarred (Product s) → stands_no_factor written s state bs ≡ closes written state.frames state bs
no_factor Start state bs u = refl
no_factor After state bs u = refl
no_factor Starred state bs u = absurd u

stopped : (n : ℕ) (find : Find) (s : Spot) (w : List Letter) (rest : List ℕ) → 0 < n → Unstarred (Product s) → mark_of (after_blanks rest) ≡ marks.Other
    → word_from written n find (at [] w s) rest ≡ Ok (w, after_blanks rest)
unfolding word_from
stopped zero find s w rest lt u e = absurd (omega arith)
stopped (suc n) find s w rest lt u e =
    let t : turn written find (at [] w s) (after_blanks rest) ≡ closes written [] (at [] w s) (after_blanks rest) =
    turn_at written find marks.Other (at [] w s) (after_blanks rest) e (blanks_once rest) ∙ no_factor s (at [] w s) (after_blanks rest) u in
    sym (word_skips written n find (at [] w s) rest) ∙ rw t refl

pub word_again : (find : Find) (bs : List ℕ) (w : List Letter) (rest : List ℕ) → WordAt find bs w rest → mark_of (after_blanks rest) ≡ marks.Other
    → word_at find bs ≡ Ok (w, after_blanks rest)
word_again find bs w rest h e =
    let x = from_text written find bs (at [] w h.0) rest (complete written find (Product h.0) (after_blanks bs) w rest h.1 []) in
    x.2 ∙ stopped x.0 find h.0 w rest (omega (arith, x.1)) (no_star written find (Product h.0) (after_blanks bs) w rest h.1) e
