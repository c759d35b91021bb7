-- Reading a derivation: the value of each part of a line and what follows it, or the first fault; and then all its
-- lines.
use Rattle.std.specs.Prelude.{◌≡◌, ℕ, ◌+◌, ◌==◌, Bool, true, false, codes, List, [], ◌∷◌, ◌++◌, drop, Result, Ok, Err}
use Rattle.std.specs.Prelude.{Vec, if◌then◌else◌}
use Rattle.std.specs.declared.alloc.Global.{Global}
use Rattle.free_words.specs.declared.letter.Letter.{Letter}
use Rattle.word_text.specs.declared.fault.Fault.{Fault}
use Rattle.word_text.specs.declared.fault.TextFault.{TextFault}
use Rattle.word_text.specs.declared.fault.ReadFault.{ReadFault}
use Rattle.word_text.specs.declared.fault.ReadFault.TheVariants as faults
use Rattle.word_text.specs.Scan.{◌>>=◌, after_blanks, due}
use Rattle.word_text.specs.Machine.{Find, finding, word_at}
use Rattle.word_text.specs.Place.{capped, on_line}
use Rattle.presentation.specs.Presented.{Presented}
use Rattle.presentation.specs.Line.{number_at, comes_next, after_mark, is_word, after_word, is_end, letter_at}
use Rattle.derivation.specs.declared.moves.Insert.{Insert}
use Rattle.derivation.specs.declared.moves.Insert.TheVariants.{Pair, Rel, Dbl, Pow}
use Rattle.derivation.specs.declared.moves.Move.{Move}

-- What a reader answers that goes on to the place `new` of a line: the value, before what follows it; or the first
-- fault.
abbrev pub GoesOn : {X Y : Type 0} → (X → Y) → List ℕ → ℕ → ℕ → Result (Y × List ℕ) Fault → Result X ReadFault → Type 0
GoesOn view text line new read (Ok x) = read ≡ Ok (view x, drop new text)
GoesOn view text line new read (Err faults.NoMemory) = Unit {0}
GoesOn view text line new read (Err (faults.Text f)) = (e : Fault) × (read ≡ Err e) × (f ≡ on_line text line e)

-- whether a piece is taken out, or put in
unfoldable pub direction_at : List ℕ → Result (Bool × List ℕ) Fault
direction_at bs =
    if is_word (codes "ins") bs then Ok (false, after_word bs)
    else if is_word (codes "del") bs then Ok (true, after_word bs)
    else Err (due (after_blanks bs))

-- the comma that is due
unfoldable pub comma_at : List ℕ → Result (Unit {0} × List ℕ) Fault
comma_at bs = if comes_next (codes ",") bs then Ok (tt, after_mark (codes ",") bs) else Err (due (after_blanks bs))

-- a word behind a comma
unfoldable pub next_word : Find → List ℕ → Result (List Letter × List ℕ) Fault
next_word find bs = comma_at bs >>= λ c. word_at find c.1

-- two words with a comma between them
unfoldable pub two_words : Find → List ℕ → Result ((List Letter × List Letter) × List ℕ) Fault
two_words find bs = word_at find bs >>= λ a. (next_word find a.1 >>= λ b. Ok ((a.0, b.0), b.1))

abbrev pub pair_at : Find → List ℕ → Result (Insert × List ℕ) Fault
pair_at find bs = letter_at find bs >>= λ x. Ok (Pair x.0, x.1)

-- a relator's number, and `inv` where its inverse is meant
abbrev pub inverse_at : ℕ → List ℕ → Result (Insert × List ℕ) Fault
inverse_at j bs = if is_word (codes "inv") bs then Ok (Rel j true, after_word bs) else Ok (Rel j false, bs)

unfoldable pub relator_at : List ℕ → Result (Insert × List ℕ) Fault
relator_at bs = number_at bs >>= λ j. inverse_at j.0 j.1

unfoldable pub double_at : Find → List ℕ → Result (Insert × List ℕ) Fault
double_at find bs =
    two_words find bs >>= λ x. (comma_at x.1 >>= λ c. (two_words find c.1 >>=
    λ y. Ok (Dbl (x.0).0 (x.0).1 (y.0).0 (y.0).1, y.1)))

unfoldable pub power_at : Find → List ℕ → Result (Insert × List ℕ) Fault
power_at find bs = two_words find bs >>= λ x. Ok (Pow (x.0).0 (x.0).1, x.1)

-- what is put in or taken out
unfoldable pub insert_at : Find → List ℕ → Result (Insert × List ℕ) Fault
insert_at find bs =
    if is_word (codes "pair") bs then pair_at find (after_word bs)
    else if is_word (codes "rel") bs then relator_at (after_word bs)
    else if is_word (codes "dbl") bs then double_at find (after_word bs)
    else if is_word (codes "pow") bs then power_at find (after_word bs)
    else Err (due (after_blanks bs))

-- blanks alone are due to the end of the line
unfoldable pub ending_at : List ℕ → Result (Unit {0} × List ℕ) Fault
ending_at bs = if is_end bs then Ok (tt, bs) else Err (due (after_blanks bs))

-- the move that a line spells
unfoldable pub move_at : Find → List ℕ → Result (Move × List ℕ) Fault
move_at find bs = do
  del ← direction_at bs
  at ← number_at del.1
  what ← insert_at find at.1
  end ← ending_at what.1
  Ok (record { at = at.0; del = del.0; what = what.0 }, end.1)

-- the lines of a text: each LF ends one, and the last one may lack it
abbrev pub onto_first : ℕ → List (List ℕ) → List (List ℕ)
onto_first b [] = (b ∷ []) ∷ []
onto_first b (l ∷ ls) = (b ∷ l) ∷ ls

abbrev pub lines_of : List ℕ → List (List ℕ)
lines_of [] = [] ∷ []
lines_of (b ∷ bs) = if b == 10 then [] ∷ lines_of bs else onto_first b (lines_of bs)

-- moves, and then those that follow, or a fault among them
abbrev pub fronted : List Move → Result (List Move) TextFault → Result (List Move) TextFault
fronted ms (Ok later) = Ok (ms ++ later)
fronted ms (Err f) = Err f

abbrev pub followed : Result (List Move) TextFault → Result (List Move) TextFault → Result (List Move) TextFault
followed (Ok ms) later = fronted ms later
followed (Err f) later = Err f

-- the one move of a line, whose fault stands in the line of this number
abbrev pub only_move : List ℕ → ℕ → Result (Move × List ℕ) Fault → Result (List Move) TextFault
only_move line number (Ok m) = Ok (m.0 ∷ [])
only_move line number (Err e) = Err (on_line line number e)

-- the moves of a line: none where it has blanks alone, and else one
abbrev pub line_moves : Find → ℕ → List ℕ → Result (List Move) TextFault
line_moves find number line = if is_end line then Ok [] else only_move line number (move_at find line)

-- the moves of the lines from one number on
abbrev pub moves_of : Find → ℕ → List (List ℕ) → Result (List Move) TextFault
moves_of find number [] = Ok []
moves_of find number (l ∷ ls) = followed (line_moves find number l) (moves_of find (capped (number + 1)) ls)

-- the derivation that is the whole text, or its first fault
unfoldable pub derivation_text : Presented → List ℕ → Result (List Move) TextFault
derivation_text p text = moves_of (finding p.names) 1 (lines_of text)

-- what a reader of a derivation answers: the moves, or the first fault
abbrev pub ReadsMoves : Result (List Move) TextFault → Result (Vec Move Global) ReadFault → Type 0
ReadsMoves read (Ok moves) = read ≡ Ok moves.items
ReadsMoves read (Err faults.NoMemory) = Unit {0}
ReadsMoves read (Err (faults.Text f)) = read ≡ Err f

-- what reading one more line answers: its moves stand behind those before, or it has the first fault
abbrev pub ReadsLine : List Move → List Move → Result (List Move) TextFault → Result (Unit {0}) ReadFault → Type 0
ReadsLine old new read (Ok done) = (ms : List Move) × (read ≡ Ok ms) × (new ≡ old ++ ms)
ReadsLine old new read (Err faults.NoMemory) = Unit {0}
ReadsLine old new read (Err (faults.Text f)) = read ≡ Err f
