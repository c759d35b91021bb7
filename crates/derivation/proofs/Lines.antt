-- Reading a text line after line.
use Rattle.std.proofs.Common.{◌≡◌, ◌==◌, ℕ, suc, ◌+◌, ◌<◌, ◌≤◌, Bool, true, false, not, List, [], ◌∷◌, ◌++◌, length, take, drop, Result, Ok, Err, refl, sym}
use Rattle.std.proofs.Common.{◌∙◌, ap, append_assoc, append-nil, arith}
use Rattle.std.proofs.lemmas.Bool.Decides.{nat_tests}
use Rattle.std.specs.List.{prefix_len}
use Rattle.word_text.specs.declared.fault.TextFault.{TextFault}
use Rattle.word_text.specs.Machine.{Find}
use Rattle.word_text.specs.Place.{capped}
use Rattle.derivation.specs.declared.moves.Move.{Move}
use Rattle.word_text.specs.declared.fault.ReadFault.{ReadFault}
use Rattle.word_text.specs.declared.fault.ReadFault.TheVariants as faults
use Rattle.derivation.specs.Reading.{onto_first, lines_of, fronted, line_moves, moves_of, ReadsLine, ReadsMoves}

-- the lines behind the first, where what follows it begins with its LF
abbrev pub later_lines : List ℕ → List (List ℕ)
later_lines [] = []
later_lines (b ∷ bs) = lines_of bs

abbrev pub no_end : ℕ → Bool
no_end b = not (b == 10)

-- the first line, and those behind it
pub lines-first : (bs : List ℕ) → lines_of bs ≡ take (prefix_len no_end bs) bs ∷ later_lines (drop (prefix_len no_end bs) bs)
lines-first [] = refl
lines-first (b ∷ bs) = by (b == 10) refl (lines-first bs)
  where
    by : (t : Bool) → (b == 10) ≡ t → lines_of bs ≡ take (prefix_len no_end bs) bs ∷ later_lines (drop (prefix_len no_end bs) bs)
        → lines_of (b ∷ bs) ≡ take (prefix_len no_end (b ∷ bs)) (b ∷ bs) ∷ later_lines (drop (prefix_len no_end (b ∷ bs)) (b ∷ bs))
    by true e so = rw e refl
    by false e so =
        let n : 1 + prefix_len no_end bs ≡ suc (prefix_len no_end bs) = omega arith in
        rw (e, n) (ap (λ (ls : List (List ℕ)). onto_first b ls) so)

-- moves that follow moves that follow moves
fronted-append : (ms ns : List Move) (r : Result (List Move) TextFault) → fronted (ms ++ ns) r ≡ fronted ms (fronted ns r)
fronted-append ms ns (Ok later) = ap (λ (l : List Move). Ok l) (append_assoc ms ns later)
fronted-append ms ns (Err f) = refl

-- the moves of the lines from this place on
abbrev pub from_here : Find → ℕ → List ℕ → Result (List Move) TextFault
from_here find number bs = moves_of find number (lines_of bs)

-- one more line is read, and another follows
pub line_more : (find : Find) (number : ℕ) (bs line after : List ℕ) (whole : Result (List Move) TextFault) (old ms : List Move)
    → line ≡ take (prefix_len no_end bs) bs → after ≡ drop (prefix_len no_end bs) bs → 0 < length after
    → whole ≡ fronted old (from_here find number bs) → line_moves find number line ≡ Ok ms
    → whole ≡ fronted (old ++ ms) (from_here find (capped (number + 1)) (drop 1 after))
line_more find number bs line [] whole old ms l a some so r = absurd (omega arith)
line_more find number bs line (b ∷ after) whole old ms l a some so r =
    let first : lines_of bs ≡ line ∷ lines_of after = lines-first bs ∙ rw (← l, ← a) refl in
    so ∙ rw (first, r) (sym (fronted-append old ms (from_here find (capped (number + 1)) after)))

-- one more line is read, and it is the last
pub line_last : (find : Find) (number : ℕ) (bs line after : List ℕ) (whole : Result (List Move) TextFault) (old ms : List Move)
    → line ≡ take (prefix_len no_end bs) bs → after ≡ drop (prefix_len no_end bs) bs → length after ≤ 0
    → whole ≡ fronted old (from_here find number bs) → line_moves find number line ≡ Ok ms
    → whole ≡ Ok (old ++ ms)
line_last find number bs line (b ∷ after) whole old ms l a none so r = absurd (omega arith)
line_last find number bs line [] whole old ms l a none so r =
    let first : lines_of bs ≡ line ∷ [] = lines-first bs ∙ rw (← l, ← a) refl in
    so ∙ rw (first, r, append-nil) refl

-- a line has a fault
pub line_fails : (find : Find) (number : ℕ) (bs line : List ℕ) (whole : Result (List Move) TextFault) (old : List Move) (f : TextFault)
    → line ≡ take (prefix_len no_end bs) bs
    → whole ≡ fronted old (from_here find number bs) → line_moves find number line ≡ Err f
    → whole ≡ Err f
line_fails find number bs line whole old f l so r =
    let first : lines_of bs ≡ line ∷ later_lines (drop (prefix_len no_end bs) bs) = lines-first bs ∙ rw (← l) refl in
    so ∙ rw (first, r) refl

-- nothing is read yet
pub fronted-none : (r : Result (List Move) TextFault) → r ≡ fronted [] r
fronted-none (Ok later) = refl
fronted-none (Err f) = refl

-- a line is not read, for a fault or for want of memory
pub line_refuses : (find : Find) (number : ℕ) (bs line : List ℕ) (whole : Result (List Move) TextFault) (old new : List Move) (e : ReadFault)
    → line ≡ take (prefix_len no_end bs) bs → whole ≡ fronted old (from_here find number bs)
    → ReadsLine old new (line_moves find number line) (Err e) → ReadsMoves whole (Err e)
line_refuses find number bs line whole old new faults.NoMemory l so r = tt
line_refuses find number bs line whole old new (faults.Text f) l so r = line_fails find number bs line whole old f l so r

pub none_left : (n : ℕ) → (n == 0) ≡ true → n ≤ 0
none_left n e = grind (arith, nat_tests)

pub some_left : (n : ℕ) → (n == 0) ≡ false → 0 < n
some_left n e = grind (arith, nat_tests)
