-- Parts of a longer line, read one after another.
use Rattle.std.specs.Prelude.{◌≡◌, ℕ, ◌≤◌, ◌==◌, nat_lt, Bool, codes, List, length, take, drop, Option, Some, None}
use Rattle.std.specs.Prelude.{Result, Ok, Err, if◌then◌else◌}
use Rattle.std.specs.Str.{bytes_eq}
use Rattle.word_text.specs.declared.fault.Fault.{Fault}
use Rattle.word_text.specs.declared.fault.TextKind.TheVariants.{Expected, UnknownName}
use Rattle.word_text.specs.declared.fault.ReadFault.{ReadFault}
use Rattle.word_text.specs.declared.fault.ReadFault.TheVariants as faults
use Rattle.word_text.specs.Scan.{after_blanks, name_at, after_name, digits_at, after_digits, mark_of, number, due}
use Rattle.word_text.specs.declared.scan.Mark.{Mark}
use Rattle.word_text.specs.declared.scan.Mark.TheVariants as marks
use Rattle.word_text.specs.Machine.{Find}
use Rattle.free_words.specs.declared.letter.Letter.{Letter}
use Rattle.word_text.specs.Place.{on_line}

-- what is left of the bytes behind some of them
abbrev pub IsEnd : List ℕ → List ℕ → Type 0
IsEnd bs rest = (n : ℕ) × (n ≤ length bs) × (rest ≡ drop n bs)

-- What a reader answers that stands at the place `old` of a line, and the place `new` where it then stands. It has read
-- what is read from the old place on, and stands before what is left of it. After a fault, whose column is one of this
-- line, and where memory ran out, it stands where it stood.
abbrev pub ReadsOn : {X Y : Type 0} → (X → Y) → List ℕ → ℕ → ℕ → ℕ → Result (Y × List ℕ) Fault
    → Result X ReadFault → Type 0
ReadsOn view text line old new read (Ok x) = (new ≤ length text) × (read ≡ Ok (view x, drop new text))
ReadsOn view text line old new read (Err faults.NoMemory) = new ≡ old
ReadsOn view text line old new read (Err (faults.Text f)) = (new ≡ old) × (e : Fault) × (read ≡ Err e)
    × (f ≡ on_line text line e)

-- the same of what takes no memory and knows no line: the value, or the fault
abbrev pub Reads : {X Y : Type 0} → (X → Y) → Result X Fault → Result Y Fault → Type 0
Reads view (Ok x) read = read ≡ Ok (view x)
Reads view (Err e) read = read ≡ Err e

-- a number of one to six digits, without blanks before it
abbrev pub six_digits : List ℕ → Result (ℕ × List ℕ) Fault
six_digits bs =
    if length (digits_at bs) == 0 then Err (due bs)
    else if nat_lt 6 (length (digits_at bs)) then Err (record { kind = Expected; left = length (drop 6 bs) })
    else Ok (number 0 (digits_at bs), after_digits bs)

-- a number of one to six digits, behind blanks
unfoldable pub number_at : List ℕ → Result (ℕ × List ℕ) Fault
number_at bs = six_digits (after_blanks bs)

-- whether the mark comes next, behind blanks
unfoldable pub comes_next : List ℕ → List ℕ → Bool
comes_next mark bs = bytes_eq (take (length mark) (after_blanks bs)) mark

-- what follows the mark, or what follows the blanks where the mark doesn't come next
unfoldable pub after_mark : List ℕ → List ℕ → List ℕ
after_mark mark bs = if comes_next mark bs then drop (length mark) (after_blanks bs) else after_blanks bs

-- whether this whole name comes next, behind blanks, and what follows it
unfoldable pub is_word : List ℕ → List ℕ → Bool
is_word w bs = bytes_eq (name_at (after_blanks bs)) w

unfoldable pub after_word : List ℕ → List ℕ
after_word bs = after_name (after_blanks bs)

-- whether blanks alone are left
unfoldable pub is_end : List ℕ → Bool
is_end bs = length (after_blanks bs) == 0

-- the letter of a generator's number whose name stands here; `^-1` behind it is one token
abbrev pub letter_of : Option ℕ → List ℕ → Result (Letter × List ℕ) Fault
letter_of None bs = Err (record { kind = UnknownName; left = length bs })
letter_of (Some g) bs =
    let rest : List ℕ = after_name bs in Ok (
      record { g = g; inv = comes_next (codes "^-1") rest },
      after_mark (codes "^-1") rest,
    )

abbrev pub letter_on : Find → Mark → List ℕ → Result (Letter × List ℕ) Fault
letter_on find marks.Letter bs = letter_of (find (name_at bs)) bs
letter_on find marks.One bs = Err (due bs)
letter_on find marks.Round bs = Err (due bs)
letter_on find marks.Square bs = Err (due bs)
letter_on find marks.Star bs = Err (due bs)
letter_on find marks.Bad bs = Err (due bs)
letter_on find marks.Other bs = Err (due bs)

-- a letter: the name of a generator, or that and `^-1`
unfoldable pub letter_at : Find → List ℕ → Result (Letter × List ℕ) Fault
letter_at find bs = letter_on find (mark_of (after_blanks bs)) (after_blanks bs)
