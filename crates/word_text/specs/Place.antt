-- Where a fault stands in a text.
use Rattle.std.specs.Prelude.{◌≡◌, ℕ, ◌+◌, ◌-◌, not, ◌==◌, min, count_by, List, reverse, length, take, take_while}
use Rattle.std.specs.Prelude.{Result, Ok, Err, if◌then◌else◌}
use Rattle.free_words.specs.declared.letter.Letter.{Letter}
use Rattle.word_text.specs.declared.fault.Fault.{Fault}
use Rattle.word_text.specs.declared.fault.TextFault.{TextFault}
use Rattle.word_text.specs.declared.fault.ReadFault.{ReadFault}
use Rattle.word_text.specs.declared.fault.ReadFault.TheVariants as faults
use Rattle.word_text.specs.Scan.{◌>>=◌, due}
use Rattle.word_text.specs.Powers.{written}
use Rattle.word_text.specs.Machine.{Find, word_within}

abbrev pub capped : ℕ → ℕ
capped n = min n 4294967295

-- the line in which the bytes after these ones begin
abbrev pub line_after : List ℕ → ℕ
line_after front = 1 + count_by (λ b. b == 10) front

-- the column at which the bytes after these ones begin
abbrev pub column_after : List ℕ → ℕ
column_after front = 1 + length (take_while (λ b. not (b == 10)) (reverse front))

-- the fault with its place, which has so many bytes of the text behind it
unfoldable pub placed : List ℕ → Fault → TextFault
placed text f = let front : List ℕ = take (length text - f.left) text in
    record { line = capped (line_after front); column = capped (column_after front); kind = f.kind }

-- what a reader of a whole text answers: the value, or the first fault with its place
abbrev pub ReadsText : {Y : Type 0} → List ℕ → Result Y Fault → Result Y ReadFault → Type 0
ReadsText text read (Ok x) = read ≡ Ok x
ReadsText text read (Err faults.NoMemory) = Unit {0}
ReadsText text read (Err (faults.Text f)) = (e : Fault) × (read ≡ Err e) × (f ≡ placed text e)

-- a fault of this line
unfoldable pub on_line : List ℕ → ℕ → Fault → TextFault
on_line text line f = record { line = line; column = capped (length text - f.left + 1); kind = f.kind }

-- a fault is the first one, at its place in this line
abbrev pub ReadsLine : {X Y : Type 0} → List ℕ → ℕ → Result Y Fault → Result X ReadFault → Type 0
ReadsLine text line read (Ok x) = Unit {0}
ReadsLine text line read (Err faults.NoMemory) = Unit {0}
ReadsLine text line read (Err (faults.Text f)) = (e : Fault) × (read ≡ Err e) × (f ≡ on_line text line e)

-- a word behind which the text has to end
abbrev pub whole : Result (List Letter × List ℕ) Fault → Result (List Letter) Fault
whole read = read >>= λ x. if length x.1 == 0 then Ok x.0 else Err (due x.1)

-- the word that is the whole text, where each word that is made has at most `limit` letters
unfoldable pub text_within : ℕ → Find → List ℕ → Result (List Letter) Fault
text_within limit find bs = whole (word_within limit find bs)

-- the same with the limit of a written word
abbrev pub word_text : Find → List ℕ → Result (List Letter) Fault
word_text = text_within written
