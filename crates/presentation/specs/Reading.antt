-- Reading a presentation from left to right: the value of each part and what follows it, or the first fault.
use Rattle.std.specs.Prelude.{ℕ, zero, suc, ◌==◌, nat_le, nat_lt, ◌||◌, codes, List, [], ◌∷◌, ◌++◌, length, drop}
use Rattle.std.specs.Prelude.{Result, Ok, Err, if◌then◌else◌}
use Rattle.std.specs.List.{list_any}
use Rattle.std.specs.Str.{bytes_eq}
use Rattle.free_words.specs.declared.letter.Letter.{Letter}
use Rattle.free_words.specs.declared.TheConstants.{GENERATORS, WRITTEN}
use Rattle.free_words.specs.Words.{inverse}
use Rattle.word_text.specs.declared.fault.Fault.{Fault}
use Rattle.word_text.specs.declared.fault.TextKind.TheVariants.{TooManyNames, RepeatedName, TooManyRelators}
use Rattle.word_text.specs.declared.fault.TextKind.TheVariants.{ModulusOutOfRange, WordTooLong}
use Rattle.word_text.specs.declared.scan.Mark.{Mark}
use Rattle.word_text.specs.declared.scan.Mark.TheVariants as marks
use Rattle.word_text.specs.Scan.{◌>>=◌, first_is, after_blanks, name_at, after_name, digits_at, after_digits, mark_of}
use Rattle.word_text.specs.Scan.{number, due}
use Rattle.word_text.specs.Machine.{Find, finding, word_at}
use Rattle.presentation.specs.declared.TheConstants.{RELATORS, MODULUS}
use Rattle.presentation.specs.Presented.{Presented}

-- what follows the byte that is due
abbrev pub byte_at : ℕ → List ℕ → Result (List ℕ) Fault
byte_at b bs = if first_is b bs then Ok (drop 1 bs) else Err (due bs)

-- a name that stands here behind others
abbrev pub new_name : List (List ℕ) → List ℕ → Result (List ℕ × List ℕ) Fault
new_name seen bs =
    if nat_le GENERATORS (length seen) then Err (record { kind = TooManyNames; left = length bs })
    else if list_any (bytes_eq (name_at bs)) seen then Err (record { kind = RepeatedName; left = length bs })
    else Ok (name_at bs, after_name bs)

abbrev pub name_on : Mark → List (List ℕ) → List ℕ → Result (List ℕ × List ℕ) Fault
name_on marks.Letter seen bs = new_name seen bs
name_on marks.One seen bs = Err (due bs)
name_on marks.Round seen bs = Err (due bs)
name_on marks.Square seen bs = Err (due bs)
name_on marks.Star seen bs = Err (due bs)
name_on marks.Bad seen bs = Err (due bs)
name_on marks.Other seen bs = Err (due bs)

-- the name that is due behind others, and what follows it and its blanks
unfoldable pub name_behind : List (List ℕ) → List ℕ → Result (List ℕ × List ℕ) Fault
name_behind seen bs = name_on (mark_of (after_blanks bs)) seen (after_blanks bs) >>= λ x. Ok (x.0, after_blanks x.1)

-- the names from here on behind those before them, in at most so many turns
unfoldable pub names_from : ℕ → List (List ℕ) → List ℕ → Result (List (List ℕ) × List ℕ) Fault
names_from zero seen bs = Err (due bs)
names_from (suc n) seen bs =
    name_behind seen bs >>= λ x. if first_is 44 x.1 then names_from n (seen ++ x.0 ∷ []) (drop 1 x.1) else Ok
    (seen ++ x.0 ∷ [], x.1)

-- names with commas between them, and what follows them and their blanks. One turn more than there may be names tells
-- that there are too many.
unfoldable pub names_at : List ℕ → Result (List (List ℕ) × List ℕ) Fault
names_at bs = names_from (suc GENERATORS) [] bs

-- the word u v^-1, where it isn't too long for a written one
abbrev pub quotient : ℕ → List Letter → List Letter → Result (List Letter) Fault
quotient start u v =
    if nat_lt WRITTEN (length (u ++ inverse v)) then Err (record {
      kind = WordTooLong;
      left = start;
    }) else Ok (u ++ inverse v)

-- the equation of a word with the word behind the `=` that stands here
unfoldable pub equation_at : Find → List Letter → List ℕ → Result (List Letter × List ℕ) Fault
equation_at find u bs = word_at find (drop 1 bs) >>= λ v. (quotient (length bs) u v.0 >>= λ w. Ok (w, v.1))

-- a word, or an equation of two words
unfoldable pub relator_at : Find → List ℕ → Result (List Letter × List ℕ) Fault
relator_at find bs = word_at find bs >>= λ u. if first_is 61 u.1 then equation_at find u.0 u.1 else Ok u

-- the relators from here on behind those before them, in at most so many turns
unfoldable pub relators_from : ℕ → Find → List (List Letter) → List ℕ → Result (List (List Letter) × List ℕ) Fault
relators_from zero find before bs = Err (due bs)
relators_from (suc n) find before bs =
    relator_at find bs >>= λ r.
    if first_is 44 r.1
    then (if nat_le RELATORS (length (before ++ r.0 ∷ [])) then Err (record {
      kind = TooManyRelators;
      left = length r.1;
    })
    else relators_from n find (before ++ r.0 ∷ []) (drop 1 r.1))
    else Ok (before ++ r.0 ∷ [], r.1)

-- no relators where `>` comes next, and else relators with commas between them
unfoldable pub relators_at : Find → List ℕ → Result (List (List Letter) × List ℕ) Fault
relators_at find bs = if first_is 62 (after_blanks bs) then Ok ([], after_blanks bs) else relators_from
    RELATORS find [] bs

-- a presentation without a modulus, and what follows its `>`
unfoldable pub presentation_at : List ℕ → Result (Presented × List ℕ) Fault
presentation_at bs = do
  names ← byte_at 60 (after_blanks bs) >>= names_at
  relators ← byte_at 124 names.1 >>= relators_at (finding names.0)
  rest ← byte_at 62 relators.1
  Ok (record { names = names.0; relators = relators.0; modulus = 0 }, rest)

-- blanks alone follow
unfoldable pub ending : ℕ → List ℕ → Result ℕ Fault
ending m bs = if length (after_blanks bs) == 0 then Ok m else Err (due (after_blanks bs))

-- the number of a modulus, and blanks behind it
unfoldable pub modulus_number : List ℕ → Result ℕ Fault
modulus_number bs =
    if length (digits_at bs) == 0 then Err (due bs)
    else if nat_lt (number 0 (digits_at bs)) 2 || nat_lt MODULUS (number 0 (digits_at bs)) then Err (record {
      kind =
          ModulusOutOfRange;
      left = length bs;
    })
    else ending (number 0 (digits_at bs)) (after_digits bs)

-- blanks alone, or the word `modulus` and its number
unfoldable pub modulus_at : List ℕ → Result ℕ Fault
modulus_at bs =
    if length (after_blanks bs) == 0 then Ok 0
    else if bytes_eq (name_at (after_blanks bs)) (codes "modulus") then modulus_number
    (after_blanks (after_name (after_blanks bs)))
    else Err (due (after_blanks bs))

-- the presentation that is the whole text
unfoldable pub presentation_text : List ℕ → Result Presented Fault
presentation_text bs = presentation_at bs >>= λ x. (modulus_at x.1 >>= λ m. Ok (record x.0 { modulus = m }))
