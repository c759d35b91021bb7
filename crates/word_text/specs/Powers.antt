-- Powers behind an atom.
use Rattle.std.specs.Prelude.{ℕ, zero, suc, ◌==◌, Bool, true, false, nat_lt, List, length, drop, Option, Some, None}
use Rattle.std.specs.Prelude.{Result, Ok, Err, if◌then◌else◌}
use Rattle.free_words.specs.declared.letter.Letter.{Letter}
use Rattle.free_words.specs.Words.{copies, inverse}
use Rattle.free_words.specs.declared.TheConstants.{WRITTEN}
use Rattle.word_text.specs.declared.fault.Fault.{Fault}
use Rattle.word_text.specs.declared.fault.TextKind.TheVariants.{ExponentTooLarge, WordTooLong}
use Rattle.word_text.specs.Scan.{◌>>=◌, first_is, after_blanks, digits_at, after_digits, number, within, due}

-- a written word has at most so many letters, and an exponent is at most so large
abbrev pub written : ℕ
written = WRITTEN

-- so many copies of a word, or of its inverse
abbrev pub power_of : Bool → ℕ → List Letter → List Letter
power_of negative n w = copies n (if negative then inverse w else w)

-- an exponent, and what follows it
pub record Exponent : Type 0 where
  pub negative : Bool
  pub size : ℕ
  pub rest : List ℕ

abbrev pub sized : Bool → List ℕ → Option ℕ → Result Exponent Fault
sized negative bs None = Err (record { kind = ExponentTooLarge; left = length bs })
sized negative bs (Some n) = Ok (record { negative = negative; size = n; rest = after_digits bs })

unfoldable pub size_at : Bool → List ℕ → Result Exponent Fault
size_at negative bs =
    if length (digits_at bs) == 0 then Err (due bs)
    else sized negative bs (within written (number 0 (digits_at bs)))

-- the exponent behind `^`, without blanks before it
unfoldable pub exponent_at : List ℕ → Result Exponent Fault
exponent_at bs = if first_is 45 bs then size_at true (after_blanks (drop 1 bs)) else size_at false bs

-- the word, where it has at most `limit` letters; else the fault at the place where `start` bytes are left
abbrev pub within_limit : ℕ → ℕ → List Letter → Result (List Letter) Fault
within_limit limit start w = if nat_lt limit (length w) then Err (record { kind = WordTooLong; left = start }) else Ok w

abbrev pub raised : ℕ → ℕ → Bool → ℕ → List Letter → Result (List Letter) Fault
raised limit start negative size w = within_limit limit start (power_of negative size w)

-- the powers that stand here, with no blanks before them; the factor begins where `start` bytes are left
unfoldable pub powers_from : ℕ → ℕ → ℕ → List Letter → List ℕ → Result (List Letter × List ℕ) Fault
powers_from limit zero start w bs = Err (due bs)
powers_from limit (suc n) start w bs =
    if first_is 94 bs
    then (exponent_at (after_blanks (drop 1 bs)) >>= λ k.
    (raised limit start k.negative k.size w >>= λ v. powers_from limit n start v (after_blanks k.rest)))
    else Ok (w, bs)

unfoldable pub powers_within : ℕ → ℕ → List Letter → List ℕ → Result (List Letter × List ℕ) Fault
powers_within limit start w bs = powers_from limit (suc (length (after_blanks bs))) start w (after_blanks bs)

-- the same with the limit of a written word
abbrev pub powers_at : ℕ → List Letter → List ℕ → Result (List Letter × List ℕ) Fault
powers_at = powers_within written
