-- Numbers among the words of the command line.
use Rattle.std.specs.Prelude.{ℕ, ◌==◌, Bool, ◌&&◌, not, nat_lt, List, length, Option, Some, None, if◌then◌else◌}
use Rattle.word_text.specs.Scan.{digits_at, after_digits, number, within}

abbrev pub is_empty : {A : Type 0} → List A → Bool
is_empty xs = length xs == 0

abbrev pub at_least : ℕ → Option ℕ → Option ℕ
at_least least None = None
at_least least (Some n) = if nat_lt n least then None else Some n

-- one to nine digits and nothing else
abbrev pub is_short_number : List ℕ → Bool
is_short_number text = not (is_empty (digits_at text)) &&
    (not (nat_lt 9 (length (digits_at text))) && is_empty (after_digits text))

-- the number that one to nine digits spell, if it lies in this range
abbrev pub number_between : ℕ → ℕ → List ℕ → Option ℕ
number_between least most text =
    if is_short_number text then at_least least (within most (number 0 (digits_at text))) else None
