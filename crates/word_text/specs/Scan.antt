-- Tokens at the head of a text, which is a list of bytes.
use Rattle.std.specs.Prelude.{◌≡◌, ℕ, ◌+◌, ◌-◌, ◌*◌, Bool, false, ◌&&◌, ◌||◌, nat_le, nat_lt, ◌==◌, List, [], ◌∷◌}
use Rattle.std.specs.Prelude.{length, drop, take_while, Option, Some, None, Result, Ok, Err, if◌then◌else◌}
use Rattle.word_text.specs.declared.fault.TextKind.{TextKind}
use Rattle.word_text.specs.declared.fault.TextKind.TheVariants.{BadByte, Expected}
use Rattle.word_text.specs.declared.fault.Fault.{Fault}
use Rattle.word_text.specs.declared.fault.ReadError.{ReadError}
use Rattle.word_text.specs.declared.fault.ReadError.TheVariants as errors
use Rattle.word_text.specs.declared.scan.Mark.{Mark}
use Rattle.word_text.specs.declared.scan.Mark.TheVariants.{Letter, One, Round, Square, Star, Bad, Other}

infixl 10 ◌>>=◌
abbrev pub ◌>>=◌ : {A B : Type 0} → Result A Fault → (A → Result B Fault) → Result B Fault
(Ok x) >>= f = f x
(Err e) >>= f = Err e

-- What a function returned, seen by view, is what reading gives, unless memory ran out.
abbrev pub Fails : {Y : Type 0} → ReadError → Result Y Fault → Type 0
Fails errors.NoMemory read = Unit {0}
Fails (errors.Text f) read = read ≡ Err f

abbrev pub Gives : {X Y : Type 0} → (X → Y) → Result X ReadError → Result Y Fault → Type 0
Gives view (Ok x) read = read ≡ Ok (view x)
Gives view (Err e) read = Fails e read

-- the same of a function that takes no memory
abbrev pub Tells : {X Y : Type 0} → (X → Y) → Result X Fault → Result Y Fault → Type 0
Tells view (Ok x) read = read ≡ Ok (view x)
Tells view (Err f) read = read ≡ Err f

-- space, tab, CR and LF
unfoldable pub is_blank : ℕ → Bool
is_blank b = (b == 32) || (b == 9) || (b == 13) || (b == 10)

unfoldable pub is_letter : ℕ → Bool
is_letter b = (nat_le 97 b && nat_le b 122) || (nat_le 65 b && nat_le b 90)

unfoldable pub is_digit : ℕ → Bool
is_digit b = nat_le 48 b && nat_le b 57

unfoldable pub is_name_byte : ℕ → Bool
is_name_byte b = is_letter b || is_digit b || (b == 95)

-- a byte that a token may have: of a name, or one of < > | , = ^ - * ( ) [ ]
unfoldable pub is_known : ℕ → Bool
is_known b = is_name_byte b
    || ((b == 60) || (b == 62) || (b == 124) || (b == 44) || (b == 61) || (b == 94))
    || ((b == 45) || (b == 42) || (b == 40) || (b == 41) || (b == 91) || (b == 93))

unfoldable pub after_blanks : List ℕ → List ℕ
after_blanks bs = drop (length (take_while is_blank bs)) bs

unfoldable pub name_at : List ℕ → List ℕ
name_at bs = take_while is_name_byte bs

unfoldable pub after_name : List ℕ → List ℕ
after_name bs = drop (length (take_while is_name_byte bs)) bs

unfoldable pub digits_at : List ℕ → List ℕ
digits_at bs = take_while is_digit bs

unfoldable pub after_digits : List ℕ → List ℕ
after_digits bs = drop (length (take_while is_digit bs)) bs

abbrev pub first_is : ℕ → List ℕ → Bool
first_is b [] = false
first_is b (c ∷ cs) = c == b

unfoldable pub mark_byte : ℕ → Mark
mark_byte b =
    if is_letter b then Letter
    else if b == 49 then One
    else if b == 40 then Round
    else if b == 91 then Square
    else if b == 42 then Star
    else if is_known b then Other
    else Bad

-- what the first byte says in a word
abbrev pub mark_of : List ℕ → Mark
mark_of [] = Other
mark_of (b ∷ bs) = mark_byte b

abbrev pub kind_due : Mark → TextKind
kind_due Bad = BadByte
kind_due Letter = Expected
kind_due One = Expected
kind_due Round = Expected
kind_due Square = Expected
kind_due Star = Expected
kind_due Other = Expected

-- the fault where a token stands that can't stand there
abbrev pub due : List ℕ → Fault
due bs = record { kind = kind_due (mark_of bs); left = length bs }

-- the number that digits spell after others that spell n
abbrev pub number : ℕ → List ℕ → ℕ
number n [] = n
number n (d ∷ ds) = number (n * 10 + (d - 48)) ds

abbrev pub within : ℕ → ℕ → Option ℕ
within limit n = if nat_lt limit n then None else Some n
