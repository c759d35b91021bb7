-- How long u v^-1 is.
use Rattle.std.proofs.Common.{◌≡◌, ℕ, ◌+◌, ◌<◌, ◌≤◌, true, false, nat_lt, List, ◌++◌, length, Ok, Err, refl, arith, length-append}
use Rattle.std.proofs.lemmas.Bool.Decides.{nat_tests}
use Rattle.std.proofs.lemmas.List.{length-map, length-reverse}
use Rattle.free_words.specs.declared.letter.Letter.{Letter}
use Rattle.free_words.specs.declared.TheConstants.{WRITTEN}
use Rattle.free_words.specs.Words.{inverse}
use Rattle.word_text.specs.declared.fault.TextKind.TheVariants.{WordTooLong}
use Rattle.presentation.specs.Reading.{quotient}

length_quotient : (u v : List Letter) → length (u ++ inverse v) ≡ length u + length v
length_quotient u v = simp (length-append, length-map, length-reverse)

fits : (n : ℕ) → n ≤ WRITTEN → nat_lt WRITTEN n ≡ false
fits n le = grind (arith, nat_tests)

passes : (n : ℕ) → WRITTEN < n → nat_lt WRITTEN n ≡ true
passes n lt = grind (arith, nat_tests)

-- u v^-1 fits
pub quotient_again : (start : ℕ) (u v : List Letter) → length (u ++ inverse v) ≤ WRITTEN → quotient start u v ≡ Ok (u ++ inverse v)
quotient_again start u v le = rw (fits (length (u ++ inverse v)) le) refl

pub quotient_fits : (start : ℕ) (u v : List Letter) → length u + length v ≤ 16384 → quotient start u v ≡ Ok (u ++ inverse v)
quotient_fits start u v le = quotient_again start u v (omega (arith, length_quotient u v))

pub quotient_long : (start : ℕ) (u v : List Letter) → 16384 < length u + length v
    → quotient start u v ≡ Err (record { kind = WordTooLong; left = start })
quotient_long start u v lt = rw (passes (length (u ++ inverse v)) (omega (arith, length_quotient u v))) refl
