-- Reading relators one after another, as a loop does.
use Rattle.std.proofs.Common.{◌≡◌, ℕ, zero, suc, ◌+◌, ◌<◌, ◌≤◌, true, false, nat_le, List, [], ◌∷◌, ◌++◌, length, drop, Result, Ok, Err, ◌∙◌, refl, arith}
use Rattle.std.proofs.Common.{length-append}
use Rattle.std.proofs.lemmas.Bool.Decides.{nat_tests}
use Rattle.free_words.specs.declared.letter.Letter.{Letter}
use Rattle.word_text.specs.declared.fault.Fault.{Fault}
use Rattle.word_text.specs.declared.fault.TextKind.TheVariants.{TooManyRelators}
use Rattle.word_text.specs.declared.fault.ReadError.{ReadError}
use Rattle.word_text.specs.declared.fault.ReadError.TheVariants as errors
use Rattle.word_text.specs.Scan.{Fails, first_is}
use Rattle.word_text.specs.Machine.{Find}
use Rattle.presentation.specs.declared.TheConstants.{RELATORS}
use Rattle.presentation.specs.Reading.{relator_at, relators_from}

-- what all the bytes give is what is read from here on
abbrev pub Going : Find → Result (List (List Letter) × List ℕ) Fault → List (List Letter) → List ℕ → Type 0
Going find whole before bs = (n : ℕ) × (suc n + length before ≡ RELATORS) × (whole ≡ relators_from (suc n) find before bs)

room_left : (before : List (List Letter)) (w : List Letter) → length (before ++ w ∷ []) < RELATORS → nat_le RELATORS (length (before ++ w ∷ [])) ≡ false
room_left before w lt = grind (arith, nat_tests)

no_room : (before : List (List Letter)) (w : List Letter) → RELATORS ≤ length (before ++ w ∷ []) → nat_le RELATORS (length (before ++ w ∷ [])) ≡ true
no_room before w le = grind (arith, nat_tests)

pub more : (find : Find) (whole : Result (List (List Letter) × List ℕ) Fault) (before : List (List Letter)) (w : List Letter) (bs rest : List ℕ)
    → relator_at find bs ≡ Ok (w, rest) → first_is 44 rest ≡ true → length (before ++ w ∷ []) < RELATORS
    → Going find whole before bs → Going find whole (before ++ w ∷ []) (drop 1 rest)
unfolding relators_from
more find whole before w bs rest e f lt (zero, room, g) = absurd (omega (arith, length-append before (w ∷ [])))
more find whole before w bs rest e f lt (suc n, room, g) =
    (n, omega (arith, length-append before (w ∷ [])), g ∙ rw (e, f, room_left before w lt) refl)

pub fails : (find : Find) (whole : Result (List (List Letter) × List ℕ) Fault) (before : List (List Letter)) (bs : List ℕ) (error : ReadError)
    → Fails error (relator_at find bs) → Going find whole before bs → Fails error whole
unfolding relators_from
fails find whole before bs errors.NoMemory e g = tt
fails find whole before bs (errors.Text fault) e (n, room, g) = g ∙ rw e refl

pub too_many : (find : Find) (whole : Result (List (List Letter) × List ℕ) Fault) (before : List (List Letter)) (w : List Letter) (bs rest : List ℕ)
    → relator_at find bs ≡ Ok (w, rest) → first_is 44 rest ≡ true → RELATORS ≤ length (before ++ w ∷ [])
    → Going find whole before bs → whole ≡ Err (record { kind = TooManyRelators; left = length rest })
unfolding relators_from
too_many find whole before w bs rest e f le (n, room, g) = g ∙ rw (e, f, no_room before w le) refl

pub done : (find : Find) (whole : Result (List (List Letter) × List ℕ) Fault) (before : List (List Letter)) (w : List Letter) (bs rest : List ℕ)
    → relator_at find bs ≡ Ok (w, rest) → first_is 44 rest ≡ false → Going find whole before bs → whole ≡ Ok (before ++ w ∷ [], rest)
unfolding relators_from
done find whole before w bs rest e f (n, room, g) = g ∙ rw (e, f) refl
