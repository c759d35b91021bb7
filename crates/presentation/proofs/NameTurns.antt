-- Reading names one after another, as a loop does.
use Rattle.std.proofs.Common.{◌≡◌, ℕ, zero, suc, ◌+◌, ◌<◌, true, false, List, [], ◌∷◌, ◌++◌, length, drop, Result, Ok, ◌∙◌, refl, arith, length-append}
use Rattle.free_words.specs.declared.TheConstants.{GENERATORS}
use Rattle.word_text.specs.declared.fault.Fault.{Fault}
use Rattle.word_text.specs.declared.fault.ReadError.{ReadError}
use Rattle.word_text.specs.declared.fault.ReadError.TheVariants as errors
use Rattle.word_text.specs.Scan.{Fails, first_is}
use Rattle.presentation.specs.Reading.{name_behind, names_from}

-- what all the bytes give is what is read from here on
abbrev pub Going : Result (List (List ℕ) × List ℕ) Fault → List (List ℕ) → List ℕ → Type 0
Going whole seen bs = (n : ℕ) × (n + length seen ≡ GENERATORS) × (whole ≡ names_from (suc n) seen bs)

pub more : (whole : Result (List (List ℕ) × List ℕ) Fault) (seen : List (List ℕ)) (name bs rest : List ℕ)
    → name_behind seen bs ≡ Ok (name, rest) → first_is 44 rest ≡ true → length seen < GENERATORS
    → Going whole seen bs → Going whole (seen ++ name ∷ []) (drop 1 rest)
unfolding names_from
more whole seen name bs rest e f lt (zero, room, g) = absurd (omega arith)
more whole seen name bs rest e f lt (suc n, room, g) = (n, omega (arith, length-append seen (name ∷ [])), g ∙ rw (e, f) refl)

pub fails : (whole : Result (List (List ℕ) × List ℕ) Fault) (seen : List (List ℕ)) (bs : List ℕ) (error : ReadError)
    → Fails error (name_behind seen bs) → Going whole seen bs → Fails error whole
unfolding names_from
fails whole seen bs errors.NoMemory e g = tt
fails whole seen bs (errors.Text fault) e (n, room, g) = g ∙ rw e refl

pub done : (whole : Result (List (List ℕ) × List ℕ) Fault) (seen : List (List ℕ)) (name bs rest : List ℕ)
    → name_behind seen bs ≡ Ok (name, rest) → first_is 44 rest ≡ false → Going whole seen bs → whole ≡ Ok (seen ++ name ∷ [], rest)
unfolding names_from
done whole seen name bs rest e f (n, room, g) = g ∙ rw (e, f) refl
