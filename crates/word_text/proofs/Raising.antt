-- Reading powers one after another, as a loop does.
use Rattle.std.proofs.Common.{◌≡◌, ℕ, zero, suc, ◌<◌, Bool, true, false, List, length, drop, Result, Ok, refl, ◌∙◌, arith}
use Rattle.free_words.specs.declared.letter.Letter.{Letter}
use Rattle.word_text.specs.declared.fault.Fault.{Fault}
use Rattle.word_text.specs.declared.fault.ReadError.{ReadError}
use Rattle.word_text.specs.declared.fault.ReadError.TheVariants as errors
use Rattle.word_text.specs.Scan.{Fails, first_is, after_blanks}
use Rattle.word_text.specs.Powers.{exponent_at, raised, powers_from, powers_within}

-- what all the bytes give is what is read from here on
abbrev pub Going : ℕ → ℕ → Result (List Letter × List ℕ) Fault → List Letter → List ℕ → Type 0
Going limit start whole w bs = (n : ℕ) × (length bs < n) × (whole ≡ powers_from limit n start w bs)

pub more : (limit start : ℕ) (whole : Result (List Letter × List ℕ) Fault) (w v : List Letter) (bs rest : List ℕ) (negative : Bool) (size : ℕ)
    → first_is 94 bs ≡ true → exponent_at (after_blanks (drop 1 bs)) ≡ Ok (record { negative = negative; size = size; rest = rest })
    → raised limit start negative size w ≡ Ok v → length (after_blanks rest) < length bs
    → Going limit start whole w bs → Going limit start whole v (after_blanks rest)
unfolding powers_from
more limit start whole w v bs rest negative size f e r lt (zero, short, g) = absurd (omega arith)
more limit start whole w v bs rest negative size f e r lt (suc n, short, g) = (n, omega arith, g ∙ rw (f, e, r) refl)

pub no_exponent : (limit start : ℕ) (whole : Result (List Letter × List ℕ) Fault) (w : List Letter) (bs : List ℕ) (error : ReadError)
    → first_is 94 bs ≡ true → Fails error (exponent_at (after_blanks (drop 1 bs))) → Going limit start whole w bs → Fails error whole
unfolding powers_from
no_exponent limit start whole w bs errors.NoMemory f e g = tt
no_exponent limit start whole w bs (errors.Text fault) f e (zero, short, g) = absurd (omega arith)
no_exponent limit start whole w bs (errors.Text fault) f e (suc n, short, g) = g ∙ rw (f, e) refl

pub too_long : (limit start : ℕ) (whole : Result (List Letter × List ℕ) Fault) (w : List Letter) (bs rest : List ℕ) (negative : Bool) (size : ℕ)
    (error : ReadError)
    → first_is 94 bs ≡ true → exponent_at (after_blanks (drop 1 bs)) ≡ Ok (record { negative = negative; size = size; rest = rest })
    → Fails error (raised limit start negative size w) → Going limit start whole w bs → Fails error whole
unfolding powers_from
too_long limit start whole w bs rest negative size errors.NoMemory f e r g = tt
too_long limit start whole w bs rest negative size (errors.Text fault) f e r (zero, short, g) = absurd (omega arith)
too_long limit start whole w bs rest negative size (errors.Text fault) f e r (suc n, short, g) = g ∙ rw (f, e, r) refl

pub done : (limit start : ℕ) (whole : Result (List Letter × List ℕ) Fault) (w : List Letter) (bs : List ℕ)
    → first_is 94 bs ≡ false → Going limit start whole w bs → whole ≡ Ok (w, bs)
unfolding powers_from
done limit start whole w bs f (zero, short, g) = absurd (omega arith)
done limit start whole w bs f (suc n, short, g) = g ∙ rw f refl

pub begin : (limit start : ℕ) (w : List Letter) (bs : List ℕ) → Going limit start (powers_within limit start w bs) w (after_blanks bs)
unfolding powers_within
begin limit start w bs = (suc (length (after_blanks bs)), omega arith, refl)
