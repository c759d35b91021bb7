-- Reading a word turn after turn, as a loop does.
use Rattle.std.proofs.Common.{◌≡◌, ℕ, zero, suc, ◌<◌, true, false, List, length, Result, Ok, refl, ◌∙◌, arith}
use Rattle.free_words.specs.declared.letter.Letter.{Letter}
use Rattle.word_text.specs.declared.fault.Fault.{Fault}
use Rattle.word_text.specs.declared.fault.ReadError.{ReadError}
use Rattle.word_text.specs.declared.fault.ReadError.TheVariants as errors
use Rattle.word_text.specs.Scan.{Fails}
use Rattle.word_text.specs.Machine.{Reading, Find, turn, word_from}

-- what all the bytes give is what is read from here on
abbrev pub Going : ℕ → Find → Result (List Letter × List ℕ) Fault → Reading → List ℕ → Type 0
Going limit find whole s bs = (n : ℕ) × (length bs < n) × (whole ≡ word_from limit n find s bs)

pub more : (limit : ℕ) (find : Find) (whole : Result (List Letter × List ℕ) Fault) (s t : Reading) (bs rest : List ℕ)
    → turn limit find s bs ≡ Ok (record { state = t; ended = false; rest = rest }) → length rest < length bs
    → Going limit find whole s bs → Going limit find whole t rest
unfolding word_from
more limit find whole s t bs rest e lt (zero, short, g) = absurd (omega arith)
more limit find whole s t bs rest e lt (suc n, short, g) = (n, omega arith, g ∙ rw e refl)

pub fails : (limit : ℕ) (find : Find) (whole : Result (List Letter × List ℕ) Fault) (s : Reading) (bs : List ℕ) (error : ReadError)
    → Fails error (turn limit find s bs) → Going limit find whole s bs → Fails error whole
unfolding word_from
fails limit find whole s bs errors.NoMemory e g = tt
fails limit find whole s bs (errors.Text fault) e (zero, short, g) = absurd (omega arith)
fails limit find whole s bs (errors.Text fault) e (suc n, short, g) = g ∙ rw e refl

pub ends : (limit : ℕ) (find : Find) (whole : Result (List Letter × List ℕ) Fault) (s t : Reading) (bs rest : List ℕ)
    → turn limit find s bs ≡ Ok (record { state = t; ended = true; rest = rest })
    → Going limit find whole s bs → whole ≡ Ok (t.product, rest)
unfolding word_from
ends limit find whole s t bs rest e (zero, short, g) = absurd (omega arith)
ends limit find whole s t bs rest e (suc n, short, g) = g ∙ rw e refl
