-- How the innermost open bracket goes on.
use Rattle.std.proofs.Common.{◌≡◌, ℕ, List, [], ◌∷◌, Some, refl}
use Rattle.word_text.specs.declared.draft.Awaited.TheVariants as awaited
use Rattle.word_text.specs.Machine.{Opening, Round, Square, Second, Frame, Reading, shuts, closes}
use Rattle.word_text.specs.Draft.{awaited_in, awaited_by, innermost, around, first_word}

round_only : (o : Opening) → awaited_by o ≡ awaited.Parenthesis → o ≡ Round
round_only Round e = refl
round_only Square e = cc
round_only (Second u) e = cc

comma_only : (o : Opening) → awaited_by o ≡ awaited.Comma → o ≡ Square
comma_only Round e = cc
comma_only Square e = refl
comma_only (Second u) e = cc

square_only : (o : Opening) → awaited_by o ≡ awaited.Bracket → o ≡ Second (first_word o)
square_only Round e = cc
square_only Square e = cc
square_only (Second u) e = refl

pub closes_round : (limit : ℕ) (frames : List Frame) (s : Reading) (bs : List ℕ) → awaited_in frames ≡ Some awaited.Parenthesis
    → closes limit frames s bs ≡ shuts limit Round (around frames) (innermost frames).outer (innermost frames).start s.product bs
closes_round limit [] s bs e = cc
closes_round limit (f ∷ fs) s bs e = rw (round_only f.opening (cc)) refl

pub closes_comma : (limit : ℕ) (frames : List Frame) (s : Reading) (bs : List ℕ) → awaited_in frames ≡ Some awaited.Comma
    → closes limit frames s bs ≡ shuts limit Square (around frames) (innermost frames).outer (innermost frames).start s.product bs
closes_comma limit [] s bs e = cc
closes_comma limit (f ∷ fs) s bs e = rw (comma_only f.opening (cc)) refl

pub closes_square : (limit : ℕ) (frames : List Frame) (s : Reading) (bs : List ℕ) → awaited_in frames ≡ Some awaited.Bracket
    → closes limit frames s bs
    ≡ shuts limit (Second (first_word (innermost frames).opening)) (around frames) (innermost frames).outer (innermost frames).start s.product bs
closes_square limit [] s bs e = cc
closes_square limit (f ∷ fs) s bs e = rw (square_only f.opening (cc)) refl
