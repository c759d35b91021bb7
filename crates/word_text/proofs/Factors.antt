-- An atom with its powers joins the product, where that is within the limit.
use Rattle.std.proofs.Common.{◌≡◌, ℕ, ◌<◌, ◌≤◌, List, ◌++◌, length, Ok, Err, refl}
use Rattle.free_words.specs.declared.letter.Letter.{Letter}
use Rattle.word_text.specs.declared.fault.TextKind.TheVariants.{WordTooLong}
use Rattle.word_text.specs.declared.machine.Spot.TheVariants.{After}
use Rattle.word_text.specs.Powers.{powers_within}
use Rattle.word_text.specs.Machine.{Frame, goes_on, factor_ends}
use Rattle.word_text.proofs.Limits.{made_ok, made_long}

pub factor_ok : (limit : ℕ) (frames : List Frame) (outer : List Letter) (start : ℕ) (a v : List Letter) (bs rest : List ℕ)
    → powers_within limit start a bs ≡ Ok (v, rest) → length (outer ++ v) ≤ limit
    → factor_ends limit frames outer start a bs ≡ goes_on frames (outer ++ v) After rest
unfolding factor_ends
factor_ok limit frames outer start a v bs rest e le = rw (e, made_ok limit start (outer ++ v) le) refl

pub factor_long : (limit : ℕ) (frames : List Frame) (outer : List Letter) (start : ℕ) (a v : List Letter) (bs rest : List ℕ)
    → powers_within limit start a bs ≡ Ok (v, rest) → limit < length (outer ++ v)
    → factor_ends limit frames outer start a bs ≡ Err (record { kind = WordTooLong; left = start })
unfolding factor_ends
factor_long limit frames outer start a v bs rest e lt = rw (e, made_long limit start (outer ++ v) lt) refl
