-- A word, where it is within the limit, and the fault where it isn't.
use Rattle.std.proofs.Common.{◌≡◌, ℕ, ◌*◌, ◌<◌, ◌≤◌, Bool, List, [], length, Ok, Err, refl, sym, ◌∙◌, arith}
use Rattle.std.proofs.lemmas.Bool.Decides.{nat_tests}
use Rattle.free_words.specs.declared.letter.Letter.{Letter}
use Rattle.word_text.specs.declared.fault.TextKind.TheVariants.{WordTooLong}
use Rattle.word_text.specs.Powers.{within_limit, raised, power_of}
use Rattle.word_text.proofs.Algebra.{length-power, power_nil}

pub made_ok : (limit start : ℕ) (w : List Letter) → length w ≤ limit → within_limit limit start w ≡ Ok w
made_ok limit start w le = grind (arith, nat_tests)

pub made_long : (limit start : ℕ) (w : List Letter) → limit < length w → within_limit limit start w ≡ Err (record { kind = WordTooLong; left = start })
made_long limit start w lt = grind (arith, nat_tests)

-- one more power of an atom
pub raise_nil : (limit start : ℕ) (s t : Bool) (n k : ℕ) (atom : List Letter) → length atom ≡ 0
    → raised limit start t n (power_of s k atom) ≡ Ok (power_of s k atom)
raise_nil limit start s t n k atom e =
    let inner : k * length atom ≡ 0 = rw e (omega arith) in
    let none : power_of s k atom ≡ [] = power_nil s k atom inner in
    let zero_letters : n * length (power_of s k atom) ≡ 0 = rw none (omega arith) in
    let same : power_of t n (power_of s k atom) ≡ power_of s k atom = power_nil t n (power_of s k atom) zero_letters ∙ sym none in
    rw same (made_ok limit start (power_of s k atom) (rw none (omega arith)))

pub raise_ok : (limit start : ℕ) (s t r : Bool) (n k m : ℕ) (atom : List Letter) → power_of t n (power_of s k atom) ≡ power_of r m atom
    → m * length atom ≤ limit → raised limit start t n (power_of s k atom) ≡ Ok (power_of r m atom)
raise_ok limit start s t r n k m atom e le = rw e (made_ok limit start (power_of r m atom) (rw (length-power r m atom) le))

pub raise_long : (limit start : ℕ) (s t : Bool) (n k : ℕ) (atom : List Letter) → limit < (n * k) * length atom
    → raised limit start t n (power_of s k atom) ≡ Err (record { kind = WordTooLong; left = start })
raise_long limit start s t n k atom lt =
    let long : length (power_of t n (power_of s k atom)) ≡ n * (k * length atom) = rw (length-power t n (power_of s k atom), length-power s k atom) refl in
    made_long limit start (power_of t n (power_of s k atom)) (omega (arith, long))
