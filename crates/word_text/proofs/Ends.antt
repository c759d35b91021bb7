-- A text cut before a number of its last bytes.
use Rattle.std.proofs.Common.{◌≡◌, ℕ, ◌-◌, ◌≤◌, List, ◌++◌, length, arith, length-append}
use Rattle.std.proofs.Math.Seq.{take-append_seam, drop-append_seam}
use Rattle.word_text.specs.Faults.{bytes_before, bytes_from}

-- the bytes before an end of a text, and those from it on
length_back : (q place : List ℕ) (n : ℕ) → length place ≡ n → length (q ++ place) - n ≡ length q
length_back q place n e = omega (arith, e, length-append q place)

pub before_is : (text q place : List ℕ) (n : ℕ) → text ≡ q ++ place → length place ≡ n → bytes_before text n ≡ q
before_is text q place n t e = rw (t, length_back q place n e) (take-append_seam q place)

pub from_is : (text q place : List ℕ) (n : ℕ) → text ≡ q ++ place → length place ≡ n → bytes_from text n ≡ place
from_is text q place n t e = rw (t, length_back q place n e) (drop-append_seam q place)

pub left_within : (text q place : List ℕ) (n : ℕ) → text ≡ q ++ place → length place ≡ n → n ≤ length text
left_within text q place n t e = rw t (omega (arith, e, length-append q place))
