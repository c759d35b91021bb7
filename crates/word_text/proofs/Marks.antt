-- What a mark says of the first byte.
use Rattle.std.proofs.Common.{◌≡◌, ℕ, ◌<◌, Bool, true, false, List, [], ◌∷◌, length, take_while, refl, if◌then◌else◌, arith}
use Rattle.std.proofs.lemmas.List.Sums.{take_while-cons}
use Rattle.word_text.specs.declared.scan.Mark.TheVariants.{Letter, One, Round, Square, Star, Bad, Other}
use Rattle.word_text.specs.Scan.{is_letter, is_name_byte, mark_byte, mark_of}

chain : (l p q r s t : Bool) → (if l then Letter else if p then One else if q then Round else if r then Square else if s then Star else if t then Other else
    Bad) ≡ Letter → l ≡ true
chain true p q r s t e = refl
chain false true q r s t e = cc
chain false false true r s t e = cc
chain false false false true s t e = cc
chain false false false false true t e = cc
chain false false false false false true e = cc
chain false false false false false false e = cc

is_letter_marked : (b : ℕ) → mark_byte b ≡ Letter → is_letter b ≡ true
unfolding mark_byte
is_letter_marked b e = chain (is_letter b) _ _ _ _ _ e

pub name_byte_marked : (b : ℕ) → mark_byte b ≡ Letter → is_name_byte b ≡ true
unfolding is_name_byte
name_byte_marked b e = rw (is_letter_marked b e) refl

-- where a letter stands there is a name
pub name_some : (bs : List ℕ) → mark_of bs ≡ Letter → 0 < length (take_while is_name_byte bs)
name_some [] e = cc
name_some (b ∷ bs) e = rw (take_while-cons is_name_byte b bs, name_byte_marked b e) (omega arith)
