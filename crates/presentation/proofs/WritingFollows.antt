-- What may stand behind a written word: `,`, `>`, `=`, `:` and `->`, with a space before them or without.
use Rattle.std.proofs.Common.{◌≡◌, ℕ, true, List, ◌∷◌, refl}
use Rattle.word_text.specs.Scan.{is_blank, is_letter, is_digit, is_name_byte}
use Rattle.presentation.specs.Writing.{ends_word}

pub comma_ends : (rest : List ℕ) → ends_word (44 ∷ rest) ≡ true
unfolding is_blank is_name_byte is_letter is_digit
comma_ends rest = refl

pub angle_ends : (rest : List ℕ) → ends_word (62 ∷ rest) ≡ true
unfolding is_blank is_name_byte is_letter is_digit
angle_ends rest = refl

pub equals_ends : (rest : List ℕ) → ends_word (61 ∷ rest) ≡ true
unfolding is_blank is_name_byte is_letter is_digit
equals_ends rest = refl

pub colon_ends : (rest : List ℕ) → ends_word (58 ∷ rest) ≡ true
unfolding is_blank is_name_byte is_letter is_digit
colon_ends rest = refl

pub hyphen_ends : (rest : List ℕ) → ends_word (45 ∷ rest) ≡ true
unfolding is_blank is_name_byte is_letter is_digit
hyphen_ends rest = refl

-- behind a space stands what may stand without it
pub space_ends : (rest : List ℕ) → ends_word rest ≡ true → ends_word (32 ∷ rest) ≡ true
unfolding is_blank
space_ends rest e = e
