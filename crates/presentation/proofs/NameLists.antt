-- Names and lists of them.
use Rattle.std.proofs.Common.{◌≡◌, ◌||◌, ℕ, ◌<◌, Bool, true, false, List, [], ◌∷◌, ◌++◌, map, string_bytes, String, Global, take_while, refl, ap, arith}
use Rattle.std.specs.List.{list_any}
use Rattle.std.specs.Str.{bytes_eq, IsAscii, IsUtf8}
use Rattle.std.proofs.lemmas.Bool.Decides.{nat_tests}
use Rattle.std.proofs.lemmas.List.Sums.{take_while-cons}
use Rattle.std.proofs.lemmas.List.{map-append}
use Rattle.std.proofs.lemmas.Str.{IsUtf8-from_ascii}
use Rattle.std.proofs.lemmas.Str.Ascii.{IsAscii-nil, IsAscii-cons}
use Rattle.word_text.specs.Scan.{is_letter, is_digit, is_name_byte, name_at}

any_of_map : {A B : Type 0} (f : A → B) (p : B → Bool) (xs : List A) → list_any p (map f xs) ≡ list_any (λ x. p (f x)) xs
any_of_map f p [] = refl
any_of_map f p (x ∷ xs) = ap (λ (b : Bool). p (f x) || b) (any_of_map f p xs)

-- one of the texts has these bytes
pub any_of_texts : (bs : List ℕ) (xs : List (String Global)) → list_any (bytes_eq bs) (map string_bytes xs) ≡ list_any (λ x. bytes_eq bs (string_bytes x)) xs
any_of_texts bs xs = any_of_map string_bytes (bytes_eq bs) xs

name_byte_ascii : (b : ℕ) → is_name_byte b ≡ true → b < 128
unfolding is_name_byte is_letter is_digit
name_byte_ascii b e = grind (arith, nat_tests)

ascii_by : (b : ℕ) (bs : List ℕ) (t : Bool) → is_name_byte b ≡ t → IsAscii (take_while is_name_byte bs) → IsAscii (take_while is_name_byte (b ∷ bs))
ascii_by b bs true e h = rw (take_while-cons is_name_byte b bs, e) (IsAscii-cons b (take_while is_name_byte bs) (name_byte_ascii b e) h)
ascii_by b bs false e h = rw (take_while-cons is_name_byte b bs, e) IsAscii-nil

ascii : (bs : List ℕ) → IsAscii (take_while is_name_byte bs)
ascii [] = IsAscii-nil
ascii (b ∷ bs) = ascii_by b bs (is_name_byte b) refl (ascii bs)

-- a name is a text
pub name_utf8 : (bs : List ℕ) → IsUtf8 (name_at bs)
unfolding name_at
name_utf8 bs = IsUtf8-from_ascii (take_while is_name_byte bs) (ascii bs)

-- one more text at the end of the list
pub map-push : {A B : Type 0} (f : A → B) (old new : List A) (x : A) (y : B) → new ≡ old ++ x ∷ [] → f x ≡ y → map f new ≡ map f old ++ y ∷ []
map-push f old new x y e h = rw (e, ← h) (map-append f old (x ∷ []))
