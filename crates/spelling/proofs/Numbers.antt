-- Numbers as texts.
use Rattle.std.proofs.Common.{◌≡◌, ◌≤◌, ◌⊎◌, inl, inr, ◌∙◌, sym, ap, Some, None, nat_eq, true, ℕ, ◌<◌, ◌^◌, List, Result, Ok, Err, decimal, arith}
use Rattle.std.proofs.lemmas.Fmt.{decimal_is_IsNumeral_wide, parse-decimal, IsAscii-decimal, parse-decimal_wide, IsAscii-decimal_wide}
use Rattle.std.proofs.lemmas.Str.{IsUtf8-from_ascii}
use Rattle.std.proofs.lemmas.Slice.Eq.{bytes_eq-Decides}
use Rattle.std.specs.Cmp.Lexicographic.{pointwise}
use Rattle.std.specs.Str.{IsUtf8}
use Rattle.std.specs.Str.Parse.{ParsesUnsigned, digits_value}
use Rattle.spelling.specs.Spelling.{IsRead, IsWide, IsPositive}

pub number_is_utf8 : (n : ℕ) → n < 2 ^ 32 → IsUtf8 (decimal n)
number_is_utf8 n small = IsUtf8-from_ascii (decimal n) (IsAscii-decimal n (omega arith))

-- a number's spelling is no text that fails to parse
pub parse_not : {E : Type 0} (e : E) (n : ℕ) (bs : List ℕ) → n < 2 ^ 32 → bs ≡ decimal n → ParsesUnsigned 32 10 bs (Err e) → ⊥
parse_not {E} e n bs small same h = absurd_ok (parse-decimal 32 n bs (Err e) small (omega arith) same h) where
  absurd_ok : Path (Result ℕ E) (Err e) (Ok n) → ⊥
  absurd_ok k = cc

-- what is parsed of a number's spelling is the number
pub parse_is : {E : Type 0} (r : Result ℕ E) (m n : ℕ) (bs : List ℕ) → n < 2 ^ 32 → bs ≡ decimal n → ParsesUnsigned 32 10 bs r → r ≡ Ok m → m ≡ n
parse_is {E} r m n bs small same h is =
    let k : r ≡ Ok n = parse-decimal 32 n bs r small (omega arith) same h in cc

pub same_text : (a b : List ℕ) → a ≡ b → pointwise nat_eq a b ≡ true
same_text a b e = (bytes_eq-Decides a b).1 e

pub wide_is_utf8 : (n : ℕ) → n < 2 ^ 128 → IsUtf8 (decimal n)
wide_is_utf8 n small = IsUtf8-from_ascii (decimal n) (IsAscii-decimal_wide n (omega arith))

pub wide_not : {E : Type 0} (e : E) (n : ℕ) (bs : List ℕ) → n < 2 ^ 128 → bs ≡ decimal n → ParsesUnsigned 128 10 bs (Err e) → ⊥
wide_not {E} e n bs small same h = absurd_ok (parse-decimal_wide 128 n bs (Err e) small (omega arith) same h) where
  absurd_ok : Path (Result ℕ E) (Err e) (Ok n) → ⊥
  absurd_ok k = cc

pub wide_is : {E : Type 0} (r : Result ℕ E) (m n : ℕ) (bs : List ℕ) → n < 2 ^ 128 → bs ≡ decimal n → ParsesUnsigned 128 10 bs r → r ≡ Ok m → m ≡ n
wide_is {E} r m n bs small same h is =
    let k : r ≡ Ok n = parse-decimal_wide 128 n bs r small (omega arith) same h in cc

-- a text is the decimal of one number
pub decimal_same : (m n : ℕ) → m < 2 ^ 128 → n < 2 ^ 128 → decimal m ≡ decimal n → m ≡ n
decimal_same m n small little e =
    sym (decimal_is_IsNumeral_wide m (omega arith)).1 ∙ ap (λ ds. digits_value 10 ds) e ∙ (decimal_is_IsNumeral_wide n (omega arith)).1

pub not_positive : (text : List ℕ) (n : ℕ) → IsRead decimal IsWide text (Some n) → (n ≡ 0) ⊎ (2 ^ 127 ≤ n) → IsRead decimal IsPositive text None
not_positive text n h (inl zero) = λ x p e. let k = decimal_same n x h.0 (omega (arith, p.1)) (sym h.1 ∙ e) in omega (arith, k, zero, p.0)
not_positive text n h (inr past) = λ x p e. let k = decimal_same n x h.0 (omega (arith, p.1)) (sym h.1 ∙ e) in omega (arith, k, past, p.1)
