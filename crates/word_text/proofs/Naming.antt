-- The number of a name is that of the first name that is the same.
use Rattle.std.proofs.Common.{◌≡◌, ℕ, ◌<◌, ◌≤◌, true, false, List, [], length, get_or, Option, Some, None, slice_get, nat_lt, cond, refl, ap, ◌∙◌, arith}
use Rattle.std.specs.List.{position_or_len}
use Rattle.std.specs.Str.{bytes_eq}
use Rattle.std.proofs.lemmas.Bool.Decides.{nat_tests}
use Rattle.std.proofs.lemmas.List.Sums.{fails_before_first}
use Rattle.std.proofs.lemmas.List.Quantifiers.{position-Some}
use Rattle.std.proofs.lemmas.Option.{slice_get-get_or, slice_get_within, get_or_from_slice_get}
use Rattle.std.proofs.lemmas.Slice.Eq.{bytes_eq-Decides}
use Rattle.word_text.specs.Machine.{finding}
use Rattle.word_text.specs.Naming.{IsNumberOf}

is_same : (m name : List ℕ) → bytes_eq m name ≡ true → m ≡ name
is_same m name e = (bytes_eq-Decides m name).0 e

not_same : (names : List (List ℕ)) (name : List ℕ) (k : ℕ) → bytes_eq (get_or names k []) name ≡ false → slice_get names k ≡ Some name → ⊥
not_same names name k e h =
    let same : get_or names k [] ≡ name = get_or_from_slice_get names k name [] h in
    let eq : bytes_eq (get_or names k []) name ≡ true = (bytes_eq-Decides (get_or names k []) name).1 same in
    cc

found : (names : List (List ℕ)) (name : List ℕ) (g : ℕ) → finding names name ≡ Some g → IsNumberOf names name (Some g)
found names name g e =
    let p = position-Some (λ n. bytes_eq n name) names g [] e in
    (slice_get-get_or names g [] p.0 ∙ ap Some (is_same (get_or names g []) name p.1), λ k lt. not_same names name k (p.2 k lt))

by_none : (m n : ℕ) → cond (nat_lt n m) (Some n) None ≡ None → m ≤ n
by_none m n e = grind (arith, nat_tests)

not_found : (names : List (List ℕ)) (name : List ℕ) → finding names name ≡ None → IsNumberOf names name None
not_found names name e = λ k h.
    let n : ℕ = position_or_len (λ m. bytes_eq m name) names in
    let past : length names ≤ n = by_none (length names) n e in
    let inside : k < length names = slice_get_within names k name h in
    not_same names name k (fails_before_first (λ m. bytes_eq m name) names k [] (omega arith)) h

number_of : (names : List (List ℕ)) (name : List ℕ) (o : Option ℕ) → finding names name ≡ o → IsNumberOf names name o
number_of names name (Some g) e = found names name g e
number_of names name None e = not_found names name e

-- what the names give is the number of the first that is the same
pub finding_first : (names : List (List ℕ)) (name : List ℕ) → IsNumberOf names name (finding names name)
finding_first names name = number_of names name (finding names name) refl

-- and there are more names than that number
pub finding_below : (names : List (List ℕ)) (name : List ℕ) (g : ℕ) → finding names name ≡ Some g → g < length names
finding_below names name g e = (position-Some (λ n. bytes_eq n name) names g [] e).0
