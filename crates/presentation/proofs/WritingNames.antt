-- Names at the head of a text, and the generator that a name has.
use Rattle.std.proofs.Common.{◌≡◌, ℕ, zero, suc, ◌<◌, Bool, true, false, not, List, [], ◌∷◌, ◌++◌, length, Some, Contains, refl, arith, nat_lt}
use Rattle.std.proofs.lemmas.Bool.Decides.{nat_tests}
use Rattle.std.proofs.lemmas.Slice.Eq.{bytes_eq-Decides}
use Rattle.std.proofs.lemmas.List.Elements.{Contains-get_or}
use Rattle.std.proofs.lemmas.Option.{unwrap_or-slice_get}
use Rattle.std.specs.List.{AllByRecursion, prefix_len}
use Rattle.std.specs.Str.{bytes_eq}
use Rattle.word_text.specs.declared.scan.Mark.TheVariants as marks
use Rattle.word_text.specs.Scan.{is_name_byte, name_at, after_name, mark_of}
use Rattle.word_text.specs.Machine.{finding}
use Rattle.presentation.specs.Presented.{IsName, AreDistinct}
use Rattle.presentation.specs.Writing.{name_of}
use Rattle.presentation.proofs.WritingBytes.{Passes, Stops, taken, left_over, passes_whole}

-- a name begins with a letter, also in a longer text
pub name_marked : (n rest : List ℕ) → IsName n → mark_of (n ++ rest) ≡ marks.Letter
name_marked [] rest h = cc h.0
name_marked (b ∷ bs) rest h = h.0

pub name_passes : (n : List ℕ) → IsName n → Passes is_name_byte n
unfolding name_at
name_passes n h = passes_whole is_name_byte n h.1

-- a name ends where no byte of a name follows
pub name_taken : (n rest : List ℕ) → IsName n → Stops is_name_byte rest → name_at (n ++ rest) ≡ n
unfolding name_at
name_taken n rest h s = taken is_name_byte n rest (name_passes n h) s

pub name_left : (n rest : List ℕ) → IsName n → Stops is_name_byte rest → after_name (n ++ rest) ≡ rest
unfolding after_name
name_left n rest h s = left_over is_name_byte n rest (name_passes n h) s

-- the name of a generator is one of the names
pub name_holds : (P : List ℕ → Type 0) (names : List (List ℕ)) (g : ℕ) → AllByRecursion P names → g < length names → P (name_of names g)
name_holds P [] g h lt = absurd (omega arith)
name_holds P (n ∷ ns) zero h lt = h.0
name_holds P (n ∷ ns) (suc g) h lt = name_holds P ns g h.1 (omega arith)

name_contained : (names : List (List ℕ)) (g : ℕ) → g < length names → Contains names (name_of names g)
name_contained names g lt = rw (unwrap_or-slice_get names g []) (Contains-get_or names g [] lt)

-- whether a name is another one
abbrev differs : List ℕ → List ℕ → Bool
differs name n = not (bytes_eq n name)

itself : (n : List ℕ) → bytes_eq n n ≡ true
itself n = (bytes_eq-Decides n n).1 refl

other_by : (n m : List ℕ) (t : Bool) → bytes_eq n m ≡ t → (n ≡ m → ⊥) → bytes_eq n m ≡ false
other_by n m true e ne = absurd (ne ((bytes_eq-Decides n m).0 e))
other_by n m false e ne = e

pub other : (n m : List ℕ) → (n ≡ m → ⊥) → bytes_eq n m ≡ false
other n m ne = other_by n m (bytes_eq n m) refl ne

-- the name of a generator stands at its number and not before
before_name : (names : List (List ℕ)) (g : ℕ) → AreDistinct names → g < length names → prefix_len (differs (name_of names g)) names ≡ g
before_name [] g d lt = absurd (omega arith)
before_name (n ∷ ns) zero d lt = rw (itself n) refl
before_name (n ∷ ns) (suc g) d lt =
    let room : g < length ns = omega arith in
    let apart : n ≡ name_of ns g → ⊥ = λ e. d.0 (rw (e) (name_contained ns g room)) in
    rw (other n (name_of ns g) apart, before_name ns g d.1 room) (omega arith)

below : (m n : ℕ) → m < n → nat_lt m n ≡ true
below m n lt = grind (arith, nat_tests)

-- the generator of a generator's name is that generator
pub name_found : (names : List (List ℕ)) (g : ℕ) → AreDistinct names → g < length names → finding names (name_of names g) ≡ Some g
name_found names g d lt = rw (before_name names g d lt, below g (length names) lt) refl
