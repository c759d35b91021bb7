-- Lists by their places.
use Rattle.std.proofs.Common.{◌≡◌, ℕ, zero, suc, ◌+◌, ◌<◌, ◌≤◌, List, [], ◌∷◌, length, take, drop, get_or, slice_get, Some, refl, sym, ap, subst, ◌∙◌}
use Rattle.std.proofs.Common.{arith}
use Rattle.std.specs.List.{AllByRecursion}
use Rattle.std.proofs.lemmas.List.{take_all}
use Rattle.vector_text.specs.Over.{VectorIsOver}
use Rattle.report_text.specs.Reports.{EntryIsOver}
use Rattle.basis_entry.specs.Entries.{BasisEntry, vectors_of}

-- what stands at a place, and what is left from there on
pub record StandsAt {A : Type 0} (xs : List A) (i : ℕ) : Type 0 where
  pub item : A
  pub here : slice_get xs i ≡ Some item
  pub left : drop i xs ≡ item ∷ drop (i + 1) xs

pub stands_at : {A : Type 0} (xs : List A) (i : ℕ) → i < length xs → StandsAt xs i
stands_at [] i lt = absurd (omega (arith, lt))
stands_at (x ∷ xs) zero lt = record { item = x; here = refl; left = refl }
stands_at {A} (x ∷ xs) (suc i) lt =
    let rest : StandsAt xs i = stands_at xs i (omega (arith, lt)) in
    let e : suc (i + 1) ≡ suc i + 1 = omega arith in
    record { item = rest.item; here = rest.here; left = subst (λ j. drop i xs ≡ rest.item ∷ drop j (x ∷ xs)) e rest.left }

pub all_first : {A : Type 0} (P : A → Type 0) (n : ℕ) (xs : List A) → AllByRecursion P xs → AllByRecursion P (take n xs)
all_first P zero xs h = tt
all_first P (suc n) [] h = tt
all_first P (suc n) (x ∷ xs) h = (h.0, all_first P n xs h.1)

pub at_place : {A : Type 0} (P : A → Type 0) (xs : List A) (i : ℕ) (x : A) → AllByRecursion P xs → slice_get xs i ≡ Some x → P x
at_place P [] i x h is = absurd cc
at_place P (y ∷ xs) zero x h is = let e : y ≡ x = cc in subst P e h.0
at_place P (y ∷ xs) (suc i) x h is = at_place P xs i x h.1 is

-- ---- entries below a front

-- as many of the vectors as there are entries below the front
pub vectors_over : (n front : ℕ) (es : List BasisEntry) → AllByRecursion (EntryIsOver n) es → AllByRecursion (VectorIsOver n) (vectors_of (take front es))
vectors_over n zero es over = tt
vectors_over n (suc front) [] over = tt
vectors_over n (suc front) (e ∷ es) over = (over.0.vector, vectors_over n front es over.1)

-- what stands at a place is one
pub same_item : {A : Type 0} (xs : List A) (i : ℕ) (x y : A) → slice_get xs i ≡ Some x → slice_get xs i ≡ Some y → x ≡ y
same_item xs i x y h k = some_same x y (sym h ∙ k)
  where
    some_same : {A : Type 0} (a b : A) → Some a ≡ Some b → a ≡ b
    some_same a b e = cc

-- what a loop reads
pub got : {A : Type 0} (xs : List A) (i : ℕ) (x : A) → i < length xs → x ≡ get_or xs i x → slice_get xs i ≡ Some x
got [] i x lt is = absurd (omega (arith, lt))
got (y ∷ xs) zero x lt is = ap Some (sym is)
got (y ∷ xs) (suc i) x lt is = got xs i x (omega (arith, lt)) is

pub all_more : {A : Type 0} (P : A → Type 0) (xs : List A) (i : ℕ) (x : A) → i < length xs → x ≡ get_or xs i x → AllByRecursion P (take i xs) → P x
    → AllByRecursion P (take (i + 1) xs)
all_more P [] i x lt is h own = absurd (omega (arith, lt))
all_more P (y ∷ xs) zero x lt is h own = (subst P is own, tt)
all_more P (y ∷ xs) (suc i) x lt is h own =
    let e : suc (i + 1) ≡ suc i + 1 = omega arith in
    subst (λ k. AllByRecursion P (take k (y ∷ xs))) e (h.0, all_more P xs i x (omega (arith, lt)) is h.1 own)

pub all_taken : {A : Type 0} (P : A → Type 0) (xs : List A) (i : ℕ) → length xs ≤ i → AllByRecursion P (take i xs) → AllByRecursion P xs
all_taken P xs i le h = subst (AllByRecursion P) (take_all i xs le) h
