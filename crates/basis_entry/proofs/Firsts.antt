-- The first entries of a list, and their vectors.
use Rattle.std.proofs.Common.{◌≡◌, ℕ, zero, suc, ◌<◌, ◌≤◌, List, [], ◌∷◌, length, min, take, slice_get, refl, sym, ap, subst, ◌∙◌, arith}
use Rattle.std.proofs.lemmas.List.{take_min}
use Rattle.module_vec.specs.declared.places.Term.{Term}
use Rattle.module_vec.specs.Reducers.{AreEntries}
use Rattle.reducer_index.proofs.Leading.{entries_taken}
use Rattle.basis_entry.specs.Entries.{BasisEntry, vectors_of}

-- the vectors of the first entries are the first vectors
pub vectors_of_first : (n : ℕ) (es : List BasisEntry) → take n (vectors_of es) ≡ vectors_of (take n es)
vectors_of_first zero es = refl
vectors_of_first (suc n) [] = refl
vectors_of_first (suc n) (e ∷ es) = ap (λ (l : List (List Term)). e.vector ∷ l) (vectors_of_first n es)

pub vectors_taken : (n : ℕ) (vs : List (List Term)) (es : List BasisEntry) → vs ≡ vectors_of es → take n vs ≡ vectors_of (take n es)
vectors_taken n vs es is = ap (take n) is ∙ vectors_of_first n es

pub vectors_counted : (m front : ℕ) (vs : List (List Term)) (es : List BasisEntry) → vs ≡ vectors_of es → m ≡ min front (length vs)
    → take m vs ≡ vectors_of (take front es)
vectors_counted m front vs es is count = ap (λ k. take k vs) count ∙ take_min front vs ∙ vectors_taken front vs es is

pub entries_counted : (front : ℕ) (vs : List (List Term)) (es : List BasisEntry) → vs ≡ vectors_of es → AreEntries vs → AreEntries (vectors_of (take front es))
entries_counted front vs es is entries = subst AreEntries (vectors_taken front vs es is) (entries_taken front vs entries)

-- ---- the first elements

pub take_within : {A : Type 0} (n m : ℕ) (xs : List A) → n ≤ length (take m xs) → take n (take m xs) ≡ take n xs
take_within zero m xs le = refl
take_within (suc n) zero xs le = absurd (omega (arith, le))
take_within (suc n) (suc m) [] le = refl
take_within (suc n) (suc m) (x ∷ xs) le = ap (λ l. x ∷ l) (take_within n m xs (omega (arith, le)))

pub read_first : {A : Type 0} (m i : ℕ) (xs : List A) → i < length (take m xs) → slice_get (take m xs) i ≡ slice_get xs i
read_first zero i xs lt = absurd (omega (arith, lt))
read_first (suc m) i [] lt = absurd (omega (arith, lt))
read_first (suc m) zero (x ∷ xs) lt = refl
read_first (suc m) (suc i) (x ∷ xs) lt = read_first m i xs (omega (arith, lt))

pub vectors_first : (n front : ℕ) (vs : List (List Term)) (es : List BasisEntry) → vs ≡ vectors_of es → n ≤ length (vectors_of (take front es))
    → take n vs ≡ take n (vectors_of (take front es))
vectors_first n front vs es is le =
    let same : take front vs ≡ vectors_of (take front es) = vectors_taken front vs es is in
    sym (take_within n front vs (subst (λ l. n ≤ length l) (sym same) le)) ∙ ap (take n) same

pub vector_first : (front i : ℕ) (vs : List (List Term)) (es : List BasisEntry) → vs ≡ vectors_of es → i < length (vectors_of (take front es))
    → slice_get vs i ≡ slice_get (vectors_of (take front es)) i
vector_first front i vs es is lt =
    let same : take front vs ≡ vectors_of (take front es) = vectors_taken front vs es is in
    sym (read_first front i vs (subst (λ l. i < length l) (sym same) lt)) ∙ ap (λ l. slice_get l i) same
