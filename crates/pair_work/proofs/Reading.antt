-- Reading lists.
use Rattle.std.proofs.Common.{ℕ, zero, suc, ◌<◌, ◌≤◌, ◌≡◌, arith, refl, ap, List, [], ◌∷◌, ◌++◌, length, take, Some, subst}
use Rattle.std.specs.List.{slice_get, AllByRecursion}
use Rattle.std.proofs.lemmas.Option.{slice_get_within}
use Rattle.module_vec.specs.Modules.{vector_at}
use Rattle.basis_entry.specs.Entries.{BasisEntry, vectors_of}

pub vector_of : (es : List BasisEntry) (i : ℕ) (e : BasisEntry) → slice_get es i ≡ Some e → vector_at (vectors_of es) i ≡ e.vector
vector_of [] i e h = absurd (omega (arith, slice_get_within [] i e h))
vector_of (x ∷ es) zero e h = let p : x ≡ e = cc in ap (λ (z : BasisEntry). z.vector) p
vector_of (x ∷ es) (suc i) e h = vector_of es i e h

pub some_at : {X : Type 0} (xs : List X) (i : ℕ) → i < length xs → (x : X) × (slice_get xs i ≡ Some x)
some_at [] i h = absurd (omega (arith, h))
some_at (x ∷ xs) zero h = (x, refl)
some_at (x ∷ xs) (suc i) h = some_at xs i (omega (arith, h))

pub get_left : {X : Type 0} (xs ys : List X) (k : ℕ) (x : X) → slice_get xs k ≡ Some x → slice_get (xs ++ ys) k ≡ Some x
get_left [] ys k x h = absurd (omega (arith, slice_get_within [] k x h))
get_left (y ∷ xs) ys zero x h = h
get_left (y ∷ xs) ys (suc k) x h = get_left xs ys k x h

pub get_back : {X : Type 0} (xs ys : List X) (k : ℕ) (x : X) → k < length xs → slice_get (xs ++ ys) k ≡ Some x → slice_get xs k ≡ Some x
get_back [] ys k x l h = absurd (omega (arith, l))
get_back (y ∷ xs) ys zero x l h = h
get_back (y ∷ xs) ys (suc k) x l h = get_back xs ys k x (omega (arith, l)) h

pub get_end : {X : Type 0} (xs : List X) (y : X) → slice_get (xs ++ y ∷ []) (length xs) ≡ Some y
get_end [] y = refl
get_end (x ∷ xs) y = get_end xs y

pub take_left : {X : Type 0} (xs ys : List X) (k : ℕ) → k ≤ length xs → take k (xs ++ ys) ≡ take k xs
take_left xs ys zero h = refl
take_left [] ys (suc k) h = absurd (omega (arith, h))
take_left (x ∷ xs) ys (suc k) h = ap (λ (z : List _). x ∷ z) (take_left xs ys k (omega (arith, h)))

pub take_whole : {X : Type 0} (xs : List X) → take (length xs) xs ≡ xs
take_whole [] = refl
take_whole (x ∷ xs) = ap (λ (z : List _). x ∷ z) (take_whole xs)

pub all_push : {X : Type 0} (P : X → Type 0) (xs : List X) (x : X) → AllByRecursion P xs → P x → AllByRecursion P (xs ++ x ∷ [])
all_push P [] x h own = (own, tt)
all_push P (y ∷ xs) x h own = (h.0, all_push P xs x h.1 own)

pub all_from : {X : Type 0} (P : X → Type 0) (xs : List X) → ((i : ℕ) (x : X) → slice_get xs i ≡ Some x → P x) → AllByRecursion P xs
all_from P [] h = tt
all_from P (x ∷ xs) h = (h 0 x refl, all_from P xs (λ i y s. h (suc i) y s))

pub all_get : {X : Type 0} (P : X → Type 0) (xs : List X) (i : ℕ) (x : X) → AllByRecursion P xs → slice_get xs i ≡ Some x → P x
all_get P [] i x all h = absurd (omega (arith, slice_get_within [] i x h))
all_get P (y ∷ xs) zero x all h = let e : y ≡ x = cc in subst P e all.0
all_get P (y ∷ xs) (suc i) x all h = all_get P xs i x all.1 h
