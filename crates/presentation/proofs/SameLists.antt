-- Lists that are the same at each place.
use Rattle.std.proofs.Common.{◌≡◌, ℕ, ◌<◌, List, [], ◌∷◌, length, get_or, slice_get, refl, ◌∙◌, arith}
use Rattle.std.proofs.lemmas.Option.{slice_get-get_or, get_or_from_slice_get}
use Rattle.std.proofs.lemmas.List.{ext_get_or}

same_reads : {A : Type 0} (xs ys : List A) → length xs ≡ length ys → ((k : ℕ) → k < length xs → slice_get xs k ≡ slice_get ys k) → (d : A) (k : ℕ)
    → k < length xs
    → get_or xs k d ≡ get_or ys k d
same_reads xs ys n e d k lt =
    get_or_from_slice_get xs k (get_or ys k d) d (e k lt ∙ slice_get-get_or ys k d (omega arith))

pub same_list : {A : Type 0} (xs ys : List A) → length xs ≡ length ys → ((k : ℕ) → k < length xs → slice_get xs k ≡ slice_get ys k) → xs ≡ ys
same_list [] [] n e = refl
same_list [] (y ∷ ys) n e = absurd (omega arith)
same_list (x ∷ xs) ys n e = ext_get_or x (x ∷ xs) ys n (same_reads (x ∷ xs) ys n e x)
