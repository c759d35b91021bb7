-- Lists whose elements all have a property.
use Rattle.std.proofs.Common.{◌≡◌, ℕ, zero, suc, ◌+◌, ◌<◌, List, [], ◌∷◌, ◌++◌, length, take, get_or, refl, sym, ap, ◌∙◌, subst, arith}
use Rattle.std.specs.List.{AllByRecursion}
use Rattle.std.proofs.lemmas.List.{take_more}
use Rattle.module_vec.proofs.FallingTerms.{all_join}

module _ {A : Type 0} (P : A → Type 0) where
  pub all_at : (xs : List A) (i : ℕ) (d : A) → AllByRecursion P xs → i < length xs → P (get_or xs i d)
  all_at [] i d h lt = absurd (omega arith)
  all_at (x ∷ xs) zero d h lt = h.0
  all_at (x ∷ xs) (suc i) d h lt = all_at xs i d h.1 (omega arith)

  -- the element that is read, and those up to it
  pub all_read : (xs : List A) (i : ℕ) (x : A) → AllByRecursion P xs → i < length xs → x ≡ get_or xs i x → P x
  all_read xs i x h lt e = subst P (sym e) (all_at xs i x h lt)

  pub all_more : (xs : List A) (i : ℕ) (x : A) → i < length xs → x ≡ get_or xs i x → AllByRecursion P (take i xs) → P x → AllByRecursion P (take (i + 1) xs)
  all_more xs i x lt e h own = subst (AllByRecursion P) (sym (take_more xs i x lt ∙ ap (λ y. take i xs ++ y ∷ []) (sym e)))
      (all_join P (take i xs) (x ∷ []) h (own, tt))

-- an element by any default
pub same_element : {A : Type 0} (xs : List A) (i : ℕ) (d e : A) → i < length xs → get_or xs i d ≡ get_or xs i e
same_element [] i d e lt = absurd (omega arith)
same_element (x ∷ xs) zero d e lt = refl
same_element (x ∷ xs) (suc i) d e lt = same_element xs i d e (omega arith)
