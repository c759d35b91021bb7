-- Lists that begin with others.
use Rattle.std.proofs.Common.{◌≡◌, ℕ, zero, suc, ◌<◌, ◌≤◌, ◌⊎◌, inl, inr, min, max, List, [], ◌∷◌, ◌++◌, length, take, drop, map, Some, refl, sym}
use Rattle.std.proofs.Common.{ap, ◌∙◌, arith, slice_index_or}
use Rattle.std.proofs.lemmas.List.{append-nil, append_assoc, length-append, map-append}
use Rattle.std.specs.Prelude.{slice_get}
use mathlib.Core.List.{IsPrefix}
use Rattle.basis_log.specs.Sights.{Sighted, cells_in, Agree}

module _ {X : Type 0} where
  pub prefix_self : (xs : List X) → IsPrefix xs xs
  prefix_self xs = ([], append-nil xs)

  pub prefix_cons : (x y : X) (xs ys : List X) → x ≡ y → IsPrefix xs ys → IsPrefix (x ∷ xs) (y ∷ ys)
  prefix_cons x y xs ys e h = (h.0, rw (e, h.1) refl)

  pub prefix_head : (x y : X) (xs ys : List X) → IsPrefix (x ∷ xs) (y ∷ ys) → x ≡ y
  prefix_head x y xs ys h = let e = h.1 in cc

  pub prefix_tail : (x y : X) (xs ys : List X) → IsPrefix (x ∷ xs) (y ∷ ys) → IsPrefix xs ys
  prefix_tail x y xs ys h = let e = h.1 in (h.0, cc)

  pub prefix_trans : (xs ys zs : List X) → IsPrefix xs ys → IsPrefix ys zs → IsPrefix xs zs
  prefix_trans xs ys zs a b = (a.0 ++ b.0, sym (append_assoc xs a.0 b.0) ∙ (ap (λ l. l ++ b.0) a.1 ∙ b.1))

  pub prefix_more : (xs ys zs : List X) → zs ≡ xs ++ ys → IsPrefix xs zs
  prefix_more xs ys zs e = (ys, sym e)

  pub prefix_length : (xs ys : List X) → IsPrefix xs ys → length xs ≤ length ys
  prefix_length xs ys h = let e = ap length h.1 in omega (arith, length-append xs h.0, e)

  -- two beginnings of one list
  pub prefixes_agree : (xs ys zs : List X) → IsPrefix xs zs → IsPrefix ys zs → Agree xs ys
  prefixes_agree [] ys zs a b = inl (ys, refl)
  prefixes_agree (x ∷ xs) [] zs a b = inr (x ∷ xs, refl)
  prefixes_agree (x ∷ xs) (y ∷ ys) [] a b = absurd (let e = a.1 in cc)
  prefixes_agree (x ∷ xs) (y ∷ ys) (z ∷ zs) a b =
      let e = prefix_head x z xs zs a ∙ sym (prefix_head y z ys zs b) in
      elim (prefixes_agree xs ys zs (prefix_tail x z xs zs a) (prefix_tail y z ys zs b)) [
        | inl h ↦ inl (prefix_cons x y xs ys e h)
        | inr h ↦ inr (prefix_cons y x ys xs (sym e) h)
      ]

  -- one item more of a longer list
  pub prefix_snoc : (xs ys : List X) (y : X) → IsPrefix xs ys → slice_get ys (length xs) ≡ Some y → IsPrefix (xs ++ y ∷ []) ys
  prefix_snoc [] [] y h at = absurd (let e = at in cc)
  prefix_snoc [] (z ∷ zs) y h at = (zs, let e = at in cc)
  prefix_snoc (x ∷ xs) [] y h at = absurd (let e = h.1 in cc)
  prefix_snoc (x ∷ xs) (z ∷ zs) y h at =
      prefix_cons x z (xs ++ y ∷ []) zs (prefix_head x z xs zs h) (prefix_snoc xs zs y (prefix_tail x z xs zs h) at)

  -- lists that are the same up to the end of one
  pub taken_agree : (n : ℕ) (xs ys : List X) → take n xs ≡ take n ys → min (length xs) (length ys) ≤ n → Agree xs ys
  taken_agree n [] ys e le = inl (ys, refl)
  taken_agree n (x ∷ xs) [] e le = inr (x ∷ xs, refl)
  taken_agree zero (x ∷ xs) (y ∷ ys) e le = absurd (omega (arith, le))
  taken_agree (suc n) (x ∷ xs) (y ∷ ys) e le =
      let head : x ≡ y = cc in
      let tail : take n xs ≡ take n ys = cc in
      elim (taken_agree n xs ys tail (omega (arith, le))) [
        | inl h ↦ inl (prefix_cons x y xs ys head h)
        | inr h ↦ inr (prefix_cons y x ys xs (sym head) h)
      ]

  -- what the longer list has more, put at the end of the shorter
  pub learnt : (xs ys : List X) → Agree xs ys → IsPrefix ys (xs ++ drop (length xs) ys) × ((xs ++ drop (length xs) ys ≡ xs) ⊎ (xs ++ drop (length xs) ys ≡ ys))
  learnt [] ys h = (prefix_self ys, inr refl)
  learnt (x ∷ xs) [] h = ((x ∷ xs ++ [], refl), inl (append-nil (x ∷ xs)))
  learnt (x ∷ xs) (y ∷ ys) (inl h) =
      let e = prefix_head x y xs ys h in
      let r = learnt xs ys (inl (prefix_tail x y xs ys h)) in
      (prefix_cons y x ys _ (sym e) r.0, elim (r.1) [ inl k ↦ inl (ap (λ l. x ∷ l) k) | inr k ↦ inr (rw (e, k) refl) ])
  learnt (x ∷ xs) (y ∷ ys) (inr h) =
      let e = prefix_head y x ys xs h in
      let r = learnt xs ys (inr (prefix_tail y x ys xs h)) in
      (prefix_cons y x ys _ e r.0, elim (r.1) [ inl k ↦ inl (ap (λ l. x ∷ l) k) | inr k ↦ inr (rw (e, k) refl) ])

  -- the longer of two lists is as long as the longer one
  pub longer_length : (xs ys zs : List X) → IsPrefix xs zs → IsPrefix ys zs → (zs ≡ xs) ⊎ (zs ≡ ys) → length zs ≡ max (length xs) (length ys)
  longer_length xs ys zs a b (inl e) = let l = ap length e in omega (arith, prefix_length xs zs a, prefix_length ys zs b, l)
  longer_length xs ys zs a b (inr e) = let l = ap length e in omega (arith, prefix_length xs zs a, prefix_length ys zs b, l)

module _ {X Y : Type 0} (f : X → Y) where
  pub prefix_map : (xs ys : List X) → IsPrefix xs ys → IsPrefix (map f xs) (map f ys)
  prefix_map xs ys h = (map f h.0, sym (map-append f xs h.0) ∙ ap (map f) h.1)

  pub agree_map : (xs ys : List X) → Agree xs ys → Agree (map f xs) (map f ys)
  agree_map xs ys (inl h) = inl (prefix_map xs ys h)
  agree_map xs ys (inr h) = inr (prefix_map ys xs h)

-- a list before two that agree
pub prefix_before : {X : Type 0} (bs xs ys : List X) → IsPrefix xs ys → IsPrefix (bs ++ xs) (bs ++ ys)
prefix_before bs xs ys h = (h.0, append_assoc bs xs h.0 ∙ ap (λ l. bs ++ l) h.1)

pub agree_before : {X : Type 0} (bs xs ys : List X) → Agree xs ys → Agree (bs ++ xs) (bs ++ ys)
agree_before bs xs ys (inl h) = inl (prefix_before bs xs ys h)
agree_before bs xs ys (inr h) = inr (prefix_before bs ys xs h)

module _ {X : Type 0} where
  first_cells : (ss ts : List (Sighted X)) (i : ℕ) (d e : Sighted X) → IsPrefix (cells_in ss) (cells_in ts) → i < length ss
      → (slice_index_or ss i d).cell ≡ (slice_index_or ts i e).cell
  first_cells [] ts i d e h lt = absurd (omega (arith, lt))
  first_cells (s ∷ ss) [] i d e h lt = absurd (let q = h.1 in cc)
  first_cells (s ∷ ss) (t ∷ ts) zero d e h lt = prefix_head s.cell t.cell (cells_in ss) (cells_in ts) h
  first_cells (s ∷ ss) (t ∷ ts) (suc i) d e h lt = first_cells ss ts i d e (prefix_tail s.cell t.cell (cells_in ss) (cells_in ts) h) (omega (arith, lt))

  -- the cells with one number, where the cells agree
  pub same_cell : (ss ts : List (Sighted X)) (i : ℕ) (d e : Sighted X) → Agree (cells_in ss) (cells_in ts) → i < length ss → i < length ts
      → (slice_index_or ss i d).cell ≡ (slice_index_or ts i e).cell
  same_cell ss ts i d e (inl h) a b = first_cells ss ts i d e h a
  same_cell ss ts i d e (inr h) a b = sym (first_cells ts ss i e d h b)
