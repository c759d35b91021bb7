-- Lists that are related element by element.
use Rattle.std.proofs.Common.{◌≡◌, ℕ, zero, suc, ◌+◌, ◌<◌, ◌≤◌, Bool, true, false, List, [], ◌∷◌, ◌++◌, length, take, slice_get, Some, None, refl, sym, ap, subst}
use Rattle.std.proofs.Common.{◌∙◌, append-nil, arith}
use Rattle.std.proofs.lemmas.List.{take_all}
use Rattle.report_trimming.specs.Kept.{kept_by, IsMarked}
use Rattle.report_trimming.specs.Trimming.{Pairwise}
use Rattle.report_trimming.proofs.Keeping.{kept_next}

pub pair_more : {X Y : Type 0} (R : X → Y → Type 0) (xs : List X) (ys : List Y) (x : X) (y : Y) → Pairwise R xs ys → R x y
    → Pairwise R (xs ++ x ∷ []) (ys ++ y ∷ [])
pair_more R [] [] x y h k = (k, tt)
pair_more R [] (b ∷ ys) x y h k = absurd h
pair_more R (a ∷ xs) [] x y h k = absurd h
pair_more R (a ∷ xs) (b ∷ ys) x y h k = (h.0, pair_more R xs ys x y h.1 k)

pub pair_weaker : {X Y : Type 0} (R S : X → Y → Type 0) (xs : List X) (ys : List Y) → ((x : X) (y : Y) → R x y → S x y) → Pairwise R xs ys → Pairwise S xs ys
pair_weaker R S [] [] f h = tt
pair_weaker R S [] (b ∷ ys) f h = absurd h
pair_weaker R S (a ∷ xs) [] f h = absurd h
pair_weaker R S (a ∷ xs) (b ∷ ys) f h = (f a b h.0, pair_weaker R S xs ys f h.1)

-- what stands in the one list, and what at its place in the other
pub record Paired {X Y : Type 0} (R : X → Y → Type 0) (xs : List X) (i : ℕ) (y : Y) : Type 0 where
  pub item : X
  pub is : slice_get xs i ≡ Some item
  pub related : R item y

none_some : {X : Type 0} {x : X} → None ≡ Some x → ⊥
none_some e = cc

some_same : {X : Type 0} {x y : X} → Some x ≡ Some y → x ≡ y
some_same e = cc

pub paired_first : {X Y : Type 0} (R : X → Y → Type 0) (xs : List X) (ys : List Y) (i : ℕ) (y : Y) → Pairwise R xs ys → slice_get ys i ≡ Some y
    → Paired R xs i y
paired_first R [] [] i y h is = absurd (none_some is)
paired_first R [] (b ∷ ys) i y h is = absurd h
paired_first R (a ∷ xs) [] i y h is = absurd h
paired_first R (a ∷ xs) (b ∷ ys) zero y h is =
    record { item = a; is = refl; related = subst (R a) (some_same is) h.0 }
paired_first R (a ∷ xs) (b ∷ ys) (suc i) y h is = let p = paired_first R xs ys i y h.1 is in record { item = p.item; is = p.is; related = p.related }

-- ---- one more element

take_next : {X : Type 0} (xs : List X) (i : ℕ) (x : X) → slice_get xs i ≡ Some x → take (i + 1) xs ≡ take i xs ++ x ∷ []
take_next [] i x h = absurd (none_some h)
take_next (y ∷ xs) zero x h = ap (λ z. z ∷ []) (some_same h)
take_next {X} (y ∷ xs) (suc i) x h =
    let next : suc (i + 1) ≡ suc i + 1 = omega arith in
    subst (λ n. take n (y ∷ xs) ≡ take (suc i) (y ∷ xs) ++ x ∷ []) next (ap (λ l. y ∷ l) (take_next xs i x h))

pub pair_next : {X Y : Type 0} (R : X → Y → Type 0) (xs : List X) (i : ℕ) (x : X) (y : Y) (old new : List Y) → slice_get xs i ≡ Some x
    → Pairwise R (take i xs) old → new ≡ old ++ y ∷ [] → R x y → Pairwise R (take (i + 1) xs) new
pair_next R xs i x y old new is h made k =
    subst (λ l. Pairwise R l new) (sym (take_next xs i x is)) (subst (Pairwise R (take i xs ++ x ∷ [])) (sym made) (pair_more R (take i xs) old x y h k))

pub pair_all : {X Y : Type 0} (R : X → Y → Type 0) (xs : List X) (i : ℕ) (ys : List Y) → length xs ≤ i → Pairwise R (take i xs) ys → Pairwise R xs ys
pair_all R xs i ys le h = subst (λ l. Pairwise R l ys) (take_all i xs le) h

-- ---- what is kept

pub kept_pushed : {Y : Type 0} (R : ℕ → Y → Type 0) (ms : List Bool) (at : ℕ) (y : Y) (old new : List Y) → IsMarked ms at
    → Pairwise R (kept_by (take at ms)) old → new ≡ old ++ y ∷ [] → R at y → Pairwise R (kept_by (take (at + 1) ms)) new
kept_pushed R ms at y old new marked h made k =
    subst (λ l. Pairwise R l new) (sym (kept_next ms at true marked))
    (subst (Pairwise R (kept_by (take at ms) ++ at ∷ [])) (sym made) (pair_more R (kept_by (take at ms)) old at y h k))

unmarked_is : (ms : List Bool) (at : ℕ) → at < length ms → (IsMarked ms at → ⊥) → slice_get ms at ≡ Some false
unmarked_is [] at lt h = absurd (omega (arith, lt))
unmarked_is (true ∷ ms) zero lt h = absurd (h refl)
unmarked_is (false ∷ ms) zero lt h = refl
unmarked_is (m ∷ ms) (suc at) lt h = unmarked_is ms at (omega (arith, lt)) h

pub kept_skipped : {Y : Type 0} (R : ℕ → Y → Type 0) (ms : List Bool) (at : ℕ) (ys : List Y) → at < length ms → (IsMarked ms at → ⊥)
    → Pairwise R (kept_by (take at ms)) ys → Pairwise R (kept_by (take (at + 1) ms)) ys
kept_skipped R ms at ys lt unmarked h =
    subst (λ l. Pairwise R l ys) (sym (kept_next ms at false (unmarked_is ms at lt unmarked) ∙ append-nil (kept_by (take at ms)))) h

pub kept_all : {Y : Type 0} (R : ℕ → Y → Type 0) (ms : List Bool) (at : ℕ) (ys : List Y) → length ms ≤ at → Pairwise R (kept_by (take at ms)) ys
    → Pairwise R (kept_by ms) ys
kept_all R ms at ys le h = subst (λ l. Pairwise R (kept_by l) ys) (take_all at ms le) h

-- what stands behind a front
pub behind_front : {X : Type 0} (xs : List X) (x : X) (ys es : List X) → xs ++ x ∷ ys ≡ es → slice_get es (length xs) ≡ Some x
behind_front {X} xs x ys es is = subst (λ l. slice_get l (length xs) ≡ Some x) is (here xs)
  where
    here : (xs : List X) → slice_get (xs ++ x ∷ ys) (length xs) ≡ Some x
    here [] = refl
    here (z ∷ xs) = here xs
