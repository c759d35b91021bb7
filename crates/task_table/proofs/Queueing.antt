-- A heap of reversed numbers is a queue.
use Rattle.std.proofs.Common.{ℕ, zero, suc, ◌≤◌, ◌≡◌, ◌⊎◌, inl, inr, arith, refl, sym, ap, List, [], ◌∷◌, length, map, Some, None}
use Rattle.std.specs.List.{Contains}
use Rattle.std.specs.List.Sorted.{IsPermutation}
use Rattle.std.proofs.lemmas.List.Sorted.{Contains-permutation, IsPermutation-map, IsPermutation-sym, length_permutation}
use Rattle.std.proofs.lemmas.Map.Keys.{ge_from_not_lt}
use Rattle.std.specs.BinaryHeap.{IsUpperBound}
use Rattle.std.specs.declared.cmp.Reverse.{Reverse}
use Rattle.task_table.specs.Queues.{HasMore, TakesLeast, reversed_cmp}

contained_head : (x : ℕ) (xs : List ℕ) → Contains (x ∷ xs) x
contained_head x xs = (0, omega arith, refl)

contained_rest : (x y : ℕ) (xs : List ℕ) → Contains xs y → Contains (x ∷ xs) y
contained_rest x y xs (k, lt, is) = (suc k, omega (arith, lt), is)

contained_split : (x y : ℕ) (xs : List ℕ) → Contains (x ∷ xs) y → (y ≡ x) ⊎ Contains xs y
contained_split x y xs (zero, lt, is) = inl (sym is)
contained_split x y xs (suc k, lt, is) = inr (k, omega (arith, lt), is)

pub has_more : (xs ys : List (Reverse ℕ)) (x : Reverse ℕ) → IsPermutation (x ∷ xs) ys → HasMore (map (λ r. r.0) xs) x.0 (map (λ r. r.0) ys)
has_more xs ys x p =
    let old : List ℕ = map (λ r. r.0) xs in
    let new : List ℕ = map (λ r. r.0) ys in
    let q : IsPermutation (x.0 ∷ old) new = IsPermutation-map (λ r. r.0) (x ∷ xs) ys p in record {
      count = let l = length_permutation (x.0 ∷ old) new q in omega (arith, l);
      all = λ y h. Contains-permutation (x.0 ∷ old) new y q (contained_rest x.0 y old h);
      more = Contains-permutation (x.0 ∷ old) new x.0 q (contained_head x.0 old);
      only = λ y h. contained_split x.0 y old (Contains-permutation new (x.0 ∷ old) y (IsPermutation-sym (x.0 ∷ old) new q) h);
    }

pub none_less : (xs : List (Reverse ℕ)) (x : Reverse ℕ) → IsUpperBound reversed_cmp x xs → (y : ℕ) → Contains (map (λ r. r.0) xs) y → x.0 ≤ y
none_less [] x h y (k, lt, is) = absurd (omega (arith, lt))
none_less (z ∷ zs) x h y c = elim (contained_split z.0 y (map (λ r. r.0) zs) c) [
  | inl e ↦ let l = ge_from_not_lt z.0 x.0 h.0 in omega (arith, l, e)
  | inr d ↦ none_less zs x h.1 y d
]

pub taken_least : (xs ys : List (Reverse ℕ)) (x : Reverse ℕ) → IsPermutation xs (x ∷ ys) → IsUpperBound reversed_cmp x xs
    → TakesLeast (map (λ r. r.0) xs) (Some x.0) (map (λ r. r.0) ys)
taken_least xs ys x p bound =
    let back : IsPermutation (x ∷ ys) xs = IsPermutation-sym xs (x ∷ ys) p in
    let more : HasMore (map (λ r. r.0) ys) x.0 (map (λ r. r.0) xs) = has_more ys xs x back in
    (record { contained = more.more; least = none_less xs x bound }, more)

pub none_taken : (xs ys : List (Reverse ℕ)) → length xs ≡ 0 → ys ≡ xs → TakesLeast (map (λ r. r.0) xs) None (map (λ r. r.0) ys)
none_taken [] ys n e = (refl, ap (map (λ r. r.0)) e)
none_taken (x ∷ xs) ys n e = absurd (omega (arith, n))
