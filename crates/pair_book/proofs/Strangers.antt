-- The first used entry that the log doesn't have.
use Rattle.std.proofs.Common.{ℕ, zero, suc, ◌+◌, ◌<◌, ◌≤◌, ◌≡◌, inl, inr, arith, refl, sym, ap, ◌∙◌, List, [], ◌∷◌, length, map, Some, subst, get_or}
use Rattle.std.specs.List.{slice_get}
use Rattle.std.proofs.lemmas.Option.{slice_get_within}
use Rattle.basis_entry.specs.Entries.{BasisEntry}
use Rattle.pair_work.specs.Outcomes.{UsedEntry, IsThere, AllThere, AreRising}
use Rattle.pair_book.specs.Commits.{IsStranger}
use Rattle.task_table.proofs.Ordering.{three}

pub get_mapped : {A B : Type 0} (f : A → B) (xs : List A) (i : ℕ) (x : A) → i < length xs → x ≡ get_or xs i x → slice_get (map f xs) i ≡ Some (f x)
get_mapped f [] i x h r = absurd (omega (arith, h))
get_mapped f (y ∷ xs) zero x h r = ap (λ z. Some (f z)) (sym r)
get_mapped f (y ∷ xs) (suc i) x h r = get_mapped f xs i x (omega (arith, h)) r

pub one_there : {X : Type 0} (xs : List X) (i : ℕ) (x y : X) → slice_get xs i ≡ Some x → slice_get xs i ≡ Some y → x ≡ y
one_there [] i x y p q = absurd (omega (arith, slice_get_within [] i x p))
one_there (z ∷ xs) zero x y p q = let e : z ≡ x = cc in let f : z ≡ y = cc in sym e ∙ f
one_there (z ∷ xs) (suc i) x y p q = one_there xs i x y p q

pub stranger_at : (es : List BasisEntry) (used : List UsedEntry) (i : ℕ) (one : UsedEntry) → AreRising used → slice_get used i ≡ Some one
    → (IsThere es one → ⊥) →
    ((m : ℕ) (u : UsedEntry) → m < i → slice_get used m ≡ Some u → IsThere es u) → IsStranger es used one.number
stranger_at es used i one rising found differs before = record {
  place = i;
  one = one;
  found = found;
  number = refl;
  differs = differs;
  least = λ m u s lt. elim (three m i) [
    | inl p ↦ before m u p s
    | inr q ↦ elim q [
      | inl e ↦ let same : u ≡ one = one_there used i u one (subst (λ (k : ℕ). slice_get used k ≡ Some u) e s) found in
          let n = ap (λ (z : UsedEntry). z.number) same in absurd (omega (arith, n, lt))
      | inr p ↦ let r = rising i m one u p found s in absurd (omega (arith, r, lt))
    ]
  ];
}

pub there_more : (es : List BasisEntry) (used : List UsedEntry) (i : ℕ) (one : UsedEntry) → slice_get used i ≡ Some one → IsThere es one →
    ((m : ℕ) (u : UsedEntry) → m < i → slice_get used m ≡ Some u → IsThere es u) → (m : ℕ) (u : UsedEntry) → m < i + 1 → slice_get used m ≡ Some u
    → IsThere es u
there_more es used i one found there before m u lt s = elim (three m i) [
  | inl p ↦ before m u p s
  | inr q ↦ elim q [
    | inl e ↦ subst (IsThere es) (one_there used i one u found (subst (λ (k : ℕ). slice_get used k ≡ Some u) e s)) there
    | inr p ↦ absurd (omega (arith, p, lt))
  ]
]

pub there_all : (es : List BasisEntry) (used : List UsedEntry) (i : ℕ) → length used ≤ i
    → ((m : ℕ) (u : UsedEntry) → m < i → slice_get used m ≡ Some u → IsThere es u) → AllThere es used
there_all es used i h before m u s = let w = slice_get_within used m u s in before m u (omega (arith, h, w)) s
