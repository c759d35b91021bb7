-- Entries that are collected by their marks.
use Rattle.std.proofs.Common.{ℕ, zero, suc, ◌+◌, ◌<◌, ◌≤◌, ◌≡◌, ◌⊎◌, inl, inr, arith, refl, sym, ap, List, [], ◌∷◌, ◌++◌, length, Bool, true, false, Some}
use Rattle.std.proofs.Common.{subst, get_or, set}
use Rattle.std.specs.List.{slice_get}
use Rattle.std.proofs.lemmas.Option.{slice_get_within}
use Rattle.basis_entry.specs.Entries.{BasisEntry}
use Rattle.pair_work.specs.Outcomes.{UsedEntry, IsThere, AllThere, AreRising}
use Rattle.pair_work.specs.Works.{IsAmong, AreMarked}
use Rattle.pair_work.proofs.Reading.{get_left, get_end}

three : (a b : ℕ) → (a < b) ⊎ ((a ≡ b) ⊎ (b < a))
three a b = grind arith

abbrev pub next : ℕ → BasisEntry → UsedEntry
next n e = record { number = n; entry = e }

-- the entries below n are collected
pub record AreMarkedBelow (es : List BasisEntry) (marks : List Bool) (n : ℕ) (used : List UsedEntry) : Type 0 where
  pub there : AllThere es used
  pub rising : AreRising used
  pub low : (m : ℕ) (u : UsedEntry) → slice_get used m ≡ Some u → u.number < n
  pub each : (k : ℕ) → k < n → slice_get marks k ≡ Some true → IsAmong used k
  pub only : (m : ℕ) (u : UsedEntry) → slice_get used m ≡ Some u → slice_get marks u.number ≡ Some true

last_or : {X : Type 0} (xs : List X) (y : X) (m : ℕ) (u : X) → slice_get (xs ++ y ∷ []) m ≡ Some u → (slice_get xs m ≡ Some u) ⊎ ((m ≡ length xs) × (u ≡ y))
last_or [] y zero u h = inr (refl, let e : y ≡ u = cc in sym e)
last_or [] y (suc m) u h = absurd (let w = slice_get_within (y ∷ []) (suc m) u h in omega (arith, w))
last_or (x ∷ xs) y zero u h = inl h
last_or (x ∷ xs) y (suc m) u h = by (last_or xs y m u h)
  where
    by : (slice_get xs m ≡ Some u) ⊎ ((m ≡ length xs) × (u ≡ y)) → (slice_get (x ∷ xs) (suc m) ≡ Some u) ⊎ ((suc m ≡ length (x ∷ xs)) × (u ≡ y))
    by (inl p) = inl p
    by (inr (e, q)) = inr (ap suc e, q)

pub none_marked : (es : List BasisEntry) (marks : List Bool) → AreMarkedBelow es marks 0 []
none_marked es marks = record {
  there = λ m u h. absurd (let w = slice_get_within [] m u h in omega (arith, w));
  rising = λ m n u v l h k. absurd (let w = slice_get_within [] m u h in omega (arith, w));
  low = λ m u h. absurd (let w = slice_get_within [] m u h in omega (arith, w));
  each = λ k l h. absurd (omega (arith, l));
  only = λ m u h. absurd (let w = slice_get_within [] m u h in omega (arith, w));
}

module _ (es : List BasisEntry) (marks : List Bool) (n : ℕ) (used : List UsedEntry) (is : AreMarkedBelow es marks n used) where
  -- the next entry isn't marked
  pub skipped : (slice_get marks n ≡ Some true → ⊥) → AreMarkedBelow es marks (n + 1) used
  skipped unset = record {
    there = is.there;
    rising = is.rising;
    low = λ m u h. let l = is.low m u h in omega (arith, l);
    each = each;
    only = is.only;
  }
    where
      each : (k : ℕ) → k < n + 1 → slice_get marks k ≡ Some true → IsAmong used k
      each k l set = by (three k n)
        where
          by : (k < n) ⊎ ((k ≡ n) ⊎ (n < k)) → IsAmong used k
          by (inl below) = is.each k below set
          by (inr (inl e)) = absurd (unset (subst (λ z. slice_get marks z ≡ Some true) e set))
          by (inr (inr above)) = absurd (omega (arith, above, l))

  -- the next entry is collected
  pub collected : (e : BasisEntry) → slice_get es n ≡ Some e → slice_get marks n ≡ Some true → AreMarkedBelow es marks (n + 1) (used ++ next n e ∷ [])
  collected e read marked = record { there = there; rising = rising; low = low; each = each; only = only }
    where
      there : AllThere es (used ++ next n e ∷ [])
      there m u h = by (last_or used (next n e) m u h)
        where
          by : (slice_get used m ≡ Some u) ⊎ ((m ≡ length used) × (u ≡ next n e)) → IsThere es u
          by (inl p) = is.there m u p
          by (inr (at, q)) = subst (IsThere es) (sym q) read

      rising : AreRising (used ++ next n e ∷ [])
      rising m k u v l h g = by (last_or used (next n e) m u h) (last_or used (next n e) k v g)
        where
          by : (slice_get used m ≡ Some u) ⊎ ((m ≡ length used) × (u ≡ next n e)) → (slice_get used k ≡ Some v) ⊎ ((k ≡ length used) × (v ≡ next n e))
              → u.number < v.number
          by (inl p) (inl q) = is.rising m k u v l p q
          by (inl p) (inr (at, q)) = let b = is.low m u p in let s = ap (λ (z : UsedEntry). z.number) q in omega (arith, b, s)
          by (inr (at, p)) (inl q) = let w = slice_get_within used k v q in absurd (omega (arith, w, at, l))
          by (inr (at, p)) (inr (to, q)) = absurd (omega (arith, at, to, l))

      low : (m : ℕ) (u : UsedEntry) → slice_get (used ++ next n e ∷ []) m ≡ Some u → u.number < n + 1
      low m u h = by (last_or used (next n e) m u h)
        where
          by : (slice_get used m ≡ Some u) ⊎ ((m ≡ length used) × (u ≡ next n e)) → u.number < n + 1
          by (inl p) = let b = is.low m u p in omega (arith, b)
          by (inr (at, q)) = let s = ap (λ (z : UsedEntry). z.number) q in omega (arith, s)

      only : (m : ℕ) (u : UsedEntry) → slice_get (used ++ next n e ∷ []) m ≡ Some u → slice_get marks u.number ≡ Some true
      only m u h = by (last_or used (next n e) m u h)
        where
          by : (slice_get used m ≡ Some u) ⊎ ((m ≡ length used) × (u ≡ next n e)) → slice_get marks u.number ≡ Some true
          by (inl p) = is.only m u p
          by (inr (at, q)) = subst (λ (z : UsedEntry). slice_get marks z.number ≡ Some true) (sym q) marked

      each : (k : ℕ) → k < n + 1 → slice_get marks k ≡ Some true → IsAmong (used ++ next n e ∷ []) k
      each k l set = by (three k n)
        where
          more : IsAmong used k → IsAmong (used ++ next n e ∷ []) k
          more (m, u, get, same) = (m, u, get_left used (next n e ∷ []) m u get, same)

          by : (k < n) ⊎ ((k ≡ n) ⊎ (n < k)) → IsAmong (used ++ next n e ∷ []) k
          by (inl below) = more (is.each k below set)
          by (inr (inl q)) = (length used, next n e, get_end used (next n e), sym q)
          by (inr (inr above)) = absurd (omega (arith, above, l))

-- all are collected
pub all_marked : (es : List BasisEntry) (marks : List Bool) (n : ℕ) (used : List UsedEntry) → length marks ≤ n → AreMarkedBelow es marks n used
    → AreMarked es marks used
all_marked es marks n used long is = record {
  there = is.there;
  rising = is.rising;
  each = λ k set. let w = slice_get_within marks k true set in is.each k (omega (arith, w, long)) set;
  only = is.only;
}

pub unset : (marks : List Bool) (n : ℕ) → get_or marks n false ≡ false → slice_get marks n ≡ Some true → ⊥
unset [] n e h = let w = slice_get_within [] n true h in omega (arith, w)
unset (x ∷ marks) zero e h = let s : x ≡ true = cc in let f : x ≡ false = e in cc
unset (x ∷ marks) (suc n) e h = unset marks n e h

pub marked_at : (marks : List Bool) (n : ℕ) → get_or marks n false ≡ true → slice_get marks n ≡ Some true
marked_at [] n e = absurd (let f : false ≡ true = e in cc)
marked_at (x ∷ marks) zero e = ap Some e
marked_at (x ∷ marks) (suc n) e = marked_at marks n e

-- a mark that is set now was set before, or is the one at i
pub set_or : (marks : List Bool) (i n : ℕ) → slice_get (set marks i true) n ≡ Some true → (slice_get marks n ≡ Some true) ⊎ (n ≡ i)
set_or [] i n h = inl h
set_or (x ∷ marks) zero zero h = inr refl
set_or (x ∷ marks) zero (suc n) h = inl h
set_or (x ∷ marks) (suc i) zero h = inl h
set_or (x ∷ marks) (suc i) (suc n) h = by (set_or marks i n h)
  where
    by : (slice_get marks n ≡ Some true) ⊎ (n ≡ i) → (slice_get marks n ≡ Some true) ⊎ (suc n ≡ suc i)
    by (inl p) = inl p
    by (inr e) = inr (ap suc e)
