-- Lists of items: their entries and their seal.
use Rattle.std.proofs.Common.{◌≡◌, ℕ, zero, suc, ◌+◌, ◌≤◌, List, [], ◌∷◌, ◌++◌, length, map, Option, Some, None, refl, ap, arith, subst}
use Rattle.std.specs.List.{AllByRecursion}
use Rattle.std.specs.Prelude.{slice_get}
use Rattle.presentation.specs.Presented.{Presented}
use Rattle.basis_entry.specs.Entries.{BasisEntry, IsBasisEntry, AreOf}
use Rattle.basis_entry.specs.Seals.{Seal, item_count}
use Rattle.basis_log.specs.Items.{LogItem, item_source, entries_of, seal_of, IsItem, AreItems}

-- ---- after entries
pub entries_after : (es : List BasisEntry) (xs : List LogItem) → entries_of (map LogItem.an_entry es ++ xs) ≡ es ++ entries_of xs
entries_after [] xs = refl
entries_after (e ∷ es) xs = ap (λ l. e ∷ l) (entries_after es xs)

pub seal_after : (es : List BasisEntry) (xs : List LogItem) → seal_of (map LogItem.an_entry es ++ xs) ≡ seal_of xs
seal_after [] xs = refl
seal_after (e ∷ es) xs = seal_after es xs

pub items_after : (p : Presented) (es : List BasisEntry) (xs : List LogItem) → AllByRecursion IsBasisEntry es → AreOf p es → AreItems p xs
    → AreItems p (map LogItem.an_entry es ++ xs)
items_after p [] xs all of h = h
items_after p (e ∷ es) xs all of h = (of.0, all.0, items_after p es xs all.1 of.1 h)

-- ---- one more
pub items_more : (p : Presented) (xs : List LogItem) (x : LogItem) → AreItems p xs → seal_of xs ≡ None → IsItem x → item_source x ≡ p
    → AreItems p (xs ++ x ∷ [])
items_more p [] (LogItem.an_entry e) h unsealed is of = (of, is, tt)
items_more p [] (LogItem.a_seal s) h unsealed is of = (of, is, refl)
items_more p (LogItem.an_entry e ∷ xs) x h unsealed is of = (h.0, h.1, items_more p xs x h.2 unsealed is of)
items_more p (LogItem.a_seal s ∷ xs) x h unsealed is of = absurd (let e = unsealed in cc)

-- ---- what is read of items
-- where the seal is known
pub counted : (p : Presented) (xs : List LogItem) (s : Option Seal) → seal_of xs ≡ s → AreItems p xs → item_count (entries_of xs) s ≡ length xs
counted p [] None e h = refl
counted p [] (Some s) e h = absurd (let q = e in cc)
counted p (LogItem.an_entry x ∷ xs) None e h = ap suc (counted p xs None e h.2)
counted p (LogItem.an_entry x ∷ xs) (Some s) e h = omega (arith, counted p xs (Some s) e h.2)
counted p (LogItem.a_seal x ∷ xs) None e h = absurd (let q = e in cc)
counted p (LogItem.a_seal x ∷ xs) (Some s) e h = rw (h.2) refl

pub count_items : (p : Presented) (xs : List LogItem) → AreItems p xs → item_count (entries_of xs) (seal_of xs) ≡ length xs
count_items p xs h = counted p xs (seal_of xs) refl h

pub entries_are : (p : Presented) (xs : List LogItem) → AreItems p xs → AllByRecursion IsBasisEntry (entries_of xs)
entries_are p [] h = tt
entries_are p (LogItem.an_entry e ∷ xs) h = (h.1, entries_are p xs h.2)
entries_are p (LogItem.a_seal s ∷ xs) h = rw (h.2) tt

pub entries_of_row : (p : Presented) (xs : List LogItem) → AreItems p xs → AreOf p (entries_of xs)
entries_of_row p [] h = tt
entries_of_row p (LogItem.an_entry e ∷ xs) h = (h.0, entries_of_row p xs h.2)
entries_of_row p (LogItem.a_seal s ∷ xs) h = rw (h.2) tt

pub few_entries : (xs : List LogItem) → length (entries_of xs) ≤ length xs
few_entries [] = omega arith
few_entries (LogItem.an_entry e ∷ xs) = omega (arith, few_entries xs)
few_entries (LogItem.a_seal s ∷ xs) = omega (arith, few_entries xs)

-- an item below the number of the entries is the entry with its number
pub read_entry : (p : Presented) (xs : List LogItem) (i : ℕ) (e : BasisEntry) → AreItems p xs → slice_get xs i ≡ Some (LogItem.an_entry e)
    → slice_get (entries_of xs) i ≡ Some e
read_entry p [] i e h at = absurd (let q = at in cc)
read_entry p (LogItem.an_entry x ∷ xs) zero e h at = cc
read_entry p (LogItem.an_entry x ∷ xs) (suc i) e h at = read_entry p xs i e h.2 at
read_entry p (LogItem.a_seal s ∷ xs) zero e h at = absurd (let q = at in cc)
read_entry p (LogItem.a_seal s ∷ xs) (suc i) e h at = absurd (let q : slice_get [] i ≡ Some (LogItem.an_entry e) =
    subst (λ l. slice_get l i ≡ Some (LogItem.an_entry e)) h.2 at in cc)

-- a seal stands past the entries
pub read_seal : (p : Presented) (xs : List LogItem) (i : ℕ) (s : Seal) → AreItems p xs → slice_get xs i ≡ Some (LogItem.a_seal s)
    → length (entries_of xs) ≤ i
read_seal p [] i s h at = omega arith
read_seal p (LogItem.an_entry x ∷ xs) zero s h at = absurd (let q = at in cc)
read_seal p (LogItem.an_entry x ∷ xs) (suc i) s h at = omega (arith, read_seal p xs i s h.2 at)
read_seal p (LogItem.a_seal x ∷ xs) i s h at = rw (h.2) (omega arith)

-- the last item tells the seal
pub last_entry : (p : Presented) (xs : List LogItem) (i : ℕ) (e : BasisEntry) → AreItems p xs → length xs ≡ i + 1 → slice_get xs i ≡ Some (LogItem.an_entry e)
    → seal_of xs ≡ None
last_entry p [] i e h n at = refl
last_entry p (LogItem.an_entry x ∷ []) i e h n at = refl
last_entry p (LogItem.an_entry x ∷ y ∷ xs) zero e h n at = absurd (omega (arith, n))
last_entry p (LogItem.an_entry x ∷ y ∷ xs) (suc i) e h n at = last_entry p (y ∷ xs) i e h.2 (omega (arith, n)) at
last_entry p (LogItem.a_seal s ∷ xs) zero e h n at = absurd (let q = at in cc)
last_entry p (LogItem.a_seal s ∷ xs) (suc i) e h n at = absurd (let q : slice_get [] i ≡ Some (LogItem.an_entry e) =
    subst (λ l. slice_get l i ≡ Some (LogItem.an_entry e)) h.2 at in cc)

pub last_is_seal : (p : Presented) (xs : List LogItem) (i : ℕ) (s : Seal) → AreItems p xs → slice_get xs i ≡ Some (LogItem.a_seal s) → seal_of xs ≡ Some s
last_is_seal p [] i s h at = absurd (let q = at in cc)
last_is_seal p (LogItem.an_entry x ∷ xs) zero s h at = absurd (let q = at in cc)
last_is_seal p (LogItem.an_entry x ∷ xs) (suc i) s h at = last_is_seal p xs i s h.2 at
last_is_seal p (LogItem.a_seal x ∷ xs) zero s h at = cc
last_is_seal p (LogItem.a_seal x ∷ xs) (suc i) s h at = absurd (let q : slice_get [] i ≡ Some (LogItem.a_seal s) =
    subst (λ l. slice_get l i ≡ Some (LogItem.a_seal s)) h.2 at in cc)
