-- Items of a log that begin with those of a seat.
use Rattle.std.proofs.Common.{◌≡◌, ◌≢◌, ℕ, zero, suc, ◌+◌, ◌<◌, ◌≤◌, List, [], ◌∷◌, ◌++◌, length, map, Option, Some, None, refl, sym, ap, subst, ◌∙◌, arith}
use Rattle.std.proofs.lemmas.List.{append-nil, append_assoc, map-append}
use Rattle.std.specs.Prelude.{slice_get}
use mathlib.Core.List.{IsPrefix}
use Rattle.presentation.specs.Presented.{Presented}
use Rattle.basis_entry.specs.Entries.{BasisEntry}
use Rattle.basis_entry.specs.Seals.{Seal}
use Rattle.basis_log.specs.Items.{LogItem, entries_of, seal_of, AreItems}
use Rattle.basis_log.proofs.Prefixes.{prefix_cons, prefix_head, prefix_tail}
use Rattle.legal_report.specs.Gathering.{GoesOn}
use Rattle.legal_report.specs.Seats.{items_in}

-- ---- lists

pub prefix_by : {X : Type 0} (xs ys : List X) → length xs ≤ length ys → ((k : ℕ) → k < length xs → slice_get xs k ≡ slice_get ys k) → IsPrefix xs ys
prefix_by [] ys le same = (ys, refl)
prefix_by (x ∷ xs) [] le same = absurd (omega (arith, le))
prefix_by (x ∷ xs) (y ∷ ys) le same =
    let first : Some x ≡ Some y = same 0 (omega arith) in
    let head : x ≡ y = cc in
    prefix_cons x y xs ys head (prefix_by xs ys (omega (arith, le)) (λ k lt. same (suc k) (omega (arith, lt))))

pub prefix_at : {X : Type 0} (xs ys : List X) (k : ℕ) → IsPrefix xs ys → k < length xs → slice_get xs k ≡ slice_get ys k
prefix_at [] ys k h lt = absurd (omega (arith, lt))
prefix_at (x ∷ xs) [] k h lt = absurd (let e = h.1 in cc)
prefix_at (x ∷ xs) (y ∷ ys) zero h lt = let e = prefix_head x y xs ys h in ap Some e
prefix_at (x ∷ xs) (y ∷ ys) (suc k) h lt = prefix_at xs ys k (prefix_tail x y xs ys h) (omega (arith, lt))

append_none : {X : Type 0} (xs ys : List X) → xs ++ ys ≡ [] → ys ≡ []
append_none [] ys e = e
append_none (x ∷ xs) ys e = absurd cc

-- ---- items

entries_in : (es : List BasisEntry) (seal : Option Seal) → entries_of (items_in es seal) ≡ es
entries_in [] None = refl
entries_in [] (Some s) = refl
entries_in (e ∷ es) None = ap (λ (xs : List BasisEntry). e ∷ xs) (entries_in es None)
entries_in (e ∷ es) (Some s) = ap (λ (xs : List BasisEntry). e ∷ xs) (entries_in es (Some s))

entries_of_both : (xs ys : List LogItem) → entries_of (xs ++ ys) ≡ entries_of xs ++ entries_of ys
entries_of_both [] ys = refl
entries_of_both (LogItem.an_entry e ∷ xs) ys = ap (λ (es : List BasisEntry). e ∷ es) (entries_of_both xs ys)
entries_of_both (LogItem.a_seal s ∷ xs) ys = entries_of_both xs ys

-- behind a seal nothing is
behind : (xs ys : List LogItem) (es : List BasisEntry) (seal : Option Seal) → xs ++ ys ≡ items_in es seal → seal_of xs ≢ None
    → (entries_of ys ≡ []) × (seal ≡ seal_of xs)
behind [] ys es seal e some = absurd (some refl)
behind (LogItem.an_entry x ∷ xs) ys [] None e some = absurd cc
behind (LogItem.an_entry x ∷ xs) ys [] (Some s) e some = absurd cc
behind (LogItem.an_entry x ∷ xs) ys (y ∷ es) None e some =
    let rest : xs ++ ys ≡ items_in es None = cc in behind xs ys es None rest some
behind (LogItem.an_entry x ∷ xs) ys (y ∷ es) (Some s) e some =
    let rest : xs ++ ys ≡ items_in es (Some s) = cc in behind xs ys es (Some s) rest some
behind (LogItem.a_seal z ∷ xs) ys [] None e some = absurd cc
behind (LogItem.a_seal z ∷ xs) ys [] (Some s) e some =
    let rest : xs ++ ys ≡ [] = cc in
    let same : s ≡ z = cc in
    (ap entries_of (append_none xs ys rest), ap Some same)
behind (LogItem.a_seal z ∷ xs) ys (y ∷ es) None e some = absurd cc
behind (LogItem.a_seal z ∷ xs) ys (y ∷ es) (Some s) e some = absurd cc

-- the items of a log that begin with these go on behind them
pub goes_on : (xs : List LogItem) (es : List BasisEntry) (seal : Option Seal) → IsPrefix xs (items_in es seal) → GoesOn (entries_of xs) (seal_of xs) es seal
goes_on xs es seal h =
    let all : es ≡ entries_of xs ++ entries_of h.0 = sym (entries_in es seal) ∙ ap entries_of (sym h.1) ∙ entries_of_both xs h.0 in
    record {
      more = entries_of h.0;
      entries = all;
      sealed = λ some.
          let end = behind xs h.0 es seal h.1 some in
          (all ∙ ap (λ (ys : List BasisEntry). entries_of xs ++ ys) end.0 ∙ append-nil (entries_of xs), end.1);
    }

-- ---- the form of a list of items

one_more : (e : BasisEntry) (es : List BasisEntry) (seal : Option Seal) → LogItem.an_entry e ∷ items_in es seal ≡ items_in (e ∷ es) seal
one_more e es None = refl
one_more e es (Some s) = refl

pub form : (p : Presented) (xs : List LogItem) → AreItems p xs → xs ≡ items_in (entries_of xs) (seal_of xs)
form p [] is = refl
form p (LogItem.an_entry e ∷ xs) is =
    ap (λ (ys : List LogItem). LogItem.an_entry e ∷ ys) (form p xs is.2) ∙ one_more e (entries_of xs) (seal_of xs)
form p (LogItem.a_seal s ∷ xs) is = let none : xs ≡ [] = is.2 in rw none refl

more_items : (xs ys : List BasisEntry) (seal : Option Seal) → IsPrefix (items_in xs None) (items_in (xs ++ ys) seal)
more_items xs ys None = (map LogItem.an_entry ys, sym (map-append LogItem.an_entry xs ys))
more_items xs ys (Some s) = (
  map LogItem.an_entry ys ++ LogItem.a_seal s ∷ [],
  sym (ap (λ (zs : List LogItem). zs ++ LogItem.a_seal s ∷ []) (map-append LogItem.an_entry xs ys)
      ∙ append_assoc (map LogItem.an_entry xs) (map LogItem.an_entry ys) (LogItem.a_seal s ∷ [])),
)

-- without a seal, a list begins the items of a log where its entries begin the log's
pub begins_open : (p : Presented) (xs : List LogItem) (es : List BasisEntry) (seal : Option Seal) → AreItems p xs → seal_of xs ≡ None
    → IsPrefix (entries_of xs) es → IsPrefix xs (items_in es seal)
begins_open p xs es seal is none h =
    let shape : xs ≡ items_in (entries_of xs) None = form p xs is ∙ ap (items_in (entries_of xs)) none in
    subst (λ (ys : List LogItem). IsPrefix ys (items_in es seal)) (sym shape)
    (subst (λ (ys : List BasisEntry). IsPrefix (items_in (entries_of xs) None) (items_in ys seal)) h.1 (more_items (entries_of xs) h.0 seal))

-- with one, where it is all of them
pub begins_sealed : (p : Presented) (xs : List LogItem) (es : List BasisEntry) (seal : Option Seal) → AreItems p xs → entries_of xs ≡ es → seal_of xs ≡ seal
    → IsPrefix xs (items_in es seal)
begins_sealed p xs es seal is entries sealed = (
  [],
  append-nil xs ∙ form p xs is ∙ ap (λ (ys : List BasisEntry). items_in ys (seal_of xs)) entries
      ∙ ap (items_in es) sealed,
)

pub prefix_whole : {X : Type 0} (xs ys : List X) → length xs ≡ length ys → IsPrefix xs ys → xs ≡ ys
prefix_whole [] [] n h = refl
prefix_whole [] (y ∷ ys) n h = absurd (omega (arith, n))
prefix_whole (x ∷ xs) [] n h = absurd (omega (arith, n))
prefix_whole (x ∷ xs) (y ∷ ys) n h =
    let head = prefix_head x y xs ys h in
    let tail = prefix_whole xs ys (omega (arith, n)) (prefix_tail x y xs ys h) in cc

-- a list with a seal begins the items of a log only where it is all of them
pub all_of : (xs : List LogItem) (es : List BasisEntry) (seal : Option Seal) (z : Seal) → seal_of xs ≡ Some z → IsPrefix xs (items_in es seal)
    → (es ≡ entries_of xs) × (seal ≡ Some z)
all_of xs es seal z some h =
    let on = goes_on xs es seal h in
    let all = on.sealed (λ none. let e : Some z ≡ None = sym some ∙ none in absurd cc) in
    (all.0, all.1 ∙ some)

items_length : (es : List BasisEntry) (z : Seal) → length (items_in es (Some z)) ≡ length es + 1
items_length [] z = refl
items_length (e ∷ es) z = let n = items_length es z in omega (arith, n)

-- the seal is one item more than the entries
pub one_past : (p : Presented) (xs : List LogItem) (z : Seal) → AreItems p xs → seal_of xs ≡ Some z → length xs ≡ length (entries_of xs) + 1
one_past p xs z is some =
    let shape : xs ≡ items_in (entries_of xs) (Some z) = form p xs is ∙ ap (items_in (entries_of xs)) some in
    ap length shape ∙ items_length (entries_of xs) z

pub whole_prefix : {X : Type 0} (xs ys : List X) → ys ≡ xs → IsPrefix xs ys
whole_prefix xs ys e = ([], append-nil xs ∙ sym e)
