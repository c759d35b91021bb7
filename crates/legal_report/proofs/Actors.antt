-- Sessions with seats ask a book.
use Rattle.std.proofs.Common.{◌≡◌, ℕ, zero, suc, ◌+◌, ◌<◌, ◌≤◌, inl, inr, List, [], ◌∷◌, ◌++◌, length, length-take, take, min, Option, Some, None, slice_get, sym, ap, subst, ◌∙◌, arith, refl}
use Rattle.std.specs.List.{AllByRecursion}
use Rattle.std.proofs.lemmas.Option.{slice_get_within}
use Rattle.presentation.specs.Presented.{Presented, IsPresented}
use Rattle.outcomes.specs.declared.ends.End.{End}
use Rattle.session_text.specs.declared.question.Question.{Question}
use Rattle.basis_entry.specs.Base.{AreBase}
use Rattle.basis_entry.specs.Entries.{BasisEntry}
use Rattle.basis_entry.specs.Seals.{Seal, item_count}
use Rattle.basis_log.specs.Items.{entries_of, seal_of}
use Rattle.basis_log.specs.Seats.{Seen}
use Rattle.basis_log.proofs.Bases.{row_of}
use Rattle.pair_book.specs.declared.limits.Limits.{Limits}
use Rattle.pair_book.specs.Books.{Held, IsBook}
use Rattle.session_core.specs.declared.kept.Kept.{Kept}
use Rattle.session_core.specs.Questions.{CanBeAsked}
use Rattle.session_core.specs.Sessions.{SessionState}
use Rattle.legal_report.specs.Gathering.{questions_of, HasAsked, IsAsker, AreAskers, IsCompleted}
use Rattle.legal_report.specs.Seats.{Seated, IsBaseCount, HasAskedOver, IsActor, AreActors, Keeps, AreKept, sessions_of}
use Rattle.legal_report.proofs.Legality.{asked_before, asker_before}
use Rattle.legal_report.proofs.Prefixes.{goes_on}

-- the generator entries of a book are so many
base_is : (h : Held) (n : ℕ) → IsBook h → IsBaseCount h.source n → h.base ≡ n
base_is h n is count =
    let within = is.lawful.within in
    let taken = length-take h.base h.entries in
    let all = count (take h.base h.entries) is.lawful.begins in
    omega (arith, within, taken, all)

-- a book has an entry
pub some_entry : (h : Held) → IsPresented h.source → IsBook h → 0 < length h.entries
some_entry h known is =
    let base = take h.base h.entries in
    let few = is.lawful.begins.few in
    let row = row_of base 0 [] (record { source = h.source; presented = known; base = is.lawful.begins }) (omega (arith, few)) (omega arith) in
    let some = row.some in
    let within = is.lawful.within in
    let taken = length-take h.base h.entries in
    omega (arith, some, within, taken)

-- a session that has asked over its seat asks the completed book, once it has kept or forgotten its replies
seated : (p : Presented) (h : Held) (n : ℕ) (s t : SessionState) (seat : Seen) → h.source ≡ p → IsBook h → HasAskedOver p seat n s
    → Keeps h.entries h.seal (s, Some seat) t → IsAsker h n t
seated p h n s t seat source is over (inl kept) =
    let base : h.base ≡ s.base = base_is h s.base is (subst (λ (x : Presented). IsBaseCount x s.base) (sym source) over.base) in
    let on = asked_before p s.base (entries_of seat.items) (seal_of seat.items) h.entries h.seal n s (goes_on seat.items h.entries h.seal kept.0) over.asked in
    rw (kept.1, source, base) on
seated p h n s t seat source is over (inr forgot) =
    let base : h.base ≡ s.base = base_is h s.base is (subst (λ (x : Presented). IsBaseCount x s.base) (sym source) over.base) in
    subst (IsAsker h n) (sym forgot.1) (record {
      number = over.asked.number;
      base = sym base;
      questions = subst (λ (x : Presented). AllByRecursion (CanBeAsked x) s.questions) (sym source) over.asked.questions;
      replies = λ i q k asked kept. absurd cc;
      fronts = tt;
    })

-- `was` is the book that was handed over, and `old` the one that was completed
actor_asks : (p : Presented) (limits : Limits) (was old : Held) (end : End) (new : Held) (n : ℕ) (a : Seated) (t : SessionState)
    → (was.source ≡ p → was.limits ≡ limits → old ≡ was) → old.source ≡ p → IsCompleted p old end new → IsBook new
    → IsActor p limits was n a → Keeps new.entries new.seal a t → IsAsker new n t
actor_asks p limits was old end new n (s, None) t same source done is actor kept =
    let book : old ≡ was = same actor.0 actor.1 in
    let asks : IsAsker old n s = subst (λ (h : Held). IsAsker h n s) (sym book) actor.2 in
    subst (IsAsker new n) (sym kept) (asker_before p old end new n s done asks)
actor_asks p limits was old end new n (s, Some seat) t same source done is actor kept =
    seated p new n s t seat (done.source ∙ source) is actor kept

pub actors_ask : (p : Presented) (limits : Limits) (was old : Held) (end : End) (new : Held) (xs : List Seated) (ts : List SessionState)
    → (was.source ≡ p → was.limits ≡ limits → old ≡ was) → old.source ≡ p → IsCompleted p old end new → IsBook new
    → AreActors p limits was xs → AreKept new.entries new.seal xs ts → AreAskers new ts
actors_ask p limits was old end new xs ts same source done is actors kept = λ i t at.
    let found = get_below xs i (let lt = slice_get_within ts i t at in omega (arith, lt, kept.count)) in
    actor_asks p limits was old end new (i + 1) found.0 t same source done is (actors i found.0 found.1) (kept.each i found.0 t found.1 at)
  where
    get_below : (xs : List Seated) (i : ℕ) → i < length xs → (a : Seated) × (slice_get xs i ≡ Some a)
    get_below [] i lt = absurd (omega (arith, lt))
    get_below (a ∷ xs) zero lt = (a, refl)
    get_below (a ∷ xs) (suc i) lt = get_below xs i (omega (arith, lt))

-- the questions stay
questions_stay : (es : List BasisEntry) (seal : Option Seal) (a : Seated) (t : SessionState) → Keeps es seal a t → t.questions ≡ (a.0).questions
questions_stay es seal (s, None) t kept = ap (λ (x : SessionState). x.questions) kept
questions_stay es seal (s, Some seat) t (inl kept) = ap (λ (x : SessionState). x.questions) kept.1
questions_stay es seal (s, Some seat) t (inr forgot) = ap (λ (x : SessionState). x.questions) forgot.1

pub questions_are : (es : List BasisEntry) (seal : Option Seal) (xs : List Seated) (ts : List SessionState) → AreKept es seal xs ts
    → questions_of ts ≡ questions_of (sessions_of xs)
questions_are es seal [] [] kept = refl
questions_are es seal [] (t ∷ ts) kept = absurd (let n = kept.count in omega (arith, n))
questions_are es seal (a ∷ xs) [] kept = absurd (let n = kept.count in omega (arith, n))
questions_are es seal (a ∷ xs) (t ∷ ts) kept =
    let first = questions_stay es seal a t (kept.each 0 a t refl refl) in
    let rest = questions_are es seal xs ts (record { count = let n = kept.count in omega (arith, n); each = λ i o n x y. kept.each (suc i) o n x y }) in
    rw (first, rest) refl

-- one session more
pub one_kept : (es : List BasisEntry) (seal : Option Seal) (xs : List Seated) (ts : List SessionState) (a : Seated) (t : SessionState) → AreKept es seal xs ts
    → Keeps es seal a t → AreKept es seal (xs ++ a ∷ []) (ts ++ t ∷ [])
one_kept es seal [] [] a t kept one = record { count = refl; each = λ i old new at to. only i old new at to }
  where
    only : (i : ℕ) (old : Seated) (new : SessionState) → slice_get (a ∷ []) i ≡ Some old → slice_get (t ∷ []) i ≡ Some new → Keeps es seal old new
    only zero old new at to =
        let e : a ≡ old = cc in
        let f : t ≡ new = cc in
        rw (← e, ← f) one
    only (suc i) old new at to = absurd cc
one_kept es seal [] (u ∷ ts) a t kept one = absurd (let n = kept.count in omega (arith, n))
one_kept es seal (x ∷ xs) [] a t kept one = absurd (let n = kept.count in omega (arith, n))
one_kept es seal (x ∷ xs) (u ∷ ts) a t kept one =
    let rest = one_kept es seal xs ts a t (record { count = let n = kept.count in omega (arith, n); each = λ i o n at to. kept.each (suc i) o n at to }) one in
    record {
      count = let n = rest.count in omega (arith, n);
      each = λ i old new at to. both i old new at to rest;
    }
  where
    both : (i : ℕ) (old : Seated) (new : SessionState) → slice_get (x ∷ xs ++ a ∷ []) i ≡ Some old → slice_get (u ∷ ts ++ t ∷ []) i ≡ Some new
        → AreKept es seal (xs ++ a ∷ []) (ts ++ t ∷ []) → Keeps es seal old new
    both zero old new at to rest = kept.each 0 old new at to
    both (suc i) old new at to rest = rest.each i old new at to

pub none_kept : (es : List BasisEntry) (seal : Option Seal) → AreKept es seal [] []
none_kept es seal = record { count = refl; each = λ i o n at to. absurd cc }
