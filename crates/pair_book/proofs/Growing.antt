-- What a book keeps when an entry is appended.
use Rattle.std.proofs.Common.{ℕ, ◌+◌, ◌<◌, ◌≤◌, ◌≡◌, inl, inr, arith, refl, sym, ap, ◌∙◌, List, [], ◌∷◌, ◌++◌, length, Bool, true, false, take, Option, Some}
use Rattle.std.proofs.Common.{None, subst, map, length-append}
use Rattle.task_table.specs.declared.profiles.Profile.{Profile}
use Rattle.task_table.specs.Profiles.{profile_of}
use Rattle.std.proofs.lemmas.List.{map-append, length-map}
use Rattle.std.proofs.lemmas.List.Sums.{sum_by_push, sum_by-append}
use Rattle.std.proofs.lemmas.Option.{slice_get_within}
use Rattle.std.specs.List.{slice_get}
use Rattle.presentation.specs.Presented.{Presented}
use Rattle.outcomes.specs.declared.tasks.Task.{Task}
use Rattle.module_vec.specs.declared.places.Term.{Term}
use Rattle.strong_pairs.specs.Pairs.{IsPair, lead_at, lead_of}
use Rattle.strong_pairs.specs.Tasks.{IsClosed}
use Rattle.task_table.specs.declared.states.TaskState.TheVariants.{Closed}
use Rattle.task_table.specs.Tasks.{IsTask, is_never, is_unclosed}
use Rattle.task_table.specs.Tables.{state_of}
use Rattle.task_table.specs.Rows.{grown, row_states, settled_of}
use Rattle.task_table.proofs.Ordering.{three}
use Rattle.basis_entry.specs.Base.{AreBase}
use Rattle.basis_entry.specs.Entries.{BasisEntry, IsBasisEntry, vectors_of}
use Rattle.basis_entry.specs.Seals.{Seal}
use Rattle.basis_entry.proofs.Vectors.{are_entries}
use Rattle.pair_book.specs.Logs.{IsLawful, IsNextEntry}
use Rattle.pair_book.specs.Settled.{settled_row, settled_by}
use Rattle.pair_work.specs.Outcomes.{IsShort, recipe_steps}
use Rattle.pair_book.specs.Books.{Held, IsBook, IsSealedBy, closed_once}
use Rattle.pair_book.specs.Commits.{Fits, MayCommit, appended_by, closed_by, state_after}
use Rattle.pair_work.proofs.Reading.{get_back, get_end, take_left, take_whole, all_push}
use Rattle.pair_book.proofs.Keeping.{task_in, book_put, taken_unclosed}
use Rattle.pair_book.proofs.Opened.{settled_closed, first_never, first_shut}
use Rattle.pair_book.proofs.Starting.{table_grown, state_old, state_new, older, settled_old, settled_new}
use Rattle.pair_book.proofs.Strangers.{one_there}
use Rattle.pair_work.proofs.Transport.{same_left, pair_over, closed_grows}

-- what is lawful stays so where a lawful entry is appended
pub lawful_grows : (p : Presented) (base : ℕ) (es : List BasisEntry) (e : BasisEntry) → IsLawful p base es → e.source ≡ p → IsBasisEntry e
    → IsNextEntry (vectors_of es) e → IsLawful p base (es ++ e ∷ [])
lawful_grows p base es e l source entry next =
    let n = length-append es (e ∷ []) in
    record {
      source = all_push (λ x. x.source ≡ p) es e l.source source;
      entries = all_push IsBasisEntry es e l.entries entry;
      within = let w = l.within in omega (arith, n, w);
      begins = subst (AreBase p) (sym (take_left es (e ∷ []) base l.within)) l.begins;
      later = λ k x le s. elim (three k (length es)) [
        | inl lt ↦ subst (λ (xs : List BasisEntry). IsNextEntry (vectors_of xs) x) (sym (take_left es (e ∷ []) k (omega (arith, lt))))
            (l.later k x le (get_back es (e ∷ []) k x lt s))
        | inr q ↦ elim q [
          | inl eq ↦
              let same : x ≡ e = one_there (es ++ e ∷ []) (length es) x e (subst (λ (m : ℕ). slice_get (es ++ e ∷ []) m ≡ Some x) eq s) (get_end es e) in
              let taken : take k (es ++ e ∷ []) ≡ es = ap (λ m. take m (es ++ e ∷ [])) eq ∙ (take_left es (e ∷ []) (length es) (omega arith) ∙ take_whole es) in
              subst (λ (y : BasisEntry). IsNextEntry (vectors_of (take k (es ++ e ∷ []))) y) (sym same)
              (subst (λ (xs : List BasisEntry). IsNextEntry (vectors_of xs) e) (sym taken) next)
          | inr gt ↦ let w = slice_get_within (es ++ e ∷ []) k x s in absurd (omega (arith, gt, w, n))
        ]
      ];
    }

pub vectors_push : (es : List BasisEntry) (e : BasisEntry) → vectors_of (es ++ e ∷ []) ≡ vectors_of es ++ e.vector ∷ []
vectors_push es e = map-append (λ (z : BasisEntry). z.vector) es (e ∷ [])

pair_back : (b more : List (List Term)) (i j : ℕ) → i < j → j < length b → IsPair (b ++ more) i j → IsPair b i j
pair_back b more i j o w p =
    let a = same_left b more i (omega (arith, o, w)) in
    let c = same_left b more j w in
    pair_over (b ++ more) b i j (omega (arith, o, w), sym a.1) (w, sym c.1) p

seal_none : (h : Held) (seal : Option Seal) → seal ≡ None → IsSealedBy h seal
seal_none h None e = tt
seal_none h (Some s) e = absurd (cc)

pub book_grown : (h : Held) (e : BasisEntry) (commits : ℕ) → IsBook h → h.seal ≡ None → IsBasisEntry e → e.source ≡ h.source → IsShort e
    → IsNextEntry (vectors_of h.entries) e → Fits h e → commits ≤ h.commits + 1 →
    IsBook (record h { entries = h.entries ++ e ∷ []; tasks = grown h.tasks (settled_row h.entries e.vector) e.vector; commits = commits })
book_grown h e commits b fresh entry source short next fits more =
    let es = h.entries in
    let n : length (es ++ e ∷ []) ≡ length es + 1 = length-append es (e ∷ []) in
    let v = vectors_push es e in
    let long = length-map es (λ (z : BasisEntry). z.vector) in
    let f0 = fits.0 in
    let count = b.count in
    let room = b.room in
    let lt : h.tasks.count < h.tasks.room = omega (arith, f0, count, room) in
    let down : (u : Task) → IsTask (length (es ++ e ∷ [])) u → IsTask (length es + 1) u = λ u k. (k.0, let a = k.1 in omega (arith, a, n)) in
    let all = all_push IsBasisEntry es e b.lawful.entries entry in
    let new : Held = record h { entries = es ++ e ∷ []; tasks = grown h.tasks (settled_row es e.vector) e.vector; commits = commits } in
    record {
      lawful = lawful_grows h.source h.base es e b.lawful source entry next;
      short = all_push IsShort es e b.short short;
      within = omega (arith, n, f0);
      terms = let s = sum_by_push (λ (z : BasisEntry). length z.vector) es e in let f = fits.1 in omega (arith, s, f);
      steps = let s = sum_by_push (λ (z : BasisEntry). recipe_steps z.recipe) es e in let f = fits.2 in omega (arith, s, f);
      table = table_grown h.tasks es e.vector b.table b.count lt;
      order = b.order;
      count = omega (arith, n, count);
      over = ap (λ (ps : List Profile). ps ++ profile_of e.vector ∷ []) b.over
          ∙ (sym (map-append profile_of (vectors_of es) (e.vector ∷ [])) ∙ ap (map profile_of) (sym v));
      room = b.room;
      truly = λ u k c pair. elim (older (length es) u (down u k)) [
        | inl o ↦
            let old : IsPair (vectors_of es) u.i u.j = let w = o.1
            in pair_back (vectors_of es) (e.vector ∷ []) u.i u.j o.0 (omega (arith, w, long))
            (subst (λ (x : List (List Term)). IsPair x u.i u.j) v pair) in
            subst (λ (x : List (List Term)). IsClosed x u.kind u.i u.j) (sym v) (closed_grows (vectors_of es) (e.vector ∷ []) u.kind u.i u.j old
            (b.truly u o (sym (ap is_unclosed (state_old h.tasks es e.vector u b.table (task_in h u b o))) ∙ c) old))
        | inr (j, i) ↦
            let s = state_new h.tasks es e.vector u b.table b.count j i in
            let t = first_shut (settled_of u.kind (settled_by (lead_at (vectors_of es) u.i) (lead_of e.vector))) (sym (ap is_unclosed s) ∙ c) in
            settled_closed (vectors_of (es ++ e ∷ [])) (are_entries (es ++ e ∷ []) all) u pair (settled_new es e u j i ∙ t)
      ];
      settled = λ u k. elim (older (length es) u (down u k)) [
        | inl o ↦ ap is_never (state_old h.tasks es e.vector u b.table (task_in h u b o)) ∙ (b.settled u o ∙ sym (settled_old es e u o))
        | inr (j, i) ↦ ap is_never (state_new h.tasks es e.vector u b.table b.count j i)
            ∙ (first_never (settled_of u.kind (settled_by (lead_at (vectors_of es) u.i) (lead_of e.vector))) ∙ sym (settled_new es e u j i))
      ];
      commits = let s = sum_by-append closed_once h.tasks.states (row_states (settled_row es e.vector)) in let o = b.commits in omega (arith, n, s, o, more);
      seal = seal_none new h.seal fresh;
    }

after_never : (closed : Bool) → is_never (state_after closed) ≡ false
after_never true = refl
after_never false = refl

after_shut : (closed : Bool) → is_unclosed (state_after closed) ≡ false → closed ≡ true
after_shut true h = refl
after_shut false h = cc

pub book_closed : (h : Held) (t : Task) → IsBook h → MayCommit h t → IsClosed (vectors_of h.entries) t.kind t.i t.j → IsBook (closed_by h t)
book_closed h t b may shown = book_put h t Closed (h.commits + 1) b may.0.0 (taken_unclosed (state_of h.tasks t) may.0.1) refl (λ _ _. shown) (omega arith)

pub book_appended : (h : Held) (t : Task) (e : BasisEntry) (closed : Bool) → IsBook h → MayCommit h t → IsBasisEntry e → e.source ≡ h.source → IsShort e
    → IsNextEntry (vectors_of h.entries) e → Fits h e →
    (closed ≡ true → IsClosed (vectors_of (h.entries ++ e ∷ [])) t.kind t.i t.j) → IsBook (appended_by h t e closed)
book_appended h t e closed b may entry source short next fits shown =
    let n = length-append h.entries (e ∷ []) in
    let k = may.0.0 in
    let mid : Held = record h { entries = h.entries ++ e ∷ []; tasks = grown h.tasks (settled_row h.entries e.vector) e.vector; commits = h.commits + 1 } in
    book_put mid t (state_after closed) (h.commits + 1)
    (book_grown h e (h.commits + 1) b may.1 entry source short next fits (omega arith))
    (k.0, let a = k.1 in omega (arith, a, n))
    (ap is_unclosed (state_old h.tasks h.entries e.vector t b.table (task_in h t b k)) ∙ taken_unclosed (state_of h.tasks t) may.0.1)
    (after_never closed)
    (λ s _. shown (after_shut closed s))
    (omega arith)
