-- A new log, and what appending an entry does to tasks.
use Rattle.std.proofs.Common.{ℕ, zero, suc, ◌+◌, ◌<◌, ◌≤◌, ◌≡◌, ◌⊎◌, inl, inr, arith, refl, sym, ap, ◌∙◌, List, [], ◌∷◌, ◌++◌, length, map, Bool, take}
use Rattle.std.proofs.Common.{length-append, get_or}
use Rattle.task_table.specs.declared.profiles.Profile.{Profile}
use Rattle.task_table.specs.Profiles.{profile_of}
use Rattle.std.proofs.lemmas.List.{length-map, get_or_append_left, get_or-append-add, take_more, map-append}
use Rattle.outcomes.specs.declared.tasks.Task.{Task}
use Rattle.outcomes.specs.declared.kinds.PairKind.{PairKind}
use Rattle.outcomes.specs.declared.kinds.PairKind.TheVariants.{S, G}
use Rattle.module_vec.specs.declared.places.Term.{Term}
use Rattle.strong_pairs.specs.Pairs.{lead_of, lead_at}
use Rattle.task_table.specs.declared.states.TaskState.TheVariants.{Never}
use Rattle.task_table.specs.Tasks.{IsTask, tasks_below, number_of, kind_number}
use Rattle.task_table.specs.Tables.{Table, IsTable, state_at, state_of}
use Rattle.task_table.specs.Rows.{grown, row_states, first_state, settled_of}
use Rattle.task_table.proofs.Counting.{number_within, tasks_below_next}
use Rattle.task_table.proofs.Pushing.{row_length}
use Rattle.basis_entry.specs.Entries.{BasisEntry, vectors_of}
use Rattle.pair_book.specs.Settled.{settled_by, settled_row}
use Rattle.pair_book.specs.Books.{AreNew}
use Rattle.pair_work.proofs.Reading.{vector_of, some_at, get_left, get_end}

-- what is known of a task of two vectors
abbrev pub settled_at : List (List Term) → Task → Bool
settled_at b t = settled_of t.kind (settled_by (lead_at b t.i) (lead_at b t.j))

-- ---- reading a list that has grown

pub lead_left : (es more : List BasisEntry) (i : ℕ) → i < length es → lead_at (vectors_of (es ++ more)) i ≡ lead_at (vectors_of es) i
lead_left es more i h =
    let s = some_at es i h in
    ap lead_of (vector_of (es ++ more) i s.0 (get_left es more i s.0 s.1) ∙ sym (vector_of es i s.0 s.1))

pub lead_end : (es : List BasisEntry) (e : BasisEntry) → lead_at (vectors_of (es ++ e ∷ [])) (length es) ≡ lead_of e.vector
lead_end es e = ap lead_of (vector_of (es ++ e ∷ []) (length es) e (get_end es e))

pub row_at : (es : List BasisEntry) (v : List Term) (i : ℕ) (k : PairKind) → i < length es
    → get_or (row_states (settled_row es v)) (i + i + kind_number k) Never ≡ first_state (settled_of k (settled_by (lead_at (vectors_of es) i) (lead_of v)))
row_at [] v i k h = absurd (omega (arith, h))
row_at (e ∷ es) v zero G h = refl
row_at (e ∷ es) v zero S h = refl
row_at (e ∷ es) v (suc i) k h = let q : suc i + suc i + kind_number k ≡ suc (suc (i + i + kind_number k)) = omega arith
    in rw q (row_at es v i k (omega (arith, h)))

pub row_long : (es : List BasisEntry) (v : List Term) → length (row_states (settled_row es v)) ≡ length es + length es
row_long es v = let a = row_length (settled_row es v) in let b = length-map es (λ (e : BasisEntry). settled_by (lead_of e.vector) (lead_of v))
    in omega (arith, a, b)

pub table_grown : (tasks : Table) (es : List BasisEntry) (v : List Term) → IsTable tasks → tasks.count ≡ length es → tasks.count < tasks.room
    → IsTable (grown tasks (settled_row es v) v)
table_grown tasks es v h n room = record {
  states = let a = length-append tasks.states (row_states (settled_row es v)) in let l = row_long es v in let s = h.states
      in let x = tasks_below_next tasks.count in omega (arith, a, l, s, x, n);
  profiles = let p = length-append tasks.profiles (profile_of v ∷ []) in let q = h.profiles in omega (arith, p, q);
  within = omega (arith, room);
  most = h.most;
}

-- an old task keeps its state
pub state_old : (tasks : Table) (es : List BasisEntry) (v : List Term) (u : Task) → IsTable tasks → IsTask tasks.count u
    → state_of (grown tasks (settled_row es v) v) u ≡ state_of tasks u
state_old tasks es v u h k = let w = number_within u tasks.count k in let s = h.states
    in get_or_append_left tasks.states (row_states (settled_row es v)) Never (number_of u) (omega (arith, w, s))

-- a new task has that of the row
pub state_new : (tasks : Table) (es : List BasisEntry) (v : List Term) (u : Task) → IsTable tasks → tasks.count ≡ length es → u.j ≡ length es
    → u.i < length es →
    state_of (grown tasks (settled_row es v) v) u ≡ first_state (settled_of u.kind (settled_by (lead_at (vectors_of es) u.i) (lead_of v)))
state_new tasks es v u h n j i =
    let row = row_states (settled_row es v) in
    let q : tasks_below u.j ≡ length tasks.states = ap tasks_below (j ∙ sym n) ∙ sym h.states in
    let s : number_of u ≡ length tasks.states + (u.i + u.i + kind_number u.kind) = omega (arith, q) in
    ap (λ k. state_at (tasks.states ++ row) k) s
    ∙ (get_or-append-add tasks.states row (u.i + u.i + kind_number u.kind) Never ∙ row_at es v u.i u.kind i)

pub older : (n : ℕ) (u : Task) → IsTask (n + 1) u → IsTask n u ⊎ ((u.j ≡ n) × (u.i < n))
older n u k = elim (split u.j n) [
  | inl p ↦ inl (k.0, p)
  | inr p ↦ let a = k.1 in let e : u.j ≡ n = omega (arith, a, p) in let b = k.0
      in inr (e, omega (arith, b, e))
] where
  split : (a b : ℕ) → (a < b) ⊎ (b ≤ a)
  split a b = grind arith

-- two leads of the grown list
pub settled_old : (es : List BasisEntry) (e : BasisEntry) (u : Task) → IsTask (length es) u
    → settled_at (vectors_of (es ++ e ∷ [])) u ≡ settled_at (vectors_of es) u
settled_old es e u k =
    let i : u.i < length es = let a = k.0 in let b = k.1 in omega (arith, a, b) in
    λ x. settled_of u.kind (settled_by (lead_left es (e ∷ []) u.i i x) (lead_left es (e ∷ []) u.j k.1 x))

pub settled_new : (es : List BasisEntry) (e : BasisEntry) (u : Task) → u.j ≡ length es → u.i < length es
    → settled_at (vectors_of (es ++ e ∷ [])) u ≡ settled_of u.kind (settled_by (lead_at (vectors_of es) u.i) (lead_of e.vector))
settled_new es e u j i =
    let second : lead_at (vectors_of (es ++ e ∷ [])) u.j ≡ lead_of e.vector = ap (lead_at (vectors_of (es ++ e ∷ []))) j ∙ lead_end es e in
    λ x. settled_of u.kind (settled_by (lead_left es (e ∷ []) u.i i x) (second x))

none_of : {X : Type 0} (xs : List X) → length xs ≡ 0 → xs ≡ []
none_of [] n = refl
none_of (x ∷ xs) n = absurd (omega (arith, n))

pub none_new : (tasks : Table) → IsTable tasks → tasks.count ≡ 0 → AreNew [] tasks
none_new tasks h n = record {
  table = h;
  count = n;
  over = let p = h.profiles in none_of tasks.profiles (omega (arith, p, n));
  each = λ t k. let a = k.1
      in absurd (omega (arith, a));
}

-- an entry is entered
pub one_new : (es : List BasisEntry) (e : BasisEntry) (tasks : Table) → AreNew es tasks → tasks.count < tasks.room
    → AreNew (es ++ e ∷ []) (grown tasks (settled_row es e.vector) e.vector)
one_new es e tasks a room =
    let n = length-append es (e ∷ []) in
    record {
      table = table_grown tasks es e.vector a.table a.count room;
      count = let c = a.count in omega (arith, n, c);
      over = ap (λ (ps : List Profile). ps ++ profile_of e.vector ∷ []) a.over
          ∙ (sym (map-append profile_of (vectors_of es) (e.vector ∷ [])) ∙ ap (map profile_of) (sym (map-append (λ (z : BasisEntry). z.vector) es (e ∷ []))));
      each = λ u k. elim (older (length es) u (k.0, let z = k.1 in omega (arith, z, n))) [
        | inl o ↦ state_old tasks es e.vector u a.table (o.0, let z = o.1 in let c = a.count in omega (arith, z, c))
            ∙ (a.each u o ∙ ap first_state (sym (settled_old es e u o)))
        | inr (j, i) ↦ state_new tasks es e.vector u a.table a.count j i ∙ ap first_state (sym (settled_new es e u j i))
      ];
    }

pub map_take_more : {A B : Type 0} (f : A → B) (xs : List A) (i : ℕ) (x : A) → i < length xs → x ≡ get_or xs i x
    → map f (take (i + 1) xs) ≡ map f (take i xs) ++ f x ∷ []
map_take_more f xs i x lt read = ap (map f) (take_more xs i x lt) ∙ (map-append f (take i xs) (get_or xs i x ∷ [])
    ∙ ap (λ z. map f (take i xs) ++ f z ∷ []) (sym read))
