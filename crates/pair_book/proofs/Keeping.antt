-- What a book keeps when states change.
use Rattle.std.proofs.Common.{ℕ, ◌+◌, ◌≤◌, ◌≡◌, ◌⊎◌, inl, inr, arith, refl, sym, ap, ◌∙◌, List, [], ◌∷◌, length, map, Bool, true, false, Option, Some, None}
use Rattle.std.proofs.Common.{subst, sum_by}
use Rattle.std.proofs.lemmas.List.{length-set, length-map}
use Rattle.std.proofs.lemmas.List.Sums.{sum_by-set, sum_by-cons}
use Rattle.outcomes.specs.declared.tasks.Task.{Task}
use Rattle.strong_pairs.specs.Pairs.{IsPair}
use Rattle.strong_pairs.specs.Tasks.{IsClosed}
use Rattle.task_table.specs.declared.states.TaskState.{TaskState}
use Rattle.task_table.specs.declared.states.TaskState.TheVariants.{Open, Taken, Hard, Closed, Never}
use Rattle.task_table.specs.declared.states.Reopened.{Reopened}
use Rattle.task_table.specs.declared.states.Reopened.TheVariants.{HardOnes, TakenOnes}
use Rattle.task_table.specs.declared.states.Wanted.TheVariants.{Unclosed}
use Rattle.task_table.specs.Tasks.{IsTask, number_of, is_open, is_taken, is_unclosed, is_never, reopened}
use Rattle.task_table.specs.Tables.{Table, IsTable, Takes, NoneIs, state_of, put, reopen}
use Rattle.task_table.proofs.Counting.{number_within}
use Rattle.task_table.proofs.Putting.{put_same, put_other}
use Rattle.task_table.proofs.Hinting.{state_reopened, unclosed_reopened}
use Rattle.basis_entry.specs.Entries.{vectors_of}
use Rattle.basis_entry.specs.Seals.{Seal}
use Rattle.pair_book.specs.Books.{Held, IsBook, IsSealedBy, IsTaken, with_state, closed_once, given_state}

no_true : (b : Bool) → b ≡ true → b ≡ false → ⊥
no_true b p q = cc

not_closed : (s : TaskState) → is_unclosed s ≡ true → closed_once s ≡ 0
not_closed Open e = refl
not_closed Taken e = refl
not_closed Hard e = refl
not_closed Closed e = cc
not_closed Never e = cc

not_never : (s : TaskState) → is_unclosed s ≡ true → is_never s ≡ false
not_never Open e = refl
not_never Taken e = refl
not_never Hard e = refl
not_never Closed e = cc
not_never Never e = cc

pub open_unclosed : (s : TaskState) → is_open s ≡ true → is_unclosed s ≡ true
open_unclosed Open e = refl
open_unclosed Taken e = cc
open_unclosed Hard e = cc
open_unclosed Closed e = cc
open_unclosed Never e = cc

pub taken_unclosed : (s : TaskState) → is_taken s ≡ true → is_unclosed s ≡ true
taken_unclosed Open e = cc
taken_unclosed Taken e = refl
taken_unclosed Hard e = cc
taken_unclosed Closed e = cc
taken_unclosed Never e = cc

pub task_in : (h : Held) (t : Task) → IsBook h → IsTask (length h.entries) t → IsTask h.tasks.count t
task_in h t b k = let n = b.count in let z = k.1 in (k.0, omega (arith, n, z))

pub task_out : (h : Held) (t : Task) → IsBook h → IsTask h.tasks.count t → IsTask (length h.entries) t
task_out h t b k = let n = b.count in let z = k.1 in (k.0, omega (arith, n, z))

-- what is read after one state was written
pub put_read : (tasks : Table) (t u : Task) (s : TaskState) → IsTable tasks → IsTask tasks.count t → IsTask tasks.count u →
    (state_of (put tasks t s) u ≡ state_of tasks u) ⊎ ((u ≡ t) × (state_of (put tasks t s) u ≡ s))
put_read tasks t u s h k m = elim (put_other tasks t u s h k m) [
  | inl e ↦ inl e
  | inr e ↦ inr (e, ap (state_of (put tasks t s)) e ∙ put_same tasks t s h k)
]

seal_gone : (h new : Held) (seal : Option Seal) → (NoneIs Unclosed h.tasks → ⊥) → IsSealedBy h seal → IsSealedBy new seal
seal_gone h new None open_one is = tt
seal_gone h new (Some s) open_one is = absurd (open_one is.1)

seal_kept : (h new : Held) (seal : Option Seal) → new.source ≡ h.source → new.entries ≡ h.entries → (NoneIs Unclosed h.tasks → NoneIs Unclosed new.tasks)
    → IsSealedBy h seal → IsSealedBy new seal
seal_kept h new None p q keep is = tt
seal_kept h new (Some s) p q keep is = (is.0 ∙ (λ i. record { source = sym p i; entries = sym q i }), keep is.1)

pub table_put : (tasks : Table) (t : Task) (s : TaskState) → IsTable tasks → IsTable (put tasks t s)
table_put tasks t s h = record { states = length-set tasks.states (number_of t) s ∙ h.states; profiles = h.profiles; within = h.within; most = h.most }

-- an unclosed task gets another state
pub book_put : (h : Held) (t : Task) (s : TaskState) (commits : ℕ) → IsBook h → IsTask (length h.entries) t → is_unclosed (state_of h.tasks t) ≡ true
    → is_never s ≡ false →
    (is_unclosed s ≡ false → IsPair (vectors_of h.entries) t.i t.j → IsClosed (vectors_of h.entries) t.kind t.i t.j) → commits ≤ h.commits + closed_once s
    → IsBook (record (with_state h t s) { commits = commits })
book_put h t s commits b k was never shown more =
    let m = task_in h t b k in
    record {
      lawful = b.lawful;
      short = b.short;
      within = b.within;
      terms = b.terms;
      steps = b.steps;
      table = table_put h.tasks t s b.table;
      order = b.order;
      count = b.count;
      over = b.over;
      room = b.room;
      truly = λ u ku c. elim (put_read h.tasks t u s b.table m (task_in h u b ku)) [
        | inl e ↦ b.truly u ku (sym (ap is_unclosed e) ∙ c)
        | inr (e, f) ↦ subst (λ (x : Task). IsPair (vectors_of h.entries) x.i x.j
            → IsClosed (vectors_of h.entries) x.kind x.i x.j) (sym e) (shown (sym (ap is_unclosed f) ∙ c))
      ];
      settled = λ u ku. elim (put_read h.tasks t u s b.table m (task_in h u b ku)) [
        | inl e ↦ ap is_never e ∙ b.settled u ku
        | inr (e, f) ↦ ap is_never f ∙ (never ∙ (sym (not_never (state_of h.tasks t) was)
            ∙ (sym (ap (λ (z : Task). is_never (state_of h.tasks z)) e) ∙ b.settled u ku)))
      ];
      commits = let w = number_within t h.tasks.count m in let r = b.table.states in
          let e = sum_by-set closed_once h.tasks.states (number_of t) s Never (omega (arith, w, r)) in
          let z = not_closed (state_of h.tasks t) was in
          let o = b.commits in omega (arith, e, z, o, more);
      seal = seal_gone h (record (with_state h t s) { commits = commits }) h.seal (λ n. no_true (is_unclosed (state_of h.tasks t)) was (n t m)) b.seal;
    }

-- a task is taken
pub book_take : (h : Held) (answer : Option Task) (new : Table) → IsBook h → Takes (vectors_of h.entries) h.tasks answer new → IsBook (record h { tasks = new })
book_take h None new b k = subst (λ (t : Table). IsBook (record h { tasks = t })) (sym k.1) b
book_take h (Some t) new b k = subst (λ (z : Table). IsBook (record h { tasks = z })) (sym k.1)
    (book_put h t Taken h.commits b (task_out h t b k.0.task) (open_unclosed (state_of h.tasks t) k.0.is) refl (λ e. absurd (cc)) (omega arith))

given_never : (hard : Bool) → is_never (given_state hard) ≡ false
given_never true = refl
given_never false = refl

given_unclosed : (hard : Bool) → is_unclosed (given_state hard) ≡ true
given_unclosed true = refl
given_unclosed false = refl

-- a taken task is given back
pub book_given : (h : Held) (t : Task) (hard : Bool) → IsBook h → IsTaken h t → IsBook (with_state h t (given_state hard))
book_given h t hard b k = book_put h t (given_state hard) h.commits b k.0 (taken_unclosed (state_of h.tasks t) k.1) (given_never hard)
    (λ e. absurd (no_true (is_unclosed (given_state hard)) (given_unclosed hard) e)) (omega arith)

once_reopened : (from : Reopened) (s : TaskState) → closed_once (reopened from s) ≡ closed_once s
once_reopened HardOnes Open = refl
once_reopened HardOnes Taken = refl
once_reopened HardOnes Hard = refl
once_reopened HardOnes Closed = refl
once_reopened HardOnes Never = refl
once_reopened TakenOnes Open = refl
once_reopened TakenOnes Taken = refl
once_reopened TakenOnes Hard = refl
once_reopened TakenOnes Closed = refl
once_reopened TakenOnes Never = refl

is_never_reopened : (from : Reopened) (s : TaskState) → is_never (reopened from s) ≡ is_never s
is_never_reopened HardOnes Open = refl
is_never_reopened HardOnes Taken = refl
is_never_reopened HardOnes Hard = refl
is_never_reopened HardOnes Closed = refl
is_never_reopened HardOnes Never = refl
is_never_reopened TakenOnes Open = refl
is_never_reopened TakenOnes Taken = refl
is_never_reopened TakenOnes Hard = refl
is_never_reopened TakenOnes Closed = refl
is_never_reopened TakenOnes Never = refl

once_all : (from : Reopened) (states : List TaskState) → sum_by closed_once (map (reopened from) states) ≡ sum_by closed_once states
once_all from [] = refl
once_all from (s ∷ ss) =
    sum_by-cons closed_once (reopened from s) (map (reopened from) ss)
    ∙ ((λ i. once_reopened from s i + once_all from ss i) ∙ sym (sum_by-cons closed_once s ss))

-- all hard or all taken tasks are opened
pub book_reopened : (h : Held) (from : Reopened) → IsBook h → IsBook (record h { tasks = reopen from h.tasks })
book_reopened h from b = record {
  lawful = b.lawful;
  short = b.short;
  within = b.within;
  terms = b.terms;
  steps = b.steps;
  table = record {
    states = length-map h.tasks.states (reopened from) ∙ b.table.states;
    profiles = b.table.profiles;
    within = b.table.within;
    most = b.table.most;
  };
  order = b.order;
  count = b.count;
  over = b.over;
  room = b.room;
  truly = λ u k c. b.truly u k (sym (unclosed_reopened from (state_of h.tasks u))
      ∙ (sym (ap is_unclosed (state_reopened from h.tasks.states (number_of u))) ∙ c));
  settled = λ u k. ap is_never (state_reopened from h.tasks.states (number_of u)) ∙ (is_never_reopened from (state_of h.tasks u) ∙ b.settled u k);
  commits = let e = once_all from h.tasks.states in let o = b.commits in omega (arith, e, o);
  seal = seal_kept h (record h { tasks = reopen from h.tasks }) h.seal refl refl (λ n u k. ap is_unclosed (state_reopened from h.tasks.states (number_of u))
      ∙ (unclosed_reopened from (state_of h.tasks u) ∙ n u k)) b.seal;
}
