-- The tasks that were closed by commits, as a list.
use Rattle.std.proofs.Common.{ℕ, zero, suc, ◌+◌, ◌<◌, ◌≤◌, ◌≡◌, ◌≢◌, inl, inr, arith, refl, ap, ◌∙◌, List, [], ◌∷◌, length, take, true, sum_by, cond}
use Rattle.std.specs.List.{AllByRecursion}
use Rattle.std.proofs.lemmas.List.{take_more}
use Rattle.std.proofs.lemmas.List.Sums.{sum_by_push}
use Rattle.outcomes.specs.declared.tasks.Task.{Task}
use Rattle.task_table.specs.declared.states.TaskState.TheVariants.{Never}
use Rattle.task_table.specs.Tasks.{IsTask, number_of, is_closed_later}
use Rattle.task_table.specs.Tables.{Table, IsTable, state_at, state_of}
use Rattle.pair_book.specs.Books.{closed_once, closed_later}
use Rattle.pair_work.proofs.Reading.{take_whole}
use Rattle.completion_solo.specs.Ends.{AreApart}
use Rattle.completion_solo.proofs.Numbers.{numbered, either}

-- a task with a lower number that a commit has closed
record IsListed (tasks : Table) (n : ℕ) (u : Task) : Type 0 where
  pub task : IsTask tasks.count u
  pub below : number_of u < n
  pub closed : is_closed_later (state_of tasks u) ≡ true

record Listed (tasks : Table) (n : ℕ) : Type 0 where
  pub list : List Task
  pub count : length list ≡ sum_by closed_once (take n tasks.states)
  pub apart : AreApart list
  pub each : AllByRecursion (IsListed tasks n) list

pub all_on : {X : Type 0} (P Q : X → Type 0) (xs : List X) → ((x : X) → P x → Q x) → AllByRecursion P xs → AllByRecursion Q xs
all_on P Q [] f h = tt
all_on P Q (x ∷ xs) f h = (f x h.0, all_on P Q xs f h.1)

listed_more : (tasks : Table) (n : ℕ) (us : List Task) → AllByRecursion (IsListed tasks n) us → AllByRecursion (IsListed tasks (suc n)) us
listed_more tasks n us h = all_on (IsListed tasks n) (IsListed tasks (suc n)) us (λ u k. record {
  task = k.task;
  below = let b = k.below
      in omega (arith, b);
  closed = k.closed;
}) h

sum_more : (tasks : Table) (n : ℕ) → n < length tasks.states → sum_by closed_once (take (suc n) tasks.states)
    ≡ sum_by closed_once (take n tasks.states) + closed_once (state_at tasks.states n)
sum_more tasks n lt =
    let one : suc n ≡ n + 1 = omega arith in
    ap (λ m. sum_by closed_once (take m tasks.states)) one
    ∙ (ap (sum_by closed_once) (take_more tasks.states n Never lt) ∙ sum_by_push closed_once (take n tasks.states) (state_at tasks.states n))

list_more : (tasks : Table) (n : ℕ) → IsTable tasks → n < length tasks.states → Listed tasks n → Listed tasks (suc n)
list_more tasks n h lt l = elim (either (is_closed_later (state_at tasks.states n))) [
  | inl yes_it ↦
      let s = h.states in
      let t = numbered tasks.count n (omega (arith, s, lt)) in
      let more = sum_more tasks n lt in
      let one : closed_once (state_at tasks.states n) ≡ 1 = ap (λ b. cond b 1 0) yes_it in
      let c = l.count in
      let q = t.2 in
      record {
        list = t.0 ∷ l.list;
        count = omega (arith, more, one, c);
        apart = (
          all_on (IsListed tasks n) (λ u. u ≢ t.0) l.list (λ u k e. let b = k.below in let m : number_of u ≡ number_of t.0 = ap number_of e
              in omega (arith, b, m, q)) l.each,
          l.apart,
        );
        each = (
          record { task = t.1; below = omega (arith, q); closed = ap (λ m. is_closed_later (state_at tasks.states m)) q ∙ yes_it },
          listed_more tasks n l.list l.each,
        );
      }
  | inr no_it ↦
      let more = sum_more tasks n lt in
      let none : closed_once (state_at tasks.states n) ≡ 0 = ap (λ b. cond b 1 0) no_it in
      let c = l.count in
      record {
        list = l.list;
        count = omega (arith, more, none, c);
        apart = l.apart;
        each = listed_more tasks n l.list l.each;
      }
]

list_all : (tasks : Table) (n : ℕ) → IsTable tasks → n ≤ length tasks.states → Listed tasks n
list_all tasks zero h le = record { list = []; count = refl; apart = tt; each = tt }
list_all tasks (suc n) h le = list_more tasks n h (omega (arith, le)) (list_all tasks n h (omega (arith, le)))

pub record ClosedOnes (tasks : Table) : Type 0 where
  pub list : List Task
  pub count : length list ≡ closed_later tasks
  pub apart : AreApart list
  pub each : AllByRecursion (λ u. IsTask tasks.count u × (is_closed_later (state_of tasks u) ≡ true)) list

pub closed_ones : (tasks : Table) → IsTable tasks → ClosedOnes tasks
closed_ones tasks h =
    let l = list_all tasks (length tasks.states) h (omega arith) in
    record {
      list = l.list;
      count = l.count ∙ ap (sum_by closed_once) (take_whole tasks.states);
      apart = l.apart;
      each = all_on (IsListed tasks (length tasks.states)) (λ u. IsTask tasks.count u
          × (is_closed_later (state_of tasks u) ≡ true)) l.list (λ u k. (k.task, k.closed)) l.each;
    }
