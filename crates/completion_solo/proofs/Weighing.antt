-- The measure of a completion falls with each round.
use Rattle.std.proofs.Common.{ℕ, suc, ◌+◌, ◌-◌, ◌*◌, ◌<◌, ◌≤◌, ◌≡◌, arith, refl, ap, List, [], ◌∷◌, length, Bool, true, false, subst, sum_by}
use Rattle.std.proofs.lemmas.List.Sums.{sum_by-set, sum_by-cons}
use Rattle.outcomes.specs.declared.tasks.Task.{Task}
use Rattle.task_table.specs.declared.states.TaskState.{TaskState}
use Rattle.task_table.specs.declared.states.TaskState.TheVariants.{Open, Taken, Hard, Closed, Never}
use Rattle.task_table.specs.Tasks.{IsTask, tasks_below, number_of, is_open, is_taken}
use Rattle.task_table.specs.Tables.{Table, IsTable, state_at, state_of, put}
use Rattle.task_table.proofs.Counting.{number_within, tasks_few}
use Rattle.pair_book.specs.Books.{Held, IsBook}
use Rattle.pair_book.proofs.Bounds.{entries_few}
use Rattle.completion_solo.specs.Rounds.{weight, weigh, left}
use Rattle.completion_solo.proofs.Numbers.{numbered}

pub open_weight : (s : TaskState) → is_open s ≡ true → weight s ≡ 2
open_weight Open e = refl
open_weight Taken e = cc
open_weight Hard e = cc
open_weight Closed e = cc
open_weight Never e = cc

pub taken_weight : (s : TaskState) → is_taken s ≡ true → weight s ≡ 2
taken_weight Open e = cc
taken_weight Taken e = refl
taken_weight Hard e = cc
taken_weight Closed e = cc
taken_weight Never e = cc

pub one_weight : (s : TaskState) → weight s ≤ 2
one_weight Open = omega arith
one_weight Taken = omega arith
one_weight Hard = omega arith
one_weight Closed = omega arith
one_weight Never = omega arith

pub weigh_most : (states : List TaskState) → sum_by weight states ≤ length states + length states
weigh_most [] = omega arith
weigh_most (s ∷ ss) = let h = weigh_most ss in let c = sum_by-cons weight s ss in let d = one_weight s in omega (arith, h, c, d)

-- a task's state is written
pub weigh_put : (tasks : Table) (t : Task) (s : TaskState) → IsTable tasks → IsTask tasks.count t
    → sum_by weight (put tasks t s).states + weight (state_of tasks t) ≡ sum_by weight tasks.states + weight s
weigh_put tasks t s h k = let w = number_within t tasks.count k in let r = h.states
    in sum_by-set weight tasks.states (number_of t) s Never (omega (arith, w, r))

each_lower : (xs ys : List TaskState) → length ys ≡ length xs → ((k : ℕ) → k < length xs → weight (state_at ys k) ≤ weight (state_at xs k))
    → sum_by weight ys ≤ sum_by weight xs
each_lower [] [] e h = omega arith
each_lower [] (y ∷ ys) e h = absurd (omega (arith, e))
each_lower (x ∷ xs) [] e h = absurd (omega (arith, e))
each_lower (x ∷ xs) (y ∷ ys) e h =
    let a = sum_by-cons weight x xs in
    let b = sum_by-cons weight y ys in
    let first : weight y ≤ weight x = h 0 (omega arith) in
    let others = each_lower xs ys (omega (arith, e)) (λ k lt. h (suc k) (omega (arith, lt))) in
    omega (arith, a, b, first, others)

-- where no task weighs more, all of them don't
pub lower : (old new : Table) → IsTable old → IsTable new → new.count ≡ old.count
    → ((u : Task) → IsTask old.count u → weight (state_of new u) ≤ weight (state_of old u)) → sum_by weight new.states ≤ sum_by weight old.states
lower old new a b n h =
    let s = a.states in
    let r = b.states in
    let same : tasks_below new.count ≡ tasks_below old.count = ap tasks_below n in
    each_lower old.states new.states (omega (arith, s, r, same)) (λ k lt.
    let x = numbered old.count k (omega (arith, s, lt)) in
    subst (λ m. weight (state_at new.states m) ≤ weight (state_at old.states m)) x.2 (h x.0 x.1))

-- all states together weigh little
pub weigh_bound : (h : Held) → IsBook h → weigh h ≤ 33546240
weigh_bound h b =
    let m = weigh_most h.tasks.states in
    let r = b.table.states in
    let few = entries_few h b in
    let n = b.count in
    let t = tasks_few h.tasks.count (omega (arith, few, n)) in
    omega (arith, m, r, t)

same_length : (old new : Held) → new.entries ≡ old.entries → (4096 - length new.entries) * 67200000 ≡ (4096 - length old.entries) * 67200000
same_length old new e = ap (λ es. (4096 - length es) * 67200000) e

pub left_lower : (old new : Held) (stale : Bool) → new.entries ≡ old.entries → weigh new < weigh old → left new stale < left old stale
left_lower old new stale e w = let m = same_length old new e in omega (arith, m, w)

pub left_same : (old new : Held) (stale : Bool) → new.entries ≡ old.entries → weigh new ≡ weigh old → left new stale ≡ left old stale
left_same old new stale e w = let m = same_length old new e in omega (arith, m, w)

pub left_opened : (old new : Held) → IsBook new → new.entries ≡ old.entries → left new false < left old true
left_opened old new b e = let m = same_length old new e in let q = weigh_bound new b in omega (arith, m, q)

pub left_longer : (old new : Held) (stale : Bool) → IsBook new → length new.entries ≡ length old.entries + 1 → left new true < left old stale
left_longer old new stale b n = let few = entries_few new b in let q = weigh_bound new b in omega (arith, n, few, q)
