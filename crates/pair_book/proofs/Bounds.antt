-- Counts that stay small.
use Rattle.std.proofs.Common.{◌*◌, ◌≤◌, arith, List, [], ◌∷◌, length}
use Rattle.std.proofs.lemmas.List.Sums.{sum_by-cons}
use Rattle.std.specs.List.{AllByRecursion, sum_by}
use Rattle.task_table.specs.declared.states.TaskState.{TaskState}
use Rattle.task_table.specs.declared.states.TaskState.TheVariants.{Open, Taken, Hard, Closed, Never}
use Rattle.task_table.proofs.Counting.{tasks_few}
use Rattle.basis_entry.specs.Entries.{BasisEntry, IsBasisEntry}
use Rattle.pair_work.specs.Outcomes.{IsShort, recipe_steps}
use Rattle.pair_book.specs.LogEntries.{terms_of, steps_of}
use Rattle.pair_book.specs.Books.{Held, IsBook, closed_once}

pub terms_small : (es : List BasisEntry) → AllByRecursion IsBasisEntry es → terms_of es ≤ length es * 50000
terms_small [] all = omega arith
terms_small (e ∷ es) all =
    let c = sum_by-cons (λ (z : BasisEntry). length z.vector) e es in let h = terms_small es all.1 in let m = all.0.entry.vector.most in omega (arith, c, h, m)

pub steps_small : (es : List BasisEntry) → AllByRecursion IsShort es → steps_of es ≤ length es * 100002
steps_small [] all = omega arith
steps_small (e ∷ es) all =
    let c = sum_by-cons (λ (z : BasisEntry). recipe_steps z.recipe) e es in let h = steps_small es all.1 in let m = all.0 in omega (arith, c, h, m)

once_most : (s : TaskState) → closed_once s ≤ 1
once_most Open = omega arith
once_most Taken = omega arith
once_most Hard = omega arith
once_most Closed = omega arith
once_most Never = omega arith

closed_most : (states : List TaskState) → sum_by closed_once states ≤ length states
closed_most [] = omega arith
closed_most (s ∷ ss) = let h = closed_most ss in let c = sum_by-cons closed_once s ss in let d = once_most s in omega (arith, h, c, d)

pub entries_few : (h : Held) → IsBook h → length h.entries ≤ 4096
entries_few h b = let w = b.within in let m = b.table.most in let r = b.room in omega (arith, w, m, r)

pub commits_few : (h : Held) → IsBook h → h.commits ≤ 16777216
commits_few h b =
    let few = entries_few h b in let n = b.count in
    let s = b.table.states in let t = tasks_few h.tasks.count (omega (arith, few, n)) in
    let m = closed_most h.tasks.states in let o = b.commits in
    omega (arith, few, s, t, m, o)
