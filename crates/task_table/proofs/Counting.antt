-- The numbers of tasks.
use Rattle.std.proofs.Common.{ℕ, zero, suc, ◌+◌, ◌-◌, ◌*◌, ◌<◌, ◌≤◌, ◌≡◌, ◌⊎◌, inl, inr, arith, refl, sym}
use Rattle.outcomes.specs.declared.tasks.Task.{Task}
use Rattle.outcomes.specs.declared.kinds.PairKind.{PairKind}
use Rattle.outcomes.specs.declared.kinds.PairKind.TheVariants.{S, G}
use Rattle.task_table.specs.Tasks.{IsTask, tasks_below, number_of, kind_number}

pub tasks_below_next : (j : ℕ) → tasks_below (j + 1) ≡ tasks_below j + (j + j)
unfolding tasks_below
tasks_below_next j = let e : j + 1 ≡ suc j = omega arith in rw e refl

tasks_below_suc : (j : ℕ) → tasks_below (suc j) ≡ suc j * j
unfolding tasks_below
tasks_below_suc zero = omega arith
tasks_below_suc (suc j) = let h : tasks_below j + (j + j) ≡ suc j * j = tasks_below_suc j in omega (arith, h)

pub tasks_below_value : (j : ℕ) → j * (j - 1) ≡ tasks_below j
unfolding tasks_below
tasks_below_value zero = refl
tasks_below_value (suc j) = let h : tasks_below j + (j + j) ≡ suc j * j = tasks_below_suc j in let e : suc j - 1 ≡ j = omega arith in rw e (sym h)

pub tasks_below_none : (j : ℕ) → j ≡ 0 → 0 ≡ tasks_below j
unfolding tasks_below
tasks_below_none j e = rw e refl

tasks_below_more : (j k : ℕ) → tasks_below j ≤ tasks_below (j + k)
unfolding tasks_below
tasks_below_more j zero = let e : j + 0 ≡ j = omega arith in rw e (omega arith)
tasks_below_more j (suc k) = let e : j + suc k ≡ suc (j + k) = omega arith in let h = tasks_below_more j k in rw e (omega (arith, h))

pub tasks_below_grow : (j k : ℕ) → j ≤ k → tasks_below j ≤ tasks_below k
tasks_below_grow j k h = let e : j + (k - j) ≡ k = omega arith in let g = tasks_below_more j (k - j)
    in let m : tasks_below (j + (k - j)) ≡ tasks_below k = rw e refl in omega (arith, g, m)

pub kind_small : (k : PairKind) → kind_number k ≤ 1
kind_small G = omega arith
kind_small S = omega arith

-- the number of a task is below that of all tasks
pub number_within : (t : Task) (count : ℕ) → IsTask count t → number_of t < tasks_below count
number_within t count h =
    let a = tasks_below_next t.j in
    let b = tasks_below_grow (t.j + 1) count (omega (arith, h.1)) in
    let c = kind_small t.kind in
    omega (arith, h.0, a, b, c)

pub at_most : (j count : ℕ) → (j < count) ⊎ (count ≤ j)
at_most j count = grind arith

-- a row that begins before the end is one of the table's
pub row_within : (j at count : ℕ) → tasks_below j ≤ at → at < tasks_below count → j < count
row_within j at count a b = elim (at_most j count) [ inl h ↦ h | inr h ↦ let g = tasks_below_grow count j h in absurd (omega (arith, a, b, g)) ]

pub tasks_few : (count : ℕ) → count ≤ 4096 → tasks_below count ≤ 16773120
tasks_few count h = let a = tasks_below_grow count 4096 h in let b = tasks_below_value 4096 in omega (arith, a, b)
