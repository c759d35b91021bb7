-- Queues of open tasks, and cheapest tasks.
use Rattle.std.proofs.Common.{ℕ, ◌+◌, ◌<◌, ◌≤◌, ◌≡◌, ◌≢◌, ◌⊎◌, inl, inr, arith, refl, sym, ap, ◌∙◌, subst, List, [], length, map, Bool, true, false, Option}
use Rattle.std.proofs.Common.{Some, None, get_or, slice_set, ◌++◌, ◌∷◌}
use Rattle.std.specs.List.{Contains, AllByRecursion}
use Rattle.std.proofs.lemmas.List.{length-map}
use Rattle.module_vec.specs.declared.places.Term.{Term}
use Rattle.outcomes.specs.declared.tasks.Task.{Task}
use Rattle.task_table.specs.declared.profiles.Profile.{Profile}
use Rattle.task_table.specs.declared.states.TaskState.{TaskState}
use Rattle.task_table.specs.declared.states.Wanted.{Wanted}
use Rattle.task_table.specs.declared.states.Wanted.TheVariants.{OpenOnes}
use Rattle.task_table.specs.declared.order.Order.TheVariants.{ByCost}
use Rattle.task_table.specs.Keys.{AreQueued, key_of}
use Rattle.task_table.specs.Orders.{Before}
use Rattle.task_table.specs.Profiles.{IsProfile, profile_of}
use Rattle.task_table.specs.Queueing.{FindsCheapestBelow, FindsCheapest, AreQueuedBut, AreQueuedBelow}
use Rattle.task_table.specs.Queues.{HasMore, IsLeastOf}
use Rattle.task_table.specs.Tables.{Table, IsTable, FindsLeast, state_at}
use Rattle.task_table.specs.Tasks.{IsTask, number_of, tasks_below, is_open, is_wanted}
use Rattle.std.proofs.lemmas.List.{get_or-set_same, get_or-set_other, get_or_append_left}
use Rattle.task_table.proofs.Counting.{number_within, row_within, tasks_below_grow}
use Rattle.task_table.proofs.Costing.{keys_apart, keys_stay, lower_key}
use Rattle.task_table.proofs.Ordering.{three, numbers_apart}
use Rattle.task_table.proofs.Putting.{same_number}
use Rattle.task_table.proofs.Reading.{any_default}
use Rattle.task_table.specs.declared.states.TaskState.TheVariants.{Never}

pub either : (b : Bool) → (b ≡ true) ⊎ (b ≡ false)
either true = inl refl
either false = inr refl

not_both : (b : Bool) → b ≡ true → b ≡ false → ⊥
not_both b p q = let e : true ≡ false = sym p ∙ q in cc

-- ---- taking from the queue

module _ (profiles : List Profile) (few : length profiles ≤ 4096) (states : List TaskState) where
  apart : (t u : Task) → IsTask (length profiles) t → IsTask (length profiles) u → key_of profiles u ≡ key_of profiles t → u ≡ t
  apart t u h k e =
      let a = h.0 in let b = h.1 in let c = k.0 in let d = k.1 in
      keys_apart profiles u t (omega (arith, c, d, few)) (omega (arith, d, few)) (omega (arith, a, b, few)) (omega (arith, b, few)) e

  -- what was queued before t was taken is queued or t
  pub left_queued : (t : Task) (old new : List ℕ) → IsTask (length profiles) t → HasMore new (key_of profiles t) old → AreQueued profiles states old
      → AreQueuedBut t profiles states new
  left_queued t old new h more queued u k ne opens = elim (more.only (key_of profiles u) (queued u k opens)) [
    | inl e ↦ absurd (ne (apart t u h k e))
    | inr c ↦ c
  ]

  pub passed : (t : Task) (old new : List ℕ) → IsTask (length profiles) t → HasMore new (key_of profiles t) old → AreQueued profiles states old
      → is_open (state_at states (number_of t)) ≡ false → AreQueued profiles states new
  passed t old new h more queued shut u k opens = elim (more.only (key_of profiles u) (queued u k opens)) [
    | inl e ↦
        let same : u ≡ t = apart t u h k e in
        absurd (not_both (is_open (state_at states (number_of u))) opens (ap (λ (z : Task). is_open (state_at states (number_of z))) same ∙ shut))
    | inr c ↦ c
  ]

  pub found_cheapest : (t : Task) (old : List ℕ) → IsTask (length profiles) t → IsLeastOf old (key_of profiles t) → AreQueued profiles states old
      → is_open (state_at states (number_of t)) ≡ true → FindsCheapest OpenOnes profiles states (Some t)
  found_cheapest t old h least queued opens = record {
    task = h;
    is = opens;
    cheapest = λ u k lt is. least.least (key_of profiles u) (queued u k is);
  }

  pub none_open : (old : List ℕ) → old ≡ [] → AreQueued profiles states old → FindsCheapest OpenOnes profiles states None
  none_open old none queued u k lt = elim (either (is_open (state_at states (number_of u)))) [
    | inr f ↦ f
    | inl t ↦ let c = queued u k t in let n = ap length none in let l = c.1 in absurd (omega (arith, l, n))
  ]

-- ---- one task after another

-- a task with the number n is this one
pub at_number : (t u : Task) (n : ℕ) → t.i < t.j → u.i < u.j → number_of t ≡ n → number_of u < n + 1 → (number_of u < n) ⊎ (u ≡ t)
at_number t u n a b e lt = elim (three (number_of u) n) [
  | inl p ↦ inl p
  | inr q ↦ elim q [
    | inl p ↦ inr (same_number u t b a (p ∙ sym e))
    | inr p ↦ absurd (omega (arith, p, lt))
  ]
]

-- a task whose number is below that of all tasks is a task
pub task_within : (t : Task) (count : ℕ) → t.i < t.j → number_of t < tasks_below count → IsTask count t
task_within t count h lt = (h, row_within t.j (number_of t) count (omega arith) lt)

-- ---- the cheapest of two

module _ (wanted : Wanted) (profiles : List Profile) (states : List TaskState) (t : Task) (h : IsTask (length profiles) t) where
  pub not_wanted : (best : Option Task) → is_wanted wanted (state_at states (number_of t)) ≡ false
      → FindsCheapestBelow (number_of t) wanted profiles states best → FindsCheapestBelow (number_of t + 1) wanted profiles states best
  not_wanted None not below = λ u k lt. elim (at_number t u (number_of t) h.0 k.0 refl lt) [
    | inl l ↦ below u k l
    | inr e ↦ ap (λ (z : Task). is_wanted wanted (state_at states (number_of z))) e ∙ not
  ]
  not_wanted (Some b) not below = record {
    task = below.task;
    is = below.is;
    cheapest = λ u k lt is. elim (at_number t u (number_of t) h.0 k.0 refl lt) [
      | inl l ↦ below.cheapest u k l is
      | inr e ↦ absurd (not_both (is_wanted wanted (state_at states (number_of u))) is
          (ap (λ (z : Task). is_wanted wanted (state_at states (number_of z))) e ∙ not))
    ];
  }

  pub first_wanted : is_wanted wanted (state_at states (number_of t)) ≡ true → FindsCheapestBelow (number_of t) wanted profiles states None
      → FindsCheapestBelow (number_of t + 1) wanted profiles states (Some t)
  first_wanted is none = record {
    task = h;
    is = is;
    cheapest = λ u k lt wants. elim (at_number t u (number_of t) h.0 k.0 refl lt) [
      | inl l ↦ absurd (not_both (is_wanted wanted (state_at states (number_of u))) wants (none u k l))
      | inr e ↦ let same : key_of profiles t ≡ key_of profiles u = ap (key_of profiles) (sym e) in omega (arith, same)
    ];
  }

  pub stays_cheapest : (b : Task) → key_of profiles b ≤ key_of profiles t → FindsCheapestBelow (number_of t) wanted profiles states (Some b)
      → FindsCheapestBelow (number_of t + 1) wanted profiles states (Some b)
  stays_cheapest b le below = record {
    task = below.task;
    is = below.is;
    cheapest = λ u k lt wants. elim (at_number t u (number_of t) h.0 k.0 refl lt) [
      | inl l ↦ below.cheapest u k l wants
      | inr e ↦ let same : key_of profiles t ≡ key_of profiles u = ap (key_of profiles) (sym e) in omega (arith, same, le)
    ];
  }

  pub now_cheapest : (b : Task) → key_of profiles t < key_of profiles b → is_wanted wanted (state_at states (number_of t)) ≡ true
      → FindsCheapestBelow (number_of t) wanted profiles states (Some b) → FindsCheapestBelow (number_of t + 1) wanted profiles states (Some t)
  now_cheapest b lower is below = record {
    task = h;
    is = is;
    cheapest = λ u k lt wants. elim (at_number t u (number_of t) h.0 k.0 refl lt) [
      | inl l ↦ let c = below.cheapest u k l wants in omega (arith, c, lower)
      | inr e ↦ let same : key_of profiles t ≡ key_of profiles u = ap (key_of profiles) (sym e) in omega (arith, same)
    ];
  }

-- ---- by cost, the cheapest task is the least

pub least_found : (wanted : Wanted) (entries : List (List Term)) (table : Table) (found : Option Task) → IsTable table → table.order ≡ ByCost
    → table.profiles ≡ map profile_of entries → AllByRecursion IsProfile table.profiles → FindsCheapest wanted table.profiles table.states found
    → FindsLeast wanted entries table found
least_found wanted entries table None h by over all finds = λ u k.
    let e = h.profiles in let s = h.states in
    let within = number_within u table.count k in
    let k0 = k.0 in let k1 = k.1 in
    finds u (k0, omega (arith, k1, e)) (omega (arith, within, s))
least_found wanted entries table (Some t) h by over all finds =
    let e = h.profiles in let s = h.states in
    let n = length-map entries profile_of in
    let o = ap length over in
    let t0 = finds.task.0 in let t1 = finds.task.1 in record {
      task = (t0, omega (arith, t1, e));
      is = finds.is;
      before = λ u k b. elim (either (is_wanted wanted (state_at table.states (number_of u)))) [
        | inr f ↦ f
        | inl w ↦
            let k0 = k.0 in let k1 = k.1 in
            let within = number_within u table.count k in
            let c = finds.cheapest u (k0, omega (arith, k1, e)) (omega (arith, within, s)) w in
            let low = lower_key entries u t (subst (AllByRecursion IsProfile) over all) (omega (arith, n, o, e, h.within, h.most))
            (k0, omega (arith, k1, n, o, e))
            (subst (λ z. Before z entries u t) by b) (t0, omega (arith, t1, n, o)) in
            let c2 = subst (λ (ps : List Profile). key_of ps t ≤ key_of ps u) over c in
            absurd (omega (arith, low, c2))
      ];
    }

-- ---- what the calls read

pub is_read : (wanted : Wanted) (states : List TaskState) (t : Task) (n : ℕ) (d : TaskState) (r : Bool) → n ≡ number_of t → n < length states
    → r ≡ is_wanted wanted (get_or states n d) → is_wanted wanted (state_at states (number_of t)) ≡ r
is_read wanted states t n d r e h q =
    let same : get_or states n d ≡ state_at states (number_of t) = any_default states n d Never h ∙ ap (λ k. state_at states k) e in
    sym (q ∙ ap (is_wanted wanted) same)

pub none_below_one : tasks_below 1 ≡ 0
unfolding tasks_below
none_below_one = refl

pub queued_before : (profiles : List Profile) (states : List TaskState) (t : Task) → IsTask (length profiles) t → (numbers : List ℕ)
    → Contains numbers (key_of profiles t) → AreQueuedBut t profiles states numbers → AreQueued profiles states numbers
queued_before profiles states t h numbers there others u k opens = elim (numbers_apart t u h.0 k.0) [
  | inl e ↦ subst (λ (z : Task). Contains numbers (key_of profiles z)) (sym e) there
  | inr ne ↦ others u k (λ e. ne (ap number_of e)) opens
]

pub queued_shut : (profiles : List Profile) (states : List TaskState) (t : Task) → IsTask (length profiles) t → (numbers : List ℕ)
    → is_open (state_at states (number_of t)) ≡ false → AreQueuedBut t profiles states numbers → AreQueued profiles states numbers
queued_shut profiles states t h numbers shut others u k opens = elim (numbers_apart t u h.0 k.0) [
  | inl e ↦ absurd (not_both (is_open (state_at states (number_of u))) opens (ap (λ (z : Task). is_open (state_at states (number_of z))) e ∙ shut))
  | inr ne ↦ others u k (λ e. ne (ap number_of e)) opens
]

-- ---- what a table keeps

other_state : (states : List TaskState) (t u : Task) (s : TaskState) → number_of u ≢ number_of t
    → state_at (slice_set states (number_of t) s) (number_of u) ≡ state_at states (number_of u)
other_state states t u s ne = get_or-set_other states (number_of t) (number_of u) s Never ne

-- after a write at t every other open task is still queued
pub put_but : (profiles : List Profile) (states : List TaskState) (t : Task) (s : TaskState) (numbers : List ℕ) → IsTask (length profiles) t
    → AreQueued profiles states numbers → AreQueuedBut t profiles (slice_set states (number_of t) s) numbers
put_but profiles states t s numbers h queued u k ne opens = elim (numbers_apart t u h.0 k.0) [
  | inl e ↦ absurd (ne e)
  | inr other ↦ queued u k (ap is_open (sym (other_state states t u s other)) ∙ opens)
]

-- where t alone isn't queued and is no longer open, all open tasks are queued
pub put_shut : (profiles : List Profile) (states : List TaskState) (t : Task) (s : TaskState) (numbers : List ℕ) → IsTask (length profiles) t
    → number_of t < length states → is_open s ≡ false → AreQueuedBut t profiles states numbers → AreQueued profiles (slice_set states (number_of t) s) numbers
put_shut profiles states t s numbers h lt shut others u k opens = elim (numbers_apart t u h.0 k.0) [
  | inl e ↦
      let new : List TaskState = slice_set states (number_of t) s in
      let same : state_at new (number_of u) ≡ s = ap (λ (z : Task). state_at new (number_of z)) e ∙ get_or-set_same states (number_of t) s Never lt in
      absurd (not_both (is_open (state_at new (number_of u))) opens (ap is_open same ∙ shut))
  | inr other ↦ others u k (λ e. other (ap number_of e)) (ap is_open (sym (other_state states t u s other)) ∙ opens)
]

-- where a row is pushed, the open tasks before it are still queued
pub still_queued : (profiles : List Profile) (f : Profile) (states row : List TaskState) (numbers : List ℕ) (count : ℕ) → length profiles ≡ count
    → length states ≡ tasks_below count → AreQueued profiles states numbers → AreQueuedBelow (tasks_below count) (profiles ++ f ∷ []) (states ++ row) numbers
still_queued profiles f states row numbers count n l queued u k lt opens =
    let w = task_within u count k.0 lt in
    let w0 = w.0 in let w1 = w.1 in
    let v : IsTask (length profiles) u = (w0, omega (arith, w1, n)) in
    let same : state_at (states ++ row) (number_of u) ≡ state_at states (number_of u) =
    get_or_append_left states row Never (number_of u) (omega (arith, lt, l)) in
    let q = queued u v (ap is_open (sym same) ∙ opens) in
    subst (Contains numbers) (sym (keys_stay profiles f u v)) q

-- there is room for all tasks of a log
pub room_for : (count n room : ℕ) → count ≡ n → n ≤ room → (q : ℕ) → tasks_below room ≤ q → tasks_below count ≤ q
room_for count n room e le q h = let g = tasks_below_grow count room (omega (arith, e, le)) in omega (arith, g, h)
