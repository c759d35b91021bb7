-- The tasks that the chain rule closes behind a commit.
use Rattle.std.specs.Prelude.{◌≡◌, ◌≢◌, ◌⊎◌, ◌↔◌, ℕ, ◌+◌, ◌<◌, ◌≤◌, Option, Some, None, Bool, true, false, cond, nat_lt}
use Rattle.std.specs.Prelude.{List, length}
use Rattle.outcomes.specs.declared.kinds.PairKind.TheVariants.{S, G}
use Rattle.outcomes.specs.declared.tasks.Task.{Task}
use Rattle.chain_rule.specs.ClosedPairs.{pairs_where}
use Rattle.chain_rule.specs.Chaining.{IsChained}
use Rattle.strong_pairs.specs.Pairs.{IsPair}
use Rattle.task_table.specs.declared.states.TaskState.{TaskState}
use Rattle.task_table.specs.declared.states.TaskState.TheVariants.{Open, Taken, Hard, Closed, Never}
use Rattle.task_table.specs.Tasks.{IsTask, is_closed_later}
use Rattle.task_table.specs.Tables.{Table, state_of}
use Rattle.basis_entry.specs.Entries.{BasisEntry, vectors_of}
use Rattle.pair_book.specs.Books.{Held, with_state}
use Rattle.pair_book.specs.Fellows.{component_at}

abbrev pub is_waiting : TaskState → Bool
is_waiting Open = true
is_waiting Taken = false
is_waiting Hard = true
is_waiting Closed = false
is_waiting Never = false

-- the S task of two entries, in either order
abbrev pub s_task : ℕ → ℕ → Task
s_task a b = cond (nat_lt a b) (record { i = a; j = b; kind = S }) (record { i = b; j = a; kind = S })

abbrev pub is_shut : Table → ℕ → ℕ → Bool
is_shut tasks i j = is_closed_later (state_of tasks (record { i = i; j = j; kind = S }))

-- the pairs whose S task is closed
abbrev pub shut_pairs : List BasisEntry → Table → List (ℕ × ℕ)
shut_pairs es tasks = pairs_where (is_shut tasks) (length es)

-- the S task of a and x is open or hard, and its pair is closed through b
pub record IsDueBy (h : Held) (a x b : ℕ) : Type 0 where
  pub waiting : is_waiting (state_of h.tasks (s_task a x)) ≡ true
  pub pair : IsPair (vectors_of h.entries) (s_task a x).i (s_task a x).j
  pub chained : IsChained (vectors_of h.entries) (shut_pairs h.entries h.tasks) (s_task a x).i (s_task a x).j b

-- u is such a task of a or b with a third entry below n, through the other of the two
pub record IsDue (n : ℕ) (h : Held) (a b : ℕ) (u : Task) : Type 0 where
  pub third : ℕ
  pub below : third < n
  pub not_first : third ≢ a
  pub not_second : third ≢ b
  pub either : ((u ≡ s_task a third) × IsDueBy h a third b) ⊎ ((u ≡ s_task b third) × IsDueBy h b third a)

-- the S task of a and b was closed, and then each task that is due with a third entry below n is closed; no other
-- changes
pub record AreChained (n : ℕ) (mid : Held) (a b : ℕ) (new : Held) : Type 0 where
  pub rest : new ≡ record mid { tasks = record mid.tasks { states = new.tasks.states } }
  pub closed : (u : Task) → IsTask (length mid.entries) u → IsDue n mid a b u → state_of new.tasks u ≡ Closed
  pub same : (u : Task) → IsTask (length mid.entries) u → (IsDue n mid a b u → ⊥)
      → state_of new.tasks u ≡ state_of mid.tasks u

-- what the chain rule leaves where a task was closed, or not
abbrev pub ClosesChained : Held → Task → Bool → Held → Type 0
ClosesChained mid t false new = new ≡ mid
ClosesChained mid t true new = ((t.kind ≡ S) × AreChained (length mid.entries) mid t.i t.j new)
    ⊎ ((t.kind ≡ G) × (new ≡ mid))

abbrev pub closed_if : Bool → Held → Task → Held
closed_if due h t = cond due (with_state h t Closed) h

-- both tasks with the third entry x are closed where they are due
pub record ChainsWith (old : Held) (a b x : ℕ) (new : Held) : Type 0 where
  pub first : Bool
  pub second : Bool
  pub first_is : (first ≡ true) ↔ IsDueBy old a x b
  pub second_is : (second ≡ true) ↔ IsDueBy old b x a
  pub is : new ≡ closed_if second (closed_if first old (s_task a x)) (s_task b x)

abbrev pub ChainsAt : Held → ℕ → ℕ → ℕ → Held → Type 0
ChainsAt old a b x new = (((x ≡ a) ⊎ (x ≡ b)) × (new ≡ old)) ⊎ ((x ≢ a) × (x ≢ b) × ChainsWith old a b x new)

-- ---- how the chain rule is carried out: from the last third entry of the component down to the first

-- u is such a task of a or b with a third entry from n on, through the other of the two
pub record IsDueFrom (n : ℕ) (h : Held) (a b : ℕ) (u : Task) : Type 0 where
  pub third : ℕ
  pub from : n ≤ third
  pub not_first : third ≢ a
  pub not_second : third ≢ b
  pub either : ((u ≡ s_task a third) × IsDueBy h a third b) ⊎ ((u ≡ s_task b third) × IsDueBy h b third a)

-- each task that is due with a third entry from n on is closed; no other changes
pub record AreChainedFrom (n : ℕ) (mid : Held) (a b : ℕ) (new : Held) : Type 0 where
  pub rest : new ≡ record mid { tasks = record mid.tasks { states = new.tasks.states } }
  pub closed : (u : Task) → IsTask (length mid.entries) u → IsDueFrom n mid a b u → state_of new.tasks u ≡ Closed
  pub same : (u : Task) → IsTask (length mid.entries) u → (IsDueFrom n mid a b u → ⊥)
      → state_of new.tasks u ≡ state_of mid.tasks u

-- where the third entry comes next that is given, those from this number on are done
abbrev pub done_from : Option ℕ → ℕ
done_from None = 0
done_from (Some x) = x + 1

-- the third entry that comes next is one of a's component
abbrev pub IsFellow : List BasisEntry → ℕ → Option ℕ → Type 0
IsFellow es a None = Unit {0}
IsFellow es a (Some x) = (x < length es) × (component_at es x ≡ component_at es a)
