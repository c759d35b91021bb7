-- Numbers of which the least comes first.
use Rattle.std.specs.Prelude.{◌≡◌, ◌⊎◌, ℕ, ◌+◌, ◌≤◌, List, [], map, length, Contains, Option, Some, None}
use Rattle.std.specs.BinaryHeap.{IsHeap, heap_items, heap_capacity}
use Rattle.std.specs.Ordering.{nat_cmp}
use Rattle.std.specs.declared.cmp.Ordering.{Ordering}
use Rattle.std.specs.declared.cmp.Reverse.{Reverse}
use Rattle.task_table.specs.declared.queue.Queue.TheInside.{Inside}

-- for how many numbers there is room, and the numbers, in no order that matters
pub record Queued : Type 0 where
  pub room : ℕ
  pub numbers : List ℕ

abbrev pub queued : Inside → Queued
queued q = record { room = heap_capacity q.heap; numbers = map (λ r. r.0) (heap_items q.heap) }

-- the greater number goes last
abbrev pub reversed_cmp : Reverse ℕ → Reverse ℕ → Ordering
reversed_cmp a b = nat_cmp b.0 a.0

abbrev pub IsOrdered : Inside → Type 0
IsOrdered q = IsHeap reversed_cmp (heap_items q.heap)

-- x is a number of them, and none is less
pub record IsLeastOf (numbers : List ℕ) (x : ℕ) : Type 0 where
  pub contained : Contains numbers x
  pub least : (y : ℕ) → Contains numbers y → x ≤ y

-- the second list has the numbers of the first, and x
pub record HasMore (old : List ℕ) (x : ℕ) (new : List ℕ) : Type 0 where
  pub count : length new ≡ length old + 1
  pub all : (y : ℕ) → Contains old y → Contains new y
  pub more : Contains new x
  pub only : (y : ℕ) → Contains new y → (y ≡ x) ⊎ Contains old y

-- the least number is taken away, once, where there is one
abbrev pub TakesLeast : List ℕ → Option ℕ → List ℕ → Type 0
TakesLeast old None new = (old ≡ []) × (new ≡ [])
TakesLeast old (Some x) new = IsLeastOf old x × HasMore new x old
