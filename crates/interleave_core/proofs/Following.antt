-- What a worker's turn leaves of the book, for the other workers and the sessions.
use Rattle.std.proofs.Common.{◌≡◌, ◌≢◌, ◌⊎◌, inl, inr, arith, refl, sym, ap, ◌∙◌, List, [], ◌∷◌, ◌++◌, length, length-append, append-nil}
use Rattle.std.proofs.Common.{true}
use Rattle.std.proofs.Common.{Option, Some, None, subst}
use Rattle.std.specs.Prelude.{Ok}
use Rattle.std.specs.Arc.{arc_value}
use Rattle.std.proofs.lemmas.List.{append_assoc}
use Rattle.presentation.specs.Presented.{Presented}
use Rattle.outcomes.specs.declared.tasks.Task.{Task}
use Rattle.task_table.specs.declared.states.TaskState.{TaskState}
use Rattle.task_table.specs.declared.states.TaskState.TheVariants.{Open, Taken, Hard, Closed, Never}
use Rattle.task_table.specs.Tasks.{IsTask, is_open, is_taken}
use Rattle.task_table.specs.Tables.{Table, IsTable, state_of}
use Rattle.task_table.specs.Rows.{grown}
use Rattle.task_table.proofs.Putting.{put_same}
use Rattle.basis_entry.specs.Entries.{BasisEntry}
use Rattle.basis_entry.specs.Seals.{Seal}
use Rattle.pair_work.specs.declared.outcome.Close.{Close}
use Rattle.pair_work.specs.declared.outcome.Close.TheVariants.{Covered, Zero, Rest}
use Rattle.pair_book.specs.Books.{Held, IsBook, IsTaken, IsSealedBy, with_state}
use Rattle.pair_book.specs.Chaining.{is_waiting}
use Rattle.pair_book.specs.Commits.{OnRest, closed_by, appended_by, state_after}
use Rattle.pair_work.specs.Outcomes.{Worked}
use Rattle.pair_book.specs.Settled.{settled_row}
use Rattle.pair_work.specs.Works.{Works}
use Rattle.pair_book.proofs.Keeping.{task_in, task_out, put_read}
use Rattle.pair_book.proofs.Starting.{table_grown, state_old}
use Rattle.interleave_core.specs.declared.hands.Hand.{Hand}
use Rattle.interleave_core.specs.declared.hands.Hand.TheVariants.{Idle, Holds, Stopped}
use Rattle.interleave_core.specs.Machine.{HoldsWork, AlsoCloses, AppendsEntry, Turns}
use Rattle.interleave_core.specs.Invariants.{IsTaskOf, IsOutcomeOf, IsHand}
use Rattle.interleave_core.specs.Opening.{given_back}
use Rattle.interleave_core.specs.Runs.{KeepsItems}
use Rattle.interleave_core.proofs.Turning.{not_sealed, works_behind}

-- the items stand, and each task that others have in hand is still taken
pub record Follows (old new : Held) (x : Hand) : Type 0 where
  pub items : KeepsItems old new
  pub taken : (u : Task) → IsTaken old u → (IsTaskOf x u → ⊥) → IsTaken new u

taken_open : (s : TaskState) → is_taken s ≡ true → is_open s ≡ true → ⊥
taken_open Open t o = cc
taken_open Taken t o = cc
taken_open Hard t o = cc
taken_open Closed t o = cc
taken_open Never t o = cc

taken_waiting : (s : TaskState) → is_taken s ≡ true → is_waiting s ≡ true → ⊥
taken_waiting Open t o = cc
taken_waiting Taken t o = cc
taken_waiting Hard t o = cc
taken_waiting Closed t o = cc
taken_waiting Never t o = cc

-- no entry comes, and the seal stands
items_stand : (old new : Held) → new.source ≡ old.source → new.limits ≡ old.limits → new.base ≡ old.base → new.entries ≡ old.entries
    → new.seal ≡ old.seal → KeepsItems old new
items_stand old new source limits base entries seal = record {
  source = source;
  limits = limits;
  base = base;
  more = [];
  entries = entries ∙ sym (append-nil old.entries);
  seal = inr (refl, seal);
}

-- nothing but states of tasks changes
pub states_change : (old new : Held) → new ≡ record old { tasks = new.tasks } → KeepsItems old new
states_change old new is = items_stand old new (ap (λ (h : Held). h.source) is) (ap (λ (h : Held). h.limits) is) (ap (λ (h : Held). h.base) is)
    (ap (λ (h : Held). h.entries) is) (ap (λ (h : Held). h.seal) is)

module _ (old new : Held) (x : Hand) where
  follows_states : (is : new ≡ record old { tasks = new.tasks }) → ((u : Task) → IsTaken old u → (IsTaskOf x u → ⊥) → is_taken (state_of new.tasks u) ≡ true)
      → Follows old new x
  follows_states is taken = record {
    items = states_change old new is;
    taken = λ u k other. (subst (λ (h : Held). IsTask (length h.entries) u) (sym is) k.0, taken u k other);
  }

-- one task gets another state
put_follows : (old : Held) (x : Hand) (t : Task) (s : TaskState) → IsBook old → IsTask (length old.entries) t
    → ((u : Task) → IsTaken old u → (IsTaskOf x u → ⊥) → u ≢ t) → Follows old (with_state old t s) x
put_follows old x t s b k apart = follows_states old (with_state old t s) x refl (λ u taken other.
    elim (put_read old.tasks t u s b.table (task_in old t b k) (task_in old u b taken.0)) [
      | inl r ↦ ap is_taken r ∙ taken.1
      | inr (e, _) ↦ absurd (apart u taken other e)
    ])

own_follows : (old new : Held) (x : Hand) (t : Task) (s : TaskState) → IsBook old → IsTaken old t → IsTaskOf x t → ((u : Task) → u ≡ t → IsTaskOf x u)
    → new ≡ with_state old t s → Follows old new x
own_follows old new x t s b k own all e = subst (λ (h : Held). Follows old h x) (sym e) (put_follows old x t s b k.0 (λ u taken other same. other (all u same)))

same_follows : (old new : Held) (x : Hand) → new ≡ old → Follows old new x
same_follows old new x e = subst (λ (h : Held). Follows old h x) (sym e) (record {
  items = items_stand old old refl refl refl refl refl;
  taken = λ u k other. k;
})

-- ---- a seal

seal_again : (h : Held) (seal : Option Seal) → IsSealedBy h seal → (seal ≡ None) ⊎ (Some (record { source = h.source; entries = h.entries }) ≡ seal)
seal_again h None is = inl refl
seal_again h (Some s) (is, _) = inr (ap Some (sym is))

seal_follows : (old new : Held) (x : Hand) → IsBook old → new ≡ record old { seal = Some (record { source = old.source; entries = old.entries }) }
    → Follows old new x
seal_follows old new x b e = subst (λ (h : Held). Follows old h x) (sym e) (record {
  items = record {
    source = refl;
    limits = refl;
    base = refl;
    more = [];
    entries = sym (append-nil old.entries);
    seal = elim (seal_again old old.seal b.seal) [ inl none ↦ inl none | inr same ↦ inr (refl, same) ];
  };
  taken = λ u k other. k;
})

-- ---- a commit

also_taken : (mid new : Held) → AlsoCloses mid new → (u : Task) → IsTask (length mid.entries) u → is_taken (state_of mid.tasks u) ≡ true
    → is_taken (state_of new.tasks u) ≡ true
also_taken mid new also u k taken = elim (also.each u k) [
  | inl e ↦ ap is_taken e ∙ taken
  | inr (waits, _, _) ↦ absurd (taken_waiting (state_of mid.tasks u) taken waits)
]

module _ (old new : Held) (w : Worked) (b : IsBook old) (hand : IsTaken old w.task) where
  apart : (u : Task) → (IsTaskOf (Holds w) u → ⊥) → u ≡ w.task → ⊥
  apart u other e = other (sym e)

  close_follows : AlsoCloses (closed_by old w.task) new → Follows old new (Holds w)
  close_follows also = record {
    items = items_stand old new (ap (λ (h : Held). h.source) also.is) (ap (λ (h : Held). h.limits) also.is) (ap (λ (h : Held). h.base) also.is)
        (ap (λ (h : Held). h.entries) also.is) (ap (λ (h : Held). h.seal) also.is);
    taken = λ u k other. (
      subst (λ (h : Held). IsTask (length h.entries) u) (sym also.is) k.0,
      also_taken (closed_by old w.task) new also u k.0 (
          elim (put_read old.tasks w.task u Closed b.table (task_in old w.task b hand.0) (task_in old u b k.0)) [
            | inl r ↦ ap is_taken r ∙ k.1
            | inr (e, _) ↦ absurd (apart u other e)
          ]),
    );
  }

  module _ (e : BasisEntry) (appends : AppendsEntry old w e new) where
    abbrev row : Table
    row = grown old.tasks (settled_row old.entries e.vector) e.vector

    table_row : IsTable row
    table_row = let n = b.count in let r = b.room in let few = appends.fits.0 in
        table_grown old.tasks old.entries e.vector b.table b.count (omega (arith, n, r, few))

    longer : (u : Task) → IsTask (length old.entries) u → IsTask (length (old.entries ++ e ∷ [])) u
    longer u k = let n = length-append old.entries (e ∷ []) in let a = k.1 in (k.0, omega (arith, n, a))

    in_row : (u : Task) → IsTask (length old.entries) u → IsTask row.count u
    in_row u k = let c = b.count in let a = k.1 in (k.0, omega (arith, c, a))

    append_follows : Follows old new (Holds w)
    append_follows = record {
      items = record {
        source = ap (λ (h : Held). h.source) appends.closes.is;
        limits = ap (λ (h : Held). h.limits) appends.closes.is;
        base = ap (λ (h : Held). h.base) appends.closes.is;
        more = e ∷ [];
        entries = ap (λ (h : Held). h.entries) appends.closes.is;
        seal = inl (not_sealed old w.task b hand);
      };
      taken = λ u k other. (
        subst (λ (h : Held). IsTask (length h.entries) u) (sym appends.closes.is) (longer u k.0),
        also_taken (appended_by old w.task e appends.closed) new appends.closes u (longer u k.0) (
            elim (put_read row w.task u (state_after appends.closed) table_row (in_row w.task hand.0) (in_row u k.0)) [
              | inl r ↦ ap is_taken r ∙ (ap is_taken (state_old old.tasks old.entries e.vector u b.table (task_in old u b k.0)) ∙ k.1)
              | inr (e, _) ↦ absurd (apart u other e)
            ]),
      );
    }

  rest_follows : (close : Close) → OnRest close (λ e. AppendsEntry old w e new) → Follows old new (Holds w)
  rest_follows (Covered by) on = absurd on
  rest_follows (Zero steps) on = absurd on
  rest_follows (Rest e) on = append_follows (arc_value e) on

-- ---- each turn

pub turn_follows : (old new : Held) (x y : Hand) → IsBook old → IsHand old x → Turns old x new y → Follows old new x
turn_follows old new Idle y b hand (inl starts) = subst (λ (h : Held). Follows old h Idle) (sym starts.is)
    (put_follows old Idle starts.task Taken b (task_out old starts.task b starts.least.task) (λ u taken other e.
    taken_open (state_of old.tasks u) taken.1 (ap (λ (z : Task). is_open (state_of old.tasks z)) e ∙ starts.least.is)))
turn_follows old new Idle y b hand (inr (inl seals)) = seal_follows old new Idle b seals.is
turn_follows old new Idle y b hand (inr (inr none)) = same_follows old new Idle none.is
turn_follows old new (Stopped t stop) y b hand (is, _) = own_follows old new (Stopped t stop) t Hard b hand refl (λ u e. sym e) is
turn_follows old new (Holds w) y b hand (inl gives) = own_follows old new (Holds w) w.task Open b hand.0 refl (λ u e. sym e) gives.is
turn_follows old new (Holds w) y b hand (inr (inl closes)) = close_follows old new w b hand.0 closes.closes
turn_follows old new (Holds w) y b hand (inr (inr (inl again))) = same_follows old new (Holds w) again.is
turn_follows old new (Holds w) y b hand (inr (inr (inr (inl gives)))) = own_follows old new (Holds w) w.task Open b hand.0 refl (λ u e. sym e) gives.is
turn_follows old new (Holds w) y b hand (inr (inr (inr (inr rest)))) = rest_follows old new w b hand.0 w.close rest.appends

-- ---- what the worker itself holds then

held_now : (h : Held) (t : Task) (y : Hand) → IsTaken h t → HoldsWork h t y → IsHand h y
held_now h t Idle k works = tt
held_now h t (Holds w) k works = (
  subst (IsTaken h) (sym works.0) k,
  record {
    first = h.entries;
    more = [];
    entries = sym (append-nil h.entries);
    works = subst (λ (u : Task). Works h.source h.entries u (Ok w)) (sym works.0) works;
  },
)
held_now h t (Stopped u stop) k (e, _) = subst (IsTaken h) (sym e) k

idle_now : (h : Held) (y : Hand) → y ≡ Idle → IsHand h y
idle_now h y e = subst (IsHand h) (sym e) tt

pub hand_next : (old new : Held) (x y : Hand) → IsBook old → IsHand old x → Turns old x new y → IsHand new y
hand_next old new Idle y b hand (inl starts) = subst (λ (h : Held). IsHand h y) (sym starts.is) (held_now (with_state old starts.task Taken) starts.task y
    (task_out old starts.task b starts.least.task, ap is_taken (put_same old.tasks starts.task Taken b.table starts.least.task))
    (works_behind old starts.task Taken starts.task y starts.work))
hand_next old new Idle y b hand (inr (inl seals)) = idle_now new y seals.idle
hand_next old new Idle y b hand (inr (inr none)) = idle_now new y none.idle
hand_next old new (Stopped t stop) y b hand (_, idle) = idle_now new y idle
hand_next old new (Holds w) y b hand (inl gives) = idle_now new y gives.idle
hand_next old new (Holds w) y b hand (inr (inl closes)) = idle_now new y closes.idle
hand_next old new (Holds w) y b hand (inr (inr (inl again))) =
    subst (λ (h : Held). IsHand h y) (sym again.is) (held_now old w.task y hand.0 again.work)
hand_next old new (Holds w) y b hand (inr (inr (inr (inl gives)))) = idle_now new y gives.idle
hand_next old new (Holds w) y b hand (inr (inr (inr (inr rest)))) = idle_now new y rest.idle

-- the task that it has in hand then is the one that it had, or was open
task_held : (h : Held) (t : Task) (y : Hand) (u : Task) → HoldsWork h t y → IsTaskOf y u → t ≡ u
task_held h t Idle u works e = absurd e
task_held h t (Holds w) u works e = sym works.0 ∙ e
task_held h t (Stopped v stop) u (is, _) e = sym is ∙ e

task_idle : (y : Hand) (u : Task) → y ≡ Idle → IsTaskOf y u → ⊥
task_idle y u e is = subst (λ (z : Hand). IsTaskOf z u) e is

pub task_next : (old new : Held) (x y : Hand) (u : Task) → Turns old x new y → IsTaskOf y u → IsTaskOf x u ⊎ (is_open (state_of old.tasks u) ≡ true)
task_next old new Idle y u (inl starts) is = inr (
    ap (λ (z : Task). is_open (state_of old.tasks z)) (sym (task_held old starts.task y u starts.work is)) ∙ starts.least.is)
task_next old new Idle y u (inr (inl seals)) is = absurd (task_idle y u seals.idle is)
task_next old new Idle y u (inr (inr none)) is = absurd (task_idle y u none.idle is)
task_next old new (Stopped t stop) y u (_, idle) is = absurd (task_idle y u idle is)
task_next old new (Holds w) y u (inl gives) is = absurd (task_idle y u gives.idle is)
task_next old new (Holds w) y u (inr (inl closes)) is = absurd (task_idle y u closes.idle is)
task_next old new (Holds w) y u (inr (inr (inl again))) is = inl (task_held old w.task y u again.work is)
task_next old new (Holds w) y u (inr (inr (inr (inl gives)))) is = absurd (task_idle y u gives.idle is)
task_next old new (Holds w) y u (inr (inr (inr (inr rest)))) is = absurd (task_idle y u rest.idle is)

-- ---- what another worker holds

pub hand_taken : (h : Held) (z : Hand) (u : Task) → IsHand h z → IsTaskOf z u → IsTaken h u
hand_taken h Idle u hand e = absurd e
hand_taken h (Holds w) u hand e = subst (IsTaken h) e hand.0
hand_taken h (Stopped t stop) u hand e = subst (IsTaken h) e hand

outcome_follows : (old new : Held) (x : Hand) (w : Worked) → Follows old new x → IsOutcomeOf old w → IsOutcomeOf new w
outcome_follows old new x w f o = record {
  first = o.first;
  more = o.more ++ f.items.more;
  entries = f.items.entries ∙ (ap (λ (es : List BasisEntry). es ++ f.items.more) o.entries ∙ append_assoc o.first o.more f.items.more);
  works = subst (λ (p : Presented). Works p o.first w.task (Ok w)) (sym f.items.source) o.works;
}

pub hand_follows : (old new : Held) (x z : Hand) → Follows old new x → IsHand old z → ((u : Task) → IsTaskOf z u → IsTaskOf x u → ⊥) → IsHand new z
hand_follows old new x Idle f hand apart = tt
hand_follows old new x (Holds w) f hand apart = (f.taken w.task hand.0 (apart w.task refl), outcome_follows old new x w f hand.1)
hand_follows old new x (Stopped t stop) f hand apart = f.taken t hand (apart t refl)

-- a task is not in hand while it is open
pub not_open : (h : Held) (z : Hand) (u : Task) → IsHand h z → IsTaskOf z u → is_open (state_of h.tasks u) ≡ true → ⊥
not_open h z u hand e open_yet = taken_open (state_of h.tasks u) (hand_taken h z u hand e).1 open_yet

-- ---- a task that is given back when the machine is taken apart

pub hand_gives : (h : Held) (x : Hand) → IsBook h → IsHand h x → Follows h (given_back h x) x
hand_gives h Idle b hand = same_follows h h Idle refl
hand_gives h (Holds w) b hand = own_follows h (with_state h w.task Open) (Holds w) w.task Open b hand.0 refl (λ u e. sym e) refl
hand_gives h (Stopped t stop) b hand = own_follows h (with_state h t Hard) (Stopped t stop) t Hard b hand refl (λ u e. sym e) refl
