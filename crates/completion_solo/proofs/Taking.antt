-- A task is taken.
use Rattle.std.proofs.Common.{◌≡◌, ◌≢◌, ◌⊎◌, inl, inr, arith, refl, sym, ap, ◌∙◌, [], length, Bool, true, false, not, ◌||◌, Some, subst}
use Rattle.std.proofs.lemmas.Bool.{eqb-true}
use Rattle.std.proofs.lemmas.List.{append-nil, length-map}
use Rattle.std.specs.Prelude.{nat_eq}
use Rattle.outcomes.specs.declared.tasks.Task.{Task}
use Rattle.outcomes.specs.declared.kinds.PairKind.{PairKind}
use Rattle.outcomes.specs.declared.kinds.PairKind.TheVariants.{S, G}
use Rattle.module_vec.specs.declared.places.Term.{Term}
use Rattle.strong_pairs.specs.Pairs.{lead_at}
use Rattle.task_table.specs.declared.states.TaskState.{TaskState}
use Rattle.task_table.specs.declared.states.TaskState.TheVariants.{Open, Taken, Hard, Closed, Never}
use Rattle.task_table.specs.declared.states.Wanted.TheVariants.{OpenOnes}
use Rattle.task_table.specs.Tasks.{IsTask, is_open, is_taken, is_hard, is_never, is_unclosed}
use Rattle.task_table.specs.Tables.{Table, IsTable, IsLeast, state_of, put}
use Rattle.task_table.specs.Orders.{Before}
use Rattle.task_table.specs.Rows.{settled_of}
use Rattle.task_table.proofs.Ordering.{before_not_itself}
use Rattle.task_table.proofs.Putting.{put_same}
use Rattle.basis_entry.specs.Entries.{BasisEntry, vectors_of}
use Rattle.basis_entry.proofs.Vectors.{are_entries}
use Rattle.pair_book.specs.Books.{Held, IsBook, TakesTask, with_state}
use Rattle.strong_pairs.specs.Covering.{divides_number}
use Rattle.pair_book.specs.Settled.{settled_by}
use Rattle.pair_book.proofs.Keeping.{task_in, task_out, open_unclosed, table_put}
use Rattle.pair_book.proofs.Opened.{settled_right}
use Rattle.completion_solo.specs.Ends.{IsTaskOf, IsClosedAtStart}
use Rattle.completion_solo.specs.Finishing.{Continues, NoneTaken, IsWithinBudget}
use Rattle.completion_solo.specs.Rounds.{HardOnesStop, IsInHand, weigh}
use Rattle.completion_solo.proofs.Numbers.{read_put, not_both}
use Rattle.completion_solo.proofs.Weighing.{open_weight, weigh_put}

-- ---- tasks that aren't closed from the start

not_false : (b : Bool) → not b ≡ false → b ≡ true
not_false true h = refl
not_false false h = cc

or_false : (a b : Bool) → (a || b) ≡ false → a ≡ false
or_false true b h = h
or_false false b h = refl

same_component : (k : PairKind) (d e : Term) → settled_of k (settled_by d e) ≡ false → d.at.c ≡ e.at.c
same_component S d e h = eqb-true d.at.c e.at.c (not_false (nat_eq d.at.c e.at.c) h)
same_component G d e h = eqb-true d.at.c e.at.c (not_false (nat_eq d.at.c e.at.c)
    (or_false (not (nat_eq d.at.c e.at.c)) (divides_number d.k e.k || divides_number e.k d.k) h))

-- they are tasks of the entries
pub task_of : (h : Held) → IsBook h → (t : Task) → IsTask (length h.entries) t → is_never (state_of h.tasks t) ≡ false → IsTaskOf h.entries t
task_of h b t k n = record {
  order = k.0;
  within = let l = length-map h.entries (λ (e : BasisEntry). e.vector) in let a = k.1 in omega (arith, l, a);
  component = same_component t.kind (lead_at (vectors_of h.entries) t.i) (lead_at (vectors_of h.entries) t.j) (sym (b.settled t k) ∙ n);
}

pub not_at_start : (h : Held) → IsBook h → (t : Task) → IsTask (length h.entries) t → is_never (state_of h.tasks t) ≡ false → IsClosedAtStart h.entries t → ⊥
not_at_start h b t k n start =
    let right = settled_right (vectors_of h.entries) (are_entries h.entries b.lawful.entries) t.kind t.i t.j (task_of h b t k n) in
    not_both (settled_of t.kind (settled_by (lead_at (vectors_of h.entries) t.i) (lead_at (vectors_of h.entries) t.j))) (right.1 start)
    (sym (b.settled t k) ∙ n)

pub unclosed_not_never : (s : TaskState) → is_unclosed s ≡ true → is_never s ≡ false
unclosed_not_never Open e = refl
unclosed_not_never Taken e = refl
unclosed_not_never Hard e = refl
unclosed_not_never Closed e = cc
unclosed_not_never Never e = cc

-- ---- taking

pub record Took (old mid : Held) (t : Task) : Type 0 where
  pub continues : Continues old mid
  pub hand : IsInHand mid t
  pub hard : HardOnesStop old → HardOnesStop mid
  pub weighs : weigh mid ≡ weigh old
  pub entries : mid.entries ≡ old.entries
  pub seal : mid.seal ≡ old.seal

took_here : (old : Held) (t : Task) → IsBook old → NoneTaken old → IsWithinBudget old → IsLeast OpenOnes (vectors_of old.entries) old.tasks t
    → Took old (with_state old t Taken) t
took_here old t b none budget least = record {
  continues = record {
    source = refl;
    limits = refl;
    base = refl;
    more = [];
    entries = sym (append-nil old.entries);
    closed = λ u k c. elim (read u (task_in old u b k)) [
      | inl (e, s) ↦ absurd (not_both (is_unclosed (state_of old.tasks u)) (ap (λ (z : Task). is_unclosed (state_of old.tasks z)) e
          ∙ open_unclosed (state_of old.tasks t) least.is) c)
      | inr (ne, s) ↦ ap is_unclosed s ∙ c
    ];
    commits = omega arith;
  };
  hand = record {
    taken = (task, ap is_taken (put_same old.tasks t Taken b.table least.task));
    others = λ u k ne. elim (read u (task_in old u b k)) [ inl (e, s) ↦ absurd (ne e) | inr (x, s) ↦ ap is_taken s ∙ none u k ];
    pair = task_of old b t task (unclosed_not_never (state_of old.tasks t) (open_unclosed (state_of old.tasks t) least.is));
    first = record { task = least.task; is = ap is_open (put_same (put old.tasks t Taken) t Open table least.task); before = before };
    budget = budget;
  };
  hard = λ stop u k is. elim (read u (task_in old u b k)) [
    | inl (e, s) ↦ absurd (not_both (is_hard (state_of (put old.tasks t Taken) u)) is (ap is_hard s))
    | inr (ne, s) ↦ stop u k (sym (ap is_hard s) ∙ is)
  ];
  weighs = let w = weigh_put old.tasks t Taken b.table least.task in let o = open_weight (state_of old.tasks t) least.is in omega (arith, w, o);
  entries = refl;
  seal = refl;
}
  where
    task : IsTask (length old.entries) t
    task = task_out old t b least.task

    table : IsTable (put old.tasks t Taken)
    table = table_put old.tasks t Taken b.table

    read : (u : Task) → IsTask old.tasks.count u → ((u ≡ t) × (state_of (put old.tasks t Taken) u ≡ Taken))
        ⊎ ((u ≢ t) × (state_of (put old.tasks t Taken) u ≡ state_of old.tasks u))
    read u k = read_put old.tasks t u Taken b.table least.task k

    before : (u : Task) → IsTask old.tasks.count u → Before old.tasks.order (vectors_of old.entries) u t
        → is_open (state_of (put (put old.tasks t Taken) t Open) u) ≡ false
    before u k goes = elim (read_put (put old.tasks t Taken) t u Open table least.task k) [
      | inl (e, s) ↦ absurd (before_not_itself old.tasks.order (vectors_of old.entries) t
          (subst (λ (z : Task). Before old.tasks.order (vectors_of old.entries) z t) e goes))
      | inr (ne, s) ↦ ap is_open s ∙ elim (read u k) [ inl (e, x) ↦ absurd (ne e) | inr (x, y) ↦ ap is_open y ∙ least.before u k goes ]
    ]

pub took : (old mid : Held) (t : Task) → IsBook old → NoneTaken old → IsWithinBudget old → TakesTask old (Some t) mid → Took old mid t
took old mid t b none budget (is, (least, tasks)) = subst (λ (z : Held). Took old z t) (sym (is ∙ ap (λ (z : Table). record old { tasks = z }) tasks))
    (took_here old t b none budget least)
