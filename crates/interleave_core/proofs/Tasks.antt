-- Tasks of a book that aren't closed from the start.
use Rattle.std.proofs.Common.{◌≡◌, ◌⊎◌, inl, inr, arith, refl, sym, ◌∙◌, length, Bool, true, false}
use Rattle.std.proofs.lemmas.List.{length-map}
use Rattle.outcomes.specs.declared.tasks.Task.{Task}
use Rattle.strong_pairs.specs.Pairs.{IsPair, lead_at}
use Rattle.task_table.specs.declared.states.TaskState.{TaskState}
use Rattle.task_table.specs.declared.states.TaskState.TheVariants.{Open, Taken, Hard, Closed, Never}
use Rattle.task_table.specs.Tasks.{IsTask, is_never, is_unclosed}
use Rattle.task_table.specs.Tables.{state_of}
use Rattle.task_table.specs.Rows.{settled_of}
use Rattle.basis_entry.specs.Entries.{BasisEntry, vectors_of}
use Rattle.pair_book.specs.Books.{Held, IsBook}
use Rattle.pair_book.specs.Settled.{settled_by}
use Rattle.pair_book.proofs.Opened.{settled_apart}
use Rattle.interleave_core.proofs.Lists.{same_or_apart}

pub either : (b : Bool) → (b ≡ true) ⊎ (b ≡ false)
either true = inl refl
either false = inr refl

pub not_both : (b : Bool) → b ≡ true → b ≡ false → ⊥
not_both b p q = cc

-- they are tasks of the entries
pub task_of : (h : Held) → IsBook h → (t : Task) → IsTask (length h.entries) t → is_never (state_of h.tasks t) ≡ false → IsPair (vectors_of h.entries) t.i t.j
task_of h b t k n =
    let d = lead_at (vectors_of h.entries) t.i in
    let e = lead_at (vectors_of h.entries) t.j in
    record {
      order = k.0;
      within = let l = length-map h.entries (λ (x : BasisEntry). x.vector) in let a = k.1 in omega (arith, l, a);
      component = elim (same_or_apart d.at.c e.at.c) [
        | inl same ↦ same
        | inr apart ↦ absurd (not_both (settled_of t.kind (settled_by d e)) (settled_apart d e t.kind apart) (sym (b.settled t k) ∙ n))
      ];
    }

pub unclosed_not_never : (s : TaskState) → is_unclosed s ≡ true → is_never s ≡ false
unclosed_not_never Open e = refl
unclosed_not_never Taken e = refl
unclosed_not_never Hard e = refl
unclosed_not_never Closed e = cc
unclosed_not_never Never e = cc
