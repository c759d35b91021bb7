-- What a completion has come to, where the book was sealed already and where it is finished now.
use Rattle.std.proofs.Common.{◌≡◌, [], append-nil, Some, None, false, sym, ap, subst, ◌∙◌, refl}
use Rattle.presentation.specs.Presented.{Presented}
use Rattle.outcomes.specs.declared.ends.End.{End}
use Rattle.outcomes.specs.declared.ends.End.TheVariants.{Sealed, Stopped, Full, Spent}
use Rattle.basis_entry.specs.Entries.{vectors_of}
use Rattle.basis_entry.specs.Seals.{Seal, IsSeal, IsStrongBasis}
use Rattle.pair_book.specs.Books.{Held, IsBook, IsSealedBy}
use Rattle.task_table.specs.declared.states.TaskState.{TaskState}
use Rattle.task_table.specs.declared.states.TaskState.TheVariants.{Open, Taken, Hard, Closed, Never}
use Rattle.task_table.specs.declared.states.Reopened.TheVariants.{TakenOnes}
use Rattle.task_table.specs.Tasks.{is_taken, reopened, number_of}
use Rattle.task_table.specs.Tables.{reopen, state_of}
use Rattle.task_table.proofs.Hinting.{state_reopened}
use Rattle.completion_solo.specs.Finishing.{EndsWith, Shows, Continues, NoneTaken}
use Rattle.legal_report.specs.Legal.{seal_at}
use Rattle.legal_report.specs.Gathering.{IsCompleted}

-- a sealed book is completed
pub sealed_already : (p : Presented) (h : Held) (s : Seal) → h.source ≡ p → IsBook h → h.seal ≡ Some s → IsSeal s → IsCompleted p h Sealed h
sealed_already p h s source is sealed seal =
    let by : IsSealedBy h (Some s) = subst (IsSealedBy h) sealed is.seal in
    let strong : IsStrongBasis p (vectors_of h.entries) =
    subst (λ (x : Presented). IsStrongBasis x (vectors_of h.entries)) source (subst (λ (z : Seal). IsStrongBasis z.source (vectors_of z.entries)) by.0
    seal.strong) in
    record {
      source = refl;
      limits = refl;
      base = refl;
      more = [];
      entries = sym (append-nil h.entries);
      ends = strong;
      seal = sealed ∙ ap Some (by.0 ∙ ap (λ (x : Presented). record { source = x; entries = h.entries }) source);
      sealed = λ _. (refl, refl);
    }

shown_seal : (p : Presented) (h : Held) (end : End) → h.source ≡ p → Shows h end → h.seal ≡ seal_at p h.entries end
shown_seal p h Sealed source shows = shows.1 ∙ ap Some (ap (λ (x : Presented). record { source = x; entries = h.entries }) source)
shown_seal p h (Stopped t stop) source shows = shows.budget.1
shown_seal p h (Full m c) source shows = shows.budget.1
shown_seal p h (Spent c t) source shows = shows.3

-- a book without a seal that is finished is completed
pub finished_now : (p : Presented) (old : Held) (end : End) (new : Held) → old.source ≡ p → old.seal ≡ None → EndsWith p old end new → IsCompleted p old end new
finished_now p old end new source open_yet ends =
    let on : Continues old new = ends.0 in
    record {
      source = on.source;
      limits = on.limits;
      base = on.base;
      more = on.more;
      entries = on.entries;
      ends = ends.3;
      seal = shown_seal p new end (on.source ∙ source) ends.2;
      sealed = λ some. absurd (some open_yet);
    }

not_taken : (s : TaskState) → is_taken (reopened TakenOnes s) ≡ false
not_taken Open = refl
not_taken Taken = refl
not_taken Hard = refl
not_taken Closed = refl
not_taken Never = refl

-- after the release no task is taken
pub none_taken : (h : Held) → NoneTaken (record h { tasks = reopen TakenOnes h.tasks })
none_taken h t is = ap is_taken (state_reopened TakenOnes h.tasks.states (number_of t)) ∙ not_taken (state_of h.tasks t)
