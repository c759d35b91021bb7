-- Rounds one behind the other.
use Rattle.std.proofs.Common.{◌≡◌, arith, sym, ap, ◌∙◌, List, Bool, None, subst}
use Rattle.std.specs.Prelude.{Result, Ok, Err}
use Rattle.presentation.specs.Presented.{Presented}
use Rattle.outcomes.specs.declared.ends.End.{End}
use Rattle.outcomes.specs.declared.tasks.Task.{Task}
use Rattle.module_vec.specs.declared.places.Term.{Term}
use Rattle.task_table.specs.Tables.{Table}
use Rattle.reducer_index.specs.Leads.{AreLeads}
use Rattle.basis_entry.specs.Entries.{BasisEntry, vectors_of}
use Rattle.pair_book.specs.Books.{Held, TakesTask}
use Rattle.completion_solo.specs.declared.rounds.Round.{Round}
use Rattle.completion_solo.specs.declared.rounds.Round.TheVariants.{Ended, GoesOn}
use Rattle.completion_solo.specs.Finishing.{Continues, EndsWith, LacksMemory}
use Rattle.completion_solo.specs.Rounds.{IsReady, IsWorkDue, LeadsOn, Rounds}
use Rattle.completion_solo.proofs.Keeping.{continues_on}
use Rattle.completion_solo.proofs.Taking.{Took}
use Rattle.completion_solo.proofs.Weighing.{left_same}

pub end_on : (p : Presented) (a b c : Held) (end : End) → Continues a b → EndsWith p b end c → EndsWith p a end c
end_on p a b c end x (y, free, shows, ends) = (continues_on a b c x y, free, shows, ends)

pub broken_on : (a b c : Held) → Continues a b → b.seal ≡ a.seal → LacksMemory b c → LacksMemory a c
broken_on a b c x s (y, free, t) = (continues_on a b c x y, free, t ∙ s)

-- a round that began with the task taken
pub round_on : {E : Type 0} → (p : Presented) (old mid new : Held) (t : Task) (stale : Bool) (r : Result Round E) (leads : List Term) → Took old mid t
    → Rounds p mid stale r new leads → Rounds p old stale r new leads
round_on p old mid new t stale (Ok (Ended end)) leads k h = end_on p old mid new end k.continues h
round_on p old mid new t stale (Ok (GoesOn again)) leads k (c, seal, ready, less) =
    let same = left_same old mid stale k.entries k.weighs in
    (continues_on old mid new k.continues c, seal ∙ k.seal, ready, omega (arith, same, less))
round_on p old mid new t stale (Err e) leads k h = broken_on old mid new k.continues k.seal h

-- what is known between two rounds
pub record IsRunning (p : Presented) (start now : Held) (leads : List Term) (stale : Bool) : Type 0 where
  pub continues : Continues start now
  pub seal : now.seal ≡ start.seal
  pub ready : IsReady p now leads stale

pub runs_on : (p : Presented) (start old new : Held) (before leads : List Term) (stale again : Bool) → IsRunning p start old before stale
    → LeadsOn p old stale new leads again → IsRunning p start new leads again
runs_on p start old new before leads stale again r (c, seal, ready, less) = record {
  continues = continues_on start old new r.continues c;
  seal = seal ∙ r.seal;
  ready = ready;
}

-- the task that was taken is due
pub due_now : (p : Presented) (old mid : Held) (t : Task) (leads : List Term) (stale : Bool) → Took old mid t → IsReady p old leads stale
    → IsWorkDue mid leads t stale
due_now p old mid t leads stale k ready = record {
  hand = k.hand;
  are_leads =
      subst (λ (es : List BasisEntry). AreLeads (vectors_of es) leads) (sym k.entries) ready.are_leads;
  hard = λ s. k.hard (ready.hard s);
}

pub none_taken_now : (old mid : Held) → TakesTask old None mid → mid ≡ old
none_taken_now old mid (is, (none, tasks)) = is ∙ ap (λ (z : Table). record old { tasks = z }) tasks
