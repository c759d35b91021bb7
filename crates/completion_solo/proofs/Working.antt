-- What the work by an indexed log says of the log.
use Rattle.std.proofs.Common.{◌≡◌, subst}
use Rattle.std.specs.Prelude.{Err}
use Rattle.presentation.specs.Presented.{Presented}
use Rattle.outcomes.specs.declared.tasks.Task.{Task}
use Rattle.module_vec.specs.declared.faults.Stop.{Stop as TheStop}
use Rattle.pair_work.specs.declared.faults.WorkFault.{WorkFault}
use Rattle.pair_work.specs.declared.faults.WorkFault.TheVariants.{Stop}
use Rattle.pair_book.specs.Books.{Held}
use Rattle.pair_work.specs.Works.{Works}
use Rattle.completion_solo.specs.Ends.{StopsAt}

pub stops_here : (p : Presented) (list h : Held) (t : Task) (fault : WorkFault) (stop : TheStop) → list ≡ h → fault ≡ Stop stop
    → Works p list.entries t (Err fault) → StopsAt h.entries t stop
stops_here p list h t fault stop same is works = subst (λ (x : Held). StopsAt x.entries t stop) same
    (subst (λ (f : WorkFault). Works p list.entries t (Err f)) is works)
