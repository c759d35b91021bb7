-- What is known of the rest that the work of a task leaves.
use Rattle.std.proofs.Common.{◌≡◌, List}
use Rattle.presentation.specs.Presented.{Presented}
use Rattle.module_vec.specs.declared.places.Term.{Term}
use Rattle.outcomes.specs.declared.tasks.Task.{Task}
use Rattle.pair_work.specs.declared.outcome.Close.{Close}
use Rattle.pair_work.specs.declared.outcome.Close.TheVariants.{Covered, Zero, Rest}
use Rattle.pair_book.specs.Commits.{IfRest}
use Rattle.pair_work.specs.Works.{ClosesAs}

-- the rest that work leaves is of the presentation
pub rest_known : (p : Presented) (b : List (List Term)) (t : Task) (close : Close) → ClosesAs p b t close → IfRest close (λ e. e.source ≡ p)
rest_known p b t (Covered by) c = tt
rest_known p b t (Zero steps) c = tt
rest_known p b t (Rest e) c = c.entry.source
