-- Why a pair's chain isn't carried out.
use Rattle.std.proofs.Common.{◌≡◌, ℕ, List, length, take, sym, subst, ap, ◌∙◌, inr}
use Rattle.module_vec.specs.declared.places.Term.{Term}
use Rattle.module_vec.specs.Chains.{ChainStops}
use Rattle.module_vec.specs.Vectors.{coefficient_at}
use Rattle.outcomes.specs.declared.tasks.Task.{Task}
use Rattle.reduce_cofactor.specs.Answers.{Fails}
use Rattle.reduce_cofactor.specs.declared.faults.ReduceFault.{ReduceFault}
use Rattle.reduce_cofactor.specs.declared.faults.ReduceFault.TheVariants as of_reduction
use Rattle.strong_pairs.specs.Results.{IsPairVector}
use Rattle.pair_work.specs.declared.faults.WorkFault.{WorkFault}
use Rattle.pair_work.specs.Faults.{reduce_as_work}
use Rattle.pair_work.specs.Works.{HaltsBy}
use Rattle.pair_work.proofs.Reading.{take_whole}

pub halts : (b : List (List Term)) (t : Task) (v : List Term) (n : ℕ) (fault : ReduceFault) (e : WorkFault) → IsPairVector t.kind b t.i t.j v → n ≡ length b
    → Fails (take n b) (coefficient_at v) fault → e ≡ reduce_as_work fault → HaltsBy b t e
halts b t v n (of_reduction.Stop stop) e pair count fails is =
    subst (HaltsBy b t) (sym is) (inr (
      v,
      pair,
      subst (λ (c : List (List Term)). ChainStops c (coefficient_at v) stop) (ap (λ k. take k b) count
          ∙ take_whole b) fails,
    ))
halts b t v n of_reduction.NoMemory e pair count fails is = subst (HaltsBy b t) (sym is) tt
