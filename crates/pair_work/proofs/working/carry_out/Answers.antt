use Rattle.reduce_cofactor.proofs.Resting.{err_matches}
use Rattle.reduce_cofactor.specs.Answers.{IsRest}
use Rattle.std.proofs.Common.{List, take, subst, ap, ◌∙◌}
use Rattle.module_vec.specs.declared.places.Term.{Term}
use Rattle.module_vec.specs.Vectors.{coefficient_at}
use Rattle.outcomes.specs.declared.tasks.Task.{Task}
use Rattle.pair_work.proofs.Reading.{take_whole}
use Rattle.pair_work.proofs.Halting.{halts}
use Rattle.pair_work.proofs.working.carry_out.Goals as goal

pub returns-in_err-rest : goal.returns-in_err-rest
returns-in_err-rest g c =
    err_matches _ c.from_residual-in_err-rest.result _ _ c.from_residual-in_err-rest.ensures.1
    (λ e is. halts (g.L.VecList.vectors c.args.list.now) c.args.task c.in_ok-vector.vector c.count.result c.in_err-rest.field-0.0 e
    (c.in_ok-vector.ensures c.args.task.kind c.args.task.i c.args.task.j c.in_ok-first.ensures.steps)
    c.count.ensures.is c.in_err-rest.ensures is)

pub returns : goal.returns
returns g c =
    let b : List (List Term) = g.L.VecList.vectors c.args.list.now in
    let t : Task = c.args.task in
    record {
      pair_steps = c.in_ok-first.ensures.steps.1;
      first_reach = c.in_ok-first.ensures.reach.0;
      second_reach = c.in_ok-first.ensures.reach.1;
      vector = c.in_ok-vector.vector;
      pair = c.in_ok-vector.ensures t.kind t.i t.j c.in_ok-first.ensures.steps;
      rest = subst (λ (es : List (List Term)). IsRest es (coefficient_at c.in_ok-vector.vector) c.in_ok-rest.rest c.in_ok-rest.steps.items)
          (ap (λ k. take k b) c.count.ensures.is ∙ take_whole b) c.in_ok-rest.ensures;
    }
