use Rattle.std.proofs.Common.{List, subst}
use Rattle.std.specs.Arc.{arc_value}
use Rattle.module_vec.specs.declared.places.Term.{Term}
use Rattle.pair_work.specs.Works.{IsUncovered, IsCarriedOut, HaltsBy}
use Rattle.pair_work.proofs.Closes.{handed_on}
use Rattle.pair_work.proofs.working.work.Goals as goal

pub returns-in_err-done : goal.returns-in_err-done
returns-in_err-done g c =
    let same = g.met.F.Front.vectors_are c.args.list.now in
    handed_on (arc_value c.args.p.now) (g.F.Front.entries c.args.list.now) c.args.task c.from_residual-in_err-done.result c.in_err-done.field-0.0
    c.from_residual-in_err-done.ensures.0 c.from_residual-in_err-done.ensures.1
    (subst (λ (vs : List (List Term)). IsUncovered vs c.args.task) same c.in_default.ensures)
    (subst (λ (vs : List (List Term)). HaltsBy vs c.args.task c.in_err-done.field-0.0) same c.in_err-done.ensures)

pub close-requires-clause-done : goal.close-requires-clause-done
close-requires-clause-done g c =
    let done = c.in_ok-done.done in
    subst (λ (vs : List (List Term)). IsCarriedOut vs c.args.task done.first done.second done.steps.items done.rest) (g.met.F.Front.vectors_are c.args.list.now)
    c.in_ok-done.ensures
