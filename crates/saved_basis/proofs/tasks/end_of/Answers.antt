use Rattle.std.proofs.Common.{◌≡◌, take, ap, ◌∙◌, subst}
use Rattle.module_vec.specs.declared.places.Term.{Term}
use Rattle.module_vec.specs.Vectors.{coefficient_at}
use Rattle.pair_work.proofs.Reading.{take_whole}
use Rattle.reduce_cofactor.specs.Answers.{IsRest}
use Rattle.std.specs.Prelude.{List}
use Rattle.saved_basis.proofs.tasks.end_of.Goals as goal

pub returns : goal.returns
returns g c =
    let b : List (List Term) = g.L.VecList.vectors c.args.list.now in
    let whole : take c.count.result b ≡ b = ap (λ n. take n b) c.count.ensures.is ∙ take_whole b in (
      c.in_ok-vector.vector,
      c.in_ok-vector.ensures,
      (
        c.in_ok-rest.field-0-1.items,
        subst (λ x. IsRest x (coefficient_at c.in_ok-vector.vector) c.in_ok-rest.rest c.in_ok-rest.field-0-1.items) whole c.in_ok-rest.ensures,
      ),
    )
