use Rattle.std.proofs.Common.{rules, ap, FitsSigned}
use Rattle.std.proofs.lemmas.Int.{to_z-of_z}
use mir.Syntax.{w128}
use Rattle.module_vec.specs.declared.places.Term.{Term}
use Rattle.strong_pairs.specs.Pairs.{lead_at}
use Rattle.saved_basis.proofs.Testing.{settled}
use Rattle.saved_basis.proofs.tasks.starts_closed.Goals as goal

pub returns-else-divides : goal.returns-else-divides
returns-else-divides g c =
    let one : FitsSigned w128 c.lead-first.result.k = search rules in
    let two : FitsSigned w128 c.lead-second.result.k = search rules in
    let first = simp to_z-of_z at c.divides.ensures.divides in
    let second = simp to_z-of_z at c.divides-else-divides.ensures.divides in
    settled c.lead-first.result.k c.lead-second.result.k (lead_at (g.L.VecList.vectors c.args.list.now) c.args.i).k
    (lead_at (g.L.VecList.vectors c.args.list.now) c.args.j).k (ap (λ (t : Term). t.k) c.lead-first.ensures.is)
    (ap (λ (t : Term). t.k) c.lead-second.ensures.is) c.divides.result c.divides-else-divides.result first c.if-divides.false second
