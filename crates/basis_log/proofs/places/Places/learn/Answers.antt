use Rattle.std.proofs.Common.{sym, ap, ◌∙◌, subst}
use mathlib.Core.List.{IsPrefix}
use Rattle.basis_log.specs.Sights.{cells_in}
use Rattle.basis_log.proofs.Prefixes.{prefixes_agree}
use Rattle.basis_log.proofs.places.Places.learn.Goals as goal

pub learn-requires-clause-cells : goal.learn-requires-clause-cells
learn-requires-clause-cells c =
    let rows = ap (λ p. p.row.directory) c.other.view_is ∙ (ap (λ r. r.directory) c.requires ∙ sym (ap (λ p. p.row.directory) c.self.view_is)) in
    let theirs = subst (IsPrefix (cells_in c.other.inside.segments.items)) rows c.other.invariant.0.cells in
    let both = prefixes_agree (cells_in c.self.inside.segments.items) (cells_in c.other.inside.segments.items) _ c.self.invariant.0.cells theirs in
    rw (c.as_mut_slice.ensures.value) both
