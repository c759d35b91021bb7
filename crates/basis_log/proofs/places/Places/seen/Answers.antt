use Rattle.std.proofs.Common.{arith, ◌<◌, ◌%◌, length, ap, ◌∙◌, sym, subst}
use Rattle.std.specs.Prelude.{slice_get}
use Rattle.basis_log.specs.Places.{cells_of}
use Rattle.basis_log.proofs.Standing.{in_segments, read_cell}
use Rattle.basis_log.proofs.places.Places.seen.Goals as goal

pub index-requires : goal.index-requires
index-requires c =
    let below : c.args.at < length (cells_of c.self.inside.segments.items) =
    subst (λ l. c.args.at < length (cells_of l)) (sym (ap (λ p. p.segments) c.self.view_is)) c.requires in
    omega (arith, in_segments c.self.inside.segments.items c.args.at c.self.invariant.0.full below, c.self.inside.segments.ok)

pub returns : goal.returns
returns c =
    let same = ap (λ p. p.segments) c.self.view_is in
    let below : c.args.at < length (cells_of c.self.inside.segments.items) = subst (λ l. c.args.at < length (cells_of l)) (sym same) c.requires in
    let there = read_cell c.self.inside.segments.items c.args.at c.index.result.now c.self.invariant.0.full below in
    let value = c.value-segment.ensures ∙ ap (λ s. s.value) c.index.ensures in
    rw (← same) (there ∙ (ap (λ l. slice_get l (c.args.at % 256)) (sym value) ∙ c.cell.ensures))
