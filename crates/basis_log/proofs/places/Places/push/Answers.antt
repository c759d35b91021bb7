use Rattle.std.proofs.Common.{arith, ◌≡◌, length, ◌++◌, ap, ◌∙◌, sym, Some}
use Rattle.std.proofs.lemmas.List.{length-append}
use Rattle.std.specs.Prelude.{slice_get}
use Rattle.basis_log.specs.Places.{cells_of}
use Rattle.basis_log.proofs.Standing.{placed_more, cells_more}
use Rattle.basis_log.proofs.places.Places.push.Goals as goal

pub invariant_of-self : goal.invariant_of-self
invariant_of-self c =
    let next : slice_get c.self.inside.row.now.directory (length c.self.inside.segments.items) ≡ Some c.args.sight.cell =
    rw (ap (λ p. p.row.directory) c.self.view_is, ap (λ p. length p.segments) c.self.view_is) c.requires in
    let full = sym (ap length c.value.ensures) ∙ c.known.ensures in (
      rw (c.push_reserved.ensures.items) (placed_more c.self.inside.row.now.directory c.self.inside.segments.items c.args.sight c.self.invariant.0 next full),
      rw (c.push_reserved.ensures.capacity) c.self.invariant.1,
    )

pub returns-clause-grows : goal.returns-clause-grows
returns-clause-grows c =
    let more = ap cells_of c.push_reserved.ensures.items ∙ cells_more c.self.inside.segments.items c.args.sight in
    (c.args.sight.value, sym (more ∙ ap (λ p. cells_of p.segments ++ c.args.sight.value) c.self.view_is))

pub returns-clause-longer : goal.returns-clause-longer
returns-clause-longer c =
    let more = ap (λ l. length (cells_of l)) c.push_reserved.ensures.items ∙ ap length (cells_more c.self.inside.segments.items c.args.sight) in
    let full = sym (ap length c.value.ensures) ∙ c.known.ensures in
    let old : length (cells_of c.self.inside.segments.items) ≡ length (cells_of c.args.self.now.segments) =
    ap (λ p. length (cells_of p.segments)) c.self.view_is in
    omega (arith, more, full, old, length-append (cells_of c.self.inside.segments.items) c.args.sight.value)
