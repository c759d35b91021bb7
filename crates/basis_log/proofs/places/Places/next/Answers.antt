use Rattle.std.proofs.Common.{rules, arith, ◌≡◌, ◌<◌, length, ap, ◌∙◌, refl}
use Rattle.std.proofs.lemmas.Option.{slice_get_read, slice_get-map}
use Rattle.std.specs.Option.{option_map}
use Rattle.once_cell.specs.Once.{cell_name}
use Rattle.basis_log.specs.Places.{cells_of}
use Rattle.basis_log.proofs.Standing.{full_length}
use Rattle.basis_log.proofs.places.Places.next.Goals as goal

pub bounds-directory-len : goal.bounds-directory-len
bounds-directory-len c =
    let full = full_length c.self.inside.segments.items c.self.invariant.0.full in
    let same : length (cells_of c.self.inside.segments.items) ≡ length (cells_of c.args.self.now.segments) =
    ap (λ p. length (cells_of p.segments)) c.self.view_is in
    let row = ap (λ p. p.row.cells) c.self.view_is in
    omega (arith, full, same, row, c.len.ensures, c.directory.ensures.enough, c.requires.some, c.requires.next)

pub returns : goal.returns
returns c =
    let full = full_length c.self.inside.segments.items c.self.invariant.0.full in
    let same : length (cells_of c.self.inside.segments.items) ≡ length (cells_of c.args.self.now.segments) =
    ap (λ p. length (cells_of p.segments)) c.self.view_is in
    let row = ap (λ p. p.row.cells) c.self.view_is in
    let below : c.len.result < length c.directory.result.now =
    omega (arith, full, same, row, c.len.ensures, c.directory.ensures.enough, c.requires.some, c.requires.next) in
    let here = slice_get_read c.directory.result.now _ c.len.result c.index-directory-len.result refl below c.index-directory-len.is in
    let at : length c.args.self.now.segments ≡ c.len.result = search rules in
    record {
      is = rw (at, ← ap (λ p. p.row.directory) c.self.view_is, ← c.directory.ensures.is)
          (slice_get-map cell_name c.directory.result.now c.len.result ∙ ap (option_map cell_name) here);
      first = omega (arith, full, same, c.requires.next);
    }
