use Rattle.std.proofs.Common.{rules, arith, ◌≡◌, ◌<◌, length, false, Some, None, ap, sym, subst, ◌∙◌}
use Rattle.std.specs.Prelude.{slice_get, is_some}
use Rattle.basis_log.specs.Items.{seal_of, AreItems}
use Rattle.basis_log.specs.Places.{cells_of}
use Rattle.basis_log.specs.Rows.{row_source}
use Rattle.basis_log.specs.Seats.{shown_in}
use Rattle.basis_log.proofs.Logs.{seal_after}
use Rattle.basis_log.proofs.Sitting.{as_none, seat_admitted, items_admitted}
use Rattle.basis_log.proofs.seats.Seat.look_once.Goals as goal

pub admit-requires-clause-unsealed : goal.admit-requires-clause-unsealed
admit-requires-clause-unsealed c =
    let no : is_some c.sealed.result ≡ false = search rules in
    let none : seal_of c.args.self.now.items ≡ None = as_none _ c.sealed.result no c.sealed.ensures in
    sym (seal_after c.self.inside.places.row.base (shown_in c.self.inside.seen.items)) ∙ (ap (λ s. seal_of s.items) c.self.view_is ∙ none)

pub invariant_of-self-2 : goal.invariant_of-self-2
invariant_of-self-2 c =
    let places = c.self.inside.places in
    let ss = c.self.inside.seen.items in
    let new = c.cell.new.self in
    let n : c.len-at.result ≡ length ss = search rules in
    let at : slice_get (cells_of new.segments) (length ss) ≡ Some c.in-Some-read.sight.cell =
    ap (slice_get (cells_of new.segments)) (sym n) ∙ (c.in-Some.ensures.cell ∙ ap Some (sym c.in-Some-read.ensures)) in
    let lt : length ss < places.row.cells =
    omega (arith, n, c.if-at-cells.false, c.cells.ensures, ap (λ r. r.cells) c.row.ensures, ap (λ s. s.row.cells) c.self.view_is) in
    let items : AreItems (row_source new.row) (shown_in c.admit.new.seen.items) =
    subst (λ r. AreItems (row_source r) (shown_in c.admit.new.seen.items)) c.row-2.ensures c.admit.ensures.items in (
      seat_admitted places new ss c.admit.new.seen.items c.in-Some-read.sight c.admit.result c.self.invariant.0 c.cell.ensures.row
          c.cell.ensures.grows at lt items
          c.admit.ensures.is,
      rw (c.cell.ensures.row, c.admit.ensures.capacity) c.self.invariant.1,
    )

pub returns-clause-items : goal.returns-clause-items
returns-clause-items c =
    let places = c.self.inside.places in
    items_admitted places.row.base c.cell.new.self.row.base c.args.self.now.items c.self.inside.seen.items c.admit.new.seen.items c.in-Some-read.sight
    c.admit.result
    c.is_none.result (ap (λ r. r.base) c.cell.ensures.row) (ap (λ s. s.items) c.self.view_is) c.is_none.ensures c.admit.ensures.is
