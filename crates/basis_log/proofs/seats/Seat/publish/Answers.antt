use Rattle.std.proofs.Common.{rules, arith, ◌≡◌, ◌<◌, ◌++◌, ◌∷◌, [], length, false, Some, ap, sym, subst, ◌∙◌}
use Rattle.std.specs.Prelude.{slice_get, is_some}
use Rattle.basis_log.specs.Items.{shown, seal_of, AreItems}
use Rattle.basis_log.specs.Places.{cells_of}
use Rattle.basis_log.specs.Rows.{row_source}
use Rattle.basis_log.specs.Seats.{shown_in}
use Rattle.basis_log.proofs.Logs.{seal_after}
use Rattle.basis_log.proofs.Sitting.{as_none, seat_admitted, items_one_more}
use Rattle.basis_log.proofs.seats.Seat.publish.Goals as goal

pub admit-requires-clause-unsealed : goal.admit-requires-clause-unsealed
admit-requires-clause-unsealed c =
    sym (seal_after c.self.inside.places.row.base (shown_in c.self.inside.seen.items)) ∙ (ap (λ s. seal_of s.items) c.self.view_is ∙ c.requires.unsealed)

pub invariant_of-self-in-Some-back : goal.invariant_of-self-in-Some-back
invariant_of-self-in-Some-back c =
    let places = c.self.inside.places in
    let ss = c.self.inside.seen.items in
    let new = c.cell_or_set.new.self in
    let n : c.len-at.result ≡ length ss = search rules in
    let at : slice_get (cells_of new.segments) (length ss) ≡ Some c.set-sight.result.0.cell =
    ap (slice_get (cells_of new.segments)) (sym n) ∙ (c.in-Some.ensures.cell ∙ ap Some (sym c.set-sight.ensures.cell)) in
    let lt : length ss < places.row.cells =
    omega (arith, n, c.if-at-cells.false, c.cells.ensures, ap (λ r. r.cells) c.row.ensures, ap (λ s. s.row.cells) c.self.view_is) in
    let items : AreItems (row_source new.row) (shown_in c.admit.new.seen.items) =
    subst (λ r. AreItems (row_source r) (shown_in c.admit.new.seen.items)) c.row-2.ensures c.admit.ensures.items in (
      seat_admitted places new ss c.admit.new.seen.items c.set-sight.result.0 c.admit.result c.self.invariant.0 c.cell_or_set.ensures.row
          c.cell_or_set.ensures.grows at
          lt items c.admit.ensures.is,
      rw (c.cell_or_set.ensures.row, c.admit.ensures.capacity) c.self.invariant.1,
    )

pub invariant_of-self-2 : goal.invariant_of-self-2
invariant_of-self-2 c =
    let places = c.self.inside.places in
    let ss = c.self.inside.seen.items in
    let new = c.cell_or_set.new.self in
    let n : c.len-at.result ≡ length ss = search rules in
    let at : slice_get (cells_of new.segments) (length ss) ≡ Some c.set-sight.result.0.cell =
    ap (slice_get (cells_of new.segments)) (sym n) ∙ (c.in-Some.ensures.cell ∙ ap Some (sym c.set-sight.ensures.cell)) in
    let lt : length ss < places.row.cells =
    omega (arith, n, c.if-at-cells.false, c.cells.ensures, ap (λ r. r.cells) c.row.ensures, ap (λ s. s.row.cells) c.self.view_is) in
    let items : AreItems (row_source new.row) (shown_in c.admit.new.seen.items) =
    subst (λ r. AreItems (row_source r) (shown_in c.admit.new.seen.items)) c.row-2.ensures c.admit.ensures.items in (
      seat_admitted places new ss c.admit.new.seen.items c.set-sight.result.0 c.admit.result c.self.invariant.0 c.cell_or_set.ensures.row
          c.cell_or_set.ensures.grows at
          lt items c.admit.ensures.is,
      rw (c.cell_or_set.ensures.row, c.admit.ensures.capacity) c.self.invariant.1,
    )

pub returns-in-Some-back-clause-refused : goal.returns-in-Some-back-clause-refused
returns-in-Some-back-clause-refused c =
    let places = c.self.inside.places in
    let ss = c.self.inside.seen.items in
    let s = c.set-sight.result.0 in
    let no : is_some c.admit.result ≡ false = search rules in
    let taken : c.admit.new.seen.items ≡ ss ++ s ∷ [] = as_none _ c.admit.result no c.admit.ensures.is in
    let back : c.in-Some-back.item.value ≡ c.args.item.value = search rules in (
      shown s.value,
      rw (taken, ap (λ r. r.base) c.cell_or_set.ensures.row, ← ap (λ s. s.items) c.self.view_is) (items_one_more places.row.base ss s),
      λ e. grind (arith, e, back, c.same.ensures, c.deref.ensures, c.value-held.ensures, c.if-not-same.true),
    )
