use Rattle.std.proofs.Common.{subst}
use Rattle.basis_log.specs.Items.{AreItems}
use Rattle.basis_log.specs.Rows.{row_source}
use Rattle.basis_log.specs.Seats.{Seen, shown_in}
use Rattle.basis_log.proofs.Logs.{items_after, entries_are, entries_of_row}
use Rattle.basis_log.proofs.seats.Seat.front.Goals as goal

pub returns-clause-items : goal.returns-clause-items
returns-clause-items c =
    let r = c.self.inside.places.row in
    let is = c.self.invariant.0 in
    subst (λ (s : Seen). AreItems (row_source s.row) s.items) c.self.view_is
    (items_after (row_source r) r.base (shown_in c.self.inside.seen.items) is.row.entries is.row.source is.items)

pub returns-clause-entries : goal.returns-clause-entries
returns-clause-entries c =
    let r = c.self.inside.places.row in
    let is = c.self.invariant.0 in
    let items : AreItems (row_source c.args.self.now.row) c.args.self.now.items = subst (λ (s : Seen). AreItems (row_source s.row) s.items) c.self.view_is
    (items_after (row_source r) r.base (shown_in c.self.inside.seen.items) is.row.entries is.row.source is.items) in
    entries_are (row_source c.args.self.now.row) c.args.self.now.items items

pub returns-clause-source : goal.returns-clause-source
returns-clause-source c =
    let r = c.self.inside.places.row in
    let is = c.self.invariant.0 in
    let items : AreItems (row_source c.args.self.now.row) c.args.self.now.items = subst (λ (s : Seen). AreItems (row_source s.row) s.items) c.self.view_is
    (items_after (row_source r) r.base (shown_in c.self.inside.seen.items) is.row.entries is.row.source is.items) in
    entries_of_row (row_source c.args.self.now.row) c.args.self.now.items items
