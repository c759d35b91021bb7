use Rattle.std.proofs.Common.{◌≡◌, ap, sym, subst, ◌∙◌, Some, None, MatchOption, Option}
use Rattle.basis_entry.specs.Seals.{Seal}
use Rattle.basis_log.specs.Items.{seal_of, AreSomeItems}
use Rattle.basis_log.specs.Rows.{row_source}
use Rattle.basis_log.specs.Seats.{shown_in}
use Rattle.basis_log.proofs.Logs.{seal_after}
use Rattle.basis_log.proofs.seats.Seat.sealed.Goals as goal

pub last_seal-requires : goal.last_seal-requires
last_seal-requires c =
    let items : AreSomeItems (shown_in c.self.inside.seen.items) = record { source = row_source c.self.inside.places.row; items = c.self.invariant.0.items } in
    subst (λ ss. AreSomeItems (shown_in ss)) (sym c.as_slice.ensures.value) items

pub returns : goal.returns
returns c =
    let here = ap (λ ss. seal_of (shown_in ss)) c.as_slice.ensures.value in
    let whole = sym (seal_after c.self.inside.places.row.base (shown_in c.self.inside.seen.items)) ∙ ap (λ s. seal_of s.items) c.self.view_is in
    subst (λ (o : Option Seal). MatchOption c.last_seal.result (o ≡ None) (λ s. o ≡ Some s.now)) (here ∙ whole) c.last_seal.ensures
