use Rattle.std.proofs.Common.{rules, ◌≡◌, ap, sym, subst, ◌∙◌}
use Rattle.basis_log.specs.Items.{shown, item_source, IsItem, AreItems}
use Rattle.basis_log.specs.Rows.{row_source}
use Rattle.basis_log.specs.Seats.{shown_in}
use Rattle.basis_log.proofs.Logs.{items_more}
use Rattle.basis_log.proofs.Sitting.{shown_more}
use Rattle.basis_log.proofs.seats.admit.Goals as goal

pub returns-clause-items : goal.returns-clause-items
returns-clause-items c =
    let p = row_source c.args.row.now in
    let of : item_source (shown c.args.sight.value) ≡ p = search rules in
    let is : IsItem (shown c.args.sight.value) = subst (λ i. IsItem (shown i)) c.value-item.ensures c.known.ensures in
    let more = items_more p (shown_in c.args.seen.now.items) (shown c.args.sight.value) c.requires.items c.requires.unsealed is of in
    subst (AreItems p) (sym (ap shown_in c.push_reserved.ensures.items ∙ shown_more c.args.seen.now.items c.args.sight)) more
