use Rattle.std.proofs.Common.{◌≡◌, ◌∙◌, reverse, ap, sym, subst}
use Rattle.std.specs.List.{AllByRecursion}
use Rattle.flat_cert.specs.Adding.{sum_at}
use Rattle.flat_making.specs.Handing.{IsRow}
use Rattle.flat_making.specs.Pairs.{places_of, row_of, IsShare, between_entry, shares_of}
use Rattle.flat_making.proofs.Rows.{kept_row, kept_shares}
use Rattle.flat_making.proofs.handed.Handed.row.Goals as goal

pub returns-clause-is : goal.returns-clause-is
returns-clause-is c =
    let es = c.self.inside.pairs.entries in
    let items : c.reverse.new.self.items ≡ reverse (shares_of (between_entry c.args.entry es)) = c.reverse.ensures.items ∙ ap reverse c.in_ok-row.ensures.is in
    subst (λ ts. IsRow (sum_at ts) c.args.entry (row_of c.args.entry c.reverse.new.self.items)) c.self.view_is
    (subst (λ ss. IsRow (sum_at (places_of es)) c.args.entry (row_of c.args.entry ss)) (sym items)
    (kept_row c.args.entry es c.self.invariant.all c.in_ok-row.ensures.ordered))

pub returns-clause-shares : goal.returns-clause-shares
returns-clause-shares c =
    let es = c.self.inside.pairs.entries in
    let items : c.reverse.new.self.items ≡ reverse (shares_of (between_entry c.args.entry es)) = c.reverse.ensures.items ∙ ap reverse c.in_ok-row.ensures.is in
    subst (AllByRecursion IsShare) (sym items) (kept_shares c.args.entry es c.self.invariant.all c.in_ok-row.ensures.ordered)
