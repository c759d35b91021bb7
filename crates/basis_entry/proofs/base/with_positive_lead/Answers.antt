use Rattle.std.proofs.Common.{◌≡◌, true, rules}
use Rattle.basis_entry.specs.Base.{has_negative_lead}
use Rattle.basis_entry.proofs.Vectors.{turned_entry}
use Rattle.basis_entry.proofs.base.with_positive_lead.Goals as goal

pub returns-clause-entry : goal.returns-clause-entry
returns-clause-entry c =
    let sign : has_negative_lead c.args.vector ≡ true = search rules in
    turned_entry c.args.vector c.negate.new.self c.has_negative_lead.ensures.vector c.requires.some sign c.negate.ensures
