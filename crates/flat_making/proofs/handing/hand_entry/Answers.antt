use Rattle.std.proofs.Common.{◌≡◌, sym, subst, List}
use Rattle.formal_sums.specs.FormalSum.{FormalSum}
use Rattle.module_vec.specs.declared.places.Place.{Place}
use Rattle.module_vec.specs.declared.steps.Step.{Step}
use Rattle.basis_entry.specs.declared.recipes.Recipe.{Recipe}
use Rattle.basis_entry.specs.declared.recipes.Recipe.TheVariants.{Sum}
use Rattle.flat_cert.specs.Adding.{sum_at, Adds}
use Rattle.flat_making.specs.declared.handed.Share.{Share}
use Rattle.flat_making.specs.Handing.{hands_on}
use Rattle.flat_making.specs.Pairs.{row_of, shares_hand}
use Rattle.flat_making.proofs.Handings.{one_row}
use Rattle.flat_making.proofs.Steps.{shares_are}
use Rattle.flat_making.proofs.handing.hand_entry.Goals as goal

pub returns-in_ok-row-in-Sum : goal.returns-in_ok-row-in-Sum
returns-in_ok-row-in-Sum c = λ row is.
    let n = c.args.number in
    let items : List Share = c.in_ok-row-in-Sum.row.items in
    let same : row_of n items ≡ row = one_row (sum_at c.args.handed.now) n (row_of n items) row c.in_ok-row-in-Sum.ensures.is is in
    let steps : List Step = c.in-Sum.steps in
    let given : Adds c.args.handed.now (shares_hand c.deref.result.now c.steps.result.now) c.hand_shares.new.handed c.hand_shares.result =
    c.hand_shares.ensures in
    let of_steps : Adds c.args.handed.now (shares_hand items steps) c.hand_shares.new.handed c.hand_shares.result =
    subst (λ ss. Adds c.args.handed.now (shares_hand items ss) c.hand_shares.new.handed c.hand_shares.result) c.steps.ensures
    (subst (λ (r : List Share). Adds c.args.handed.now (shares_hand r c.steps.result.now) c.hand_shares.new.handed c.hand_shares.result)
    c.deref.ensures.value given) in
    subst (λ (r : Recipe). Adds c.args.handed.now (hands_on row r) c.hand_shares.new.handed c.hand_shares.result) (sym c.in-Sum.is)
    (subst (λ (v : FormalSum Place). Adds c.args.handed.now (hands_on v (Sum steps)) c.hand_shares.new.handed c.hand_shares.result) same
    (subst (λ v. Adds c.args.handed.now v c.hand_shares.new.handed c.hand_shares.result) (sym (shares_are n items steps)) of_steps))
