use Rattle.std.proofs.Common.{◌<◌, subst}
use Rattle.module_vec.specs.declared.places.Term.{Term}
use Rattle.chain_rule.specs.ClosedPairs.{AreClosedPairs}
use Rattle.chain_rule.specs.Chaining.{ChainsLeads}
use Rattle.chain_rule.proofs.ChainRule.{closed_through}
use Rattle.chain_rule.proofs.chaining.chained.Goals as goal

pub returns-clause-closed : goal.returns-clause-closed
returns-clause-closed g c h =
    let b = g.L.VecList.vectors c.args.list.now in
    let pairs = g.H.Shut.pairs c.args.shut.now in
    let closed = subst (λ v. AreClosedPairs v pairs) c.requires.same c.with_both.ensures.closed in
    let both = c.with_both.ensures.exact.0 h in
    let third = c.is_third.ensures.0 c.if-not-is_third.false in
    let leads = c.chains_leads.ensures.0 c.if-not-chains_leads.false in
    closed_through b c.count.ensures.entries pairs closed c.args.i c.args.j c.args.by c.requires.pair (record {
      number = subst (λ n. c.args.by < n) c.count.ensures.is third.0;
      not_first = third.1;
      not_second = third.2;
      leads = subst (λ (e : Term × Term × Term). ChainsLeads e.0 e.1 e.2) (λ n. (c.lead.ensures.is n, c.lead-2.ensures.is n, c.lead-3.ensures.is n)) leads;
      with_first = both.0;
      with_second = both.1;
    })
