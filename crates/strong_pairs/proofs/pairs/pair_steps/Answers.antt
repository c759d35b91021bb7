use Rattle.std.proofs.Common.{ap, ◌∙◌, sym}
use Rattle.laurent_terms.specs.Monomials.{divides}
use Rattle.strong_pairs.proofs.LeadTerms.{divides_common}
use Rattle.strong_pairs.proofs.pairs.pair_steps.Goals as goal

pub quotient-requires : goal.quotient-requires
quotient-requires g c =
    let first = c.lead-first.ensures.term.place.variables in
    let second = c.lead-second.ensures.term.place.variables in
    ap (divides c.lead-first.result.at.m) c.in-Some.ensures.made.1 ∙ (divides_common c.lead-first.result.at.m c.lead-second.result.at.m (first ∙ sym second)).0

pub quotient-requires-2 : goal.quotient-requires-2
quotient-requires-2 g c =
    let first = c.lead-first.ensures.term.place.variables in
    let second = c.lead-second.ensures.term.place.variables in
    ap (divides c.lead-second.result.at.m) c.in-Some.ensures.made.1 ∙ (divides_common c.lead-first.result.at.m c.lead-second.result.at.m (first ∙ sym second)).1
