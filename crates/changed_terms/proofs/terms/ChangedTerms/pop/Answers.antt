use Rattle.std.proofs.Common.{◌∙◌, sym, ap, length}
use Rattle.changed_terms.proofs.terms.ChangedTerms.pop.Goals as goal

pub invariant_of-self-in_default : goal.invariant_of-self-in_default
invariant_of-self-in_default c = c.loop-top.invariant.1 ∙ ap length (c.in_default.ensures.is ∙ sym c.in_default.ensures.end)
