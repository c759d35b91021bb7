use Rattle.std.proofs.Common.{rules, ◌≡◌, ◌∙◌, ap, pos, FitsSigned}
use mir.Syntax.{w128}
use Rattle.flat_cert.specs.Adding.{sum_at}
use Rattle.flat_cert.proofs.Entries.{Entries, sum_last}
use Rattle.flat_cert.proofs.totals.Totals.lead.Goals as goal

pub loop-at-preserved : goal.loop-at-preserved
loop-at-preserved c =
    let k : FitsSigned w128 c.in-Some.total.sum = search rules in
    let zero : c.in-Some.total.sum ≡ pos 0 = search rules in
    λ x. c.loop-at.invariant x ∙ ap (λ (es : Entries). sum_at es x) c.in-Some.ensures.removal
    ∙ sum_last c.pop_last.new.self.entries c.in-Some.at c.in-Some.total x zero
