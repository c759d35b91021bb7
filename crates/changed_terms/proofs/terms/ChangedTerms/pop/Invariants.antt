use Rattle.std.proofs.Common.{◌≡◌, length}
use Rattle.changed_terms.proofs.terms.ChangedTerms.pop.Given as goal

abbrev pub invariant-loop-top : goal.invariant-loop-top
invariant-loop-top l = (l.self-inside.overlay.0 ≡ l.fn.self) × (l.self-inside.count ≡ length l.self-inside.overlay.0)

abbrev pub decreases-loop-top : goal.decreases-loop-top
decreases-loop-top l = l.self-inside.overlay.1
