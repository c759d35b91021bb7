use Rattle.std.specs.Prelude.{length}
use Rattle.chain_rule.specs.ClosedPairs.{IsClosedPair}
use Rattle.chain_rule.proofs.Selected.{selected, where_all}
use Rattle.chain_rule.proofs.laws.tests_select_pairs.Goals as goal

pub returns : goal.returns
returns c = record {
  exact = selected;
  closed = λ b test h. where_all test (λ p. IsClosedPair b p.0 p.1) (length b) h;
}
