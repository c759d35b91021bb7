use Rattle.strong_pairs.proofs.Chaining.{chain_below, chain_up_to}
use Rattle.strong_pairs.proofs.FallingSteps.{chain_falls}
use Rattle.strong_pairs.proofs.laws.chains_stay_below.Goals as goal

pub returns : goal.returns
returns c = record {
  below = chain_below;
  up_to = chain_up_to;
  falling = λ b entries. chain_falls b entries (λ x. Unit {0}) (λ x y l h. tt);
}
