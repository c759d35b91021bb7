use Rattle.strong_pairs.proofs.Chaining.{s_stands, g_stands, g_divisor}
use Rattle.strong_pairs.proofs.laws.pair_vectors_stand.Goals as goal

pub returns : goal.returns
returns c = record { s = s_stands; g = g_stands; divisor = g_divisor }
