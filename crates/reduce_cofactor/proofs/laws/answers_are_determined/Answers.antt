use Rattle.reduce_cofactor.proofs.Answering.{one_rest, rest_or_stop, one_stop}
use Rattle.reduce_cofactor.proofs.laws.answers_are_determined.Goals as goal

pub returns : goal.returns
returns c = record { rest = one_rest; either = rest_or_stop; stop = one_stop }
