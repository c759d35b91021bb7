use Rattle.saved_basis.proofs.Back.{is_read_back}
use Rattle.saved_basis.proofs.laws.written_bases_are_read.Goals as goal

pub returns : goal.returns
returns c = is_read_back
