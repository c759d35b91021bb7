use Rattle.magnus_laws.proofs.Homomorphisms.{homomorphisms_keep_relators}
use Rattle.magnus_laws.proofs.maps.homomorphisms_keep_relators.Goals as goal

pub returns : goal.returns
returns c = homomorphisms_keep_relators
