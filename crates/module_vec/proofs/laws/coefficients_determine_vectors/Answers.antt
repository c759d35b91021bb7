use Rattle.module_vec.proofs.Determined.{same_vector}
use Rattle.module_vec.proofs.laws.coefficients_determine_vectors.Goals as goal

pub returns : goal.returns
returns c = same_vector
