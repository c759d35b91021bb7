use Rattle.module_vec.proofs.FallingTerms.{lead_degree}
use Rattle.module_vec.proofs.laws.leads_have_the_greatest_degree.Goals as goal

pub returns : goal.returns
returns c = λ e g h. lead_degree e g h.falling.0
