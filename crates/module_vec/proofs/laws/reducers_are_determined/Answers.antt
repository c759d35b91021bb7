use Rattle.module_vec.proofs.Determined.{same_reducer}
use Rattle.module_vec.proofs.Scans.{reducer_least}
use Rattle.module_vec.proofs.laws.reducers_are_determined.Goals as goal

pub returns : goal.returns
returns c = record { one = same_reducer; least = λ b p i j e f g h r. reducer_least b p i e g r j f h }
