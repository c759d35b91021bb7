use Rattle.module_vec.proofs.Order.{moved_cmp}
use Rattle.module_vec.proofs.laws.order_is_kept_by_multiples.Goals as goal

pub returns : goal.returns
returns c = moved_cmp
