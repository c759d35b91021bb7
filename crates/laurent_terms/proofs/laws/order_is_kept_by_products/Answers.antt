use Rattle.laurent_terms.proofs.Ranks.{mono_cmp-product}
use Rattle.laurent_terms.proofs.laws.order_is_kept_by_products.Goals as goal

pub returns : goal.returns
returns c = mono_cmp-product
