use Rattle.laurent_terms.proofs.Ranks.{mono_cmp_total, mono_cmp_exact}
use Rattle.laurent_terms.proofs.laws.order_is_total.Goals as goal

pub returns : goal.returns
returns c = record { total = mono_cmp_total; exact = mono_cmp_exact }
