use Rattle.std.proofs.Common.{ap, ◌∙◌}
use Rattle.std.proofs.lemmas.Cmp.{tied_itself}
use Rattle.module_vec.specs.Places.{place_cmp}
use Rattle.module_vec.proofs.Order.{place_total, place_exact}
use Rattle.module_vec.proofs.laws.order_is_total.Goals as goal

pub returns-clause-total : goal.returns-clause-total
returns-clause-total c = place_total

pub returns-clause-exact : goal.returns-clause-exact
returns-clause-exact c = λ p q. (place_exact p q, λ e. ap (λ r. place_cmp r q) e ∙ tied_itself place_total q)
