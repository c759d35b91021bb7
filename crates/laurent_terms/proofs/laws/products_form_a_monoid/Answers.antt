use Rattle.laurent_terms.proofs.Division.{product_assoc, product_comm, product-one}
use Rattle.laurent_terms.proofs.laws.products_form_a_monoid.Goals as goal

pub returns : goal.returns
returns c = record { associative = product_assoc; commutative = product_comm; neutral = product-one }
