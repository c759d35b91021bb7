use Rattle.laurent_terms.proofs.Division.{divides-product, quotient-product, product-quotient}
use Rattle.laurent_terms.proofs.laws.quotients_undo_products.Goals as goal

pub returns : goal.returns
returns c = record { multiple = divides-product; quotient = quotient-product; back = product-quotient }
