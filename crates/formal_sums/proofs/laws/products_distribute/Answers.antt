use Rattle.formal_sums.proofs.Integers.{*ℤ-+ℤ, +ℤ-*ℤ}
use Rattle.formal_sums.proofs.laws.products_distribute.Goals as goal

pub returns-clause-left : goal.returns-clause-left
returns-clause-left c = *ℤ-+ℤ

pub returns-clause-right : goal.returns-clause-right
returns-clause-right c = +ℤ-*ℤ
