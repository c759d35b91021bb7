use Rattle.std.proofs.Common.{rules}
use Rattle.laurent_terms.proofs.Combining.{is_common_multiple}
use Rattle.laurent_terms.proofs.exponents.greater.Goals as goal

pub returns : goal.returns
returns c = search (rules, is_common_multiple)
