use Rattle.basis_entry.proofs.Sizes.{few_terms, bases_alike}
use Rattle.basis_entry.proofs.laws.generator_entries_are_short.Goals as goal

pub returns-clause-few : goal.returns-clause-few
returns-clause-few c = few_terms

pub returns-clause-alike : goal.returns-clause-alike
returns-clause-alike c = bases_alike
