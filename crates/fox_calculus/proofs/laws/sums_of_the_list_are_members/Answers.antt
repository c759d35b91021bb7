use Rattle.fox_calculus.proofs.Members.{listed_member}
use Rattle.fox_calculus.proofs.laws.sums_of_the_list_are_members.Goals as goal

pub returns : goal.returns
returns c = λ p gens v are sums. listed_member p gens v are sums
