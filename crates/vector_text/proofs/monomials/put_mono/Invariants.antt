use Rattle.std.proofs.Common.{◌++◌}
use Rattle.vector_text.specs.Spelling.{monomial_text}
use Rattle.vector_text.proofs.Writing.{Remains}
use Rattle.vector_text.proofs.monomials.put_mono.Given as goal

abbrev pub invariant-loop-variable : goal.invariant-loop-variable
invariant-loop-variable l = Remains l.p.names l.out.items l.begun l.m l.variable (l.fn.out.items ++ monomial_text l.p.names l.m)
