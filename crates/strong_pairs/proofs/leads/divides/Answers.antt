use Rattle.std.proofs.Common.{rules, FitsSigned}
use mir.Syntax.{w128}
use Rattle.strong_pairs.proofs.CoverTests.{divides_word}
use Rattle.strong_pairs.proofs.leads.divides.Goals as goal

pub returns-clause-divides : goal.returns-clause-divides
returns-clause-divides c =
    let by : FitsSigned w128 c.args.by = search rules in
    let k : FitsSigned w128 c.args.k = search rules in
    divides_word c.args.by c.args.k by k c.requires.by c.requires.k
