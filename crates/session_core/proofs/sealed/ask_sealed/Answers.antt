use Rattle.std.proofs.Common.{rules}
use Rattle.presentation.specs.Presented.{IsPresented}
use Rattle.session_core.proofs.Exactness.{sealed_answer}
use Rattle.session_core.proofs.sealed.ask_sealed.Goals as goal

pub returns-clause-exact : goal.returns-clause-exact
returns-clause-exact c =
    let known : IsPresented c.args.s.now.source = search rules in
    sealed_answer c.args.q.now c.args.s.now c.verdict.result known c.requires.question c.known-3.ensures c.known-2.ensures (search rules)
