use Rattle.std.proofs.Common.{rules, ◌≡◌, Some, slice_get}
use Rattle.legal_report.proofs.gathering.answered.Goals as goal

pub answer-requires-clause-sessions : goal.answer-requires-clause-sessions
answer-requires-clause-sessions g c = λ i s at.
    let here : slice_get c.args.sessions.items i ≡ Some s = search (rules, at) in
    c.requires.sessions i s here
