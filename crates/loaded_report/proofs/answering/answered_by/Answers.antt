use Rattle.std.proofs.Common.{rules, ◌≤◌, Some}
use Rattle.basis_entry.specs.Seals.{item_count}
use Rattle.session_core.specs.Sessions.{last_front}
use Rattle.legal_report.specs.Gathering.{CanGoOn}
use Rattle.loaded_report.proofs.answering.answered_by.Goals as goal

pub answered-requires-clause-sessions : goal.answered-requires-clause-sessions
answered-requires-clause-sessions c = λ i s at.
    let go : CanGoOn c.args.p.now c.args.seal.now.entries (Some c.args.seal.now) s = c.requires.sessions i s at in
    search (rules, go)
