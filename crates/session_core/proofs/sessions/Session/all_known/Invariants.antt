use Rattle.std.proofs.Common.{take}
use Rattle.std.specs.List.{AllByRecursion}
use Rattle.session_core.specs.Sessions.{IsSession}
use Rattle.session_core.proofs.sessions.Session.all_known.Given as goal

abbrev pub invariant-loop-session : goal.invariant-loop-session
invariant-loop-session l = AllByRecursion IsSession (take l.session-index l.sessions)
