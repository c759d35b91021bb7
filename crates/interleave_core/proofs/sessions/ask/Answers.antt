use Rattle.std.proofs.Common.{rules, ◌<◌, length}
use Rattle.interleave_core.proofs.Replying.{asked_now}
use Rattle.interleave_core.proofs.sessions.ask.Goals as goal

pub returns-in_ok-ask-clause-ok : goal.returns-in_ok-ask-clause-ok
returns-in_ok-ask-clause-ok g c =
    let lt : length c.args.session.now.kept < length c.args.session.now.questions = search rules in
    asked_now c.args.p.now (g.F.Front.entries c.args.list.now) (g.F.Front.seal c.args.list.now) c.args.session.now c.ask.new.self c.in_ok-ask.field-0 lt
    c.in_ok-ask.ensures.reply c.in_ok-ask.ensures.kept
