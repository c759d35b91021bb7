use Rattle.std.proofs.Common.{rules, ◌+◌, ◌<◌, length}
use Rattle.legal_report.specs.Solutions.{IsNewSession}
use Rattle.solve_commands.proofs.SessionFiles.{one_more}
use Rattle.solve_commands.proofs.sessions.load_sessions.Goals as goal

pub loop-at-preserved : goal.loop-at-preserved
loop-at-preserved g c =
    let lt : c.loop-at.at < length c.args.names.now = search rules in
    let new : IsNewSession c.args.p.now c.args.base (c.loop-at.at + 1) c.in_ok-open.field-0 = search rules in
    record {
      read = one_more _ (g.S.Shelf.under c.loop-at.shelf) c.args.p.now c.args.base c.args.names.now c.loop-at.at _ c.loop-at.sessions.items _
          c.in_ok-questions.questions.items c.in_ok-open.field-0
          c.loop-at.invariant.read lt c.loop-at.invariant.same c.in_ok-questions.ensures.gives (search rules) new c.in_ok-push.ensures.items;
      same = search rules;
      later = search rules;
    }
