use Rattle.std.proofs.Common.{rules, ◌≡◌, ◌+◌, ◌-◌, ◌<◌, length, subst, arith}
use Rattle.legal_report.specs.Last.{IsLastKind}
use Rattle.legal_report.proofs.Lasting.{one_put}
use Rattle.legal_report.proofs.last.put_kinds.Goals as goal

pub loop-place-preserved : goal.loop-place-preserved
loop-place-preserved g c =
    let lt : c.loop-place.place < length c.args.session.now.questions = search rules in
    let same : c.loop-place.place + 1 - 1 ≡ c.loop-place.place = omega arith in
    one_put c.args.p.now (g.F.Front.entries c.args.list.now) (g.F.Front.seal c.args.list.now) c.args.session.now c.loop-place.place c.args.kinds.now.items
    c.loop-place.kinds.items c.loop-place.invariant c.requires.replied lt c.in_ok-last_kind.field-0 c.push.new.self.items
    (subst (λ n. IsLastKind c.args.p.now (g.F.Front.entries c.args.list.now) (g.F.Front.seal c.args.list.now) c.args.session.now n c.in_ok-last_kind.field-0)
    same c.in_ok-last_kind.ensures) c.in_ok-push.ensures.items
