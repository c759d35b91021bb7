use Rattle.std.proofs.Common.{refl, subst}
use Rattle.pair_book.specs.Books.{Held}
use Rattle.pair_work.specs.Works.{ClosesAs}
use Rattle.basis_entry.specs.Entries.{vectors_of}
use Rattle.std.specs.Arc.{arc_value}
use Rattle.completion_solo.proofs.Ending.{ends_stopped, never_closes}
use Rattle.completion_solo.proofs.Working.{stops_here}
use Rattle.completion_solo.proofs.rounds.stopped.Goals as goal

pub unreachable-requires : goal.unreachable-requires
unreachable-requires c =
    let h : Held = c.args.book.now in
    let o = c.in-Ok.field-0 in
    never_closes h c.known.ensures c.requires.ready.none_taken c.requires.none_open (c.requires.ready.hard refl) (arc_value c.args.p.now) c.args.task
    o.close c.requires.first
    (subst (λ (x : Held). ClosesAs (arc_value c.args.p.now) (vectors_of x.entries) c.args.task o.close) c.over.ensures.list c.in-Ok.ensures.3)

pub returns-in-Err-Stop : goal.returns-in-Err-Stop
returns-in-Err-Stop c =
    let h : Held = c.args.book.now in
    ends_stopped h c.known.ensures c.requires.ready.none_taken c.requires.none_open (c.requires.ready.hard refl) (arc_value c.args.p.now) c.args.task
    c.in-Err-Stop.stop c.requires.budget c.requires.first
    (stops_here (arc_value c.args.p.now) c.over.result.list.now h c.args.task c.in-Err-Stop.field-0 c.in-Err-Stop.stop c.over.ensures.list
    c.in-Err-Stop.field-0-is c.in-Err-Stop.ensures)
