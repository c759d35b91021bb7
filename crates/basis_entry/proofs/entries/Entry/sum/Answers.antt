use Rattle.std.specs.Arc.{arc_value}
use Rattle.basis_entry.proofs.Members.{value_member}
use Rattle.basis_entry.proofs.Over.{value_over}
use Rattle.basis_entry.proofs.entries.Entry.sum.Goals as goal

pub of-requires-clause-member : goal.of-requires-clause-member
of-requires-clause-member g c =
    value_member (arc_value c.args.p.now) (g.F.Front.entries c.args.list.now) (g.F.VecList.vectors c.args.list.now) c.args.steps c.args.vector
    (g.met.F.Front.vectors_are c.args.list.now) c.known.ensures c.requires.list c.requires.steps c.requires.value

pub of-requires-clause-over : goal.of-requires-clause-over
of-requires-clause-over g c =
    value_over (arc_value c.args.p.now) (g.F.Front.entries c.args.list.now) (g.F.VecList.vectors c.args.list.now) c.args.steps c.args.vector
    (g.met.F.Front.vectors_are c.args.list.now) c.known.ensures c.requires.list c.requires.over c.requires.entry c.requires.value
