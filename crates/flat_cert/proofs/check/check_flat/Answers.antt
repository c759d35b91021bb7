use Rattle.flat_cert.proofs.Named.{equal_images, shown_trivial, named_over}
use Rattle.flat_cert.proofs.check.check_flat.Goals as goal

pub returns-clause-equal : goal.returns-clause-equal
returns-clause-equal c = equal_images c.args.p.now c.args.w.now c.args.list.now c.checked.result c.checked.ensures

pub returns-clause-sound : goal.returns-clause-sound
returns-clause-sound c =
    shown_trivial c.args.p.now c.args.w.now c.args.list.now c.checked.result c.known.ensures c.requires.over c.requires.lines c.checked.ensures

pub returns-clause-over : goal.returns-clause-over
returns-clause-over c =
    named_over c.args.p.now c.args.w.now c.args.list.now c.known.ensures c.requires.over c.requires.lines c.checked.result c.checked.ensures
