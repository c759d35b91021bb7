use Rattle.flat_making.proofs.Naming.{put_zero, put_named}
use Rattle.flat_making.proofs.kinds.put.Goals as goal

pub returns-then-is_zero : goal.returns-then-is_zero
returns-then-is_zero c = put_zero c.args.made.now.items c.args.kind c.args.is_zero c.if-is_zero.true

pub returns : goal.returns
returns c = put_named c.args.made.now.items c.push.new.self.items c.args.kind c.args.is_zero c.if-is_zero.false c.in_ok-push.ensures.items
