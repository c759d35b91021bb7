use Rattle.fox_calculus.proofs.GrowingLists.{put_zero, put_one}
use Rattle.fox_calculus.proofs.listing.put.Goals as goal

pub returns-then-is_empty : goal.returns-then-is_empty
returns-then-is_empty c = put_zero c.args.made.now.items c.args.v c.terms.result.now c.terms.ensures.is c.is_empty.result c.is_empty.ensures c.if-is_empty.true

pub returns : goal.returns
returns c =
    put_one c.args.made.now.items c.push.new.self.items c.args.v c.terms.result.now c.terms.ensures.is c.is_empty.result c.is_empty.ensures c.if-is_empty.false
    c.in_ok-push.ensures.items
