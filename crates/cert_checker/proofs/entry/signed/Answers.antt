use Rattle.cert_checker.proofs.Signs.{turned_sign}
use Rattle.cert_checker.proofs.entry.signed.Goals as goal

pub returns : goal.returns
returns c = turned_sign c.args.negated c.args.vector.now c.in_ok-made.made c.negate.new.self c.if-not-negated.false c.in_ok-made.ensures c.negate.ensures
