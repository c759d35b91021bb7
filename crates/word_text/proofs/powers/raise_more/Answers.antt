use Rattle.std.proofs.Common.{◌≡◌, ◌*◌, ◌<◌, ◌≤◌, length, arith}
use Rattle.word_text.specs.Powers.{written}
use Rattle.word_text.proofs.Limits.{raise_nil, raise_ok, raise_long}
use Rattle.word_text.proofs.powers.raise_more.Goals as goal

pub returns-then-letters-eq0-clause-exact : goal.returns-then-letters-eq0-clause-exact
returns-then-letters-eq0-clause-exact c = λ atom e.
    let none : length atom ≡ 0 = omega arith in
    raise_nil written c.args.start c.args.so_far.negative c.args.next.negative c.args.next.times c.args.so_far.times atom none

pub returns-then-times-letters-clause-exact : goal.returns-then-times-letters-clause-exact
returns-then-times-letters-clause-exact c = λ atom e.
    let long : written < (c.args.next.times * c.args.so_far.times) * length atom = rw e c.if-times-letters.true in
    raise_long written c.args.start c.args.so_far.negative c.args.next.negative c.args.next.times c.args.so_far.times atom long

pub returns-clause-exact : goal.returns-clause-exact
returns-clause-exact c = λ atom e.
    let fits : c.then.result.times * length atom ≤ written = rw (c.then.ensures.times, e) c.if-times-letters.false in
    raise_ok written c.args.start c.args.so_far.negative c.args.next.negative c.then.result.negative c.args.next.times c.args.so_far.times
    c.then.result.times atom (c.then.ensures.same atom) fits
