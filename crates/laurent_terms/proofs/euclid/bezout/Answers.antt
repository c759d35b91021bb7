use Rattle.laurent_terms.proofs.LeastFactors.{bezout_equal, bezout_less, first_fits}
use Rattle.laurent_terms.proofs.euclid.bezout.Goals as goal

pub returns-then-factors-b : goal.returns-then-factors-b
returns-then-factors-b c =
    let r = c.gcd_factors-factors in
    bezout_equal c.args.c1 c.args.c2 c.ranges.c1 c.ranges.c2 c.requires.c1 c.requires.c2 c.unsigned_abs-a.result c.unsigned_abs-b.result
    c.unsigned_abs-a.ensures.value c.unsigned_abs-b.ensures.value r.result.divisor r.result.first r.result.second r.ensures c.if-factors-b.true

pub overflow_cast-result-2 : goal.overflow_cast-result-2
overflow_cast-result-2 c =
    let r = c.gcd_factors-factors in
    first_fits c.args.c1 c.args.c2 c.ranges.c1 c.ranges.c2 c.requires.c1 c.requires.c2 c.unsigned_abs-a.result c.unsigned_abs-b.result
    c.unsigned_abs-a.ensures.value c.unsigned_abs-b.ensures.value r.result.divisor r.result.first r.result.second r.ensures

pub returns : goal.returns
returns c =
    let r = c.gcd_factors-factors in
    bezout_less c.args.c1 c.args.c2 c.ranges.c1 c.ranges.c2 c.requires.c1 c.requires.c2 c.unsigned_abs-a.result c.unsigned_abs-b.result
    c.unsigned_abs-a.ensures.value c.unsigned_abs-b.ensures.value r.result.divisor r.result.first r.result.second r.ensures c.if-factors-b.false
