use Rattle.std.proofs.Common.{◌≤◌, drop, length, arith}
use Rattle.presentation.proofs.Ends.{join, blanks, behind_front}
use Rattle.presentation.proofs.line.WordReader.at_bytes.Goals as goal

pub goes_to-requires-clause-end : goal.goes_to-requires-clause-end
goes_to-requires-clause-end c =
    let all = c.rest.result.now in
    let here = c.skip_blanks-here.result.now in
    let n = length c.as_bytes.result.now in
    let le : n ≤ length here = omega (arith, c.in-Some.ensures.cases.2) in
    rw (c.in-Some.ensures.cases.1, ← c.rest.ensures) (join all here (drop n here) (rw c.skip_blanks-here.ensures.rest (blanks all)) (behind_front n here le))

pub goes_to-requires-in-None-clause-end : goal.goes_to-requires-in-None-clause-end
goes_to-requires-in-None-clause-end c = rw (c.skip_blanks-here.ensures.rest, ← c.rest.ensures) (blanks c.rest.result.now)
