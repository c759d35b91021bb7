use Rattle.std.proofs.Common.{length}
use Rattle.report_reading.proofs.Listing.{IsLeft}
use Rattle.report_reading.proofs.report.read_body.Given as goal

-- these lines were told, and the rest is left
abbrev pub invariant-loop-line : goal.invariant-loop-line
invariant-loop-line l = IsLeft l.form l.p l.text l.number l.reader l.rest

abbrev pub decreases-loop-line : goal.decreases-loop-line
decreases-loop-line l = length l.rest
