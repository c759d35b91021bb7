use Rattle.std.proofs.Common.{drop}
use Rattle.flat_cert.specs.Adding.{TakesLines}
use Rattle.flat_cert.proofs.Entries.{Entries}
use Rattle.flat_cert.proofs.Adding.{Answer}
use Rattle.flat_cert.proofs.check.take_lines.Given as goal

-- what comes of the lines that are left comes of all
abbrev pub invariant-loop-line : goal.invariant-loop-line
invariant-loop-line l = (new : Entries) (r : Answer) → TakesLines l.p l.totals (drop l.line-index l.list) new r → TakesLines l.p l.fn.totals l.list new r
