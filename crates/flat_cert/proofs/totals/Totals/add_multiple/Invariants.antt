use Rattle.std.proofs.Common.{drop}
use Rattle.formal_sums.specs.Span.{multiple}
use Rattle.module_vec.specs.Places.{moved}
use Rattle.module_vec.specs.Vectors.{sum_of}
use Rattle.flat_cert.specs.Images.{flat_image}
use Rattle.flat_cert.specs.Adding.{Adds}
use Rattle.flat_cert.proofs.Entries.{Entries}
use Rattle.flat_cert.proofs.Adding.{Answer}
use Rattle.flat_cert.proofs.totals.Totals.add_multiple.Given as goal

-- what comes of the terms that are left comes of all
abbrev pub invariant-loop-term : goal.invariant-loop-term
invariant-loop-term l = (new : Entries) (r : Answer) → Adds l.self (flat_image (multiple moved l.k l.t (sum_of (drop l.term-index l.g)))) new r
    → Adds l.fn.self (flat_image (multiple moved l.k l.t (sum_of l.g))) new r
