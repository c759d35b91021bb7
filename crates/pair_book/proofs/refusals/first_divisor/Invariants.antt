use Rattle.std.proofs.Common.{◌<◌, ℕ}
use Rattle.strong_pairs.specs.Pairs.{lead_at}
use Rattle.basis_entry.specs.Entries.{vectors_of}
use Rattle.pair_book.specs.Logs.{DividesLead}
use Rattle.pair_book.proofs.refusals.first_divisor.Given as goal

abbrev pub invariant-loop-k : goal.invariant-loop-k
invariant-loop-k l = (m : ℕ) → m < l.k → DividesLead (lead_at (vectors_of l.log.entries) m) l.e → ⊥
