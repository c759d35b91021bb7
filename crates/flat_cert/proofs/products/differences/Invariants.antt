use Rattle.std.proofs.Common.{◌≡◌, ◌<◌, ℕ, pos, length, slice_index_or}
use Rattle.flat_cert.specs.Adding.{difference_in}
use Rattle.flat_cert.proofs.products.differences.Given as goal

abbrev pub invariant-loop-g : goal.invariant-loop-g
invariant-loop-g l = record {
  whole : length l.made ≡ 24;
  each : (k : ℕ) → k < l.g → slice_index_or l.made k (pos 0) ≡ difference_in l.s l.t k;
}
