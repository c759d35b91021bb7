use Rattle.std.proofs.Common.{◌≡◌, ◌⊎◌, ◌+◌, ◌*◌, ◌<◌, ℕ, slice_index}
use Rattle.flat_cert.proofs.line_text.is_flat.Given as goal

-- of each generator up to here one variable is missing
abbrev pub invariant-loop-g : goal.invariant-loop-g
invariant-loop-g l = (k : ℕ) → k < l.g → (slice_index l.m (2 * k) ≡ 0) ⊎ (slice_index l.m (2 * k + 1) ≡ 0)
