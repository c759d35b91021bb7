-- A linear congruential generator of 64 bits.
use Rattle.std.specs.Prelude.{ℕ, ◌+◌, ◌*◌, ◌/◌, ◌%◌, ◌^◌}

-- the state after the next draw
abbrev pub next : ℕ → ℕ
next s = (s * 6364136223846793005 + 1442695040888963407) % 2 ^ 64

-- the number below the bound that the draw gives which led to the state s: the low bits are left out
abbrev pub drawn : ℕ → ℕ → ℕ
drawn s bound = s / 2 ^ 33 % bound
