-- Pieces of bounded length.
use Rattle.std.specs.Prelude.{ℕ, min, Option, Some, None}

-- this many, or the length of a piece where that is less
abbrev pub in_piece : Option ℕ → ℕ → ℕ
in_piece None n = n
in_piece (Some most) n = min n most
