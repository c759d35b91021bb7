-- A sink in memory.
use Rattle.std.specs.Prelude.{◌≡◌, ◌≢◌, ℕ, ◌-◌, min, List, [], ◌++◌, length, take, Option, None, ◌⊎◌, Result, Ok, Err}
use Rattle.mb_io.specs.Calls.{Calls, no_calls, IsDue, after_call, after_fault}
use Rattle.mb_io.specs.Piece.{in_piece}
use Rattle.mb_io.specs.declared.shelf.Failed.{Failed}

-- the bytes taken, the calls made, the room left, and the most that a write takes, where that is bounded
pub record SinkState : Type 0 where
  pub taken : List ℕ
  pub calls : Calls
  pub room : ℕ
  pub most : Option ℕ

-- nothing is taken yet
abbrev pub fresh_sink : ℕ → List ℕ → SinkState
fresh_sink room failing = record { taken = []; calls = no_calls failing; room = room; most = None }

-- no room is left for this piece
abbrev pub IsFull : SinkState → List ℕ → Type 0
IsFull sink piece = (sink.room ≡ 0) × (piece ≢ [])

-- as much of the piece as its bound and the room allow was taken, unless the write is to fail or no room is left
abbrev pub Writes : SinkState → List ℕ → Result ℕ Failed → SinkState → Type 0
Writes old piece (Ok n) new =
    (¬ IsDue old.calls) × (¬ IsFull old piece)
    × (n ≡ min (in_piece old.most (length piece)) old.room)
    × (new ≡ record old { taken = old.taken ++ take n piece; calls = after_call old.calls; room = old.room - n })
Writes old piece (Err _) new =
    (IsDue old.calls ⊎ IsFull old piece)
    × (new ≡ record old { calls = after_fault old.calls })
