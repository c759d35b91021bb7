-- A shelf in memory.
use Rattle.std.specs.Prelude.{◌≡◌, ℕ, min, List, [], ◌++◌, length, take, drop, Option, Some, None, IsNone, ◌⊎◌}
use Rattle.std.specs.Prelude.{slice_get, Result, Ok, Err}
use Rattle.mb_io.specs.Calls.{Calls, no_calls, IsDue, after_call, after_fault}
use Rattle.mb_io.specs.Files.{Named, file_named}
use Rattle.mb_io.specs.Piece.{in_piece}
use Rattle.mb_io.specs.declared.shelf.Failed.{Failed}

-- its files, the calls made, the bytes left to read, and the most that a read gives, where that is bounded
pub record ShelfState : Type 0 where
  pub files : List Named
  pub calls : Calls
  pub left : List ℕ
  pub most : Option ℕ

-- nothing is read yet
abbrev pub fresh_shelf : List Named → List ℕ → ShelfState
fresh_shelf files failing = record { files = files; calls = no_calls failing; left = []; most = None }

-- what is left of a file, if there is one
abbrev pub rest_of_file : Option Named → ℕ → List ℕ
rest_of_file None given = []
rest_of_file (Some f) given = drop given f.bytes

-- what is left of the open file
abbrev pub rest_of : List Named → Option ℕ → ℕ → List ℕ
rest_of files None given = []
rest_of files (Some i) given = rest_of_file (slice_get files i) given

-- the first file of this name was opened, unless the call is to fail or there is none
abbrev pub Starts : ShelfState → List ℕ → Result (Unit {0}) Failed → ShelfState → Type 0
Starts old name (Ok _) new =
    (¬ IsDue old.calls) × (file_named old.files name ≡ Some new.left)
    × (new ≡ record old { calls = after_call old.calls; left = new.left })
Starts old name (Err _) new =
    (IsDue old.calls ⊎ IsNone (file_named old.files name))
    × (new ≡ record old { calls = after_fault old.calls; left = [] })

-- as many of the bytes left as fit the buffer and the piece were put at its front, unless the call is to fail
abbrev pub Reads : ShelfState → List ℕ → Result ℕ Failed → List ℕ → ShelfState → Type 0
Reads old buf (Ok n) filled new =
    (¬ IsDue old.calls) × (n ≡ min (in_piece old.most (length buf)) (length old.left))
    × (filled ≡ take n old.left ++ drop n buf)
    × (new ≡ record old { calls = after_call old.calls; left = drop n old.left })
Reads old buf (Err _) filled new =
    IsDue old.calls × (filled ≡ buf) × (new ≡ record old { calls = after_fault old.calls })
