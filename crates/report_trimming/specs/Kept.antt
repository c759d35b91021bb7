-- The entries that are kept, by marks.
use Rattle.std.specs.Prelude.{◌≡◌, ℕ, ◌+◌, Bool, true, if◌then◌else◌, List, [], ◌∷◌, ◌++◌, length, take, slice_get, Some}

-- the numbers that are marked, rising, where the first mark is that of number k
abbrev pub kept_from : ℕ → List Bool → List ℕ
kept_from k [] = []
kept_from k (b ∷ bs) = (if b then k ∷ [] else []) ++ kept_from (k + 1) bs

abbrev pub kept_by : List Bool → List ℕ
kept_by marks = kept_from 0 marks

-- how many numbers below k are kept
abbrev pub place_of : List Bool → ℕ → ℕ
place_of marks k = length (kept_by (take k marks))

-- the mark of number k is set
abbrev pub IsMarked : List Bool → ℕ → Type 0
IsMarked marks k = slice_get marks k ≡ Some true
