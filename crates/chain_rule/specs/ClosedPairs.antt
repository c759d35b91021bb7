-- Pairs of entries whose S tasks are known to be truly closed.
use Rattle.std.specs.List.{AllByRecursion, Contains}
use Rattle.std.specs.Prelude.{ℕ, zero, suc, Bool, if◌then◌else◌, ◌⊎◌, List, [], ◌∷◌, ◌++◌}
use Rattle.module_vec.specs.declared.places.Term.{Term}
use Rattle.outcomes.specs.declared.kinds.PairKind.TheVariants.{S}
use Rattle.strong_pairs.specs.Pairs.{IsPair}
use Rattle.strong_pairs.specs.Tasks.{IsClosed}

-- i and j, in either order, are one of the pairs
abbrev pub IsAmong : List (ℕ × ℕ) → ℕ → ℕ → Type 0
IsAmong pairs i j = Contains pairs (i, j) ⊎ Contains pairs (j, i)

-- i and j are a pair of entries, and its S task is truly closed
abbrev pub IsClosedPair : List (List Term) → ℕ → ℕ → Type 0
IsClosedPair b i j = IsPair b i j × IsClosed b S i j

-- the same, in either order
abbrev pub IsClosedEither : List (List Term) → ℕ → ℕ → Type 0
IsClosedEither b i j = IsClosedPair b i j ⊎ IsClosedPair b j i

-- each of the pairs is a pair of entries, and its S task is truly closed
abbrev pub AreClosedPairs : List (List Term) → List (ℕ × ℕ) → Type 0
AreClosedPairs b pairs = AllByRecursion (λ p. IsClosedPair b p.0 p.1) pairs

-- ---- pairs that are given by a test

-- the pairs i and j, with i below n, that pass the test
abbrev pub pairs_with : (ℕ → ℕ → Bool) → ℕ → ℕ → List (ℕ × ℕ)
pairs_with test j zero = []
pairs_with test j (suc i) = if test i j then (i, j) ∷ pairs_with test j i else pairs_with test j i

-- the pairs of numbers below n, the lesser one first, that pass the test
abbrev pub pairs_where : (ℕ → ℕ → Bool) → ℕ → List (ℕ × ℕ)
pairs_where test zero = []
pairs_where test (suc j) = pairs_with test j j ++ pairs_where test j
