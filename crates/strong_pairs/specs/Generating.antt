-- Lists that generate the module of given vectors.
use Rattle.std.specs.Prelude.{◌≡◌, ℕ, ◌<◌, ◌≤◌, ◌⊎◌, negsuc, List, length}
use Rattle.formal_sums.specs.FormalSum.{scale}
use Rattle.module_vec.specs.declared.places.Term.{Term}
use Rattle.module_vec.specs.Modules.{vector_at, InModule}
use Rattle.module_vec.specs.Reducers.{AreEntries}
use Rattle.module_vec.specs.Vectors.{sum_of, coefficient_at}

-- w is v, or v with all signs turned
abbrev pub IsUpToSign : List Term → List Term → Type 0
IsUpToSign v w = (w ≡ v) ⊎ (sum_of w ≡ scale (negsuc 0) (sum_of v))

-- the list begins with the generators in their order, up to sign
pub record BeginsWith (gens b : List (List Term)) : Type 0 where
  pub room : length gens ≤ length b
  pub same : (i : ℕ) → i < length gens → IsUpToSign (vector_at gens i) (vector_at b i)

-- each generator stands in the list, up to sign
abbrev pub Holds : List (List Term) → List (List Term) → Type 0
Holds gens b = (i : ℕ) → i < length gens → (j : ℕ) × (j < length b) × IsUpToSign (vector_at gens i) (vector_at b j)

-- b is a list of entries that holds the generators up to sign, and otherwise vectors of their module alone
pub record IsGenerating (gens b : List (List Term)) : Type 0 where
  pub entries : AreEntries b
  pub generators : Holds gens b
  pub others : (j : ℕ) → j < length b → ((i : ℕ) × (i < length gens) × IsUpToSign (vector_at gens i) (vector_at b j))
      ⊎ InModule gens (coefficient_at (vector_at b j))
