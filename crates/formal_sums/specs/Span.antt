-- What a set of formal sums spans where keys can be moved: the finite sums of multiples q·t·g, with q an integer, t an
-- element that moves keys, and g of the set.
use Rattle.std.specs.Prelude.{ℤ, Bool, [], ◌++◌}
use Rattle.formal_sums.specs.FormalSum.{FormalSum, Same, scale, rename}

-- q·t·g: each key of g is moved by t, and each coefficient is multiplied by q
abbrev pub multiple : {K T : Type 0} → (T → K → K) → ℤ → T → FormalSum K → FormalSum K
multiple move q t g = scale q (rename (move t) g)

-- a finite sum of multiples of sums g with IsGenerator g, by elements t with Moves t
pub data SumOfMultiples {K T : Type 0} (move : T → K → K) (Moves : T → Type 0) (IsGenerator : FormalSum K
    → Type 0) : FormalSum K → Type 0 where
  nothing : SumOfMultiples move Moves IsGenerator []
  more : (q : ℤ) (t : T) (g v : FormalSum K) → Moves t → IsGenerator g → SumOfMultiples move Moves IsGenerator v
      → SumOfMultiples move Moves IsGenerator (multiple move q t g ++ v)

-- v is such a sum
abbrev pub IsSpanned : {K T : Type 0} → (K → K → Bool) → (T → K → K) → (T → Type 0) → (FormalSum K → Type 0)
    → FormalSum K → Type 0
IsSpanned {K} eq move Moves IsGenerator v = (w : FormalSum K) × SumOfMultiples move Moves IsGenerator w × Same eq v w
