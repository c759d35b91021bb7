-- Formal sums over the integers: lists of terms, each a coefficient and a key. The list stands for
-- the sum of its terms, so its order, zero coefficients and several terms with one key say nothing:
-- two sums are the same where each key has the same coefficient in both. Addition is `++`, and the
-- empty list is 0. Keys are compared by a test `eq`; a strict order of keys is a relation `Below`.
use Rattle.std.specs.Prelude.{◌≡◌, ◌≢◌, Bool, if◌then◌else◌, ℤ, pos, ◌+ℤ◌, ◌*ℤ◌, List, [], ◌∷◌, map, ⊤}
use Rattle.std.specs.List.{AllByRecursion}

abbrev pub FormalSum : Type 0 → Type 0
FormalSum K = List (ℤ × K)

-- the coefficient of the key k: what the terms with this key add up to
abbrev pub coefficient : {K : Type 0} → (K → K → Bool) → FormalSum K → K → ℤ
coefficient eq [] k = pos 0
coefficient eq (t ∷ v) k = (if eq t.1 k then t.0 else pos 0) +ℤ coefficient eq v k

-- equality of sums: each key has the same coefficient
abbrev pub Same : {K : Type 0} → (K → K → Bool) → FormalSum K → FormalSum K → Type 0
Same {K} eq v w = (k : K) → coefficient eq v k ≡ coefficient eq w k

-- the multiple q·v
abbrev pub scale : {K : Type 0} → ℤ → FormalSum K → FormalSum K
scale q v = map (λ t. (q *ℤ t.0, t.1)) v

-- each key k becomes f k, so keys may fall together
abbrev pub rename : {K J : Type 0} → (K → J) → FormalSum K → FormalSum J
rename f v = map (λ t. (t.0, f t.1)) v

-- each key of v is below p
abbrev pub AllBelow : {K : Type 0} → (K → K → Type 0) → K → FormalSum K → Type 0
AllBelow Below p v = AllByRecursion (λ t. Below t.1 p) v

-- each key of v is above p
abbrev pub AllAbove : {K : Type 0} → (K → K → Type 0) → K → FormalSum K → Type 0
AllAbove Below p v = AllByRecursion (λ t. Below p t.1) v

-- the keys fall strictly, so each stands once
abbrev pub Falling : {K : Type 0} → (K → K → Type 0) → FormalSum K → Type 0
Falling Below [] = ⊤
Falling Below (t ∷ v) = AllBelow Below t.1 v × Falling Below v

-- no term has the coefficient 0
abbrev pub NonZero : {K : Type 0} → FormalSum K → Type 0
NonZero v = AllByRecursion (λ t. t.0 ≢ pos 0) v
