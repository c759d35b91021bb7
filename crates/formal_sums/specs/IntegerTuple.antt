-- Tuples of n integers: the free abelian group on n generators, and keys of formal sums.
use Rattle.std.specs.Prelude.{ℕ, zero, suc, Bool, true, ◌&&◌, ℤ, pos, neg_ℤ, ◌+ℤ◌}
use Rattle.std.specs.Ordering.{int_eq}

abbrev pub IntegerTuple : ℕ → Type 0
IntegerTuple zero = Unit {0}
IntegerTuple (suc n) = ℤ × IntegerTuple n

-- entry by entry
abbrev pub plus : (n : ℕ) → IntegerTuple n → IntegerTuple n → IntegerTuple n
plus zero a b = tt
plus (suc n) a b = (a.0 +ℤ b.0, plus n a.1 b.1)

abbrev pub none : (n : ℕ) → IntegerTuple n
none zero = tt
none (suc n) = (pos 0, none n)

abbrev pub minus : (n : ℕ) → IntegerTuple n → IntegerTuple n
minus zero a = tt
minus (suc n) a = (neg_ℤ a.0, minus n a.1)

-- 1 at place g, counted from 0, and 0 elsewhere
abbrev pub one_at : (n : ℕ) → ℕ → IntegerTuple n
one_at zero g = tt
one_at (suc n) zero = (pos 1, none n)
one_at (suc n) (suc g) = (pos 0, one_at n g)

-- the entry at place g, and 0 past the end
abbrev pub entry : (n : ℕ) → IntegerTuple n → ℕ → ℤ
entry zero a g = pos 0
entry (suc n) a zero = a.0
entry (suc n) a (suc g) = entry n a.1 g

-- the test for equality
abbrev pub tuple_eq : (n : ℕ) → IntegerTuple n → IntegerTuple n → Bool
tuple_eq zero a b = true
tuple_eq (suc n) a b = int_eq a.0 b.0 && tuple_eq n a.1 b.1
