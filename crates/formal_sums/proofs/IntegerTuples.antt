-- Tuples of integers: an abelian group in which equality is decided, and that its entries determine.
use Rattle.std.proofs.Common.{◌≡◌, ℕ, suc, zero, ◌<◌, false, cond, nat_eq, pos, ◌+ℤ◌, neg_ℤ, refl, ap, ◌∙◌, arith}
use Rattle.std.proofs.Math.IntN.{+ℤ_assoc, +ℤ_comm, +ℤ_idl, +ℤ_invl}
use Rattle.formal_sums.specs.IntegerTuple.{IntegerTuple, plus, none, minus, one_at, entry, tuple_eq}
use Rattle.formal_sums.specs.Keys.{IsEqualityTest}
use Rattle.formal_sums.proofs.Keys.{int_test, pair_test}

pub plus_assoc : (n : ℕ) (a b c : IntegerTuple n) → plus n (plus n a b) c ≡ plus n a (plus n b c)
plus_assoc zero a b c = refl
plus_assoc (suc n) a b c = λ i. (+ℤ_assoc a.0 b.0 c.0 i, plus_assoc n a.1 b.1 c.1 i)

pub plus_comm : (n : ℕ) (a b : IntegerTuple n) → plus n a b ≡ plus n b a
plus_comm zero a b = refl
plus_comm (suc n) a b = λ i. (+ℤ_comm a.0 b.0 i, plus_comm n a.1 b.1 i)

pub none-plus : (n : ℕ) (a : IntegerTuple n) → plus n (none n) a ≡ a
none-plus zero a = refl
none-plus (suc n) a = λ i. (+ℤ_idl a.0 i, none-plus n a.1 i)

pub minus-plus : (n : ℕ) (a : IntegerTuple n) → plus n (minus n a) a ≡ none n
minus-plus zero a = refl
minus-plus (suc n) a = λ i. (+ℤ_invl a.0 i, minus-plus n a.1 i)

pub tuple_test : (n : ℕ) → IsEqualityTest (tuple_eq n)
tuple_test zero = record { sound = λ a b e. refl; reflexive = λ a. refl }
tuple_test (suc n) = pair_test int_test (tuple_test n)

-- ---- entries
pub entry-plus : (n : ℕ) (a b : IntegerTuple n) (g : ℕ) → entry n (plus n a b) g ≡ entry n a g +ℤ entry n b g
entry-plus zero a b g = refl
entry-plus (suc n) a b zero = refl
entry-plus (suc n) a b (suc g) = entry-plus n a.1 b.1 g

pub entry-none : (n g : ℕ) → entry n (none n) g ≡ pos 0
entry-none zero g = refl
entry-none (suc n) zero = refl
entry-none (suc n) (suc g) = entry-none n g

pub entry-minus : (n : ℕ) (a : IntegerTuple n) (g : ℕ) → entry n (minus n a) g ≡ neg_ℤ (entry n a g)
entry-minus zero a g = refl
entry-minus (suc n) a zero = refl
entry-minus (suc n) a (suc g) = entry-minus n a.1 g

suc_eq : (a b : ℕ) → nat_eq a b ≡ nat_eq (suc a) (suc b)
suc_eq a b = grind arith

zero_eq : (b : ℕ) → nat_eq 0 (suc b) ≡ false
zero_eq b = grind arith

eq_zero : (b : ℕ) → nat_eq (suc b) 0 ≡ false
eq_zero b = grind arith

pub entry-one_at : (n h g : ℕ) → h < n → entry n (one_at n h) g ≡ cond (nat_eq h g) (pos 1) (pos 0)
entry-one_at zero h g k = absurd (omega arith)
entry-one_at (suc n) zero zero k = refl
entry-one_at (suc n) zero (suc g) k = rw (zero_eq g) (entry-none n g)
entry-one_at (suc n) (suc h) zero k = rw (eq_zero h) refl
entry-one_at (suc n) (suc h) (suc g) k = entry-one_at n h g (omega arith) ∙ ap (λ b. cond b (pos 1) (pos 0)) (suc_eq h g)

pub same_entries : (n : ℕ) (a b : IntegerTuple n) → ((g : ℕ) → entry n a g ≡ entry n b g) → a ≡ b
same_entries zero a b e = refl
same_entries (suc n) a b e = λ i. (e 0 i, same_entries n a.1 b.1 (λ g. e (suc g)) i)
