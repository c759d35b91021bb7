-- No chain of monomials falls for ever: by the degree, and at one degree by the exponents, the first that differs.
use Rattle.std.proofs.Common.{◌≡◌, ℕ, suc, zero, ◌<◌, Bool, true, false, ◌==◌, nat_lt, List, [], ◌∷◌, length, ◌⊎◌, inl, inr, refl, sym, ap, subst, arith}
use Rattle.std.specs.declared.cmp.Ordering.{Ordering}
use Rattle.std.specs.declared.cmp.Ordering.TheVariants.{Less, Equal, Greater}
use Rattle.std.specs.Ordering.{nat_cmp, ordering_then}
use Rattle.std.specs.Cmp.Lexicographic.{slice_cmp}
use mathlib.Core.WellFounded.{Acc, WellFounded}
use lib.WfN.{lt-wf_rel}
use Rattle.laurent_terms.specs.Monomials.{degree, mono_cmp}
use Rattle.laurent_terms.specs.Orders.{Below}

-- lists of n numbers, the first difference decides
abbrev pub Earlier : ℕ → List ℕ → List ℕ → Type 0
Earlier n s t = (length s ≡ n) × (length t ≡ n) × (slice_cmp nat_cmp s t ≡ Less)

head_cases : (a b : ℕ) (r : Ordering) → ordering_then (nat_cmp a b) r ≡ Less → (a < b) ⊎ ((a ≡ b) × (r ≡ Less))
head_cases a b r e = by (nat_lt a b) refl (a == b) refl
  where
    by : (p : Bool) → nat_lt a b ≡ p → (q : Bool) → (a == b) ≡ q → (a < b) ⊎ ((a ≡ b) × (r ≡ Less))
    by true h q k = inl (grind arith)
    by false h true k = inr (grind arith, rw (h, k) at e)
    by false h false k = let wrong : Greater ≡ Less = rw (h, k) at e in absurd cc

below_pair : (n a : ℕ) (s : List ℕ) → ((b : ℕ) → b < a → (t : List ℕ) → length t ≡ n → Acc (Earlier (suc n)) (b ∷ t))
    → ((t : List ℕ) → Earlier n t s → Acc (Earlier (suc n)) (a ∷ t)) → (y : List ℕ) → Earlier (suc n) y (a ∷ s) → Acc (Earlier (suc n)) y
below_pair n a s f h [] (p, q, r) = absurd (omega (arith, p))
below_pair n a s f h (b ∷ t) (p, q, r) = by (head_cases b a (slice_cmp nat_cmp t s) r)
  where
    by : (b < a) ⊎ ((b ≡ a) × (slice_cmp nat_cmp t s ≡ Less)) → Acc (Earlier (suc n)) (b ∷ t)
    by (inl k) = f b k t (omega (arith, p))
    by (inr (e, k)) = subst (λ z. Acc (Earlier (suc n)) (z ∷ t)) (sym e) (h t (omega (arith, p), omega (arith, q), k))

-- by the rest
inner : (n a : ℕ) → ((b : ℕ) → b < a → (t : List ℕ) → length t ≡ n → Acc (Earlier (suc n)) (b ∷ t)) → (s : List ℕ) → Acc (Earlier n) s
    → Acc (Earlier (suc n)) (a ∷ s)
inner n a f s (Acc.intro s' hs) = Acc.intro (a ∷ s) (λ y l. below_pair n a s f (λ t k. inner n a f t (hs t k)) y l)

-- by the head
outer : (n : ℕ) → ((s : List ℕ) → length s ≡ n → Acc (Earlier n) s) → (a : ℕ) → Acc ◌<◌ a → (s : List ℕ) → length s ≡ n → Acc (Earlier (suc n)) (a ∷ s)
outer n all a (Acc.intro a' ha) s e = inner n a (λ b h t k. outer n all b (ha b h) t k) s (all s e)

pub earlier_acc : (n : ℕ) (s : List ℕ) → length s ≡ n → Acc (Earlier n) s
earlier_acc zero [] e = Acc.intro [] (λ y l. absurd (none y l))
  where
    none : (y : List ℕ) → Earlier zero y [] → ⊥
    none [] (p, q, r) = absurd cc
    none (b ∷ t) (p, q, r) = absurd (omega (arith, p))
earlier_acc zero (a ∷ s) e = absurd (omega (arith, e))
earlier_acc (suc n) [] e = absurd (omega (arith, e))
earlier_acc (suc n) (a ∷ s) e = outer n (λ t h. earlier_acc n t h) a (lt-wf_rel.wf.apply a) s (omega (arith, e))

-- with the degree in front, the order of monomials is that of lists
with_degree : (n : ℕ) (k : List ℕ) → Acc (Earlier (suc n)) k → (s : List ℕ) → degree s ∷ s ≡ k → Acc (Below n) s
with_degree n k (Acc.intro k' h) s e = Acc.intro s (λ t l. with_degree n (degree t ∷ t)
    (h (degree t ∷ t) (subst (Earlier (suc n) (degree t ∷ t)) e (ap suc l.0, ap suc l.1, l.2))) t refl)

below_acc : (n : ℕ) (s : List ℕ) → length s ≡ n → Acc (Below n) s
below_acc n s e = with_degree n (degree s ∷ s) (earlier_acc (suc n) (degree s ∷ s) (ap suc e)) s refl

pub below_well_founded : (n : ℕ) → WellFounded (Below n)
below_well_founded n = record { apply = λ s. Acc.intro s (λ t l. below_acc n t l.0) }
