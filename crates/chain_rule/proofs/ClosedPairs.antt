-- Closed pairs of a list, in either order.
use Rattle.std.proofs.Common.{ℕ, zero, suc, ◌<◌, List, [], ◌∷◌, length, slice_index_or, inl, inr, subst, arith}
use Rattle.std.specs.List.{AllByRecursion, Contains}
use Rattle.module_vec.specs.declared.places.Term.{Term}
use Rattle.chain_rule.specs.ClosedPairs.{IsAmong, IsClosedPair, IsClosedEither, AreClosedPairs}

-- what holds of all elements holds of each
pub all_at : {X : Type 0} (P : X → Type 0) (xs : List X) → AllByRecursion P xs → (d : X) (k : ℕ) → k < length xs → P (slice_index_or xs k d)
all_at P [] all d k h = absurd (omega (arith, h))
all_at P (x ∷ xs) all d zero h = all.0
all_at P (x ∷ xs) all d (suc k) h = all_at P xs all.1 d k (omega (arith, h))

pub contained : {X : Type 0} (P : X → Type 0) (xs : List X) → AllByRecursion P xs → (x : X) → Contains xs x → P x
contained P xs all x (k, h, e) = subst P e (all_at P xs all x k h)

pub either : (b : List (List Term)) (pairs : List (ℕ × ℕ)) → AreClosedPairs b pairs → (i j : ℕ) → IsAmong pairs i j → IsClosedEither b i j
either b pairs all i j (inl h) = inl (contained (λ p. IsClosedPair b p.0 p.1) pairs all (i, j) h)
either b pairs all i j (inr h) = inr (contained (λ p. IsClosedPair b p.0 p.1) pairs all (j, i) h)
