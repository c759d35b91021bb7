-- The front of falling terms is determined by the coefficients above a place.
use Rattle.std.proofs.Common.{◌≡◌, pos, ◌+ℤ◌, cond, List, [], ◌∷◌, length, take, refl, sym, ap, ◌∙◌, arith, ◌⊎◌, inl, inr}
use borrow.Author.Differences.{ints}
use Rattle.formal_sums.proofs.Falling.{AllBelow_transitive}
use Rattle.module_vec.specs.declared.places.Place.{Place}
use Rattle.module_vec.specs.declared.places.Term.{Term}
use Rattle.module_vec.specs.Places.{IsBelow, same_place}
use Rattle.module_vec.specs.Vectors.{sum_of, coefficient_at, IsSparse}
use Rattle.module_vec.proofs.Order.{test, order}
use Rattle.module_vec.proofs.FallingTerms.{Above, Below, at_above}

-- the coefficient at the first place
at_first : (u : Term) (w : List Term) → Below u.at w → coefficient_at (u ∷ w) u.at ≡ u.k
at_first u w h =
    let own : cond (same_place u.at u.at) u.k (pos 0) ≡ u.k = rw (test.reflexive u.at) refl in
    omega (arith, ints, own, at_above u.at w h)

-- and above it
at_none : (u : Term) (w : List Term) (x : Place) → Below u.at w → IsBelow u.at x → coefficient_at (u ∷ w) x ≡ pos 0
at_none u w x h up = at_above x (u ∷ w) (up, AllBelow_transitive test order u.at x up (sum_of w) h)

sparse_rest : (u : Term) (w : List Term) → IsSparse (u ∷ w) → IsSparse w
sparse_rest u w h = record { falling = h.falling.1; terms = h.terms.1 }

-- the terms above p stand first wherever falling terms have their coefficients
pub same_front : (p : Place) (rest w : List Term) → IsSparse rest → IsSparse w → Above p rest
    → ((x : Place) → IsBelow p x → coefficient_at w x ≡ coefficient_at rest x) → take (length rest) w ≡ rest
same_front p [] w h g above e = refl
same_front p (r ∷ rest) [] h g above e = absurd (h.terms.0.nonzero (sym (at_first r rest h.falling.0) ∙ sym (e r.at above.0)))
same_front p (r ∷ rest) (u ∷ w) h g above e = by (same_front p rest w (sparse_rest r rest h) (sparse_rest u w g) above.1) (order.total u.at r.at)
  where
    read : coefficient_at (u ∷ w) r.at ≡ r.k
    read = e r.at above.0 ∙ at_first r rest h.falling.0

    by : (((x : Place) → IsBelow p x → coefficient_at w x ≡ coefficient_at rest x) → take (length rest) w ≡ rest)
        → (u.at ≡ r.at) ⊎ (IsBelow u.at r.at ⊎ IsBelow r.at u.at) → take (length (r ∷ rest)) (u ∷ w) ≡ r ∷ rest
    by again (inl same) = λ i. first i ∷ again tails i
      where
        k : u.k ≡ r.k
        k = sym (at_first u w g.falling.0) ∙ ap (coefficient_at (u ∷ w)) same ∙ read

        first : u ≡ r
        first = λ i. record { at = same i; k = k i }

        tails : (x : Place) → IsBelow p x → coefficient_at w x ≡ coefficient_at rest x
        tails x up =
            let heads : cond (same_place u.at x) u.k (pos 0) ≡ cond (same_place r.at x) r.k (pos 0) =
            ap (λ (t : Term). cond (same_place t.at x) t.k (pos 0)) first in
            let whole : cond (same_place u.at x) u.k (pos 0) +ℤ coefficient_at w x ≡ cond (same_place r.at x) r.k (pos 0) +ℤ coefficient_at rest x = e x up in
            omega (arith, ints, heads, whole)
    by again (inr (inl down)) = absurd (h.terms.0.nonzero (sym read ∙ at_none u w r.at g.falling.0 down))
    by again (inr (inr up)) = absurd (g.terms.0.nonzero (sym (at_first u w g.falling.0) ∙ e u.at (higher up) ∙ at_none r rest u.at h.falling.0 up))
      where
        higher : IsBelow r.at u.at → IsBelow p u.at
        higher up = order.transitive p r.at u.at above.0 up
