-- Where falling terms part.
use Rattle.std.proofs.Common.{◌≡◌, ◌≢◌, pos, ◌+ℤ◌, cond, List, [], ◌∷◌, ◌++◌, append-nil, refl, sym, ap, ◌∙◌, subst, arith, ◌⊎◌, inl, inr}
use Rattle.std.specs.Prelude.{true, Option, Some, None, MatchOption}
use Rattle.std.specs.Option.{is_some}
use borrow.Author.Differences.{ints}
use Rattle.module_vec.specs.declared.places.Place.{Place}
use Rattle.module_vec.specs.declared.places.Term.{Term}
use Rattle.module_vec.specs.Places.{IsBelow, same_place}
use Rattle.module_vec.specs.Vectors.{coefficient_at, IsTerm, IsSparse}
use Rattle.module_vec.specs.Results.{IsGreatest}
use Rattle.module_vec.proofs.Order.{test, order}
use Rattle.module_vec.proofs.FallingTerms.{below_from_first, at_join, at_above, all_back, falls_back}
use Rattle.step_lists.specs.Partial.{Differ, IsGreater, IsParting}

-- a common front changes nothing
differ_behind : (a v w : List Term) (p : Place) → IsGreatest (Differ v w) p → IsGreatest (Differ (a ++ v) (a ++ w)) p
differ_behind a v w p g = record {
  here = λ e. g.here (without p (sym (at_join a v p) ∙ e ∙ at_join a w p));
  above = λ x h d. g.above x h (λ e. d (at_join a v x ∙ ap (λ z. coefficient_at a x +ℤ z) e ∙ sym (at_join a w x)));
}
  where
    without : (x : Place) → coefficient_at a x +ℤ coefficient_at v x ≡ coefficient_at a x +ℤ coefficient_at w x → coefficient_at v x ≡ coefficient_at w x
    without x e = omega (arith, ints, e)

-- the first coefficient, and those above it
at_first : (t : Term) (v : List Term) → IsSparse (t ∷ v) → coefficient_at (t ∷ v) t.at ≡ t.k
at_first t v h =
    let own : cond (same_place t.at t.at) t.k (pos 0) ≡ t.k = rw (test.reflexive t.at) refl in
    let none : coefficient_at v t.at ≡ pos 0 = at_above t.at v h.falling.0 in
    omega (arith, ints, own, none)

above_first : (t : Term) (v : List Term) → IsSparse (t ∷ v) → (x : Place) → IsBelow t.at x → coefficient_at (t ∷ v) x ≡ pos 0
above_first t v h x below = at_above x (t ∷ v) (below_from_first x t v below h.falling)

only_left : (t : Term) (v : List Term) → IsSparse (t ∷ v) → IsGreatest (Differ (t ∷ v) []) t.at
only_left t v h = record {
  here = λ e. h.terms.0.nonzero (sym (at_first t v h) ∙ e);
  above = λ x below d. d (above_first t v h x below);
}

only_right : (t : Term) (v : List Term) → IsSparse (t ∷ v) → IsGreatest (Differ [] (t ∷ v)) t.at
only_right t v h = record {
  here = λ e. h.terms.0.nonzero (sym (at_first t v h) ∙ sym e);
  above = λ x below d. d (sym (above_first t v h x below));
}

module _ (t : Term) (v : List Term) (u : Term) (w : List Term) (h : IsSparse (t ∷ v)) (g : IsSparse (u ∷ w)) where
  higher_left : IsBelow u.at t.at → IsGreatest (Differ (t ∷ v) (u ∷ w)) t.at
  higher_left below = record {
    here = λ e. h.terms.0.nonzero (sym (at_first t v h) ∙ e ∙ above_first u w g t.at below);
    above = λ x higher d. d (above_first t v h x higher ∙ sym (above_first u w g x (order.transitive u.at t.at x below higher)));
  }

  higher_right : IsBelow t.at u.at → IsGreatest (Differ (t ∷ v) (u ∷ w)) u.at
  higher_right below = record {
    here = λ e. g.terms.0.nonzero (sym (at_first u w g) ∙ sym e ∙ above_first t v h u.at below);
    above = λ x higher d. d (above_first t v h x (order.transitive t.at u.at x below higher) ∙ sym (above_first u w g x higher));
  }

  same_level : t.at ≡ u.at → t ≢ u → IsGreatest (Differ (t ∷ v) (u ∷ w)) t.at
  same_level e apart = record {
    here = λ same. apart (by (sym (at_first t v h) ∙ same ∙ ap (coefficient_at (u ∷ w)) e ∙ at_first u w g));
    above = λ x higher d. d (above_first t v h x higher ∙ sym (above_first u w g x (subst (λ y. IsBelow y x) e higher)));
  }
    where
      by : t.k ≡ u.k → t ≡ u
      by k = λ i. record { at = e i; k = k i }

  both : (p : Place) → t ≢ u → IsGreater t.at u.at p → IsGreatest (Differ (t ∷ v) (u ∷ w)) p
  both p apart (inl c) = subst (IsGreatest (Differ (t ∷ v) (u ∷ w))) (sym c.0) (by (order.total t.at u.at))
    where
      by : (t.at ≡ u.at) ⊎ (IsBelow t.at u.at ⊎ IsBelow u.at t.at) → IsGreatest (Differ (t ∷ v) (u ∷ w)) t.at
      by (inl e) = same_level e apart
      by (inr (inl l)) = absurd (c.1 l)
      by (inr (inr r)) = higher_left r
  both p apart (inr c) = subst (IsGreatest (Differ (t ∷ v) (u ∷ w))) (sym c.0) (higher_right c.1)

sparse_back : (a v : List Term) → IsSparse (a ++ v) → IsSparse v
sparse_back a v h = record { falling = falls_back a v h.falling; terms = all_back IsTerm a v h.terms }

-- behind a common front stand two first terms that aren't equal
pub parts : (v w a left rest others : List Term) (ours : Option Term) (u : Term) (p : Place) → IsSparse v → IsSparse w → a ++ left ≡ v → w ≡ a ++ u ∷ others
    → MatchOption ours (left ≡ []) (λ t. left ≡ t ∷ rest) → IsParting ours u p → IsGreatest (Differ v w) p
parts v w a left rest others ours u p h g is split first parting =
    subst (λ x. IsGreatest (Differ x w) p) is (subst (λ x. IsGreatest (Differ (a ++ left) x) p) (sym split)
    (differ_behind a left (u ∷ others) p (by ours first parting)))
  where
    mine : IsSparse left
    mine = sparse_back a left (subst IsSparse (sym is) h)

    theirs : IsSparse (u ∷ others)
    theirs = sparse_back a (u ∷ others) (subst IsSparse split g)

    by : (o : Option Term) → MatchOption o (left ≡ []) (λ t. left ≡ t ∷ rest) → IsParting o u p → IsGreatest (Differ left (u ∷ others)) p
    by None e same = subst (λ x. IsGreatest (Differ x (u ∷ others)) p) (sym e) (subst (IsGreatest (Differ [] (u ∷ others))) (sym same)
        (only_right u others theirs))
    by (Some t) e part = subst (λ x. IsGreatest (Differ x (u ∷ others)) p) (sym e) (both t rest u others (subst IsSparse e mine) theirs p part.0 part.1)

-- behind the whole of w more terms stand
pub longer : (v w rest : List Term) (t : Term) → IsSparse v → v ≡ w ++ t ∷ rest → IsGreatest (Differ v w) t.at
longer v w rest t h split =
    subst (λ x. IsGreatest (Differ x w) t.at) (sym split) (subst (λ x. IsGreatest (Differ (w ++ t ∷ rest) x) t.at) (append-nil w)
    (differ_behind w (t ∷ rest) [] t.at (only_left t rest (sparse_back w (t ∷ rest) (subst IsSparse split h)))))

-- the same of an answer
pub some_parts : (v w a left rest others : List Term) (ours : Option Term) (u : Term) (found : Option Place) → IsSparse v → IsSparse w → a ++ left ≡ v
    → w ≡ a ++ u ∷ others
    → MatchOption ours (left ≡ []) (λ t. left ≡ t ∷ rest) → is_some found ≡ true → MatchOption found (ours ≡ Some u) (IsParting ours u)
    → MatchOption found (v ≡ w) (IsGreatest (Differ v w))
some_parts v w a left rest others ours u None h g is split first some parting = absurd cc
some_parts v w a left rest others ours u (Some p) h g is split first some parting = parts v w a left rest others ours u p h g is split first parting
