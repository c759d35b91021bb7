-- New coefficients in turn, and those of a difference.
use Rattle.std.proofs.Common.{◌≡◌, ℕ, ◌+◌, ◌<◌, ◌≤◌, ℤ, pos, ◌+ℤ◌, ◌-ℤ◌, ◌*ℤ◌, Bool, true, false, cond, List, [], ◌∷◌, ◌++◌, map, length, take, get_or, refl}
use Rattle.std.proofs.Common.{sym, ap, ◌∙◌, subst, arith, ◌⊎◌, inl, inr}
use Rattle.std.specs.Prelude.{None}
use Rattle.std.specs.List.{AllByRecursion}
use Rattle.std.proofs.lemmas.List.{take_more, map-append}
use borrow.Author.Differences.{ints}
use Rattle.formal_sums.specs.FormalSum.{AllBelow}
use Rattle.formal_sums.proofs.Falling.{coefficient-above, AllBelow_transitive}
use Rattle.formal_sums.proofs.Keys.{eq-apart}
use Rattle.laurent_terms.specs.declared.TheConstants.{VARIABLES, DEGREE}
use Rattle.laurent_terms.specs.Monomials.{degree, product}
use Rattle.laurent_terms.proofs.Combining.{sum-product, length-combined}
use Rattle.module_vec.specs.declared.places.Place.{Place}
use Rattle.module_vec.specs.declared.places.Term.{Term}
use Rattle.module_vec.specs.Places.{IsBelow, same_place, moved}
use Rattle.module_vec.specs.Vectors.{Coefficients, multiple, multiple_at, InRange, IsWide, IsTerm, IsSparse}
use Rattle.module_vec.specs.Results.{DifferenceIsWide, IsGreatest}
use Rattle.module_vec.specs.Merging.{Subtracts}
use Rattle.module_vec.proofs.Order.{test, order, moved_below}
use Rattle.module_vec.proofs.FallingTerms.{Below, Falls, all_front, all_back, all_join}
use Rattle.changed_terms.specs.declared.changes.Change.{Change}
use Rattle.changed_terms.specs.Changes.{IsChange, StartFrom, with_change, overwritten, AreChanges}
use Rattle.changed_terms.proofs.Joins.{above_next, falls_front}

pub same_overwritten : (cs : List Change) (f g : Coefficients) → ((x : Place) → f x ≡ g x) → (x : Place) → overwritten cs f x ≡ overwritten cs g x
same_overwritten cs f g e x = ap (λ h. overwritten cs h x) (λ i y. e y i)

pub same_start : (cs : List Change) (f g : Coefficients) → ((x : Place) → f x ≡ g x) → StartFrom cs g → StartFrom cs f
same_start cs f g e h = let same : Path Coefficients g f = λ i y. sym (e y) i in subst (StartFrom cs) same h

below_apart : (p q : Place) → IsBelow q p → same_place p q ≡ false
below_apart p q h = eq-apart test p q (λ e. order.irreflexive q (subst (λ r. IsBelow q r) e h))

-- ---- a difference

pub multiple_below : (q : ℤ) (t : List ℕ) (p : Place) (g : List Term) → length t ≡ VARIABLES → length p.m ≡ VARIABLES → AllByRecursion IsTerm g → Below p g
    → AllBelow IsBelow (moved t p) (multiple q t g)
multiple_below q t p [] e f h b = tt
multiple_below q t p (u ∷ g) e f h b = (moved_below t u.at p (h.0.place.variables ∙ sym e) (f ∙ sym e) b.0, multiple_below q t p g e f h.1 b.1)

module _ (f : Coefficients) (q : ℤ) (t : List ℕ) where
  -- what is left of f at the place of t·u
  abbrev pub changed : Term → Change
  changed u = record { at = moved t u.at; before = f (moved t u.at); after = f (moved t u.at) -ℤ q *ℤ u.k }

  -- neither the product nor the difference leaves the range
  pub record IsInReach (u : Term) : Type 0 where
    pub product : InRange (q *ℤ u.k)
    pub difference : InRange (f (moved t u.at) -ℤ q *ℤ u.k)

  -- one term more
  pub one_more : (g : List Term) (made made' : List Change) (i : ℕ) (u : Term) (p : Place) (y z : ℤ) → i < length g → u ≡ get_or g i u
      → made ≡ map changed (take i g) → made' ≡ made ++ record { at = p; before = y; after = z } ∷ [] → p ≡ moved t u.at → y ≡ f p → z ≡ y -ℤ q *ℤ u.k
      → made' ≡ map changed (take (i + 1) g)
  one_more g made made' i u p y z h e is push place found left =
      let first : y ≡ f (moved t u.at) = found ∙ ap f place in
      let own : record { at = p; before = y; after = z } ≡ changed u = λ j. record {
        at = place j;
        before = first j;
        after = (left ∙ ap (λ x. x -ℤ q *ℤ u.k) first) j;
      } in
      push ∙ (λ j. is j ++ own j ∷ []) ∙ sym (map-append changed (take i g) (u ∷ []))
      ∙ ap (map changed) (sym (take_more g i u h ∙ ap (λ x. take i g ++ x ∷ []) (sym e)))

  pub reach_more : (g : List Term) (i : ℕ) (u : Term) → i < length g → u ≡ get_or g i u → AllByRecursion IsInReach (take i g) → IsInReach u
      → AllByRecursion IsInReach (take (i + 1) g)
  reach_more g i u h e all own = subst (AllByRecursion IsInReach) (sym (take_more g i u h ∙ ap (λ x. take i g ++ x ∷ []) (sym e)))
      (all_join IsInReach (take i g) (u ∷ []) all (own, tt))

module _ (f : Coefficients) (q : ℤ) (t : List ℕ) (long : length t ≡ VARIABLES) where
  -- at the place of the first term, and at others
  first_here : (u : Term) (g : List Term) → AllByRecursion IsTerm (u ∷ g) → Falls (u ∷ g) → multiple_at q t (u ∷ g) (moved t u.at) ≡ q *ℤ u.k
  first_here u g h falls =
      let own : cond (same_place (moved t u.at) (moved t u.at)) (q *ℤ u.k) (pos 0) ≡ q *ℤ u.k = rw (test.reflexive (moved t u.at)) refl in
      let none : multiple_at q t g (moved t u.at) ≡ pos 0 = coefficient-above test order (moved t u.at) (multiple q t g)
      (multiple_below q t u.at g long h.0.place.variables h.1 falls.0) in
      omega (arith, ints, own, none)

  first_other : (u : Term) (g : List Term) (x : Place) → same_place (moved t u.at) x ≡ false → multiple_at q t (u ∷ g) x ≡ multiple_at q t g x
  first_other u g x e = let own : cond (same_place (moved t u.at) x) (q *ℤ u.k) (pos 0) ≡ pos 0 = rw e refl in omega (arith, ints, own)

  agree : (h : Coefficients) (u : Term) (g : List Term) → IsTerm u → AllByRecursion IsTerm g → Below u.at g
      → AllByRecursion (λ w. h (moved t w.at) ≡ f (moved t w.at)) g → AllByRecursion (λ w. with_change (changed f q t u) h (moved t w.at) ≡ f (moved t w.at)) g
  agree h u [] own terms b e = tt
  agree h u (w ∷ g) own terms b e = (
    rw (below_apart (moved t u.at) (moved t w.at) (moved_below t w.at u.at (terms.0.place.variables ∙ sym long) (own.place.variables ∙ sym long) b.0)) e.0,
    agree h u g own terms.1 b.1 e.1,
  )

  takes : (g : List Term) (h : Coefficients) → AllByRecursion IsTerm g → Falls g → AllByRecursion (λ w. h (moved t w.at) ≡ f (moved t w.at)) g → (x : Place)
      → overwritten (map (changed f q t) g) h x ≡ h x -ℤ multiple_at q t g x
  takes [] h terms falls e x = omega (arith, ints)
  takes (u ∷ g) h terms falls e x = by (same_place (moved t u.at) x) refl (takes g (with_change (changed f q t u) h) terms.1 falls.1
      (agree h u g terms.0 terms.1 falls.0 e.1) x)
    where
      by : (b : Bool) → same_place (moved t u.at) x ≡ b → overwritten (map (changed f q t) g) (with_change (changed f q t u) h) x
          ≡ cond (same_place (moved t u.at) x) (f (moved t u.at) -ℤ q *ℤ u.k) (h x) -ℤ multiple_at q t g x
          → overwritten (map (changed f q t) g) (with_change (changed f q t u) h) x ≡ h x -ℤ multiple_at q t (u ∷ g) x
      by true s rest =
          let key : moved t u.at ≡ x = test.sound (moved t u.at) x s in
          let here : multiple_at q t (u ∷ g) x ≡ q *ℤ u.k = ap (multiple_at q t (u ∷ g)) (sym key) ∙ first_here u g terms falls in
          let own : cond (same_place (moved t u.at) x) (q *ℤ u.k) (pos 0) ≡ q *ℤ u.k = rw s refl in
          let none : multiple_at q t g x ≡ pos 0 = omega (arith, ints, here, own) in
          let same : h x ≡ f (moved t u.at) = ap h (sym key) ∙ e.0 in
          let read : overwritten (map (changed f q t) g) (with_change (changed f q t u) h) x ≡ (f (moved t u.at) -ℤ q *ℤ u.k) -ℤ multiple_at q t g x =
          rest ∙ rw s refl in
          omega (arith, ints, read, none, same, here)
      by false s rest =
          let read : overwritten (map (changed f q t) g) (with_change (changed f q t u) h) x ≡ h x -ℤ multiple_at q t g x = rest ∙ rw s refl in
          read ∙ ap (λ z. h x -ℤ z) (sym (first_other u g x s))

  -- in range where each is
  reach_at : (g : List Term) → AllByRecursion IsTerm g → Falls g → AllByRecursion (IsInReach f q t) g → (x : Place) → InRange (f x)
      → InRange (multiple_at q t g x) × InRange (f x -ℤ multiple_at q t g x)
  reach_at [] terms falls reach x own = (omega arith, subst InRange (sym (less_zero (f x))) own)
    where
      less_zero : (z : ℤ) → z -ℤ pos 0 ≡ z
      less_zero z = omega (arith, ints)
  reach_at (u ∷ g) terms falls reach x own = by (same_place (moved t u.at) x) refl (reach_at g terms.1 falls.1 reach.1 x own)
    where
      by : (b : Bool) → same_place (moved t u.at) x ≡ b → InRange (multiple_at q t g x) × InRange (f x -ℤ multiple_at q t g x)
          → InRange (multiple_at q t (u ∷ g) x) × InRange (f x -ℤ multiple_at q t (u ∷ g) x)
      by true s rest =
          let key : moved t u.at ≡ x = test.sound (moved t u.at) x s in
          let here : multiple_at q t (u ∷ g) x ≡ q *ℤ u.k = ap (multiple_at q t (u ∷ g)) (sym key) ∙ first_here u g terms falls in
          let left : f x -ℤ multiple_at q t (u ∷ g) x ≡ f (moved t u.at) -ℤ q *ℤ u.k = λ i. f (sym key i) -ℤ here i in
          (subst InRange (sym here) reach.0.product, subst InRange (sym left) reach.0.difference)
      by false s rest =
          let other : multiple_at q t g x ≡ multiple_at q t (u ∷ g) x = sym (first_other u g x s) in
          subst (λ z. InRange z × InRange (f x -ℤ z)) other rest

  narrow_at : (g : List Term) → AllByRecursion IsTerm g → Falls g → AllByRecursion (IsInReach f q t) g → (x : Place) → InRange (f x)
      → DifferenceIsWide f (multiple_at q t g) x → ⊥
  narrow_at g terms falls reach x own wide = by wide (reach_at g terms falls reach x own)
    where
      not_both : (z : ℤ) → IsWide z → InRange z → ⊥
      not_both z w h = omega arith

      by : DifferenceIsWide f (multiple_at q t g) x → InRange (multiple_at q t g x) × InRange (f x -ℤ multiple_at q t g x) → ⊥
      by (inl w) r = not_both (multiple_at q t g x) w r.0
      by (inr w) r = not_both (f x -ℤ multiple_at q t g x) w r.1

  all_agree : (g : List Term) → AllByRecursion (λ w. f (moved t w.at) ≡ f (moved t w.at)) g
  all_agree [] = tt
  all_agree (u ∷ g) = (refl, all_agree g)

  are_changes : (g : List Term) → degree t ≤ DEGREE → AllByRecursion IsTerm g → AllByRecursion (λ u. degree t + degree u.at.m ≤ DEGREE) g
      → AllByRecursion (IsInReach f q t) g → AllByRecursion IsChange (map (changed f q t) g)
  are_changes [] d terms room reach = tt
  are_changes (u ∷ g) d terms room reach =
      let same : length t ≡ length u.at.m = long ∙ sym terms.0.place.variables in
      let sums : degree (product t u.at.m) ≡ degree t + degree u.at.m = sum-product t u.at.m same in (
        record {
          place = record { variables = length-combined (λ a b. a + b) t u.at.m same ∙ long; most = omega (arith, sums, room.0) };
          range = reach.0.difference;
        },
        are_changes g d terms.1 room.1 reach.1,
      )

  starts : (g : List Term) (h : Coefficients) → AllByRecursion IsTerm g → Falls g → AllByRecursion (λ w. h (moved t w.at) ≡ f (moved t w.at)) g
      → StartFrom (map (changed f q t) g) h
  starts [] h terms falls e = tt
  starts (u ∷ g) h terms falls e = (sym e.0, starts g (with_change (changed f q t u) h) terms.1 falls.1 (agree h u g terms.0 terms.1 falls.0 e.1))

  pub all_are_changes : (g : List Term) (made : List Change) → IsSparse g → ((x : Place) → InRange (f x)) → degree t ≤ DEGREE
      → AllByRecursion (λ u. degree t + degree u.at.m ≤ DEGREE) g → AllByRecursion (IsInReach f q t) g → made ≡ map (changed f q t) g
      → AreChanges f (multiple_at q t g) made
  all_are_changes g made h own d room reach is = record {
    are = subst (AllByRecursion IsChange) (sym is) (are_changes g d h.terms room reach);
    start = subst (λ w. StartFrom w f) (sym is) (starts g f h.terms h.falling (all_agree g));
    is = λ x. ap (λ w. overwritten w f x) is ∙ takes g f h.terms h.falling (all_agree g) x;
    narrow = λ x. narrow_at g h.terms h.falling reach x (own x);
  }

  -- ---- the first place at which a number leaves the range

  above_same : (a : List Term) (u : Term) (r : List Term) → AllByRecursion IsTerm (a ++ u ∷ r) → Falls (a ++ u ∷ r) → (x : Place) → IsBelow (moved t u.at) x
      → multiple_at q t (a ++ u ∷ r) x ≡ multiple_at q t a x
  above_same [] u r terms falls x h = coefficient-above test order x (multiple q t (u ∷ r))
      (h, AllBelow_transitive test order (moved t u.at) x h (multiple q t r) (multiple_below q t u.at r long terms.0.place.variables terms.1 falls.0))
  above_same (s ∷ a) u r terms falls x h = ap (λ z. cond (same_place (moved t s.at) x) (q *ℤ s.k) (pos 0) +ℤ z) (above_same a u r terms.1 falls.1 x h)

  here_only : (a : List Term) (u : Term) (r : List Term) → AllByRecursion IsTerm (a ++ u ∷ r) → Falls (a ++ u ∷ r)
      → multiple_at q t (a ++ u ∷ r) (moved t u.at) ≡ q *ℤ u.k
  here_only [] u r terms falls = first_here u r terms falls
  here_only (s ∷ a) u r terms falls =
      let lower : IsBelow u.at s.at = (above_next (s ∷ a) u r falls).0 in
      let own : IsTerm u = (all_back IsTerm (s ∷ a) (u ∷ r) terms).0 in
      first_other s (a ++ u ∷ r) (moved t u.at) (below_apart (moved t s.at) (moved t u.at) (moved_below t u.at s.at (own.place.variables
      ∙ sym long) (terms.0.place.variables ∙ sym long) lower))
      ∙ here_only a u r terms.1 falls.1

  pub is_wide : (g a : List Term) (u : Term) (r : List Term) (p : Place) → g ≡ a ++ u ∷ r → IsSparse g → ((x : Place) → InRange (f x))
      → AllByRecursion (IsInReach f q t) a → p ≡ moved t u.at → Subtracts (f p) q u.k None → IsGreatest (DifferenceIsWide f (multiple_at q t g)) p
  is_wide g a u r p split h own reach place wide = subst (IsGreatest (DifferenceIsWide f (multiple_at q t g))) (sym place)
      (subst (λ w. IsGreatest (DifferenceIsWide f (multiple_at q t w)) (moved t u.at)) (sym split) (record { here = here; above = above }))
    where
      falls : Falls (a ++ u ∷ r)
      falls = subst Falls split h.falling

      terms : AllByRecursion IsTerm (a ++ u ∷ r)
      terms = subst (AllByRecursion IsTerm) split h.terms

      is : multiple_at q t (a ++ u ∷ r) (moved t u.at) ≡ q *ℤ u.k
      is = here_only a u r terms falls

      by : IsWide (q *ℤ u.k) ⊎ IsWide (f (moved t u.at) -ℤ q *ℤ u.k) → DifferenceIsWide f (multiple_at q t (a ++ u ∷ r)) (moved t u.at)
      by (inl w) = inl (subst IsWide (sym is) w)
      by (inr w) = inr (subst (λ z. IsWide (f (moved t u.at) -ℤ z)) (sym is) w)

      here : DifferenceIsWide f (multiple_at q t (a ++ u ∷ r)) (moved t u.at)
      here = by (subst (λ y. IsWide (q *ℤ u.k) ⊎ IsWide (f y -ℤ q *ℤ u.k)) place wide)

      above : (x : Place) → IsBelow (moved t u.at) x → DifferenceIsWide f (multiple_at q t (a ++ u ∷ r)) x → ⊥
      above x lower w = narrow_at a (all_front IsTerm a (u ∷ r) terms) (falls_front a (u ∷ r) falls) reach x (own x)
          (subst (λ z. IsWide z ⊎ IsWide (f x -ℤ z)) (above_same a u r terms falls x lower) w)
