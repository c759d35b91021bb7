-- The terms of a dividend: those that were given, with the coefficients of a map in their stead.
use Rattle.std.proofs.Common.{◌≡◌, ◌≢◌, ℕ, zero, suc, ◌+◌, ℤ, pos, negsuc, ◌+ℤ◌, Bool, true, false, cond, List, [], ◌∷◌, ◌++◌, length, append-nil, refl}
use Rattle.std.proofs.Common.{sym, ap, ◌∙◌, subst, arith, ◌⊎◌, inl, inr}
use Rattle.std.specs.Prelude.{Some, slice_get}
use Rattle.std.specs.Option.{unwrap_or}
use Rattle.std.specs.List.{All, AllByRecursion}
use Rattle.std.specs.Map.{keys_of, lookup}
use Rattle.std.specs.BTreeMap.{insert_entry}
use Rattle.std.specs.Ordering.{is_eq, is_lt, is_gt, match_ordering, ordering_reverse}
use Rattle.std.specs.declared.cmp.Ordering.{Ordering}
use Rattle.std.specs.declared.cmp.Ordering.TheVariants.{Less, Equal, Greater}
use Rattle.std.proofs.lemmas.List.Elements.{recursion_from_All}
use borrow.Author.Differences.{ints}
use Rattle.formal_sums.proofs.Keys.{eq-above}
use Rattle.module_vec.specs.declared.places.Place.{Place}
use Rattle.module_vec.specs.declared.places.Term.{Term}
use Rattle.module_vec.specs.Places.{place_cmp, IsBelow, IsPlace, same_place}
use Rattle.module_vec.specs.Vectors.{coefficient_at, InRange, IsTerm, IsSparse}
use Rattle.module_vec.proofs.Order.{place_total, place_exact, test, order}
use Rattle.module_vec.proofs.FallingTerms.{Below, Falls, below_from_first, at_join, at_above}
use Rattle.module_vec.proofs.Determined.{same_vector}
use Rattle.changed_terms.specs.Overlays.{kept, presence, put, overlay, IsCoefficient, AreBelow, IsFirstAbove, Skips, Passes}

-- ---- the order, turned

above_from : (p q : Place) → place_cmp p q ≡ Greater → IsBelow q p
above_from p q e = place_total.antisymm q p ∙ ap ordering_reverse e

eq_reverse : (r : Ordering) → is_eq (ordering_reverse r) ≡ is_eq r
eq_reverse Less = refl
eq_reverse Equal = refl
eq_reverse Greater = refl

same_turned : (p q : Place) → is_eq (place_cmp p q) ≡ is_eq (place_cmp q p)
same_turned p q = ap is_eq (place_total.antisymm p q) ∙ eq_reverse (place_cmp q p)

-- ---- one coefficient

kept_at : (p : Place) (k : ℤ) (x : Place) → coefficient_at (kept p k) x ≡ cond (same_place p x) k (pos 0)
kept_at p (pos zero) x = none (same_place p x)
  where
    none : (b : Bool) → pos 0 ≡ cond b (pos 0) (pos 0)
    none true = refl
    none false = refl
kept_at p (pos (suc n)) x = omega (arith, ints)
kept_at p (negsuc n) x = omega (arith, ints)

falls_kept : (p : Place) (k : ℤ) (v : List Term) → Falls v → Below p v → Falls (kept p k ++ v)
falls_kept p (pos zero) v f b = f
falls_kept p (pos (suc n)) v f b = (b, f)
falls_kept p (negsuc n) v f b = (b, f)

below_kept : (q p : Place) (k : ℤ) (v : List Term) → Below q v → IsBelow p q → Below q (kept p k ++ v)
below_kept q p (pos zero) v b h = b
below_kept q p (pos (suc n)) v b h = (h, b)
below_kept q p (negsuc n) v b h = (h, b)

terms_kept : (p : Place) (k : ℤ) (v : List Term) → AllByRecursion IsTerm v → IsPlace p → InRange k → AllByRecursion IsTerm (kept p k ++ v)
terms_kept p (pos zero) v h place range = h
terms_kept p (pos (suc n)) v h place range = (record { place = place; nonzero = λ e. absurd (omega (arith, ints, e)); range = range }, h)
terms_kept p (negsuc n) v h place range = (record { place = place; nonzero = λ e. absurd (omega (arith, ints, e)); range = range }, h)

count_kept : (p : Place) (k : ℤ) (v : List Term) → length (kept p k ++ v) ≡ length v + presence k
count_kept p (pos zero) v = omega arith
count_kept p (pos (suc n)) v = omega arith
count_kept p (negsuc n) v = omega arith

alone : (v : List Term) → v ≡ v ++ []
alone v = sym (append-nil v)

-- ---- a coefficient that is put among falling terms

below_put : (q p : Place) (k : ℤ) (v : List Term) → Below q v → IsBelow p q → Below q (put p k v)
below_put q p k [] b h = subst (Below q) (append-nil (kept p k)) (below_kept q p k [] tt h)
below_put q p k (t ∷ v) b h = by (place_cmp p t.at) (below_put q p k v b.1 h)
  where
    by : (r : Ordering) → Below q (put p k v) → Below q (match_ordering r (t ∷ put p k v) (kept p k ++ v) (kept p k ++ t ∷ v))
    by Less rest = (b.0, rest)
    by Equal rest = below_kept q p k v b.1 h
    by Greater rest = below_kept q p k (t ∷ v) b h

falls_put : (p : Place) (k : ℤ) (v : List Term) → Falls v → Falls (put p k v)
falls_put p k [] f = subst Falls (append-nil (kept p k)) (falls_kept p k [] tt tt)
falls_put p k (t ∷ v) f = by (place_cmp p t.at) refl (falls_put p k v f.1)
  where
    by : (r : Ordering) → place_cmp p t.at ≡ r → Falls (put p k v) → Falls (match_ordering r (t ∷ put p k v) (kept p k ++ v) (kept p k ++ t ∷ v))
    by Less e rest = (below_put t.at p k v f.0 e, rest)
    by Equal e rest = falls_kept p k v f.1 (subst (λ x. Below x v) (sym (place_exact p t.at e)) f.0)
    by Greater e rest = falls_kept p k (t ∷ v) f (below_from_first p t v (above_from p t.at e) f)

terms_put : (p : Place) (k : ℤ) (v : List Term) → AllByRecursion IsTerm v → IsPlace p → InRange k → AllByRecursion IsTerm (put p k v)
terms_put p k [] h place range = subst (AllByRecursion IsTerm) (append-nil (kept p k)) (terms_kept p k [] tt place range)
terms_put p k (t ∷ v) h place range = by (place_cmp p t.at) (terms_put p k v h.1 place range)
  where
    by : (r : Ordering) → AllByRecursion IsTerm (put p k v) → AllByRecursion IsTerm (match_ordering r (t ∷ put p k v) (kept p k ++ v) (kept p k ++ t ∷ v))
    by Less rest = (h.0, rest)
    by Equal rest = terms_kept p k v h.1 place range
    by Greater rest = terms_kept p k (t ∷ v) h place range

sparse_put : (p : Place) (k : ℤ) (v : List Term) → IsSparse v → IsPlace p → InRange k → IsSparse (put p k v)
sparse_put p k v h place range = record { falling = falls_put p k v h.falling; terms = terms_put p k v h.terms place range }

put_at : (p : Place) (k : ℤ) (v : List Term) → Falls v → (x : Place) → coefficient_at (put p k v) x ≡ cond (same_place p x) k (coefficient_at v x)
put_at p k [] f x = kept_at p k x
put_at p k (t ∷ v) f x = by (place_cmp p t.at) refl (put_at p k v f.1 x)
  where
    single : ℤ
    single = cond (same_place t.at x) t.k (pos 0)

    -- k stands at p, and nothing of the others does
    beside : (w : List Term) → Below p w → (c : Bool) → same_place p x ≡ c → cond c k (pos 0) +ℤ coefficient_at w x ≡ cond c k (coefficient_at w x)
    beside w b true s = let none : coefficient_at w x ≡ pos 0 = ap (coefficient_at w) (sym (test.sound p x s)) ∙ at_above p w b in omega (arith, ints, none)
    beside w b false s = omega (arith, ints)

    joined : (w : List Term) → Below p w → coefficient_at (kept p k ++ w) x ≡ cond (same_place p x) k (coefficient_at w x)
    joined w b = let here : coefficient_at (kept p k) x ≡ cond (same_place p x) k (pos 0) = kept_at p k x
        in at_join (kept p k) w x ∙ ap (λ z. z +ℤ coefficient_at w x) here ∙ beside w b (same_place p x) refl

    passed : IsBelow p t.at → (c : Bool) → same_place p x ≡ c → single +ℤ cond c k (coefficient_at v x) ≡ cond c k (single +ℤ coefficient_at v x)
    passed h true s = let none : single ≡ pos 0 = rw (ap (same_place t.at) (sym (test.sound p x s)) ∙ eq-above test order t.at p h) refl
        in omega (arith, ints, none)
    passed h false s = refl

    replaced : p ≡ t.at → (c : Bool) → same_place p x ≡ c → cond c k (coefficient_at v x) ≡ cond c k (single +ℤ coefficient_at v x)
    replaced h true s = refl
    replaced h false s = let none : single ≡ pos 0 = rw (ap (λ y. same_place y x) (sym h) ∙ s) refl in omega (arith, ints, none)

    by : (r : Ordering) → place_cmp p t.at ≡ r → coefficient_at (put p k v) x ≡ cond (same_place p x) k (coefficient_at v x)
        → coefficient_at (match_ordering r (t ∷ put p k v) (kept p k ++ v) (kept p k ++ t ∷ v)) x ≡ cond (same_place p x) k (single +ℤ coefficient_at v x)
    by Less e rest = ap (λ z. single +ℤ z) rest ∙ passed e (same_place p x) refl
    by Equal e rest = joined v (subst (λ y. Below y v) (sym (place_exact p t.at e)) f.0) ∙ replaced (place_exact p t.at e) (same_place p x) refl
    by Greater e rest = joined (t ∷ v) (below_from_first p t v (above_from p t.at e) f)

presence_one : (z : ℤ) → z ≢ pos 0 → presence z ≡ 1
presence_one (pos zero) h = absurd (h refl)
presence_one (pos (suc n)) h = refl
presence_one (negsuc n) h = refl

count_put : (p : Place) (k : ℤ) (v : List Term) → IsSparse v → length (put p k v) + presence (coefficient_at v p) ≡ length v + presence k
count_put p k [] h = let whole : length (kept p k) ≡ presence k = ap length (alone (kept p k)) ∙ count_kept p k [] ∙ plain (presence k) in omega (arith, whole)
  where
    plain : (n : ℕ) → 0 + n ≡ n
    plain n = omega arith
count_put p k (t ∷ v) h = by (place_cmp p t.at) refl (count_put p k v (record { falling = h.falling.1; terms = h.terms.1 }))
  where
    at_p : (z : ℤ) → cond (same_place t.at p) t.k (pos 0) ≡ z → coefficient_at (t ∷ v) p ≡ z +ℤ coefficient_at v p
    at_p z e = ap (λ y. y +ℤ coefficient_at v p) e

    by : (r : Ordering) → place_cmp p t.at ≡ r → length (put p k v) + presence (coefficient_at v p) ≡ length v + presence k
        → length (match_ordering r (t ∷ put p k v) (kept p k ++ v) (kept p k ++ t ∷ v)) + presence (coefficient_at (t ∷ v) p) ≡ length (t ∷ v) + presence k
    by Less e rest =
        let none : cond (same_place t.at p) t.k (pos 0) ≡ pos 0 = rw (eq-above test order t.at p e) refl in
        let same : coefficient_at (t ∷ v) p ≡ coefficient_at v p = omega (arith, ints, none) in
        omega (arith, rest, ap presence same)
    by Equal e rest =
        let key : p ≡ t.at = place_exact p t.at e in
        let none : coefficient_at v p ≡ pos 0 = ap (coefficient_at v) key ∙ at_above t.at v h.falling.0 in
        let own : cond (same_place t.at p) t.k (pos 0) ≡ t.k = rw (ap (same_place t.at) key ∙ test.reflexive t.at) refl in
        let same : coefficient_at (t ∷ v) p ≡ t.k = omega (arith, ints, none, own) in
        omega (arith, count_kept p k v, ap presence same, presence_one t.k h.terms.0.nonzero)
    by Greater e rest =
        let none : coefficient_at (t ∷ v) p ≡ pos 0 = at_above p (t ∷ v) (below_from_first p t v (above_from p t.at e) h.falling) in
        omega (arith, count_kept p k (t ∷ v), ap presence none)

-- ---- the coefficients of a map

pub sparse_overlay : (es : List (Place × ℤ)) (v : List Term) → AllByRecursion IsCoefficient es → IsSparse v → IsSparse (overlay es v)
sparse_overlay [] v h s = s
sparse_overlay (e ∷ es) v h s = sparse_put e.0 e.1 (overlay es v) (sparse_overlay es v h.1 s) h.0.place h.0.range

pub overlay_at : (es : List (Place × ℤ)) (v : List Term) → AllByRecursion IsCoefficient es → IsSparse v → (x : Place)
    → coefficient_at (overlay es v) x ≡ unwrap_or (lookup (λ k. is_eq (place_cmp x k)) es) (coefficient_at v x)
overlay_at [] v h s x = refl
overlay_at (e ∷ es) v h s x = put_at e.0 e.1 (overlay es v) (sparse_overlay es v h.1 s).falling x ∙ by (is_eq (place_cmp x e.0)) refl (overlay_at es v h.1 s x)
  where
    by : (c : Bool) → is_eq (place_cmp x e.0) ≡ c → coefficient_at (overlay es v) x ≡ unwrap_or (lookup (λ k. is_eq (place_cmp x k)) es) (coefficient_at v x)
        → cond (same_place e.0 x) e.1 (coefficient_at (overlay es v) x)
        ≡ unwrap_or (cond (is_eq (place_cmp x e.0)) (Some e.1) (lookup (λ k. is_eq (place_cmp x k)) es)) (coefficient_at v x)
    by true s rest = rw (same_turned e.0 x ∙ s, s) refl
    by false s rest = rw (same_turned e.0 x ∙ s, s) rest

-- a term above the keys stays first
pub overlay_above : (t : Term) (es : List (Place × ℤ)) (v : List Term) → AreBelow t.at es → overlay es (t ∷ v) ≡ t ∷ overlay es v
overlay_above t [] v h = refl
overlay_above t (e ∷ es) v h = ap (put e.0 e.1) (overlay_above t es v h.1)
    ∙ ap (λ r. match_ordering r (t ∷ put e.0 e.1 (overlay es v)) (kept e.0 e.1 ++ overlay es v) (kept e.0 e.1 ++ t ∷ overlay es v)) h.0

overlay_last : (es : List (Place × ℤ)) (e : Place × ℤ) (v : List Term) → overlay (es ++ e ∷ []) v ≡ overlay es (put e.0 e.1 v)
overlay_last [] e v = refl
overlay_last (d ∷ es) e v = ap (put d.0 d.1) (overlay_last es e v)

-- ---- the greatest place

put_first : (p : Place) (k : ℤ) (v left : List Term) → (IsFirstAbove v ((p, k) ∷ []) → ⊥) → Skips p v left → put p k v ≡ kept p k ++ left
put_first p k [] left h s = alone (kept p k) ∙ ap (λ w. kept p k ++ w) (sym s)
put_first p k (t ∷ v) left h s = by (place_cmp p t.at) refl s
  where
    by : (r : Ordering) → place_cmp p t.at ≡ r → ((t.at ≡ p) × (left ≡ v)) ⊎ ((t.at ≢ p) × (left ≡ t ∷ v))
        → match_ordering r (t ∷ put p k v) (kept p k ++ v) (kept p k ++ t ∷ v) ≡ kept p k ++ left
    by Less e c = absurd (h (e, tt))
    by Equal e (inl c) = ap (λ w. kept p k ++ w) (sym c.1)
    by Equal e (inr c) = absurd (c.0 (sym (place_exact p t.at e)))
    by Greater e (inl c) = absurd (order.irreflexive p (subst (λ y. IsBelow y p) c.0 (above_from p t.at e)))
    by Greater e (inr c) = ap (λ w. kept p k ++ w) (sym c.1)

not_above_all : (es : List (Place × ℤ)) (p : Place) (k : ℤ) (v : List Term) → AreBelow p es → IsFirstAbove v ((p, k) ∷ []) → IsFirstAbove v (es ++ (p, k) ∷ [])
not_above_all es p k [] below h = h
not_above_all es p k (t ∷ v) below h = all es below
  where
    all : (es : List (Place × ℤ)) → AreBelow p es → AreBelow t.at (es ++ (p, k) ∷ [])
    all [] b = h
    all (e ∷ es) b = (order.transitive e.0 p t.at b.0 h.0, all es b.1)

pub passes_changed : (es : List (Place × ℤ)) (p : Place) (k : ℤ) (v left : List Term) → AreBelow p es → (IsFirstAbove v (es ++ (p, k) ∷ []) → ⊥)
    → Skips p v left → Passes (overlay (es ++ (p, k) ∷ []) v) (record { at = p; k = k }) (overlay es left)
passes_changed es p k v left below h s = by k (overlay_last es (p, k) v ∙ ap (overlay es) (put_first p k v left (λ a. h (not_above_all es p k v below a)) s))
  where
    by : (z : ℤ) → overlay (es ++ (p, k) ∷ []) v ≡ overlay es (kept p z ++ left)
        → Passes (overlay (es ++ (p, k) ∷ []) v) (record { at = p; k = z }) (overlay es left)
    by (pos zero) e = inl (refl, sym e)
    by (pos (suc n)) e = inr (λ z. absurd (omega (arith, ints, z)), e ∙ overlay_above (record { at = p; k = pos (suc n) }) es left below)
    by (negsuc n) e = inr (λ z. absurd (omega (arith, ints, z)), e ∙ overlay_above (record { at = p; k = negsuc n }) es left below)

pub passes_given : (es : List (Place × ℤ)) (t : Term) (v given : List Term) → IsSparse given → given ≡ t ∷ v → AreBelow t.at es
    → Passes (overlay es given) t (overlay es v)
passes_given es t v given h is below = inr ((subst IsSparse is h).terms.0.nonzero, ap (overlay es) is ∙ overlay_above t es v below)

-- ---- a change

all_inserted : (es : List (Place × ℤ)) (p : Place) (k : ℤ) → AllByRecursion IsCoefficient es → IsPlace p → InRange k
    → AllByRecursion IsCoefficient (insert_entry place_cmp es p k)
all_inserted [] p k h place range = (record { place = place; range = range }, tt)
all_inserted (e ∷ es) p k h place range = by (place_cmp p e.0) (all_inserted es p k h.1 place range)
  where
    by : (r : Ordering) → AllByRecursion IsCoefficient (insert_entry place_cmp es p k)
        → AllByRecursion IsCoefficient (match_ordering r ((p, k) ∷ e ∷ es) ((e.0, k) ∷ es) (e ∷ insert_entry place_cmp es p k))
    by Less rest = (record { place = place; range = range }, h)
    by Equal rest = (record { place = h.0.place; range = range }, h.1)
    by Greater rest = (h.0, rest)

module _ (old new : List (Place × ℤ)) (v : List Term) (p : Place) (k : ℤ) where
  pub record Inserts : Type 0 where
    pub coefficients : AllByRecursion IsCoefficient old
    pub given : IsSparse v
    pub place : IsPlace p
    pub range : InRange k
    pub entries : new ≡ insert_entry place_cmp old p k
    pub updates : (q : Place) → lookup (λ y. is_eq (place_cmp q y)) new ≡ cond (is_eq (place_cmp p q)) (Some k) (lookup (λ y. is_eq (place_cmp q y)) old)

  module _ (i : Inserts) where
    pub new_coefficients : AllByRecursion IsCoefficient new
    new_coefficients = subst (AllByRecursion IsCoefficient) (sym i.entries) (all_inserted old p k i.coefficients i.place i.range)

    before : IsSparse (overlay old v)
    before = sparse_overlay old v i.coefficients i.given

    pub changed_at : (x : Place) → coefficient_at (overlay new v) x ≡ cond (same_place p x) k (coefficient_at (overlay old v) x)
    changed_at x = by (same_place p x) refl
      where
        read : coefficient_at (overlay new v) x ≡ unwrap_or (cond (is_eq (place_cmp p x)) (Some k) (lookup (λ y. is_eq (place_cmp x y)) old))
            (coefficient_at v x)
        read = overlay_at new v new_coefficients i.given x ∙ ap (λ o. unwrap_or o (coefficient_at v x)) (i.updates x)

        by : (c : Bool) → same_place p x ≡ c → coefficient_at (overlay new v) x ≡ cond (same_place p x) k (coefficient_at (overlay old v) x)
        by true s = read ∙ rw s refl
        by false s = read ∙ rw s (sym (overlay_at old v i.coefficients i.given x))

    is_put : overlay new v ≡ put p k (overlay old v)
    is_put = same_vector (overlay new v) (put p k (overlay old v)) (sparse_overlay new v new_coefficients i.given)
        (sparse_put p k (overlay old v) before i.place i.range) (λ x. changed_at x ∙ sym (put_at p k (overlay old v) before.falling x))

    pub changed_count : length (overlay new v) + presence (coefficient_at (overlay old v) p) ≡ length (overlay old v) + presence k
    changed_count = ap (λ w. length w + presence (coefficient_at (overlay old v) p)) is_put ∙ count_put p k (overlay old v) before

-- ---- the last key

pub below_keys : (es : List (Place × ℤ)) (p : Place) → All (λ q. place_cmp q p ≡ Less) (keys_of es) → AreBelow p es
below_keys es p h = by es (recursion_from_All _ (keys_of es) h)
  where
    by : (es : List (Place × ℤ)) → AllByRecursion (λ q. place_cmp q p ≡ Less) (keys_of es) → AreBelow p es
    by [] h = tt
    by (e ∷ es) h = (h.0, by es h.1)

-- whoever stands above the last key stands above all
pub above_last : (es : List (Place × ℤ)) (last p : Place) → All (λ q. is_lt (place_cmp last q) ≡ false) (keys_of es) → IsBelow last p → AreBelow p es
above_last es last p h below = by es (recursion_from_All _ (keys_of es) h)
  where
    one : (q : Place) → is_lt (place_cmp last q) ≡ false → (q ≡ last) ⊎ (IsBelow q last ⊎ IsBelow last q) → IsBelow q p
    one q e (inl s) = subst (λ y. IsBelow y p) (sym s) below
    one q e (inr (inl s)) = order.transitive q last p s below
    one q e (inr (inr s)) = let wrong : true ≡ false = sym (ap is_lt s) ∙ e in cc

    by : (es : List (Place × ℤ)) → AllByRecursion (λ q. is_lt (place_cmp last q) ≡ false) (keys_of es) → AreBelow p es
    by [] h = tt
    by (e ∷ es) h = (one e.0 h.0 (order.total e.0 last), by es h.1)

pub last_below : (es : List (Place × ℤ)) (i : ℕ) (last p : Place) (k : ℤ) → slice_get es i ≡ Some (last, k) → AreBelow p es → IsBelow last p
last_below [] i last p k e h = absurd cc
last_below (d ∷ es) zero last p k e h = let same : d ≡ (last, k) = cc in subst (λ (x : Place × ℤ). IsBelow x.0 p) same h.0
last_below (d ∷ es) (suc i) last p k e h = last_below es i last p k e h.1

pub greater_test : (p q : Place) → is_gt (place_cmp p q) ≡ true → IsBelow q p
greater_test p q e = by (place_cmp p q) refl e
  where
    by : (r : Ordering) → place_cmp p q ≡ r → is_gt r ≡ true → IsBelow q p
    by Less h t = absurd cc
    by Equal h t = absurd cc
    by Greater h t = above_from p q h

pub test_greater : (p q : Place) → IsBelow q p → is_gt (place_cmp p q) ≡ true
test_greater p q h = ap is_gt (place_total.antisymm p q ∙ ap ordering_reverse h)

-- what is left of the given terms
pub sparse_skips : (p : Place) (v left : List Term) → IsSparse v → Skips p v left → IsSparse left
sparse_skips p [] left h s = subst IsSparse (sym s) h
sparse_skips p (t ∷ v) left h (inl s) = subst IsSparse (sym s.1) (record { falling = h.falling.1; terms = h.terms.1 })
sparse_skips p (t ∷ v) left h (inr s) = subst IsSparse (sym s.1) h
