-- The row of an entry, read off the pairs in their order.
use Rattle.std.proofs.Common.{◌≡◌, ◌≢◌, ◌⊎◌, inl, inr, ◌∙◌, ℕ, ◌+◌, Bool, true, false, cond, not, ◌&&◌, nat_lt, nat_le, ◌==◌, pos, List, []}
use Rattle.std.proofs.Common.{◌∷◌, ◌++◌, reverse, refl, sym, ap, subst, arith}
use Rattle.std.proofs.lemmas.List.{map-append, reverse-append}
use Rattle.std.specs.Prelude.{Some, None}
use Rattle.std.specs.List.{AllByRecursion}
use Rattle.std.specs.List.Sorted.{IsStrictlySortedBy}
use Rattle.std.specs.BTreeMap.Range.{range_contains}
use Rattle.std.specs.Map.{keys_of}
use Rattle.std.specs.Ordering.{is_eq, is_le, nat_cmp, ordering_then, int_eq}
use Rattle.std.specs.declared.cmp.Ordering.{Ordering}
use Rattle.std.specs.declared.cmp.Ordering.TheVariants.{Less, Equal, Greater}
use Rattle.std.specs.declared.ops.Bound.TheVariants.{Included, Excluded}
use borrow.Author.Differences.{ints}
use Rattle.formal_sums.specs.FormalSum.{coefficient, Falling, NonZero, AllAbove}
use Rattle.formal_sums.proofs.Coefficients.{Same-permutation}
use Rattle.formal_sums.proofs.Falling.{Falling-push}
use Rattle.formal_sums.proofs.Keys.{int_test, eq-apart}
use Rattle.laurent_terms.specs.Monomials.{one, divides, mono_cmp, IsMonomial}
use Rattle.laurent_terms.proofs.Division.{divides-product, product-one}
use Rattle.laurent_terms.proofs.Ranks.{mono_cmp-same, mono_cmp-divisor}
use Rattle.module_vec.specs.declared.places.Place.{Place}
use Rattle.module_vec.specs.Places.{place_cmp, same_place, IsBelow}
use Rattle.module_vec.proofs.FallingTerms.{all_join}
use Rattle.module_vec.proofs.Order.{test}
use Rattle.flat_cert.specs.declared.totals.Total.{Total}
use Rattle.flat_cert.specs.Weights.{AreDistinct}
use Rattle.flat_cert.specs.Adding.{found, sum_in, sum_at, IsTotal}
use Rattle.flat_making.specs.declared.handed.Pair.{Pair}
use Rattle.flat_making.specs.declared.handed.Share.{Share}
use Rattle.flat_making.specs.Handing.{IsRow}
use Rattle.flat_making.specs.Pairs.{pair_cmp, place_of, places_of, row_of, IsShare, between_entry, shares_of}
use Rattle.flat_making.proofs.Pairs.{Pairs, sorted_apart}

-- ---- which pairs lie between

one_least : (t : List ℕ) → IsMonomial t → is_le (mono_cmp one t) ≡ true
one_least t is =
    by (mono_cmp-divisor one t (subst (λ (s : List ℕ). divides one s ≡ true) (product-one t is.variables) (divides-product one t (sym is.variables))))
  where
    by : (mono_cmp one t ≡ Less) ⊎ (one ≡ t) → is_le (mono_cmp one t) ≡ true
    by (inl e) = ap is_le e
    by (inr e) = ap is_le (subst (λ (s : List ℕ). mono_cmp one s ≡ Equal) e (mono_cmp-same one))

le_first : (n k : ℕ) (r : Ordering) → is_le r ≡ true → is_le (ordering_then (nat_cmp n k) r) ≡ nat_le n k
le_first n k r least = by (nat_lt n k) refl (n == k) refl
  where
    by : (a : Bool) → nat_lt n k ≡ a → (b : Bool) → (n == k) ≡ b → is_le (ordering_then (cond a Less (cond b Equal Greater)) r) ≡ nat_le n k
    by true e b f = grind arith
    by false e true f = let le : nat_le n k ≡ true = grind arith in least ∙ sym le
    by false e false f = grind arith

abbrev lies : ℕ → Pair → Bool
lies n x = range_contains pair_cmp (Included (record { entry = n; t = one })) (Excluded (record { entry = n + 1; t = one })) x

lies_is : (n : ℕ) (x : Pair) → IsMonomial x.t → lies n x ≡ (nat_le n x.entry && not (nat_le (n + 1) x.entry))
lies_is n x is =
    λ i. le_first n x.entry (mono_cmp one x.t) (one_least x.t is) i && not (le_first (n + 1) x.entry (mono_cmp one x.t) (one_least x.t is) i)

between : (n k : ℕ) → (nat_le n k && not (nat_le (n + 1) k)) ≡ true → k ≡ n
between n k h = by (nat_le n k) refl (nat_le (n + 1) k) refl h
  where
    by : (a : Bool) → nat_le n k ≡ a → (b : Bool) → nat_le (n + 1) k ≡ b → (a && not b) ≡ true → k ≡ n
    by true p false q h = grind arith
    by true p true q h = absurd cc
    by false p b q h = absurd cc

itself_between : (n : ℕ) → (nat_le n n && not (nat_le (n + 1) n)) ≡ true
itself_between n =
    let first : nat_le n n ≡ true = grind arith in
    let second : nat_le (n + 1) n ≡ false = grind arith in
    rw first (rw second refl)

lies_of : (n : ℕ) (x : Pair) → IsMonomial x.t → lies n x ≡ true → x.entry ≡ n
lies_of n x is e = between n x.entry (sym (lies_is n x is) ∙ e)

lies_not : (n : ℕ) (x : Pair) → IsMonomial x.t → lies n x ≡ false → x.entry ≢ n
lies_not n x is e same =
    let wrong : true ≡ false = sym (itself_between n) ∙ ap (λ k. nat_le n k && not (nat_le (n + 1) k)) (sym same) ∙ sym (lies_is n x is) ∙ e in cc

all_lie : (n : ℕ) (es : Pairs) → AllByRecursion IsTotal (places_of es) → AllByRecursion (λ e. e.0.entry ≡ n) (between_entry n es)
all_lie n [] all = tt
all_lie n (e ∷ es) all = by (lies n e.0) refl (all_lie n es all.1)
  where
    by : (b : Bool) → lies n e.0 ≡ b → AllByRecursion (λ e. e.0.entry ≡ n) (between_entry n es)
        → AllByRecursion (λ (e : Pair × Total). e.0.entry ≡ n) (cond b (e ∷ between_entry n es) (between_entry n es))
    by true s rest = (lies_of n e.0 all.0.place s, rest)
    by false s rest = rest

totals_kept : (n : ℕ) (es : Pairs) → AllByRecursion IsTotal (places_of es) → AllByRecursion IsTotal (places_of (between_entry n es))
totals_kept n [] all = tt
totals_kept n (e ∷ es) all = by (lies n e.0) (totals_kept n es all.1)
  where
    by : (b : Bool) → AllByRecursion IsTotal (places_of (between_entry n es))
        → AllByRecursion IsTotal (places_of (cond b (e ∷ between_entry n es) (between_entry n es)))
    by true rest = (all.0, rest)
    by false rest = rest

keys_kept : (P : Pair → Type 0) (n : ℕ) (es : Pairs) → AllByRecursion P (keys_of es) → AllByRecursion P (keys_of (between_entry n es))
keys_kept P n [] all = tt
keys_kept P n (e ∷ es) all = by (lies n e.0) (keys_kept P n es all.1)
  where
    by : (b : Bool) → AllByRecursion P (keys_of (between_entry n es)) → AllByRecursion P (keys_of (cond b (e ∷ between_entry n es) (between_entry n es)))
    by true rest = (all.0, rest)
    by false rest = rest

sorted_kept : (n : ℕ) (es : Pairs) → IsStrictlySortedBy pair_cmp (keys_of es) → IsStrictlySortedBy pair_cmp (keys_of (between_entry n es))
unfolding IsStrictlySortedBy
sorted_kept n [] sorted = sorted
sorted_kept n (e ∷ es) sorted = by (lies n e.0) (sorted_kept n es sorted.1)
  where
    by : (b : Bool) → IsStrictlySortedBy pair_cmp (keys_of (between_entry n es))
        → IsStrictlySortedBy pair_cmp (keys_of (cond b (e ∷ between_entry n es) (between_entry n es)))
    by true rest = (keys_kept (λ y. pair_cmp e.0 y ≡ Less) n es sorted.0, rest)
    by false rest = rest

-- at the entry the same is found
found_kept : (n : ℕ) (es : Pairs) (x : Place) → AllByRecursion IsTotal (places_of es) → x.c ≡ n
    → found (places_of (between_entry n es)) x ≡ found (places_of es) x
found_kept n [] x all own = refl
found_kept n (e ∷ es) x all own = by (lies n e.0) refl (found_kept n es x all.1 own)
  where
    by : (b : Bool) → lies n e.0 ≡ b → found (places_of (between_entry n es)) x ≡ found (places_of es) x
        → found (places_of (cond b (e ∷ between_entry n es) (between_entry n es))) x ≡ found (places_of (e ∷ es)) x
    by true s rest = λ i. cond (is_eq (place_cmp x (place_of e.0))) (Some e.1) (rest i)
    by false s rest =
        let other : is_eq (place_cmp x (place_of e.0)) ≡ false =
        eq-apart test x (place_of e.0) (λ same. lies_not n e.0 all.0.place s (sym (ap (λ (y : Place). y.c) same) ∙ own)) in
        rw other rest

-- ---- the shares of one entry

none_there : (es : List (Place × Total)) (p : Place) → AllByRecursion (λ (y : Place). y ≢ p) (keys_of es) → found es p ≡ None
none_there [] p apart = refl
none_there (e ∷ es) p apart = rw (eq-apart test p e.0 (λ same. apart.0 (sym same))) (none_there es p apart.1)

row_is : (n : ℕ) (es : Pairs) (x : Place) → AllByRecursion (λ e. e.0.entry ≡ n) es → AreDistinct (keys_of (places_of es))
    → coefficient same_place (row_of n (shares_of es)) x ≡ sum_at (places_of es) x
row_is n [] x own apart = refl
row_is n (e ∷ es) x own apart = by (int_eq e.1.sum (pos 0)) refl (same_place (place_of e.0) x) refl (row_is n es x own.1 apart.1)
  where
    place : Path Place (place_of e.0) (record { m = e.0.t; c = n })
    place i = record { m = e.0.t; c = own.0 i }

    -- where x is the place of e, nothing else stands there
    alone : same_place (place_of e.0) x ≡ true → sum_at (places_of es) x ≡ pos 0
    alone s = ap sum_in (ap (found (places_of es)) (sym (test.sound (place_of e.0) x s)) ∙ none_there (places_of es) (place_of e.0) apart.0)

    turned : (b : Bool) → same_place (place_of e.0) x ≡ b → is_eq (place_cmp x (place_of e.0)) ≡ b
    turned true s = ap (λ y. is_eq (place_cmp y (place_of e.0))) (sym (test.sound (place_of e.0) x s)) ∙ test.reflexive (place_of e.0)
    turned false s = eq-apart test x (place_of e.0) (λ same. let wrong : true ≡ false = sym (test.reflexive (place_of e.0))
        ∙ ap (same_place (place_of e.0)) (sym same) ∙ s in cc)

    by : (a : Bool) → int_eq e.1.sum (pos 0) ≡ a → (b : Bool) → same_place (place_of e.0) x ≡ b
        → coefficient same_place (row_of n (shares_of es)) x ≡ sum_at (places_of es) x
        → coefficient same_place (row_of n (cond a (shares_of es) (record { k = e.1.sum; t = e.0.t } ∷ shares_of es))) x
        ≡ sum_in (cond (is_eq (place_cmp x (place_of e.0))) (Some e.1) (found (places_of es) x))
    by true z true s rest = rw (turned true s) (rest ∙ alone s ∙ sym (int_test.sound e.1.sum (pos 0) z))
    by true z false s rest = rw (turned false s) rest
    by false z true s rest =
        let first : same_place (record { m = e.0.t; c = n }) x ≡ true = ap (λ (y : Place). same_place y x) (sym place) ∙ s in
        rw (turned true s) (rw first (omega (arith, ints, rest, alone s)))
    by false z false s rest =
        let first : same_place (record { m = e.0.t; c = n }) x ≡ false = ap (λ (y : Place). same_place y x) (sym place) ∙ s in
        rw (turned false s) (rw first (omega (arith, ints, rest)))

are_shares : (es : Pairs) → AllByRecursion IsTotal (places_of es) → AllByRecursion IsShare (shares_of es)
are_shares [] all = tt
are_shares (e ∷ es) all = by (int_eq e.1.sum (pos 0)) refl (are_shares es all.1)
  where
    by : (a : Bool) → int_eq e.1.sum (pos 0) ≡ a → AllByRecursion IsShare (shares_of es)
        → AllByRecursion IsShare (cond a (shares_of es) (record { k = e.1.sum; t = e.0.t } ∷ shares_of es))
    by true z rest = rest
    by false z rest = (
      record {
        mono = all.0.place;
        nonzero = λ none. let wrong : true ≡ false = sym (int_test.reflexive (pos 0)) ∙ ap (λ q. int_eq q (pos 0)) (sym none) ∙ z in cc;
        range = omega (arith, all.0.small, all.0.most);
      },
      rest,
    )

-- ---- backwards

all_turned : {A : Type 0} (P : A → Type 0) (xs : List A) → AllByRecursion P xs → AllByRecursion P (reverse xs)
all_turned P [] all = tt
all_turned P (x ∷ xs) all =
    subst (AllByRecursion P) (sym (reverse-append (x ∷ []) xs)) (all_join P (reverse xs) (x ∷ []) (all_turned P xs all.1) (all.0, tt))

above_of : (n : ℕ) (p : Place) (ss : List Share) → AllByRecursion (λ (s : Share). IsBelow p (record { m = s.t; c = n })) ss → AllAbove IsBelow p (row_of n ss)
above_of n p [] all = tt
above_of n p (s ∷ ss) all = (all.0, above_of n p ss all.1)

nat_same : (n k : ℕ) → n ≡ k → nat_cmp n k ≡ Equal
nat_same n k e = grind arith

below_next : (n : ℕ) (x y : Pair) → x.entry ≡ n → y.entry ≡ n → pair_cmp x y ≡ Less → IsBelow (record { m = x.t; c = n }) (record { m = y.t; c = n })
below_next n x y a b less =
    let less_mono : mono_cmp x.t y.t ≡ Less = sym (ap (λ r. ordering_then r (mono_cmp x.t y.t)) (nat_same x.entry y.entry (a ∙ sym b))) ∙ less in
    ap (λ r. ordering_then r (nat_cmp n n)) less_mono

shares_above : (n : ℕ) (x : Pair) (es : Pairs) → x.entry ≡ n → AllByRecursion (λ e. e.0.entry ≡ n) es → AllByRecursion (λ y. pair_cmp x y ≡ Less) (keys_of es)
    → AllByRecursion (λ (s : Share). IsBelow (record { m = x.t; c = n }) (record { m = s.t; c = n })) (shares_of es)
shares_above n x [] first own above = tt
shares_above n x (e ∷ es) first own above = by (int_eq e.1.sum (pos 0)) (shares_above n x es first own.1 above.1)
  where
    by : (a : Bool) → AllByRecursion (λ (s : Share). IsBelow (record { m = x.t; c = n }) (record { m = s.t; c = n })) (shares_of es)
        → AllByRecursion (λ (s : Share). IsBelow (record { m = x.t; c = n }) (record { m = s.t; c = n }))
        (cond a (shares_of es) (record { k = e.1.sum; t = e.0.t } ∷ shares_of es))
    by true rest = rest
    by false rest = (below_next n x e.0 first own.0 above.0, rest)

row_turned : (n : ℕ) (s : Share) (ss : List Share) → row_of n (reverse (s ∷ ss)) ≡ row_of n (reverse ss) ++ (s.k, record { m = s.t; c = n }) ∷ []
row_turned n s ss = ap (row_of n) (reverse-append (s ∷ []) ss) ∙ map-append (λ (u : Share). (u.k, record { m = u.t; c = n })) (reverse ss) (s ∷ [])

row_falls : (n : ℕ) (es : Pairs) → AllByRecursion (λ e. e.0.entry ≡ n) es → IsStrictlySortedBy pair_cmp (keys_of es)
    → Falling IsBelow (row_of n (reverse (shares_of es)))
unfolding IsStrictlySortedBy
row_falls n [] own sorted = tt
row_falls n (e ∷ es) own sorted = by (int_eq e.1.sum (pos 0)) (row_falls n es own.1 sorted.1)
  where
    by : (a : Bool) → Falling IsBelow (row_of n (reverse (shares_of es)))
        → Falling IsBelow (row_of n (reverse (cond a (shares_of es) (record { k = e.1.sum; t = e.0.t } ∷ shares_of es))))
    by true rest = rest
    by false rest =
        subst (Falling IsBelow) (sym (row_turned n (record { k = e.1.sum; t = e.0.t }) (shares_of es)))
        (Falling-push IsBelow (row_of n (reverse (shares_of es))) (e.1.sum, record { m = e.0.t; c = n }) rest
        (above_of n (record { m = e.0.t; c = n }) (reverse (shares_of es)) (all_turned _ (shares_of es) (shares_above n e.0 es own.0 own.1 sorted.0))))

nonzero_of : (n : ℕ) (ss : List Share) → AllByRecursion IsShare ss → NonZero (row_of n ss)
nonzero_of n [] all = tt
nonzero_of n (s ∷ ss) all = (all.0.nonzero, nonzero_of n ss all.1)

own_of : (n : ℕ) (ss : List Share) → AllByRecursion (λ t. t.1.c ≡ n) (row_of n ss)
own_of n [] = tt
own_of n (s ∷ ss) = (refl, own_of n ss)

row_turned_same : (n : ℕ) (ss : List Share) (x : Place) → coefficient same_place (row_of n (reverse ss)) x ≡ coefficient same_place (row_of n ss) x
row_turned_same n [] x = refl
row_turned_same n (s ∷ ss) x =
    let split : coefficient same_place (row_of n (reverse (s ∷ ss))) x
    ≡ coefficient same_place (row_of n (reverse ss) ++ (s.k, record { m = s.t; c = n }) ∷ []) x = ap (λ v. coefficient same_place v x) (row_turned n s ss) in
    omega (
      arith,
      ints,
      split,
      Rattle.formal_sums.proofs.Coefficients.coefficient-append same_place (row_of n (reverse ss))
          ((s.k, record { m = s.t; c = n }) ∷ []) x,
      row_turned_same n ss x,
    )

module _ (n : ℕ) (es : Pairs) (all : AllByRecursion IsTotal (places_of es)) (sorted : IsStrictlySortedBy pair_cmp (keys_of es)) where
  abbrev kept : List Share
  kept = shares_of (between_entry n es)

  pub kept_shares : AllByRecursion IsShare (reverse kept)
  kept_shares = all_turned IsShare kept (are_shares (between_entry n es) (totals_kept n es all))

  -- THE ROW
  pub kept_row : IsRow (sum_at (places_of es)) n (row_of n (reverse kept))
  kept_row = record {
    falling = row_falls n (between_entry n es) (all_lie n es all) (sorted_kept n es sorted);
    nonzero = nonzero_of n (reverse kept) kept_shares;
    own = own_of n (reverse kept);
    is = λ x own. row_turned_same n kept x
        ∙ row_is n (between_entry n es) x (all_lie n es all) (sorted_apart (between_entry n es) (sorted_kept n es sorted))
        ∙ ap sum_in (found_kept n es x all own);
  }
