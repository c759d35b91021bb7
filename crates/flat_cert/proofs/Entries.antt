-- The entries of a map of totals: within the limits they are not beyond them, and the greatest place.
use Rattle.std.proofs.Common.{◌≡◌, ◌≢◌, ◌⊎◌, inl, inr, ℕ, suc, ◌<◌, ◌≤◌, Bool, true, false, cond, pos, List, [], ◌∷◌, ◌++◌, length, refl, sym, ap, subst}
use Rattle.std.proofs.Common.{◌∙◌, arith}
use Rattle.std.specs.Prelude.{Option, Some, None}
use Rattle.std.specs.List.{AllByRecursion}
use Rattle.std.specs.List.Sorted.{IsStrictlySortedBy}
use Rattle.std.specs.Map.{keys_of}
use Rattle.std.specs.Ordering.{is_eq}
use Rattle.std.specs.declared.cmp.Ordering.TheVariants.{Less}
use Rattle.formal_sums.proofs.Keys.{eq-above, eq-apart}
use Rattle.module_vec.specs.declared.places.Place.{Place}
use Rattle.module_vec.specs.Places.{place_cmp, IsBelow}
use Rattle.module_vec.specs.Results.{IsGreatest}
use Rattle.module_vec.proofs.Order.{test, order}
use Rattle.flat_cert.specs.declared.TheConstants.{PLACES}
use Rattle.flat_cert.specs.declared.totals.Total.{Total}
use Rattle.flat_cert.specs.Weights.{AreDistinct, IsBeyond}
use Rattle.flat_cert.specs.Adding.{sum_in, weight_in, found, sum_at, weight_at, IsTotal, AreTotals, IsSmall}
use Rattle.flat_cert.proofs.Weights.{all_more}

abbrev pub Entries : Type 0
Entries = List (Place × Total)

-- what is found is an entry at that place
pub found_is : (es : Entries) (x : Place) (t : Total) → AllByRecursion IsTotal es → found es x ≡ Some t → IsTotal (x, t)
found_is [] x t all e = absurd cc
found_is (d ∷ es) x t all e = by (is_eq (place_cmp x d.0)) refl e (found_is es x t all.1)
  where
    by : (b : Bool) → is_eq (place_cmp x d.0) ≡ b → cond b (Some d.1) (found es x) ≡ Some t → (found es x ≡ Some t → IsTotal (x, t)) → IsTotal (x, t)
    by true s e rest =
        let key : d.0 ≡ x = sym (test.sound x d.0 s) in
        let value : d.1 ≡ t = cc in
        subst IsTotal (λ i. (key i, value i)) all.0
    by false s e rest = rest e

-- where something stands an entry is found
pub some_found : (o : Option Total) → 0 < weight_in o → (t : Total) × (o ≡ Some t)
some_found None h = absurd (omega (arith, h))
some_found (Some t) h = (t, refl)

pub small_found : (es : Entries) (x : Place) → AllByRecursion IsTotal es → IsSmall (found es x)
small_found es x all = by (found es x) refl
  where
    by : (o : Option Total) → found es x ≡ o → IsSmall o
    by None e = record { most = omega arith; small = omega arith }
    by (Some t) e = let is : IsTotal (x, t) = found_is es x t all e in record { most = is.most; small = is.small }

-- ---- not more places than entries

dropped : Place → Entries → Entries
dropped x [] = []
dropped x (d ∷ es) = cond (is_eq (place_cmp x d.0)) es (d ∷ dropped x es)

length_dropped : (x : Place) (es : Entries) (t : Total) → found es x ≡ Some t → length es ≡ suc (length (dropped x es))
unfolding dropped
length_dropped x [] t e = absurd cc
length_dropped x (d ∷ es) t e = by (is_eq (place_cmp x d.0)) e (length_dropped x es t)
  where
    by : (b : Bool) → cond b (Some d.1) (found es x) ≡ Some t → (found es x ≡ Some t → length es ≡ suc (length (dropped x es)))
        → length (d ∷ es) ≡ suc (length (cond b es (d ∷ dropped x es)))
    by true e rest = omega arith
    by false e rest = let more : length es ≡ suc (length (dropped x es)) = rest e in omega (arith, more)

found_dropped : (x y : Place) (es : Entries) → (y ≢ x) → found (dropped x es) y ≡ found es y
unfolding dropped
found_dropped x y [] apart = refl
found_dropped x y (d ∷ es) apart = by (is_eq (place_cmp x d.0)) refl (found_dropped x y es apart)
  where
    by : (b : Bool) → is_eq (place_cmp x d.0) ≡ b → found (dropped x es) y ≡ found es y → found (cond b es (d ∷ dropped x es)) y ≡ found (d ∷ es) y
    by true s rest =
        let key : x ≡ d.0 = test.sound x d.0 s in
        let other : is_eq (place_cmp y d.0) ≡ false = eq-apart test y d.0 (λ e. apart (e ∙ sym key)) in
        rw other refl
    by false s rest = λ i. cond (is_eq (place_cmp y d.0)) (Some d.1) (rest i)

abbrev IsFound : Entries → Place → Type 0
IsFound es x = (t : Total) × (found es x ≡ Some t)

still_found : (x : Place) (es : Entries) (ys : List Place) → AllByRecursion (λ y. y ≢ x) ys → AllByRecursion (IsFound es) ys
    → AllByRecursion (IsFound (dropped x es)) ys
still_found x es [] apart all = tt
still_found x es (y ∷ ys) apart all = ((all.0.0, found_dropped x y es apart.0 ∙ all.0.1), still_found x es ys apart.1 all.1)

few_found : (xs : List Place) (es : Entries) → AreDistinct xs → AllByRecursion (IsFound es) xs → length xs ≤ length es
few_found [] es distinct all = omega arith
few_found (x ∷ xs) es distinct all =
    let rest : length xs ≤ length (dropped x es) = few_found xs (dropped x es) distinct.1 (still_found x es xs distinct.0 all.1) in
    omega (arith, rest, length_dropped x es all.0.0 all.0.1)

-- within the limits
pub not_beyond : (es : Entries) → AreTotals es → IsBeyond (weight_at es) → ⊥
not_beyond es are (inl (x, some, far)) =
    let (t, e) = some_found (found es x) some in
    let is : IsTotal (x, t) = found_is es x t are.all e in
    absurd (omega (arith, far, is.place.most))
not_beyond es are (inr (inl (x, heavy))) = let small : IsSmall (found es x) = small_found es x are.all in absurd (omega (arith, heavy, small.most))
not_beyond es are (inr (inr (xs, distinct, all, many))) =
    let below : length xs ≤ length es =
    few_found xs es distinct (all_more (λ x. 0 < weight_at es x) (IsFound es) xs (λ x some. some_found (found es x) some) all) in
    absurd (omega (arith, below, many, are.few))

-- ---- one place more

weight_first : (d : Place × Total) (es : Entries) (x : Place) → IsTotal d → 0 < weight_at es x → 0 < weight_at (d ∷ es) x
weight_first d es x is some = by (is_eq (place_cmp x d.0))
  where
    by : (b : Bool) → 0 < weight_in (cond b (Some d.1) (found es x))
    by true = is.some
    by false = some

-- something stands at each key
keys_stand : (es : Entries) → AllByRecursion IsTotal es → AllByRecursion (λ x. 0 < weight_at es x) (keys_of es)
keys_stand [] all = tt
keys_stand (d ∷ es) all = (
  rw (test.reflexive d.0) all.0.some,
  all_more (λ x. 0 < weight_at es x) (λ x. 0 < weight_at (d ∷ es) x) (keys_of es) (λ x some. weight_first d es x all.0 some)
      (keys_stand es all.1),
)

above_apart : (p : Place) (xs : List Place) → AllByRecursion (λ y. place_cmp p y ≡ Less) xs → AllByRecursion (λ y. y ≢ p) xs
above_apart p [] all = tt
above_apart p (x ∷ xs) all = (λ e. order.irreflexive p (subst (IsBelow p) e all.0), above_apart p xs all.1)

pub sorted_distinct : (xs : List Place) → IsStrictlySortedBy place_cmp xs → AreDistinct xs
unfolding IsStrictlySortedBy
sorted_distinct [] sorted = tt
sorted_distinct (x ∷ xs) sorted = (above_apart x xs sorted.0, sorted_distinct xs sorted.1)

not_found_apart : (es : Entries) (x : Place) → found es x ≡ None → AllByRecursion (λ y. y ≢ x) (keys_of es)
not_found_apart [] x e = tt
not_found_apart (d ∷ es) x e = by (is_eq (place_cmp x d.0)) refl e (not_found_apart es x)
  where
    by : (b : Bool) → is_eq (place_cmp x d.0) ≡ b → cond b (Some d.1) (found es x) ≡ None
        → (found es x ≡ None → AllByRecursion (λ y. y ≢ x) (keys_of es)) → AllByRecursion (λ y. y ≢ x) (keys_of (d ∷ es))
    by true s e rest = absurd cc
    by false s e rest = (λ same. let wrong : true ≡ false = sym (test.reflexive x) ∙ ap (λ y. is_eq (place_cmp x y)) (sym same) ∙ s in cc, rest e)

length_keys : (es : Entries) → length (keys_of es) ≡ length es
length_keys [] = refl
length_keys (d ∷ es) = omega (arith, length_keys es)

-- the entries fill all places, and one more stands elsewhere
pub too_many : (es : Entries) (x : Place) (W : Place → ℕ) → AreTotals es → AreDistinct (keys_of es) → found es x ≡ None → PLACES ≤ length es
    → 0 < W x → ((y : Place) → weight_at es y ≤ W y) → IsBeyond W
too_many es x W are distinct new full some more =
    inr (inr (
      x ∷ keys_of es,
      (not_found_apart es x new, distinct),
      (some, all_more (λ y. 0 < weight_at es y) (λ y. 0 < W y) (keys_of es) (λ y h. omega (arith, h, more y)) (keys_stand es are.all)),
      omega (arith, full, length_keys es),
    ))

-- ---- the last entry

pub all_at_most : (es : Entries) (p x : Place) → AllByRecursion (λ q. place_cmp q p ≡ Less) (keys_of es) → (p ≡ x) ⊎ IsBelow p x → found es x ≡ None
all_at_most [] p x all h = refl
all_at_most (d ∷ es) p x all h = rw (eq-above test order x d.0 (by h)) (all_at_most es p x all.1 h)
  where
    by : (p ≡ x) ⊎ IsBelow p x → IsBelow d.0 x
    by (inl e) = subst (IsBelow d.0) e all.0
    by (inr b) = order.transitive d.0 p x all.0 b

pub sum_last : (es : Entries) (p : Place) (t : Total) (x : Place) → t.sum ≡ pos 0 → sum_at (es ++ (p, t) ∷ []) x ≡ sum_at es x
sum_last [] p t x none = by (is_eq (place_cmp x p))
  where
    by : (b : Bool) → sum_in (cond b (Some t) None) ≡ pos 0
    by true = none
    by false = refl
sum_last (d ∷ es) p t x none = by (is_eq (place_cmp x d.0)) (sum_last es p t x none)
  where
    by : (b : Bool) → sum_at (es ++ (p, t) ∷ []) x ≡ sum_at es x
        → sum_in (cond b (Some d.1) (found (es ++ (p, t) ∷ []) x)) ≡ sum_in (cond b (Some d.1) (found es x))
    by true rest = refl
    by false rest = rest

found_last : (es : Entries) (p : Place) (t : Total) (x : Place) → found es x ≡ None → found (es ++ (p, t) ∷ []) x ≡ cond (is_eq (place_cmp x p)) (Some t) None
found_last [] p t x e = refl
found_last (d ∷ es) p t x e = by (is_eq (place_cmp x d.0)) e (found_last es p t x)
  where
    by : (b : Bool) → cond b (Some d.1) (found es x) ≡ None
        → (found es x ≡ None → found (es ++ (p, t) ∷ []) x ≡ cond (is_eq (place_cmp x p)) (Some t) None)
        → cond b (Some d.1) (found (es ++ (p, t) ∷ []) x) ≡ cond (is_eq (place_cmp x p)) (Some t) None
    by true e rest = absurd cc
    by false e rest = rest e

-- at the last key and above it nothing else is found
sum_there : (es : Entries) (p : Place) (t : Total) (x : Place) → AllByRecursion (λ q. place_cmp q p ≡ Less) (keys_of es) → (p ≡ x) ⊎ IsBelow p x
    → sum_at (es ++ (p, t) ∷ []) x ≡ sum_in (cond (is_eq (place_cmp x p)) (Some t) None)
sum_there es p t x all h = ap sum_in (found_last es p t x (all_at_most es p x all h))

pub last_greatest : (old es : Entries) (p : Place) (t : Total) → old ≡ es ++ (p, t) ∷ [] → AllByRecursion (λ q. place_cmp q p ≡ Less) (keys_of es)
    → t.sum ≢ pos 0
    → IsGreatest (λ x. sum_at old x ≢ pos 0) p
last_greatest old es p t is all some = record {
  here = λ none. some (sym own ∙ sym (read p) ∙ none);
  above = λ x b given. given (read x ∙ sum_there es p t x all (inr b) ∙ rw (eq-above test order x p b) refl);
}
  where
    read : (x : Place) → sum_at old x ≡ sum_at (es ++ (p, t) ∷ []) x
    read x = ap (λ (v : Entries). sum_at v x) is

    own : sum_at (es ++ (p, t) ∷ []) p ≡ t.sum
    own = sum_there es p t p all (inl refl) ∙ rw (test.reflexive p) refl
