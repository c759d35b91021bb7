-- Terms of a falling list by index.
use Rattle.std.proofs.Common.{◌≡◌, ◌≢◌, ℕ, zero, suc, ◌+◌, ◌-◌, ◌<◌, ◌≤◌, ℤ, pos, ◌+ℤ◌, ◌*ℤ◌, negsuc, Bool, true, false, List, [], ◌∷◌, ◌++◌, map, length, take}
use Rattle.std.proofs.Common.{drop, get_or, refl, sym, ap, ◌∙◌, subst, arith, nat_lt, add-zero, ◌-ℤ◌, ◌^◌, FitsSigned, to_z, of_z}
use mir.Syntax.{w128}
use Rattle.std.proofs.lemmas.Int.{to_z-of_z, fits_signed_from_abs}
use Rattle.std.specs.Prelude.{neg_ℤ, unsigned_abs}
use Rattle.std.specs.List.{AllByRecursion}
use Rattle.std.specs.List.Sorted.{IsSortedBy, IsNonDecreasingBy, IsPartitionPoint}
use Rattle.std.specs.Ordering.{is_lt, ordering_index, ordering_reverse}
use Rattle.std.specs.declared.cmp.Ordering.TheVariants.{Less, Equal, Greater}
use Rattle.std.proofs.lemmas.Cmp.{back_total, tied_itself}
use Rattle.std.proofs.lemmas.List.{length-take-le, get_or-append_right, get_or-drop, take_all, drop_all, append-nil, length-map}
use Rattle.std.proofs.lemmas.List.Sorted.{searchable_from_sorted}
use borrow.Author.Differences.{ints}
use Rattle.formal_sums.specs.FormalSum.{scale, Falling}
use Rattle.formal_sums.proofs.Falling.{Falling-scale}
use Rattle.formal_sums.proofs.Keys.{eq-apart}
use Rattle.module_vec.specs.declared.places.Place.{Place}
use Rattle.module_vec.specs.declared.places.Term.{Term}
use Rattle.module_vec.specs.Places.{place_cmp, IsBelow, IsPlace, same_place}
use Rattle.module_vec.specs.Vectors.{sum_of, coefficient_at, InRange, IsTerm, IsVector}
use Rattle.module_vec.proofs.Order.{place_total, test, order}
use Rattle.module_vec.proofs.FallingTerms.{Below, Falls, at_above}
use Rattle.module_vec.proofs.Collecting.{goes_before}

pub all_read : {A : Type 0} (P : A → Type 0) (v : List A) (i : ℕ) (d : A) → i < length v → AllByRecursion P v → P (get_or v i d)
all_read P [] i d h all = absurd (omega arith)
all_read P (t ∷ v) zero d h all = all.0
all_read P (t ∷ v) (suc i) d h all = all_read P v i d (omega arith) all.1

below_read : (p : Place) (v : List Term) (i : ℕ) (d : Term) → i < length v → Below p v → IsBelow (get_or v i d).at p
below_read p [] i d h below = absurd (omega arith)
below_read p (t ∷ v) zero d h below = below.0
below_read p (t ∷ v) (suc i) d h below = below_read p v i d (omega arith) below.1

-- a term's coefficient is that at its place
pub coefficient_read : (v : List Term) (i : ℕ) (d : Term) → i < length v → Falls v → coefficient_at v (get_or v i d).at ≡ (get_or v i d).k
coefficient_read [] i d h f = absurd (omega arith)
coefficient_read (t ∷ v) zero d h f = rw (test.reflexive t.at) (let rest = at_above t.at v f.0
    in let whole : t.k +ℤ coefficient_at v t.at ≡ t.k = omega (arith, ints, rest) in whole)
coefficient_read (t ∷ v) (suc i) d h f =
    let lower : IsBelow (get_or v i d).at t.at = below_read t.at v i d (omega arith) f.0 in
    let other : same_place t.at (get_or v i d).at ≡ false = eq-apart test t.at (get_or v i d).at
    (λ e. order.irreflexive t.at (subst (λ p. IsBelow p t.at) (sym e) lower)) in
    let rest = coefficient_read v i d (omega arith) f.1 in
    rw other (let whole : pos 0 +ℤ coefficient_at v (get_or v i d).at ≡ (get_or v i d).k = omega (arith, ints, rest) in whole)

-- at a place where no term stands
pub coefficient_none : (v : List Term) (p : Place) → ((i : ℕ) (d : Term) → i < length v → (get_or v i d).at ≢ p) → coefficient_at v p ≡ pos 0
coefficient_none [] p h = refl
coefficient_none (t ∷ v) p h =
    let other : same_place t.at p ≡ false = eq-apart test t.at p (h 0 t (omega arith)) in
    let rest = coefficient_none v p (λ i d l. h (suc i) d (omega arith)) in
    rw other (let whole : pos 0 +ℤ coefficient_at v p ≡ pos 0 = omega (arith, ints, rest) in whole)

pub falls_sorted : (v : List Term) → Falls v → IsSortedBy goes_before v
falls_sorted [] f k d low high = absurd (omega arith)
falls_sorted (t ∷ []) f k d low high = absurd (omega arith)
falls_sorted (t ∷ (u ∷ v)) f zero d low high = ap is_lt (place_total.antisymm t.at u.at ∙ ap ordering_reverse f.0.0)
falls_sorted (t ∷ (u ∷ v)) f (suc k) d low high =
    let next : suc k + 1 ≡ suc (k + 1) = omega arith in
    rw next (falls_sorted (u ∷ v) f.1 k d (omega arith) (omega arith))

-- so the places compare with any one in ascending order
pub searchable : (v : List Term) (p : Place) → Falls v → IsNonDecreasingBy (λ t. ordering_index (place_cmp p t.at)) v
searchable v p f = searchable_from_sorted (back_total place_total) (λ (t : Term). t.at) v p (falls_sorted v f)

-- what a search leaves that finds nothing
pub not_found : (v : List Term) (p : Place) (n : ℕ) → IsPartitionPoint (λ t. place_cmp p t.at ≡ Less) (λ t. place_cmp p t.at ≡ Greater) v n
    → coefficient_at v p ≡ pos 0
not_found v p n h = coefficient_none v p (λ i d l e. by i d l e (nat_lt i n) refl)
  where
    same : (q : Place) → q ≡ p → place_cmp p q ≡ Equal
    same q e = ap (place_cmp p) e ∙ tied_itself place_total p

    by : (i : ℕ) (d : Term) → i < length v → (get_or v i d).at ≡ p → (b : Bool) → nat_lt i n ≡ b → ⊥
    by i d l e true g = let clash : Less ≡ Equal = sym (h.0 i d (omega arith) (grind arith)) ∙ same (get_or v i d).at e in cc
    by i d l e false g = let clash : Greater ≡ Equal = sym (h.1 i d (grind arith) l) ∙ same (get_or v i d).at e in cc

-- ---- the turn of all signs

abbrev pub turned : Term → Term
turned t = record { at = t.at; k = neg_ℤ t.k }

pub sum_turned : (v : List Term) → sum_of (map turned v) ≡ scale (negsuc 0) (sum_of v)
sum_turned [] = refl
sum_turned (t ∷ v) = let sign : neg_ℤ t.k ≡ negsuc 0 *ℤ t.k = omega (arith, ints) in λ i. (sign i, t.at) ∷ sum_turned v i

-- the i-th element is still the old one
pub still : (xs ys : List Term) (i : ℕ) (x : Term) → i < length xs → ys ≡ map turned (take i xs) ++ drop i xs → x ≡ get_or ys i x → x ≡ get_or xs i x
still xs ys i x h is e =
    let front : length (map turned (take i xs)) ≡ i = length-map (take i xs) turned ∙ length-take-le i xs (omega arith) in
    let zero_left : i - i ≡ 0 = omega arith in
    e ∙ ap (λ w. get_or w i x) is ∙ get_or-append_right (map turned (take i xs)) (drop i xs) i i x front (omega arith)
    ∙ ap (λ n. get_or (drop i xs) n x) zero_left ∙ get_or-drop i xs 0 x ∙ ap (λ n. get_or xs n x) (add-zero i)

-- at the end all are turned
pub all_turned : (xs ys : List Term) (i : ℕ) → length xs ≤ i → ys ≡ map turned (take i xs) ++ drop i xs → ys ≡ map turned xs
all_turned xs ys i h is = is ∙ (λ j. map turned (take_all i xs h j) ++ drop_all i xs h j) ∙ append-nil (map turned xs)

-- the turned coefficient as 128 bits give it
pub narrow_turn : (z : ℤ) → InRange z → to_z w128 (of_z w128 (pos 0 -ℤ to_z w128 (of_z w128 z))) ≡ neg_ℤ z
narrow_turn z h =
    let f : FitsSigned w128 z = fits_signed_from_abs w128 z (omega (arith, h)) in
    let sign : pos 0 -ℤ z ≡ neg_ℤ z = omega (arith, ints) in
    let g : FitsSigned w128 (neg_ℤ z) = fits_signed_from_abs w128 (neg_ℤ z) (fits z (omega (arith, h))) in
    ap (λ n. to_z w128 (of_z w128 (pos 0 -ℤ n))) (to_z-of_z w128 z f) ∙ ap (λ n. to_z w128 (of_z w128 n)) sign ∙ to_z-of_z w128 (neg_ℤ z) g
  where
    fits : (z : ℤ) → unsigned_abs z < 2 ^ 127 → unsigned_abs (neg_ℤ z) < 2 ^ 127
    fits (pos zero) h = h
    fits (pos (suc n)) h = h
    fits (negsuc n) h = h

abbrev same_pair : ℤ → Place → ℤ → Place → Type 0
same_pair a p b q = Path (ℤ × Place) (a, p) (b, q)

turned_terms : (v w : List Term) → sum_of w ≡ scale (negsuc 0) (sum_of v) → AllByRecursion IsTerm v → AllByRecursion IsTerm w
turned_terms v [] e h = tt
turned_terms [] (u ∷ w) e h = absurd cc
turned_terms (t ∷ v) (u ∷ w) e h =
    let whole : (u.k, u.at) ∷ sum_of w ≡ (negsuc 0 *ℤ t.k, t.at) ∷ scale (negsuc 0) (sum_of v) = e in
    let first : same_pair (u.k) (u.at) (negsuc 0 *ℤ t.k) (t.at) = cc in
    let key : u.at ≡ t.at = λ i. (first i).1 in
    let own : u.k ≡ negsuc 0 *ℤ t.k = λ i. (first i).0 in
    let rest : sum_of w ≡ scale (negsuc 0) (sum_of v) = cc in
    let sign : u.k ≡ neg_ℤ t.k = own ∙ minus_one t.k in (
      record {
        place = subst IsPlace (sym key) h.0.place;
        nonzero = λ none. h.0.nonzero (omega (arith, ints, none, sign));
        range = subst InRange (sym sign) (range t.k h.0.range);
      },
      turned_terms v w rest h.1,
    )
  where
    minus_one : (z : ℤ) → negsuc 0 *ℤ z ≡ neg_ℤ z
    minus_one z = omega (arith, ints)

    range : (z : ℤ) → InRange z → InRange (neg_ℤ z)
    range (pos zero) h = h
    range (pos (suc n)) h = h
    range (negsuc n) h = h

-- a vector stays one when its signs are turned
pub turned_vector : (v w : List Term) → sum_of w ≡ scale (negsuc 0) (sum_of v) → IsVector v → IsVector w
turned_vector v w e h =
    let long : length w ≡ length v = sym (length-map w (λ (t : Term). (t.k, t.at))) ∙ ap length e ∙ length-map (sum_of v) _
    ∙ length-map v (λ (t : Term). (t.k, t.at)) in
    record {
      sparse = record {
        falling = subst (Falling IsBelow) (sym e) (Falling-scale IsBelow (negsuc 0) (sum_of v) h.sparse.falling);
        terms = turned_terms v w e h.sparse.terms;
      };
      most = omega (arith, long, h.most);
    }
