-- Sorted terms are collected: what holds after each run of terms at one place.
use Rattle.std.proofs.Common.{◌≡◌, ℕ, suc, ◌+◌, ◌<◌, ◌≤◌, ℤ, pos, ◌+ℤ◌, Bool, true, false, cond, List, [], ◌∷◌, ◌++◌, length, length-append, take, drop, get_or}
use Rattle.std.proofs.Common.{◌⊎◌, inl, inr, refl, sym, ap, ◌∙◌, subst, arith, append-nil}
use Rattle.std.specs.Prelude.{take_while}
use Rattle.std.specs.List.{AllByRecursion, prefix_len}
use Rattle.std.specs.List.Sorted.{IsPermutation, IsSortedBy}
use Rattle.std.specs.Ordering.{is_lt}
use Rattle.std.proofs.lemmas.List.{take_more, take-append-drop}
use Rattle.std.proofs.lemmas.List.Folds.{length-prefix_len}
use Rattle.std.proofs.lemmas.List.Sorted.{IsPermutation-map}
use borrow.Author.Differences.{ints}
use Rattle.formal_sums.proofs.Coefficients.{Same-permutation}
use Rattle.formal_sums.proofs.Falling.{AllAbove_transitive, AllBelow_transitive}
use Rattle.formal_sums.proofs.Keys.{eq-below}
use Rattle.module_vec.specs.declared.places.Place.{Place}
use Rattle.module_vec.specs.declared.places.Term.{Term}
use Rattle.module_vec.specs.Places.{place_cmp, IsBelow, same_place}
use Rattle.module_vec.specs.Vectors.{sum_of, coefficient_at, IsWide, IsTerm}
use Rattle.module_vec.specs.Results.{SumIsWide, IsGreatest}
use Rattle.module_vec.specs.Merging.{IsFound, BeginsAtMost, BeginsElsewhere}
use Rattle.module_vec.specs.Collecting.{total_of, Descends, stands_at}
use Rattle.module_vec.proofs.Order.{test, order}
use Rattle.module_vec.proofs.FallingTerms.{Above, Below, Falls, all_join, above_join, falls_insert, at_join, at_above, at_below}
use Rattle.module_vec.proofs.Merging.{single, in_range, in_range_not_wide}

-- ---- sums of coefficients

total_join : (a b : List Term) → total_of (a ++ b) ≡ total_of a +ℤ total_of b
total_join [] b = omega (arith, ints)
total_join (t ∷ a) b = omega (arith, ints, total_join a b)

pub total_more : (v : List Term) (n : ℕ) (t : Term) → n < length v → t ≡ get_or v n t → total_of (take (n + 1) v) ≡ total_of (take n v) +ℤ t.k
total_more v n t h e =
    let more : take (n + 1) v ≡ take n v ++ t ∷ [] = take_more v n t h ∙ ap (λ u. take n v ++ u ∷ []) (sym e) in
    omega (arith, ints, ap total_of more, total_join (take n v) (t ∷ []))

-- ---- sorting

-- a sort keeps the sum
pub sort_keeps : (v w : List Term) → IsPermutation v w → (x : Place) → coefficient_at v x ≡ coefficient_at w x
sort_keeps v w h x = Same-permutation same_place (sum_of v) (sum_of w) (IsPermutation-map (λ (t : Term). (t.k, t.at)) v w h) x

-- the test by which terms are sorted
abbrev pub goes_before : Term → Term → Bool
goes_before s t = is_lt (place_cmp t.at s.at)

pub sorted_descends : (v : List Term) → IsSortedBy goes_before v → Descends v
sorted_descends [] h = tt
sorted_descends (t ∷ v) h = (
  first v h,
  sorted_descends v (λ k d low high. let next : suc k + 1 ≡ suc (k + 1) = omega arith
      in let test = h (suc k) d (omega arith) (omega arith) in rw next at test),
)
  where
    first : (w : List Term) → IsSortedBy goes_before (t ∷ w) → BeginsAtMost t.at w
    first [] g = tt
    first (u ∷ w) g = λ below. let test : is_lt (place_cmp t.at u.at) ≡ false = g 0 t (omega arith) (omega arith)
        in let wrong : true ≡ false = ap is_lt (sym below) ∙ test in cc

-- ---- the run of terms at one place

abbrev AllAt : Place → List Term → Type 0
AllAt p v = AllByRecursion (λ t. t.at ≡ p) v

parts : (p : Place) (v : List Term) → AllAt p (take (prefix_len (stands_at p) v) v) × BeginsElsewhere p (drop (prefix_len (stands_at p) v) v)
parts p [] = (tt, tt)
parts p (t ∷ v) = by (stands_at p t) refl (parts p v)
  where
    by : (b : Bool) → stands_at p t ≡ b → AllAt p (take (prefix_len (stands_at p) v) v) × BeginsElsewhere p (drop (prefix_len (stands_at p) v) v)
        → AllAt p (take (cond b (1 + prefix_len (stands_at p) v) 0) (t ∷ v)) × BeginsElsewhere p (drop (cond b (1 + prefix_len (stands_at p) v) 0) (t ∷ v))
    by true e rest = let next : 1 + prefix_len (stands_at p) v ≡ suc (prefix_len (stands_at p) v) = omega arith
        in rw next ((test.sound t.at p e, rest.0), rest.1)
    by false e rest = (tt, λ same. let wrong : true ≡ false = sym (test.reflexive p) ∙ ap (λ q. same_place q p) (sym same) ∙ e in cc)

-- the sum of the run is one term
at_run : (p : Place) (v : List Term) → AllAt p v → (x : Place) → coefficient_at v x ≡ single p (total_of v) x
at_run p [] h x = by (same_place p x)
  where
    by : (b : Bool) → pos 0 ≡ cond b (pos 0) (pos 0)
    by true = refl
    by false = refl
at_run p (t ∷ v) h x = ap (λ q. cond (same_place q x) t.k (pos 0) +ℤ coefficient_at v x) h.0 ∙ by (same_place p x) (coefficient_at v x) (at_run p v h.1 x)
  where
    by : (b : Bool) (rest : ℤ) → rest ≡ cond b (total_of v) (pos 0) → cond b t.k (pos 0) +ℤ rest ≡ cond b (t.k +ℤ total_of v) (pos 0)
    by true rest e = omega (arith, ints, e)
    by false rest e = omega (arith, ints, e)

-- what follows a run still descends
behind_run : (p : Place) (same behind : List Term) → AllAt p same → BeginsAtMost p (same ++ behind) → Descends (same ++ behind)
    → BeginsAtMost p behind × Descends behind
behind_run p [] behind h b d = (b, d)
behind_run p (t ∷ same) behind h b d = behind_run p same behind h.1 (subst (λ q. BeginsAtMost q (same ++ behind)) h.0 d.0) d.1

descends_below : (p q : Place) (v : List Term) → IsBelow q p → BeginsAtMost q v → Descends v → Below p v
descends_below p q [] h b d = tt
descends_below p q (t ∷ v) h b d = by (order.total t.at q) (λ g. descends_below p t.at v g d.0 d.1)
  where
    by : (t.at ≡ q) ⊎ (IsBelow t.at q ⊎ IsBelow q t.at) → (IsBelow t.at p → Below p v) → Below p (t ∷ v)
    by (inl e) rest = let g : IsBelow t.at p = subst (λ r. IsBelow r p) (sym e) h in (g, rest g)
    by (inr (inl e)) rest = let g : IsBelow t.at p = order.transitive t.at q p e h in (g, rest g)
    by (inr (inr e)) rest = absurd (b e)

behind_below : (p : Place) (v : List Term) → BeginsAtMost p v → BeginsElsewhere p v → Descends v → Below p v
behind_below p [] b e d = tt
behind_below p (t ∷ v) b e d = by (order.total t.at p)
  where
    by : (t.at ≡ p) ⊎ (IsBelow t.at p ⊎ IsBelow p t.at) → Below p (t ∷ v)
    by (inl same) = absurd (e same)
    by (inr (inl h)) = (h, descends_below p t.at v h d.0 d.1)
    by (inr (inr h)) = absurd (b h)

-- ---- the state between two runs

-- what is collected stands above the terms to come
abbrev pub Ahead : List Term → List Term → Type 0
Ahead made [] = Unit {0}
Ahead made (t ∷ rest) = Above t.at made

pub record Joining (list made rest : List Term) : Type 0 where
  pub falls : Falls made
  pub terms : AllByRecursion IsTerm made
  pub ahead : Ahead made rest
  pub down : Descends rest
  pub is : (x : Place) → coefficient_at list x ≡ coefficient_at made x +ℤ coefficient_at rest x
  pub count : length made + length rest ≤ length list

pub begins : (list made : List Term) → Descends list → made ≡ [] → Joining list made list
begins list made d none = subst (λ m. Joining list m list) (sym none) (record {
  falls = tt;
  terms = tt;
  ahead = ahead list;
  down = d;
  is = λ x. omega (arith, ints);
  count = omega arith;
})
  where
    ahead : (rest : List Term) → Ahead [] rest
    ahead [] = tt
    ahead (t ∷ rest) = tt

pub ends : (list made rest : List Term) → rest ≡ [] → Joining list made rest → IsFound (SumIsWide (coefficient_at list)) (coefficient_at list) made
ends list made rest none state =
    let is : (x : Place) → coefficient_at list x ≡ coefficient_at made x = λ x. omega (arith, ints, state.is x, ap (λ r. coefficient_at r x) none) in
    record {
      sparse = record { falling = state.falls; terms = state.terms };
      is = λ x. sym (is x);
      narrow = λ x w. in_range_not_wide (coefficient_at made x) (in_range made state.terms state.falls x) (subst IsWide (is x) w);
    }

module _ (list made : List Term) (first : Term) (others same behind : List Term) (n : ℕ) where
  -- what a step finds
  pub record Run : Type 0 where
    pub state : Joining list made (first ∷ others)
    pub many : n ≡ length (take_while (stands_at first.at) others)
    pub front : same ≡ take n others
    pub back : behind ≡ drop n others

  module _ (run : Run) where
    split : AllAt first.at same × BeginsElsewhere first.at behind
    split =
        let count : n ≡ prefix_len (stands_at first.at) others = run.many ∙ length-prefix_len (stands_at first.at) others in
        let both : AllAt first.at (take n others) × BeginsElsewhere first.at (drop n others) = rw count (parts first.at others) in
        (subst (AllAt first.at) (sym run.front) both.0, subst (BeginsElsewhere first.at) (sym run.back) both.1)

    whole : others ≡ same ++ behind
    whole = sym (take-append-drop n others) ∙ (λ i. sym run.front i ++ sym run.back i)

    left : BeginsAtMost first.at behind × Descends behind
    left = behind_run first.at same behind split.0 (subst (BeginsAtMost first.at) whole run.state.down.0) (subst Descends whole run.state.down.1)

    below : Below first.at behind
    below = behind_below first.at behind left.0 split.1 left.1

    -- the sum is what is collected, one term for the run, and what is left
    sum : (x : Place) → coefficient_at list x ≡ coefficient_at made x +ℤ single first.at (first.k +ℤ total_of same) x +ℤ coefficient_at behind x
    sum x =
        let rest : coefficient_at others x ≡ coefficient_at same x +ℤ coefficient_at behind x = ap (λ v. coefficient_at v x) whole ∙ at_join same behind x in
        by (same_place first.at x) (coefficient_at same x) (at_run first.at same split.0 x) (omega (arith, ints, run.state.is x, rest))
      where
        by : (b : Bool) (s : ℤ) → s ≡ cond b (total_of same) (pos 0) → coefficient_at list x
            ≡ coefficient_at made x +ℤ (cond b first.k (pos 0) +ℤ (s +ℤ coefficient_at behind x))
            → coefficient_at list x ≡ coefficient_at made x +ℤ cond b (first.k +ℤ total_of same) (pos 0) +ℤ coefficient_at behind x
        by true s e h = omega (arith, ints, e, h)
        by false s e h = omega (arith, ints, e, h)

    length_left : length behind + 1 ≤ length (first ∷ others)
    length_left = let all : length others ≡ length same + length behind = ap length whole ∙ length-append same behind in omega (arith, all)

    pub shorter : length behind < length (first ∷ others)
    shorter = omega (arith, length_left)

    ahead : (v : List Term) → Below first.at v → (made' : List Term) → ((p : Place) → IsBelow p first.at → Above p made') → Ahead made' v
    ahead [] b made' h = tt
    ahead (t ∷ v) b made' h = h t.at b.0

    -- the run adds up to 0
    pub drops : first.k +ℤ total_of same ≡ pos 0 → Joining list made behind
    drops none = record {
      falls = run.state.falls;
      terms = run.state.terms;
      ahead = ahead behind below made (λ p h. AllAbove_transitive test order first.at p h (sum_of made) run.state.ahead);
      down = left.1;
      is = λ x.
          let nothing : single first.at (first.k +ℤ total_of same) x ≡ pos 0 = ap (λ z. single first.at z x) none ∙ zero_term (same_place first.at x) in
          omega (arith, ints, sum x, nothing);
      count = omega (arith, run.state.count, length_left);
    }
      where
        zero_term : (b : Bool) → cond b (pos 0) (pos 0) ≡ pos 0
        zero_term true = refl
        zero_term false = refl

    -- the run becomes one term
    pub keeps : (z : ℤ) → z ≡ first.k +ℤ total_of same → IsTerm (record { at = first.at; k = z }) → (made' : List Term)
        → made' ≡ made ++ record { at = first.at; k = z } ∷ [] → Joining list made' behind
    keeps z e term made' is = subst (λ m. Joining list m behind) (sym is) kept
      where
        t : Term
        t = record { at = first.at; k = z }

        kept : Joining list (made ++ record { at = first.at; k = z } ∷ []) behind
        kept = record {
          falls = falls_insert made (record { at = first.at; k = z }) [] (subst Falls (sym (append-nil made)) run.state.falls) run.state.ahead tt;
          terms = all_join IsTerm made (record { at = first.at; k = z } ∷ []) run.state.terms (term, tt);
          ahead = ahead behind below (made ++ record { at = first.at; k = z } ∷ []) (λ p h. above_join p made (record {
            at = first.at;
            k = z;
          } ∷ []) (AllAbove_transitive test order first.at p h (sum_of made) run.state.ahead) (h, tt));
          down = left.1;
          is = λ x.
              let one : single first.at z x ≡ single first.at (first.k +ℤ total_of same) x = ap (λ y. single first.at y x) e in
              omega (arith, ints, sum x, one, at_join made (record { at = first.at; k = z } ∷ []) x);
          count = omega (arith, run.state.count, length_left, length-append made (record { at = first.at; k = z } ∷ []));
        }

    -- the run's sum leaves the range
    pub fails : IsWide (first.k +ℤ total_of same) → IsGreatest (SumIsWide (coefficient_at list)) first.at
    fails wide = record {
      here =
          let p : Place = first.at in
          let front : coefficient_at made p ≡ pos 0 = at_below p made run.state.ahead in
          let back : coefficient_at behind p ≡ pos 0 = at_above p behind below in
          let own : single p (first.k +ℤ total_of same) p ≡ first.k +ℤ total_of same = rw (test.reflexive p) refl in
          let is : first.k +ℤ total_of same ≡ coefficient_at list p = omega (arith, ints, front, back, own, sum p) in
          subst IsWide is wide;
      above = λ x h w.
          let back : coefficient_at behind x ≡ pos 0 = at_above x behind (AllBelow_transitive test order first.at x h (sum_of behind) below) in
          let own : single first.at (first.k +ℤ total_of same) x ≡ pos 0 = rw (eq-below test order first.at x h) refl in
          let is : coefficient_at list x ≡ coefficient_at made x = omega (arith, ints, back, own, sum x) in
          in_range_not_wide (coefficient_at made x) (in_range made run.state.terms run.state.falls x) (subst IsWide is w);
    }
