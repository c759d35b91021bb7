-- Merging the terms of v with those of the multiple q·t·g: what holds after each term of g.
use Rattle.std.proofs.Common.{◌≡◌, ℕ, suc, ◌+◌, ◌<◌, ◌≤◌, ℤ, pos, ◌+ℤ◌, ◌-ℤ◌, ◌*ℤ◌, Bool, true, false, cond, List, [], ◌∷◌, ◌++◌, length, length-append, take}
use Rattle.std.proofs.Common.{drop, get_or, ◌⊎◌, inl, inr, refl, sym, ap, ◌∙◌, arith, subst, append_assoc}
use Rattle.std.specs.Prelude.{Some, None}
use Rattle.std.specs.List.{AllByRecursion}
use Rattle.std.proofs.lemmas.List.{take_more, take-append-drop, drop_all}
use Rattle.std.specs.Ordering.{is_gt, is_eq, ordering_reverse}
use Rattle.std.specs.declared.cmp.Ordering.{Ordering}
use Rattle.std.specs.declared.cmp.Ordering.TheVariants.{Greater}
use borrow.Author.Differences.{ints}
use Rattle.formal_sums.specs.FormalSum.{AllBelow}
use Rattle.formal_sums.proofs.Falling.{coefficient-above, AllBelow_transitive, AllAbove_transitive}
use Rattle.laurent_terms.specs.declared.TheConstants.{VARIABLES}
use Rattle.module_vec.specs.declared.places.Place.{Place}
use Rattle.module_vec.specs.declared.places.Term.{Term}
use Rattle.module_vec.specs.Places.{place_cmp, IsBelow, same_place, moved}
use Rattle.module_vec.specs.Vectors.{sum_of, coefficient_at, multiple, multiple_at, difference_at, InRange, IsWide, IsTerm, IsSparse}
use Rattle.module_vec.specs.Results.{DifferenceIsWide, IsGreatest}
use Rattle.module_vec.specs.Merging.{IsFound, BeginsAtMost, Passes, BeginsElsewhere, TakesFirst, PassesTo, begins_at, Meets, Subtracts}
use Rattle.module_vec.proofs.Order.{place_total, test, order, moved_below}
use Rattle.module_vec.proofs.FallingTerms.{all_drop, falls_drop, drop_read, Above, Below, Falls, all_insert, all_remove, all_back, above_join, below_from_first}
use Rattle.module_vec.proofs.FallingTerms.{falls_insert, falls_remove, falls_back, at_join, at_above, at_below}

-- ---- the front that stands above a place

-- one more term stands above p
pub above_more : (p : Place) (v : List Term) (n : ℕ) (t : Term) → Above p (take n v) → n < length v → t ≡ get_or v n t → place_cmp t.at p ≡ Greater
    → Above p (take (n + 1) v)
above_more p v n t above h is greater =
    let more : take (n + 1) v ≡ take n v ++ t ∷ [] = take_more v n t h ∙ ap (λ u. take n v ++ u ∷ []) (sym is) in
    let below : IsBelow p t.at = place_total.antisymm p t.at ∙ ap ordering_reverse greater in
    subst (Above p) (sym more) (above_join p (take n v) (t ∷ []) above (below, tt))

not_below : (p : Place) (t : Term) (r : Ordering) → place_cmp t.at p ≡ r → is_gt r ≡ false → IsBelow p t.at → ⊥
not_below p t r e none h = let wrong : true ≡ false = ap is_gt (sym (place_total.antisymm t.at p ∙ ap ordering_reverse h) ∙ e) ∙ none in cc

-- the term with number n doesn't stand above p
pub meets : (p : Place) (v : List Term) (n : ℕ) (t : Term) (r : Ordering) → Above p (take n v) → n < length v → t ≡ get_or v n t → place_cmp t.at p ≡ r
    → is_gt r ≡ false → Meets p v n (is_eq r)
meets p v n t r above h is e none =
    let here : drop n v ≡ t ∷ drop (n + 1) v = drop_read v n t h is in
    record {
      bound = omega arith;
      above = above;
      stays = subst (BeginsAtMost p) (sym here) (not_below p t r e none);
      next = ap is_eq (sym e) ∙ ap (begins_at p) (sym here);
    }

-- all terms stand above p
pub meets_none : (p : Place) (v : List Term) (n : ℕ) → Above p (take n v) → n ≤ length v → length v ≤ n → Meets p v n false
meets_none p v n above bound whole =
    let none : drop n v ≡ [] = drop_all n v whole in
    record { bound = bound; above = above; stays = subst (BeginsAtMost p) (sym none) tt; next = ap (begins_at p) (sym none) }

-- ---- coefficients in range

pub in_range : (v : List Term) → AllByRecursion IsTerm v → Falls v → (x : Place) → InRange (coefficient_at v x)
in_range [] h f x = omega arith
in_range (t ∷ v) h f x = by (same_place t.at x) refl (in_range v h.1 f.1 x)
  where
    by : (b : Bool) → same_place t.at x ≡ b → InRange (coefficient_at v x) → InRange (coefficient_at (t ∷ v) x)
    by true e rest =
        let same : t.at ≡ x = test.sound t.at x e in
        let none : coefficient_at v x ≡ pos 0 = ap (coefficient_at v) (sym same) ∙ at_above t.at v f.0 in
        let is : coefficient_at (t ∷ v) x ≡ t.k = rw e (let u : t.k +ℤ coefficient_at v x ≡ t.k = omega (arith, ints, none) in u) in
        subst InRange (sym is) h.0.range
    by false e rest =
        let is : coefficient_at (t ∷ v) x ≡ coefficient_at v x = rw e (let u : pos 0 +ℤ coefficient_at v x ≡ coefficient_at v x = omega (arith, ints) in u) in
        subst InRange (sym is) rest

pub in_range_not_wide : (z : ℤ) → InRange z → IsWide z → ⊥
in_range_not_wide z h w = omega arith

-- ---- the multiple

multiple_below : (q : ℤ) (t : List ℕ) (p : Place) (left : List Term) → length t ≡ VARIABLES → length p.m ≡ VARIABLES → AllByRecursion IsTerm left → Below p left
    → AllBelow IsBelow (moved t p) (multiple q t left)
multiple_below q t p [] e f h b = tt
multiple_below q t p (u ∷ left) e f h b = (moved_below t u.at p (h.0.place.variables ∙ sym e) (f ∙ sym e) b.0, multiple_below q t p left e f h.1 b.1)

-- the coefficient of a single term
abbrev pub single : Place → ℤ → Place → ℤ
single p k x = cond (same_place p x) k (pos 0)

-- ---- the state between two terms of g

-- nothing is taken yet at x
pub record IsPending (v : List Term) (q : ℤ) (t : List ℕ) (g s left : List Term) (x : Place) : Type 0 where
  pub kept : coefficient_at s x ≡ coefficient_at v x
  pub to_come : multiple_at q t left x ≡ multiple_at q t g x

-- all is taken at x
pub record IsDone (v : List Term) (q : ℤ) (t : List ℕ) (g s left : List Term) (x : Place) : Type 0 where
  pub settled : multiple_at q t left x ≡ pos 0
  pub is : coefficient_at s x ≡ coefficient_at v x -ℤ multiple_at q t g x
  pub narrow : InRange (multiple_at q t g x)

abbrev pub Point : List Term → ℤ → List ℕ → List Term → List Term → List Term → Place → Type 0
Point v q t g s left x = IsPending v q t g s left x ⊎ IsDone v q t g s left x

-- what is made stands above the places that come
abbrev pub Ahead : List ℕ → List Term → List Term → Type 0
Ahead t made [] = Unit {0}
Ahead t made (e ∷ left) = Above (moved t e.at) made

pub record Merging (v : List Term) (q : ℤ) (t : List ℕ) (g made rest left : List Term) : Type 0 where
  pub falls : Falls (made ++ rest)
  pub terms : AllByRecursion IsTerm (made ++ rest)
  pub ahead : Ahead t made left
  pub points : (x : Place) → Point v q t g (made ++ rest) left x

-- before the place p, whose coefficient so far is k
pub record Open (p : Place) (s made rest : List Term) (k : ℤ) : Type 0 where
  pub falls : Falls (made ++ rest)
  pub terms : AllByRecursion IsTerm (made ++ rest)
  pub above : Above p made
  pub below : Below p rest
  pub is : (x : Place) → coefficient_at s x ≡ coefficient_at (made ++ rest) x +ℤ single p k x
  pub range : InRange k

-- after the place p, which got z
pub record Put (p : Place) (before made rest : List Term) (z : ℤ) : Type 0 where
  pub falls : Falls (made ++ rest)
  pub terms : AllByRecursion IsTerm (made ++ rest)
  pub above : (x : Place) → IsBelow x p → Above x made
  pub is : (x : Place) → coefficient_at (made ++ rest) x ≡ coefficient_at before x +ℤ single p z x

pub passes : (p : Place) (made rest made' from : List Term) (n : ℕ) (met : Bool) → Meets p rest n met → made' ≡ made ++ take n rest → from ≡ drop n rest
    → Passes p made rest made' from
passes p made rest made' from n met meeting moved left = record {
  front = take n rest;
  moved = moved;
  split = sym (take-append-drop n rest) ∙ ap (λ r. take n rest ++ r) (sym left);
  above = meeting.above;
  stays = subst (BeginsAtMost p) (sym left) meeting.stays;
}

-- the next term stands at p
pub passes_met : (p : Place) (made rest made' from : List Term) (n : ℕ) (first : Term) (behind : List Term) → Meets p rest n true → made' ≡ made ++ take n rest
    → from ≡ drop n rest → from ≡ first ∷ behind → PassesTo p made rest made' first.k behind
passes_met p made rest made' from n first behind meeting moved left is =
    let stands : true ≡ same_place first.at p = meeting.next ∙ ap (begins_at p) (sym left ∙ is) in
    let place : first.at ≡ p = test.sound first.at p (sym stands) in
    record {
      from = from;
      passed = passes p made rest made' from n true meeting moved left;
      taken = inl (is ∙ (λ i. record { at = place i; k = first.k } ∷ behind));
    }

-- it doesn't
pub passes_not_met : (p : Place) (made rest made' from : List Term) (n : ℕ) (met : Bool) → Meets p rest n met → begins_at p from ≡ false
    → made' ≡ made ++ take n rest → from ≡ drop n rest → PassesTo p made rest made' (pos 0) from
passes_not_met p made rest made' from n met meeting none moved left = record {
  from = from;
  passed = passes p made rest made' from n met meeting moved left;
  taken = inr (refl, refl, elsewhere from none);
}
  where
    elsewhere : (v : List Term) → begins_at p v ≡ false → BeginsElsewhere p v
    elsewhere [] e = tt
    elsewhere (t ∷ v) e = λ same. let wrong : true ≡ false = sym (test.reflexive p) ∙ ap (λ q. same_place q p) (sym same) ∙ e in cc

pub begins_nowhere : (p : Place) (v : List Term) → length v ≡ 0 → begins_at p v ≡ false
begins_nowhere p [] e = refl
begins_nowhere p (t ∷ v) e = absurd (omega (arith, e))

-- ---- one term of g

-- behind a term that stands at most at p the others stand below it
rest_below : (p : Place) (v : List Term) → Falls v → BeginsAtMost p v → BeginsElsewhere p v → Below p v
rest_below p [] f most other = tt
rest_below p (t ∷ v) f most other = by (order.total t.at p)
  where
    by : (t.at ≡ p) ⊎ (IsBelow t.at p ⊎ IsBelow p t.at) → Below p (t ∷ v)
    by (inl e) = absurd (other e)
    by (inr (inl h)) = below_from_first p t v h f
    by (inr (inr h)) = absurd (most h)

single_zero : (p x : Place) → single p (pos 0) x ≡ pos 0
single_zero p x = by (same_place p x)
  where
    by : (b : Bool) → cond b (pos 0) (pos 0) ≡ pos 0
    by true = refl
    by false = refl

module _ (p : Place) (s made rest : List Term) (k : ℤ) (falls : Falls s) (terms : AllByRecursion IsTerm s) (above : Above p made) where
  -- the first term stands at p
  opens_at : (behind : List Term) → s ≡ made ++ record { at = p; k = k } ∷ behind → Open p s made behind k
  opens_at behind e =
      let term : Term = record { at = p; k = k } in
      let falls' : Falls (made ++ term ∷ behind) = subst Falls e falls in
      let terms' : AllByRecursion IsTerm (made ++ term ∷ behind) = subst (AllByRecursion IsTerm) e terms in
      let back : Falls (term ∷ behind) = falls_back made (term ∷ behind) falls' in
      let own : AllByRecursion IsTerm (term ∷ behind) = all_back IsTerm made (term ∷ behind) terms' in
      record {
        falls = falls_remove made term behind falls';
        terms = all_remove IsTerm made term behind terms';
        above = above;
        below = back.0;
        is = λ x.
            let whole : coefficient_at s x ≡ coefficient_at (made ++ term ∷ behind) x = ap (λ w. coefficient_at w x) e in
            omega (arith, ints, whole, at_join made (term ∷ behind) x, at_join made behind x);
        range = own.0.range;
      }

  -- no term stands at p
  opens_without : (behind : List Term) → s ≡ made ++ behind → k ≡ pos 0 → BeginsAtMost p behind → BeginsElsewhere p behind → Open p s made behind k
  opens_without behind e z most other =
      let falls' : Falls (made ++ behind) = subst Falls e falls in
      record {
        falls = falls';
        terms = subst (AllByRecursion IsTerm) e terms;
        above = above;
        below = rest_below p behind (falls_back made behind falls') most other;
        is = λ x.
            let whole : coefficient_at s x ≡ coefficient_at (made ++ behind) x = ap (λ w. coefficient_at w x) e in
            let none : single p k x ≡ pos 0 = ap (λ n. single p n x) z ∙ single_zero p x in
            omega (arith, ints, whole, none);
        range = subst InRange (sym z) (omega arith);
      }

-- the terms above p are passed, and the coefficient at p is taken
opens : (p : Place) (made rest made' from : List Term) (k : ℤ) (behind : List Term) → Falls (made ++ rest) → AllByRecursion IsTerm (made ++ rest) → Above p made
    → Passes p made rest made' from → TakesFirst p from k behind → Open p (made ++ rest) made' behind k
opens p made rest made' from k behind falls terms above passed taken = by taken
  where
    same : made ++ rest ≡ made' ++ from
    same = ap (λ r. made ++ r) passed.split ∙ sym (append_assoc made passed.front from) ∙ ap (λ m. m ++ from) (sym passed.moved)

    above' : Above p made'
    above' = subst (Above p) (sym passed.moved) (above_join p made passed.front above passed.above)

    by : TakesFirst p from k behind → Open p (made ++ rest) made' behind k
    by (inl e) = opens_at p (made ++ rest) made' from k falls terms above' behind (same ∙ ap (λ r. made' ++ r) e)
    by (inr h) = opens_without p (made ++ rest) made' from k falls terms above' behind (same
        ∙ ap (λ r. made' ++ r) (sym h.1)) h.0 (subst (BeginsAtMost p) (sym h.1) passed.stays) (subst (BeginsElsewhere p) (sym h.1) h.2)

-- nothing is put at p
puts_none : (p : Place) (s made rest : List Term) (k z : ℤ) → Open p s made rest k → z ≡ pos 0 → Put p (made ++ rest) made rest z
puts_none p s made rest k z o e = record {
  falls = o.falls;
  terms = o.terms;
  above = λ x h. AllAbove_transitive test order p x h (sum_of made) o.above;
  is = λ x.
      let none : single p z x ≡ pos 0 = ap (λ n. single p n x) e ∙ single_zero p x in
      omega (arith, ints, none);
}

-- z is put at p
puts : (p : Place) (s made rest : List Term) (k z : ℤ) → Open p s made rest k → IsTerm (record { at = p; k = z })
    → Put p (made ++ rest) (made ++ record { at = p; k = z } ∷ []) rest z
puts p s made rest k z o term =
    let t : Term = record { at = p; k = z } in
    let same : made ++ t ∷ rest ≡ (made ++ t ∷ []) ++ rest = sym (append_assoc made (t ∷ []) rest) in
    record {
      falls = subst Falls same (falls_insert made t rest o.falls o.above o.below);
      terms = subst (AllByRecursion IsTerm) same (all_insert IsTerm made t rest o.terms term);
      above = λ x h. above_join x made (t ∷ []) (AllAbove_transitive test order p x h (sum_of made) o.above) (h, tt);
      is = λ x.
          let whole : coefficient_at ((made ++ t ∷ []) ++ rest) x ≡ coefficient_at (made ++ t ∷ rest) x = ap (λ w. coefficient_at w x) (sym same) in
          omega (arith, ints, whole, at_join made (t ∷ rest) x, at_join made rest x);
    }

-- ---- the step

less_zero : (z : ℤ) → z -ℤ pos 0 ≡ z
less_zero z = omega (arith, ints)

module _ (v : List Term) (q : ℤ) (t : List ℕ) (g : List Term) where
  -- what stands in the state at p itself, where e is the next term of g, and k the coefficient so far
  pub record Turn (made rest : List Term) (e : Term) (left : List Term) (k : ℤ) (made' rest' : List Term) : Type 0 where
    pub state : Merging v q t g made rest (e ∷ left)
    pub opened : Open (moved t e.at) (made ++ rest) made' rest' k
    pub long : length t ≡ VARIABLES
    pub terms : AllByRecursion IsTerm (e ∷ left)
    pub falls : Falls (e ∷ left)

  module _ (made rest : List Term) (e : Term) (left : List Term) (k : ℤ) (made' rest' : List Term) (turn : Turn made rest e left k made' rest') where
    -- the places to come stand below p
    left_below : AllBelow IsBelow (moved t e.at) (multiple q t left)
    left_below = multiple_below q t e.at left turn.long turn.terms.0.place.variables turn.terms.1 turn.falls.0

    -- the coefficients at p
    so_far : coefficient_at (made ++ rest) (moved t e.at) ≡ k
    so_far =
        let p : Place = moved t e.at in
        let front : coefficient_at made' p ≡ pos 0 = at_below p made' turn.opened.above in
        let back : coefficient_at rest' p ≡ pos 0 = at_above p rest' turn.opened.below in
        let own : single p k p ≡ k = rw (test.reflexive p) refl in
        omega (arith, ints, front, back, own, turn.opened.is p, at_join made' rest' p)

    to_come : multiple_at q t (e ∷ left) (moved t e.at) ≡ q *ℤ e.k
    to_come =
        let p : Place = moved t e.at in
        let own : single p (q *ℤ e.k) p ≡ q *ℤ e.k = rw (test.reflexive p) refl in
        let none : multiple_at q t left p ≡ pos 0 = coefficient-above test order p (multiple q t left) left_below in
        omega (arith, ints, own, none)

    -- elsewhere the multiple to come is the same
    elsewhere : (x : Place) → same_place (moved t e.at) x ≡ false → multiple_at q t (e ∷ left) x ≡ multiple_at q t left x
    elsewhere x f =
        let own : single (moved t e.at) (q *ℤ e.k) x ≡ pos 0 = rw f refl in
        omega (arith, ints, own)

    -- z was put at p
    module _ (made2 : List Term) (z : ℤ) (reduced : Subtracts k q e.k (Some z)) (put : Put (moved t e.at) (made' ++ rest') made2 rest' z) where
      sum_elsewhere : (x : Place) → same_place (moved t e.at) x ≡ false → coefficient_at (made2 ++ rest') x ≡ coefficient_at (made ++ rest) x
      sum_elsewhere x f =
          let p : Place = moved t e.at in
          let old : single p k x ≡ pos 0 = rw f refl in
          let new : single p z x ≡ pos 0 = rw f refl in
          omega (arith, ints, old, new, turn.opened.is x, put.is x)

      sum_here : coefficient_at (made2 ++ rest') (moved t e.at) ≡ z
      sum_here =
          let p : Place = moved t e.at in
          let front : coefficient_at made' p ≡ pos 0 = at_below p made' turn.opened.above in
          let back : coefficient_at rest' p ≡ pos 0 = at_above p rest' turn.opened.below in
          let own : single p z p ≡ z = rw (test.reflexive p) refl in
          omega (arith, ints, front, back, own, put.is p, at_join made' rest' p)

      point_here : Point v q t g (made ++ rest) (e ∷ left) (moved t e.at) → Point v q t g (made2 ++ rest') left (moved t e.at)
      point_here (inl pending) =
          let p : Place = moved t e.at in
          let product : q *ℤ e.k ≡ multiple_at q t g p = sym to_come ∙ pending.to_come in
          let before : coefficient_at v p ≡ k = sym pending.kept ∙ so_far in
          inr (record {
            settled = coefficient-above test order p (multiple q t left) left_below;
            is = sum_here ∙ reduced.0 ∙ (λ i. sym before i -ℤ product i);
            narrow = subst InRange product reduced.2;
          })
      point_here (inr done) =
          let p : Place = moved t e.at in
          let none : q *ℤ e.k ≡ pos 0 = sym to_come ∙ done.settled in
          inr (record {
            settled = coefficient-above test order p (multiple q t left) left_below;
            is = sum_here ∙ reduced.0 ∙ ap (λ n. k -ℤ n) none ∙ less_zero k ∙ sym so_far ∙ done.is;
            narrow = done.narrow;
          })

      point_elsewhere : (x : Place) → same_place (moved t e.at) x ≡ false → Point v q t g (made ++ rest) (e ∷ left) x → Point v q t g (made2 ++ rest') left x
      point_elsewhere x f (inl pending) = inl (record { kept = sum_elsewhere x f ∙ pending.kept; to_come = sym (elsewhere x f) ∙ pending.to_come })
      point_elsewhere x f (inr done) = inr (record { settled = sym (elsewhere x f) ∙ done.settled; is = sum_elsewhere x f ∙ done.is; narrow = done.narrow })

      point : (x : Place) → Point v q t g (made2 ++ rest') left x
      point x = by (same_place (moved t e.at) x) refl
        where
          by : (b : Bool) → same_place (moved t e.at) x ≡ b → Point v q t g (made2 ++ rest') left x
          by true h = subst (Point v q t g (made2 ++ rest') left) (test.sound (moved t e.at) x h) (point_here (turn.state.points (moved t e.at)))
          by false h = point_elsewhere x h (turn.state.points x)

      ahead : (w : List Term) → AllByRecursion IsTerm w → Below e.at w → Ahead t made2 w
      ahead [] terms below = tt
      ahead (u ∷ w) terms below = put.above (moved t u.at) (moved_below t u.at e.at (terms.0.place.variables ∙ sym turn.long) (turn.terms.0.place.variables
          ∙ sym turn.long) below.0)

      pub goes_on : Merging v q t g made2 rest' left
      goes_on = record { falls = put.falls; terms = put.terms; ahead = ahead left turn.terms.1 turn.falls.0; points = point }

    -- a product or a difference at p is wide
    module _ (wide : Subtracts k q e.k None) where
      IsWideAt : Place → Type 0
      IsWideAt x = DifferenceIsWide (coefficient_at v) (multiple_at q t g) x

      wide_here : Point v q t g (made ++ rest) (e ∷ left) (moved t e.at) → DifferenceIsWide (coefficient_at v) (multiple_at q t g) (moved t e.at)
      wide_here (inl pending) =
          let p : Place = moved t e.at in
          let product : q *ℤ e.k ≡ multiple_at q t g p = sym to_come ∙ pending.to_come in
          let before : k ≡ coefficient_at v p = sym so_far ∙ pending.kept in
          by product before wide
        where
          by : q *ℤ e.k ≡ multiple_at q t g (moved t e.at) → k ≡ coefficient_at v (moved t e.at) → Subtracts k q e.k None
              → DifferenceIsWide (coefficient_at v) (multiple_at q t g) (moved t e.at)
          by product before (inl h) = inl (subst IsWide product h)
          by product before (inr h) = inr (subst IsWide (λ i. before i -ℤ product i) h)
      wide_here (inr done) = absurd (by (sym to_come ∙ done.settled) wide)
        where
          by : q *ℤ e.k ≡ pos 0 → Subtracts k q e.k None → ⊥
          by none (inl h) = in_range_not_wide (pos 0) (omega arith) (subst IsWide none h)
          by none (inr h) = in_range_not_wide k turn.opened.range (subst IsWide (ap (λ n. k -ℤ n) none ∙ less_zero k) h)

      narrow_above : (x : Place) → IsBelow (moved t e.at) x → Point v q t g (made ++ rest) (e ∷ left) x
          → DifferenceIsWide (coefficient_at v) (multiple_at q t g) x → ⊥
      narrow_above x h point = by point
        where
          none : multiple_at q t (e ∷ left) x ≡ pos 0
          none = coefficient-above test order x (multiple q t (e ∷ left)) (h, AllBelow_transitive test order (moved t e.at) x h (multiple q t left) left_below)

          range : InRange (coefficient_at (made ++ rest) x)
          range = in_range (made ++ rest) turn.state.terms turn.state.falls x

          by : Point v q t g (made ++ rest) (e ∷ left) x → DifferenceIsWide (coefficient_at v) (multiple_at q t g) x → ⊥
          by (inl pending) (inl w) = in_range_not_wide (pos 0) (omega arith) (subst IsWide (sym pending.to_come ∙ none) w)
          by (inl pending) (inr w) = in_range_not_wide (coefficient_at (made ++ rest) x) range
              (subst IsWide ((λ i. sym pending.kept i -ℤ (sym pending.to_come ∙ none) i) ∙ less_zero (coefficient_at (made ++ rest) x)) w)
          by (inr done) (inl w) = in_range_not_wide (multiple_at q t g x) done.narrow w
          by (inr done) (inr w) = in_range_not_wide (coefficient_at (made ++ rest) x) range (subst IsWide (sym done.is) w)

      pub fails : IsGreatest (DifferenceIsWide (coefficient_at v) (multiple_at q t g)) (moved t e.at)
      fails = record { here = wide_here (turn.state.points (moved t e.at)); above = λ x h. narrow_above x h (turn.state.points x) }

  -- ---- the ends

  pub begins : AllByRecursion IsTerm v → Falls v → (made : List Term) → made ≡ [] → (w : List Term) → w ≡ g → Merging v q t g made v w
  begins terms falls made none w all = subst (λ m. Merging v q t g m v w) (sym none) (subst (Merging v q t g [] v) (sym all) start)
    where
      ahead : (w : List Term) → Ahead t [] w
      ahead [] = tt
      ahead (u ∷ w) = tt

      start : Merging v q t g [] v g
      start = record { falls = falls; terms = terms; ahead = ahead g; points = λ x. inl (record { kept = refl; to_come = refl }) }

  pub ends : (made rest : List Term) → Merging v q t g made rest []
      → IsFound (DifferenceIsWide (coefficient_at v) (multiple_at q t g)) (difference_at (coefficient_at v) (multiple_at q t g)) (made ++ rest)
  ends made rest state = record {
    sparse = record { falling = state.falls; terms = state.terms };
    is = λ x. is x (state.points x);
    narrow = λ x. narrow x (state.points x);
  }
    where
      is : (x : Place) → Point v q t g (made ++ rest) [] x → coefficient_at (made ++ rest) x ≡ coefficient_at v x -ℤ multiple_at q t g x
      is x (inl pending) = pending.kept ∙ sym (ap (λ n. coefficient_at v x -ℤ n) (sym pending.to_come) ∙ less_zero (coefficient_at v x))
      is x (inr done) = done.is

      narrow : (x : Place) → Point v q t g (made ++ rest) [] x → DifferenceIsWide (coefficient_at v) (multiple_at q t g) x → ⊥
      narrow x (inl pending) (inl w) = in_range_not_wide (pos 0) (omega arith) (subst IsWide (sym pending.to_come) w)
      narrow x (inl pending) (inr w) = in_range_not_wide (coefficient_at (made ++ rest) x) (in_range (made ++ rest) state.terms state.falls x)
          (subst IsWide (ap (λ n. coefficient_at v x -ℤ n) (sym pending.to_come) ∙ less_zero (coefficient_at v x) ∙ sym pending.kept) w)
      narrow x (inr done) (inl w) = in_range_not_wide (multiple_at q t g x) done.narrow w
      narrow x (inr done) (inr w) = in_range_not_wide (coefficient_at (made ++ rest) x) (in_range (made ++ rest) state.terms state.falls x)
          (subst IsWide (sym done.is) w)

-- ---- the step of the code, where p is the product's place
module _ (v : List Term) (q : ℤ) (t : List ℕ) (g made rest left : List Term) (e : Term) (made' from behind : List Term) (k : ℤ) (p : Place) where
  -- what the step finds
  pub record Found : Type 0 where
    pub state : Merging v q t g made rest (e ∷ left)
    pub long : length t ≡ VARIABLES
    pub terms : AllByRecursion IsTerm (e ∷ left)
    pub falls : Falls (e ∷ left)
    pub place : p ≡ moved t e.at
    pub passed : Passes p made rest made' from
    pub taken : TakesFirst p from k behind

  opened : Found → Open (moved t e.at) (made ++ rest) made' behind k
  opened f = opens (moved t e.at) made rest made' from k behind f.state.falls f.state.terms f.state.ahead
      (subst (λ x. Passes x made rest made' from) f.place f.passed) (subst (λ x. TakesFirst x from k behind) f.place f.taken)

  turn : Found → Turn v q t g made rest e left k made' behind
  turn f = record { state = f.state; opened = opened f; long = f.long; terms = f.terms; falls = f.falls }

  pub step_wide : Found → Subtracts k q e.k None → IsGreatest (DifferenceIsWide (coefficient_at v) (multiple_at q t g)) p
  step_wide f wide = subst (IsGreatest (DifferenceIsWide (coefficient_at v) (multiple_at q t g))) (sym f.place)
      (fails v q t g made rest e left k made' behind (turn f) wide)

  pub step_zero : Found → (z : ℤ) → z ≡ pos 0 → Subtracts k q e.k (Some z) → Merging v q t g made' behind left
  step_zero f z none reduced = goes_on v q t g made rest e left k made' behind (turn f) made' z reduced
      (puts_none (moved t e.at) (made ++ rest) made' behind k z (opened f) none)

  pub step_term : Found → (z : ℤ) → IsTerm (record { at = p; k = z }) → Subtracts k q e.k (Some z) → (made2 : List Term)
      → made2 ≡ made' ++ record { at = p; k = z } ∷ [] → Merging v q t g made2 behind left
  step_term f z term reduced made2 is =
      let push : made2 ≡ made' ++ record { at = moved t e.at; k = z } ∷ [] = is ∙ ap (λ x. made' ++ record { at = x; k = z } ∷ []) f.place in
      subst (λ m. Merging v q t g m behind left) (sym push)
      (goes_on v q t g made rest e left k made' behind (turn f) (made' ++ record { at = moved t e.at; k = z } ∷ []) z reduced
      (puts (moved t e.at) (made ++ rest) made' behind k z (opened f) (subst (λ x. IsTerm (record { at = x; k = z })) f.place term)))

-- the same at the i-th term of g
pub found_at : (v : List Term) (q : ℤ) (t : List ℕ) (g made rest : List Term) (i : ℕ) (e : Term) (made' from behind : List Term) (k : ℤ) (p : Place)
    → Merging v q t g made rest (drop i g) → IsSparse g → i < length g → e ≡ get_or g i e → length t ≡ VARIABLES → p ≡ moved t e.at
    → Passes p made rest made' from → TakesFirst p from k behind → Found v q t g made rest (drop (i + 1) g) e made' from behind k p
found_at v q t g made rest i e made' from behind k p state sparse h is long place passed taken =
    let here : drop i g ≡ e ∷ drop (i + 1) g = drop_read g i e h is in
    record {
      state = subst (Merging v q t g made rest) here state;
      long = long;
      terms = subst (AllByRecursion IsTerm) here (all_drop IsTerm i g sparse.terms);
      falls = subst Falls here (falls_drop i g sparse.falling);
      place = place;
      passed = passed;
      taken = taken;
    }

-- no term gets lost or doubled on the way
pub passed_count : (p : Place) (made rest made' from behind : List Term) (k : ℤ) → Passes p made rest made' from → TakesFirst p from k behind
    → length made' + length behind ≤ length made + length rest
passed_count p made rest made' from behind k passed taken =
    let front : length made' ≡ length made + length passed.front = ap length passed.moved ∙ length-append made passed.front in
    let back : length rest ≡ length passed.front + length from = ap length passed.split ∙ length-append passed.front from in
    omega (arith, front, back, by taken)
  where
    by : TakesFirst p from k behind → length behind ≤ length from
    by (inl e) = let whole : length from ≡ suc (length behind) = ap length e in omega arith
    by (inr h) = let whole : length behind ≡ length from = ap length h.1 in omega arith
