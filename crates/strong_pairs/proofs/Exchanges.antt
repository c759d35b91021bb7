-- A closed S task carries a multiple of one entry over to the other: what is left are multiples with lower lead places.
use Rattle.std.proofs.Common.{◌≡◌, ℕ, ◌+◌, ◌<◌, max, true, ℤ, pos, negsuc, neg_ℤ, ◌+ℤ◌, ◌*ℤ◌, List, [], ◌++◌, length, ◌⊎◌, inl, inr, refl, sym, ap, subst, ◌∙◌}
use Rattle.std.proofs.Common.{arith}
use borrow.Author.Differences.{ints}
use Rattle.std.specs.Int.{IsGcd, ◌∣◌}
use Rattle.std.specs.Prelude.{unsigned_abs, ◌<ℤ◌}
use Rattle.std.proofs.Math.Nat.{dvd-mul_left}
use Rattle.std.proofs.lemmas.Int.{unsigned_abs-mul}
use Rattle.std.proofs.lemmas.Nat.Gcd.{dvd_refl, same_from_IsGcd, IsGcd-swap}
use Rattle.formal_sums.specs.FormalSum.{FormalSum, coefficient, scale, rename}
use Rattle.formal_sums.proofs.Coefficients.{coefficient-append, coefficient-scale, rename-append, rename-scale, rename-rename}
use Rattle.formal_sums.proofs.Integers.{*ℤ-eq-zero, +ℤ-*ℤ, neg_ℤ-*ℤ}
use Rattle.laurent_terms.specs.declared.TheConstants.{VARIABLES}
use Rattle.laurent_terms.specs.Monomials.{product, quotient, common_multiple, divides}
use Rattle.laurent_terms.proofs.Combining.{length-combined}
use Rattle.laurent_terms.proofs.Division.{divides-product, quotient-product, product-quotient, product_assoc, product_comm, divides-common_multiple}
use Rattle.module_vec.specs.declared.places.Place.{Place}
use Rattle.module_vec.specs.declared.places.Term.{Term}
use Rattle.module_vec.specs.declared.steps.Step.{Step}
use Rattle.module_vec.specs.Modules.{vector_at, steps_at}
use Rattle.module_vec.specs.Places.{IsBelow, same_place, moved}
use Rattle.module_vec.specs.Reducers.{AreEntries}
use Rattle.module_vec.specs.Vectors.{sum_of, multiple}
use Rattle.outcomes.specs.declared.kinds.PairKind.TheVariants.{S}
use Rattle.strong_pairs.specs.Covering.{Divides}
use Rattle.strong_pairs.specs.Pairs.{lead_at, pair_place, AreFactors}
use Rattle.strong_pairs.specs.Tasks.{AreStepsBelow, IsClosed, AreClosed}
use Rattle.strong_pairs.proofs.Coverage.{order_of}
use Rattle.strong_pairs.proofs.Entered.{lead_length, lead_positive, length-quotient}
use Rattle.strong_pairs.proofs.LeadTerms.{divides_common}
use Rattle.strong_pairs.proofs.Members.{carried, scaled, moved-moved, carried_same, steps_at-scaled}
use Rattle.strong_pairs.proofs.Shifted.{shifted, at_scaled, below_carried}

-- ---- monomials

pub product-cancel : (a c m : List ℕ) → length a ≡ length m → length c ≡ length m → product a m ≡ product c m → a ≡ c
product-cancel a c m la lc e =
    sym (quotient-product m a (sym la)) ∙ ap (λ z. quotient z m) (product_comm m a ∙ e ∙ product_comm c m) ∙ quotient-product m c (sym lc)

pub quotient-back : (s t : List ℕ) → length s ≡ length t → divides s t ≡ true → product (quotient t s) s ≡ t
quotient-back s t e d = product_comm (quotient t s) s ∙ product-quotient s t e d

-- a multiple's place is divided
pub divides-multiple : (t m p : List ℕ) → length t ≡ length m → product t m ≡ p → divides m p ≡ true
divides-multiple t m p l e = ap (divides m) (sym e ∙ product_comm t m) ∙ divides-product m t (sym l)

-- ---- integers

pub cancel : (x y c : ℤ) → pos 0 <ℤ c → x *ℤ c ≡ y *ℤ c → x ≡ y
cancel x y c h e = by (*ℤ-eq-zero (x +ℤ neg_ℤ y) c (+ℤ-*ℤ x (neg_ℤ y) c ∙ ap (λ z. x *ℤ c +ℤ z) (neg_ℤ-*ℤ y c) ∙ nothing (x *ℤ c) (y *ℤ c) e))
  where
    nothing : (a d : ℤ) → a ≡ d → a +ℤ neg_ℤ d ≡ pos 0
    nothing a d e = omega (arith, ints, e)

    by : (x +ℤ neg_ℤ y ≡ pos 0) ⊎ (c ≡ pos 0) → x ≡ y
    by (inl z) = omega (arith, ints, z)
    by (inr z) = absurd (omega (arith, ints, z, h))

positive_is : (z : ℤ) → pos 0 <ℤ z → pos (unsigned_abs z) ≡ z
positive_is (pos n) h = refl
positive_is (negsuc n) h = absurd (omega (arith, ints, h))

dvd_abs : (k l : ℤ) → Divides k l → unsigned_abs k ∣ unsigned_abs l
dvd_abs k l (f, e) = subst (λ n. unsigned_abs k ∣ n) (sym (ap unsigned_abs e ∙ unsigned_abs-mul f k)) (dvd-mul_left (unsigned_abs k) (unsigned_abs f))

-- where l divides k, it is the greatest common divisor of both
gcd_is : (k l : ℤ) (d : ℕ) → pos 0 <ℤ l → Divides l k → IsGcd (unsigned_abs k) (unsigned_abs l) d → pos d ≡ l
gcd_is k l d h dv g = ap pos (same_from_IsGcd (unsigned_abs k) (unsigned_abs l) d (unsigned_abs l) g (dvd_abs l k dv, dvd_refl (unsigned_abs l), λ e x y. y))
    ∙ positive_is l h

one_times : (z : ℤ) → pos 1 *ℤ z ≡ z
one_times z = omega (arith, ints)

-- the factors where the second divides the first, and the other way round
down_factors : (k l f u v : ℤ) → pos 0 <ℤ l → k ≡ f *ℤ l → AreFactors S k l u v → (u ≡ pos 1) × (v ≡ neg_ℤ f)
down_factors k l f u v h e (d, g, first, second) =
    let is : pos d ≡ l = gcd_is k l d h (f, e) g in (
      cancel u (pos 1) l h (ap (λ z. u *ℤ z) (sym is) ∙ first ∙ sym (one_times l)),
      cancel v (neg_ℤ f) l h (ap (λ z. v *ℤ z) (sym is) ∙ second ∙ ap neg_ℤ e ∙ sym (neg_ℤ-*ℤ f l)),
    )

up_factors : (k l f u v : ℤ) → pos 0 <ℤ k → l ≡ f *ℤ k → AreFactors S k l u v → (u ≡ f) × (v ≡ negsuc 0)
up_factors k l f u v h e (d, g, first, second) =
    let is : pos d ≡ k = gcd_is l k d h (f, e) (IsGcd-swap (unsigned_abs k) (unsigned_abs l) d g) in (
      cancel u f k h (ap (λ z. u *ℤ z) (sym is) ∙ first ∙ e),
      cancel v (negsuc 0) k h (ap (λ z. v *ℤ z) (sym is) ∙ second ∙ minus k),
    )
  where
    minus : (z : ℤ) → neg_ℤ z ≡ negsuc 0 *ℤ z
    minus z = omega (arith, ints)

-- ---- a multiple of a multiple
multiple_moved : (q : ℤ) (t s : List ℕ) (v : List Term) (x : Place) → coefficient same_place (rename (moved t) (multiple q s v)) x
    ≡ q *ℤ shifted (product t s) v x
multiple_moved q t s v x =
    ap (λ w. coefficient same_place w x) (rename-scale (moved t) q (rename (moved s) (sum_of v))
    ∙ ap (scale q) (rename-rename (moved t) (moved s) (sum_of v) ∙ λ i. rename (λ p. moved-moved t s p i) (sum_of v)))
    ∙ coefficient-scale same_place q (rename (moved (product t s)) (sum_of v)) x

module _ (b : List (List Term)) (entries : AreEntries b) where
  -- entries i and j are carried to p by t and u
  pub record Meets (i j : ℕ) (t u : List ℕ) (p : Place) : Type 0 where
    pub i_in : i < length b
    pub j_in : j < length b
    pub t-length : length t ≡ VARIABLES
    pub u-length : length u ≡ VARIABLES
    pub first : moved t (lead_at b i).at ≡ p
    pub second : moved u (lead_at b j).at ≡ p

  pub swapped : (i j : ℕ) (t u : List ℕ) (p : Place) → Meets i j t u p → Meets j i u t p
  swapped i j t u p m = record { i_in = m.j_in; j_in = m.i_in; t-length = m.u-length; u-length = m.t-length; first = m.second; second = m.first }

  -- the S-vector, carried to a place that both leads divide
  pub record PairCarried (i j : ℕ) (t u : List ℕ) (p : Place) : Type 0 where
    pub q : ℤ
    pub r : ℤ
    pub factors : AreFactors S (lead_at b i).k (lead_at b j).k q r
    pub steps : List Step
    pub below : AreStepsBelow b p steps
    pub is : (x : Place) → q *ℤ shifted t (vector_at b i) x +ℤ r *ℤ shifted u (vector_at b j) x ≡ steps_at b steps x

  pub pair_carried : (i j : ℕ) (t u : List ℕ) (p : Place) → IsClosed b S i j → Meets i j t u p → PairCarried i j t u p
  pair_carried i j t u p closed meet = by closed
    where
      mi : List ℕ
      mi = (lead_at b i).at.m

      mj : List ℕ
      mj = (lead_at b j).at.m

      mi-length : length mi ≡ VARIABLES
      mi-length = lead_length b entries i meet.i_in

      mj-length : length mj ≡ VARIABLES
      mj-length = lead_length b entries j meet.j_in

      w : List ℕ
      w = common_multiple mi mj

      w-length : length w ≡ VARIABLES
      w-length = length-combined (λ a c. max a c) mi mj (mi-length ∙ sym mj-length) ∙ mi-length

      t-is : product t mi ≡ p.m
      t-is n = (meet.first n).m

      u-is : product u mj ≡ p.m
      u-is n = (meet.second n).m

      p-length : length p.m ≡ VARIABLES
      p-length = ap length (sym t-is) ∙ length-combined (λ a c. a + c) t mi (meet.t-length ∙ sym mi-length) ∙ meet.t-length

      -- from the least common multiple to p
      v : List ℕ
      v = quotient p.m w

      w_divides : divides w p.m ≡ true
      w_divides = (divides-common_multiple mi mj p.m (mi-length ∙ sym mj-length)).1 (
        divides-multiple t mi p.m (meet.t-length ∙ sym mi-length) t-is,
        divides-multiple u mj p.m (meet.u-length ∙ sym mj-length) u-is,
      )

      v-is : product v w ≡ p.m
      v-is = quotient-back w p.m (w-length ∙ sym p-length) w_divides

      v-length : length v ≡ VARIABLES
      v-length = length-quotient w p.m w_divides ∙ w-length

      way : (m s : List ℕ) → length m ≡ VARIABLES → length s ≡ VARIABLES → product s m ≡ p.m → divides m w ≡ true → s ≡ product v (quotient w m)
      way m s long s-length is d =
          let back : product (quotient w m) m ≡ w = quotient-back m w (long ∙ sym w-length) d in
          let q-length : length (quotient w m) ≡ VARIABLES = length-quotient m w d ∙ long in
          product-cancel s (product v (quotient w m)) m (s-length ∙ sym long) (length-combined (λ a c. a + c) v (quotient w m) (v-length ∙ sym q-length)
          ∙ v-length ∙ sym long)
          (is ∙ sym v-is ∙ ap (product v) (sym back) ∙ sym (product_assoc v (quotient w m) m))

      both_divide : (divides mi w ≡ true) × (divides mj w ≡ true)
      both_divide = divides_common mi mj (mi-length ∙ sym mj-length)

      place_is : moved v (pair_place b i j) ≡ p
      place_is n = record { m = v-is n; c = (meet.first n).c }

      by : IsClosed b S i j → PairCarried i j t u p
      by (first, second, are, sum) =
          let gi : List Term = vector_at b first.by in
          let gj : List Term = vector_at b second.by in
          let whole : FormalSum Place = multiple first.q first.t gi ++ multiple second.q second.t gj in
          let same : (x : Place) → coefficient same_place whole x ≡ steps_at b sum.steps x =
          λ x. coefficient-append same_place (multiple first.q first.t gi) (multiple second.q second.t gj) x ∙ sum.is x in
          let t-way : product v first.t ≡ t = ap (product v) are.first_monomial ∙ sym (way mi t mi-length meet.t-length t-is both_divide.0) in
          let u-way : product v second.t ≡ u = ap (product v) are.second_monomial ∙ sym (way mj u mj-length meet.u-length u-is both_divide.1) in
          record {
            q = first.q;
            r = second.q;
            factors = are.factors;
            steps = carried (pos 1) v sum.steps;
            below = subst (λ z. AreStepsBelow b z (carried (pos 1) v sum.steps)) place_is
                (below_carried b entries (pair_place b i j) (pos 1) v v-length w-length sum.steps sum.below);
            is = λ x.
                (λ n. first.q *ℤ shifted (sym t-way n) (vector_at b (sym are.first_number n)) x +ℤ second.q *ℤ shifted (sym u-way n)
                (vector_at b (sym are.second_number n)) x)
                ∙ (λ n. sym (multiple_moved first.q v first.t gi x) n +ℤ sym (multiple_moved second.q v second.t gj x) n)
                ∙ sym (coefficient-append same_place (rename (moved v) (multiple first.q first.t gi)) (rename (moved v) (multiple second.q second.t gj)) x)
                ∙ ap (λ z. coefficient same_place z x) (sym (rename-append (moved v) (multiple first.q first.t gi) (multiple second.q second.t gj)))
                ∙ sym (coefficient-scale same_place (pos 1) (rename (moved v) whole) x ∙ one_times (coefficient same_place (rename (moved v) whole) x))
                ∙ carried_same b (pos 1) v whole sum.steps same x;
          }

  -- a multiple of entry i as one of entry k, whose lead coefficient divides that of i
  abbrev pub Exchanged : ℕ → ℕ → List ℕ → List ℕ → Place → ℤ → Type 0
  Exchanged i k t u p f = (steps : List Step) × AreStepsBelow b p steps × ((x : Place)
      → shifted t (vector_at b i) x ≡ f *ℤ shifted u (vector_at b k) x +ℤ steps_at b steps x)

  module _ (closed : AreClosed b S) where
    task : (i j : ℕ) (t u : List ℕ) (p : Place) → i < j → Meets i j t u p → IsClosed b S i j
    task i j t u p l meet = closed i j (record { order = l; within = meet.j_in; component = (λ n. (meet.first n).c) ∙ sym (λ n. (meet.second n).c) })

    pub exchange : (i k : ℕ) (t u : List ℕ) (p : Place) (f : ℤ) → Meets i k t u p → (lead_at b i).k ≡ f *ℤ (lead_at b k).k → Exchanged i k t u p f
    exchange i k t u p f meet e = by (order_of i k)
      where
        down : (q r f y z s : ℤ) → q ≡ pos 1 → r ≡ neg_ℤ f → q *ℤ y +ℤ r *ℤ z ≡ s → y ≡ f *ℤ z +ℤ s
        down q r f y z s eq er h =
            let one : q *ℤ y ≡ y = ap (λ c. c *ℤ y) eq ∙ one_times y in
            let two : r *ℤ z ≡ neg_ℤ (f *ℤ z) = ap (λ c. c *ℤ z) er ∙ neg_ℤ-*ℤ f z in
            omega (arith, ints, h, one, two)

        up : (q r f y z s n : ℤ) → q ≡ f → r ≡ negsuc 0 → q *ℤ z +ℤ r *ℤ y ≡ s → n ≡ negsuc 0 *ℤ s → y ≡ f *ℤ z +ℤ n
        up q r f y z s n eq er h g =
            let one : q *ℤ z ≡ f *ℤ z = ap (λ c. c *ℤ z) eq in
            let two : r *ℤ y ≡ negsuc 0 *ℤ y = ap (λ c. c *ℤ y) er in
            omega (arith, ints, h, g, one, two)

        equal : (f y z : ℤ) → f ≡ pos 1 → y ≡ z → y ≡ f *ℤ z +ℤ pos 0
        equal f y z ef ey =
            let one : f *ℤ z ≡ z = ap (λ c. c *ℤ z) ef ∙ one_times z in
            omega (arith, ints, one, ey)

        by : (i < k) ⊎ ((i ≡ k) ⊎ (k < i)) → Exchanged i k t u p f
        by (inl l) =
            let c : PairCarried i k t u p = pair_carried i k t u p (task i k t u p l meet) meet in
            let are : (c.q ≡ pos 1) × (c.r ≡ neg_ℤ f) = down_factors (lead_at b i).k (lead_at b k).k f c.q c.r (lead_positive b entries k meet.j_in)
            e c.factors in
            (c.steps, c.below, λ x. down c.q c.r f (shifted t (vector_at b i) x) (shifted u (vector_at b k) x) (steps_at b c.steps x) are.0 are.1 (c.is x))
        by (inr (inr l)) =
            let turned : Meets k i u t p = swapped i k t u p meet in
            let c : PairCarried k i u t p = pair_carried k i u t p (task k i u t p l turned) turned in
            let are : (c.q ≡ f) × (c.r ≡ negsuc 0) = up_factors (lead_at b k).k (lead_at b i).k f c.q c.r (lead_positive b entries k meet.j_in) e c.factors in (
              scaled (negsuc 0) c.steps,
              at_scaled b entries (λ x. IsBelow x p) (negsuc 0) c.steps c.below,
              λ x. up c.q c.r f (shifted t (vector_at b i) x) (shifted u (vector_at b k) x) (steps_at b c.steps x) (steps_at b (scaled (negsuc 0) c.steps) x)
                  are.0 are.1 (c.is x) (steps_at-scaled b (negsuc 0) c.steps x),
            )
        by (inr (inl s)) =
            let long : length (lead_at b i).at.m ≡ VARIABLES = lead_length b entries i meet.i_in in
            let tu : t ≡ u = product-cancel t u (lead_at b i).at.m (meet.t-length ∙ sym long) (meet.u-length ∙ sym long) ((λ n. (meet.first n).m)
            ∙ sym (λ n. (meet.second n).m) ∙ ap (λ z. product u (lead_at b z).at.m) (sym s)) in
            let unit : f ≡ pos 1 = cancel f (pos 1) (lead_at b i).k (lead_positive b entries i meet.i_in) (ap (λ z. f *ℤ (lead_at b z).k) s ∙ sym e
            ∙ sym (one_times (lead_at b i).k)) in
            ([], tt, λ x. equal f (shifted t (vector_at b i) x) (shifted u (vector_at b k) x) unit (λ n. shifted (tu n) (vector_at b (s n)) x))
