-- THE CHAIN RULE: the S-vector of a pair is the sum of a multiple of each of the S-vectors of its entries with a third one.
use Rattle.std.proofs.Common.{◌≡◌, ℕ, zero, suc, ◌<◌, max, true, ℤ, pos, negsuc, neg_ℤ, ◌+ℤ◌, ◌*ℤ◌, List, ◌++◌, length, inl, inr, refl, sym, ap, ◌∙◌, arith}
use borrow.Author.Differences.{ints}
use Rattle.std.specs.Int.{IsGcd}
use Rattle.std.specs.Prelude.{unsigned_abs, ◌<ℤ◌}
use Rattle.std.proofs.Math.IntN.{*ℤ_comm}
use Rattle.std.proofs.lemmas.Nat.Gcd.{IsGcd-swap}
use Rattle.formal_sums.proofs.Integers.{*ℤ-+ℤ, +ℤ-*ℤ, *ℤ_assoc, neg_ℤ-*ℤ, *ℤ-neg_ℤ}
use Rattle.laurent_terms.specs.declared.TheConstants.{VARIABLES}
use Rattle.laurent_terms.specs.Monomials.{quotient, divides}
use Rattle.laurent_terms.proofs.Combining.{length-combined}
use Rattle.module_vec.specs.declared.places.Place.{Place}
use Rattle.module_vec.specs.declared.places.Term.{Term}
use Rattle.module_vec.specs.declared.steps.Step.{Step}
use Rattle.module_vec.specs.Modules.{vector_at, steps_at}
use Rattle.module_vec.specs.Places.{IsBelow, moved}
use Rattle.module_vec.specs.Reducers.{AreEntries, Reduces}
use Rattle.outcomes.specs.declared.kinds.PairKind.TheVariants.{S}
use Rattle.strong_pairs.specs.Covering.{Divides}
use Rattle.strong_pairs.specs.Pairs.{lead_at, IsPair, pair_place, AreFactors, ArePairSteps, both_at}
use Rattle.strong_pairs.specs.Tasks.{IsClosed}
use Rattle.strong_pairs.proofs.Entered.{lead_length, lead_positive, length-quotient}
use Rattle.strong_pairs.proofs.Exchanges.{cancel, quotient-back, Meets, swapped, PairCarried, pair_carried}
use Rattle.strong_pairs.proofs.LeadTerms.{divides_common}
use Rattle.strong_pairs.proofs.Members.{scaled, steps_at-append, steps_at-scaled}
use Rattle.strong_pairs.proofs.Shifted.{shifted, taken_is, at_append, at_scaled}
use Rattle.chain_rule.specs.ClosedPairs.{IsClosedEither, AreClosedPairs}
use Rattle.chain_rule.specs.Chaining.{DividesMultiple, IsChained, ChainRule}
use Rattle.chain_rule.proofs.ClosedPairs.{either}
use Rattle.chain_rule.proofs.Gauss.{exchanged, divisor_of, divisor_some, Combined, combined, gauss}

-- ---- the factors

-- the factors of an S-vector with the common divisor written as an integer
pub record Factored (k l d q r : ℤ) : Type 0 where
  pub divisor : IsGcd (unsigned_abs k) (unsigned_abs l) (unsigned_abs d)
  pub positive : pos 0 <ℤ d
  pub first : l ≡ q *ℤ d
  pub second : k ≡ neg_ℤ r *ℤ d

some_divisor : (u : ℤ) (d : ℕ) (l : ℤ) → pos 0 <ℤ l → u *ℤ pos d ≡ l → pos 0 <ℤ pos d
some_divisor u zero l h e = absurd (nothing (u *ℤ pos 0) l (zero_times u) e h)
  where
    zero_times : (u : ℤ) → u *ℤ pos 0 ≡ pos 0
    zero_times u = omega (arith, ints)

    nothing : (a l : ℤ) → a ≡ pos 0 → a ≡ l → pos 0 <ℤ l → ⊥
    nothing a l z e h = omega (arith, ints, z, e, h)
some_divisor u (suc d) l h e = omega (arith, ints)

negative : (r d k : ℤ) → r *ℤ d ≡ neg_ℤ k → k ≡ neg_ℤ r *ℤ d
negative r d k e = let turned : neg_ℤ r *ℤ d ≡ neg_ℤ (r *ℤ d) = neg_ℤ-*ℤ r d in omega (arith, ints, e, turned)

factored : (k l q r : ℤ) → pos 0 <ℤ l → (f : AreFactors S k l q r) → Factored k l (pos f.0) q r
factored k l q r h (d, g, first, second) = record {
  divisor = g;
  positive = some_divisor q d l h first;
  first = sym first;
  second = negative r (pos d) k second;
}

-- by which multiples the S-vectors of i with k, and of k with j, add up to that of i with j
record Mixed (q r qik rik qkj rkj : ℤ) : Type 0 where
  x : ℤ
  y : ℤ
  first : q ≡ x *ℤ qik
  third : r ≡ y *ℤ rkj
  middle : x *ℤ rik +ℤ y *ℤ qkj ≡ pos 0

module _ (ci cj ck d q r dik qik rik dkj qkj rkj : ℤ) (hi : pos 0 <ℤ ci) (hj : pos 0 <ℤ cj) (hk : pos 0 <ℤ ck)
    (ij : Factored ci cj d q r) (ik : Factored ci ck dik qik rik) (kj : Factored ck cj dkj qkj rkj) where
  -- the least common multiple of both lead coefficients
  multiple : q *ℤ ci ≡ neg_ℤ r *ℤ cj
  multiple = ap (λ z. q *ℤ z) ij.second ∙ swap q (neg_ℤ r) d ∙ ap (λ z. neg_ℤ r *ℤ z) (sym ij.first)
    where
      swap : (a b c : ℤ) → a *ℤ (b *ℤ c) ≡ b *ℤ (a *ℤ c)
      swap a b c = sym (*ℤ_assoc a b c) ∙ ap (λ z. z *ℤ c) (*ℤ_comm a b) ∙ *ℤ_assoc b a c

  middle_of : (x y : ℤ) → q ≡ x *ℤ qik → r ≡ y *ℤ rkj → x *ℤ rik +ℤ y *ℤ qkj ≡ pos 0
  middle_of x y ex ey = cancel (x *ℤ rik +ℤ y *ℤ qkj) (pos 0) ck hk (+ℤ-*ℤ (x *ℤ rik) (y *ℤ qkj) ck
      ∙ nothing ((x *ℤ rik) *ℤ ck) ((y *ℤ qkj) *ℤ ck) (q *ℤ ci) (r *ℤ cj) (pos 0 *ℤ ck) one two both zero)
    where
      one : (x *ℤ rik) *ℤ ck ≡ neg_ℤ (q *ℤ ci)
      one = ap (λ z. (x *ℤ rik) *ℤ z) ik.first ∙ exchanged x rik qik dik ∙ (λ n. sym ex n *ℤ turned n) ∙ *ℤ-neg_ℤ q ci
        where
          turned : rik *ℤ dik ≡ neg_ℤ ci
          turned = let e : ci ≡ neg_ℤ rik *ℤ dik = ik.second in let f : neg_ℤ rik *ℤ dik ≡ neg_ℤ (rik *ℤ dik) = neg_ℤ-*ℤ rik dik in omega (arith, ints, e, f)

      two : (y *ℤ qkj) *ℤ ck ≡ neg_ℤ (r *ℤ cj)
      two = ap (λ z. (y *ℤ qkj) *ℤ z) kj.second ∙ exchanged y qkj (neg_ℤ rkj) dkj ∙ (λ n. outer n *ℤ sym kj.first n) ∙ neg_ℤ-*ℤ r cj
        where
          outer : y *ℤ neg_ℤ rkj ≡ neg_ℤ r
          outer = *ℤ-neg_ℤ y rkj ∙ ap neg_ℤ (sym ey)

      both : q *ℤ ci ≡ neg_ℤ (r *ℤ cj)
      both = multiple ∙ neg_ℤ-*ℤ r cj

      zero : pos 0 *ℤ ck ≡ pos 0
      zero = omega (arith, ints)

      nothing : (a b m n z : ℤ) → a ≡ neg_ℤ m → b ≡ neg_ℤ n → m ≡ neg_ℤ n → z ≡ pos 0 → a +ℤ b ≡ z
      nothing a b m n z e f g h = omega (arith, ints, e, f, g, h)

  mixed : DividesMultiple ck ci cj → Mixed q r qik rik qkj rkj
  mixed h = by (h (q *ℤ ci) (q, refl) (neg_ℤ r, multiple))
    where
      by : Divides ck (q *ℤ ci) → Mixed q r qik rik qkj rkj
      by (f, e) = both (gauss ck ci q qik dik hk hi ik.positive (IsGcd-swap (unsigned_abs ci) (unsigned_abs ck) (unsigned_abs dik) ik.divisor) ik.first
          (f, *ℤ_comm ci q ∙ e))
          (gauss ck cj r (neg_ℤ rkj) dkj hk hj kj.positive kj.divisor kj.second (neg_ℤ f, other))
        where
          other : cj *ℤ r ≡ neg_ℤ f *ℤ ck
          other =
              let one : cj *ℤ r ≡ r *ℤ cj = *ℤ_comm cj r in
              let two : neg_ℤ r *ℤ cj ≡ neg_ℤ (r *ℤ cj) = neg_ℤ-*ℤ r cj in
              let three : neg_ℤ f *ℤ ck ≡ neg_ℤ (f *ℤ ck) = neg_ℤ-*ℤ f ck in
              let four : neg_ℤ r *ℤ cj ≡ f *ℤ ck = sym multiple ∙ e in
              turn (cj *ℤ r) (r *ℤ cj) (neg_ℤ r *ℤ cj) (f *ℤ ck) (neg_ℤ f *ℤ ck) one two three four
            where
              turn : (a b c m n : ℤ) → a ≡ b → c ≡ neg_ℤ b → n ≡ neg_ℤ m → c ≡ m → a ≡ n
              turn a b c m n e f g h = omega (arith, ints, e, f, g, h)

          both : Divides qik q → Divides (neg_ℤ rkj) r → Mixed q r qik rik qkj rkj
          both (x, ex) (w, ew) =
              let ey : r ≡ neg_ℤ w *ℤ rkj = ew ∙ *ℤ-neg_ℤ w rkj ∙ sym (neg_ℤ-*ℤ w rkj) in
              record { x = x; y = neg_ℤ w; first = ex; third = ey; middle = middle_of x (neg_ℤ w) ex ey }

-- q·A + r·C, where the multiples of B go out
combine : (q r qik rik qkj rkj a b c : ℤ) → (m : Mixed q r qik rik qkj rkj) → q *ℤ a +ℤ r *ℤ c ≡ m.x *ℤ (qik *ℤ a +ℤ rik *ℤ b) +ℤ m.y *ℤ (qkj *ℤ b +ℤ rkj *ℤ c)
combine q r qik rik qkj rkj a b c m =
    let one : m.x *ℤ (qik *ℤ a +ℤ rik *ℤ b) ≡ q *ℤ a +ℤ (m.x *ℤ rik) *ℤ b = *ℤ-+ℤ m.x (qik *ℤ a) (rik *ℤ b)
    ∙ (λ n. (sym (*ℤ_assoc m.x qik a) ∙ ap (λ z. z *ℤ a) (sym m.first)) n +ℤ sym (*ℤ_assoc m.x rik b) n) in
    let two : m.y *ℤ (qkj *ℤ b +ℤ rkj *ℤ c) ≡ (m.y *ℤ qkj) *ℤ b +ℤ r *ℤ c = *ℤ-+ℤ m.y (qkj *ℤ b) (rkj *ℤ c)
    ∙ (λ n. sym (*ℤ_assoc m.y qkj b) n +ℤ (sym (*ℤ_assoc m.y rkj c) ∙ ap (λ z. z *ℤ c) (sym m.third)) n) in
    let gone : (m.x *ℤ rik) *ℤ b +ℤ (m.y *ℤ qkj) *ℤ b ≡ pos 0 = sym (+ℤ-*ℤ (m.x *ℤ rik) (m.y *ℤ qkj) b) ∙ ap (λ z. z *ℤ b) m.middle ∙ zero_times b in
    regroup (m.x *ℤ (qik *ℤ a +ℤ rik *ℤ b)) (m.y *ℤ (qkj *ℤ b +ℤ rkj *ℤ c)) (q *ℤ a) ((m.x *ℤ rik) *ℤ b) ((m.y *ℤ qkj) *ℤ b) (r *ℤ c) one two gone
  where
    zero_times : (z : ℤ) → pos 0 *ℤ z ≡ pos 0
    zero_times z = omega (arith, ints)

    regroup : (s t a m n c : ℤ) → s ≡ a +ℤ m → t ≡ n +ℤ c → m +ℤ n ≡ pos 0 → a +ℤ c ≡ s +ℤ t
    regroup s t a m n c e f g = omega (arith, ints, e, f, g)

-- ---- S-vectors in either order

module _ (b : List (List Term)) (entries : AreEntries b) where
  turned : (i j : ℕ) (t u : List ℕ) (p : Place) → PairCarried b entries j i u t p → PairCarried b entries i j t u p
  turned i j t u p c = record {
    q = neg_ℤ c.r;
    r = neg_ℤ c.q;
    factors = by c.factors;
    steps = scaled (negsuc 0) c.steps;
    below = at_scaled b entries (λ x. IsBelow x p) (negsuc 0) c.steps c.below;
    is = λ x. turn c.q c.r (shifted u (vector_at b j) x) (shifted t (vector_at b i) x) (steps_at b c.steps x) (steps_at b (scaled (negsuc 0) c.steps) x)
        (c.is x) (steps_at-scaled b (negsuc 0) c.steps x);
  }
    where
      ki : ℤ
      ki = (lead_at b i).k

      kj : ℤ
      kj = (lead_at b j).k

      by : AreFactors S kj ki c.q c.r → AreFactors S ki kj (neg_ℤ c.r) (neg_ℤ c.q)
      by (d, g, first, second) = (
        d,
        IsGcd-swap (unsigned_abs kj) (unsigned_abs ki) d g,
        neg_ℤ-*ℤ c.r (pos d) ∙ ap neg_ℤ second ∙ twice kj,
        neg_ℤ-*ℤ c.q (pos d)
            ∙ ap neg_ℤ first,
      )
        where
          twice : (z : ℤ) → neg_ℤ (neg_ℤ z) ≡ z
          twice z = omega (arith, ints)

      turn : (q r y z s n : ℤ) → q *ℤ y +ℤ r *ℤ z ≡ s → n ≡ negsuc 0 *ℤ s → neg_ℤ r *ℤ z +ℤ neg_ℤ q *ℤ y ≡ n
      turn q r y z s n e f =
          let one : neg_ℤ r *ℤ z ≡ neg_ℤ (r *ℤ z) = neg_ℤ-*ℤ r z in
          let two : neg_ℤ q *ℤ y ≡ neg_ℤ (q *ℤ y) = neg_ℤ-*ℤ q y in
          linear (q *ℤ y) (r *ℤ z) (neg_ℤ r *ℤ z) (neg_ℤ q *ℤ y) s n e f one two
        where
          linear : (a c m w s n : ℤ) → a +ℤ c ≡ s → n ≡ negsuc 0 *ℤ s → m ≡ neg_ℤ c → w ≡ neg_ℤ a → m +ℤ w ≡ n
          linear a c m w s n e f g h = omega (arith, ints, e, f, g, h)

  carried_either : (i j : ℕ) (t u : List ℕ) (p : Place) → IsClosedEither b i j → Meets b entries i j t u p → PairCarried b entries i j t u p
  carried_either i j t u p (inl closed) meet = pair_carried b entries i j t u p closed.1 meet
  carried_either i j t u p (inr closed) meet = turned i j t u p (pair_carried b entries j i u t p closed.1 (swapped b entries i j t u p meet))

  -- ---- the rule
  module _ (i j k : ℕ) (pair : IsPair b i j) (k_in : k < length b) (reduces : Reduces (lead_at b k) (pair_place b i j))
      (coefficient : DividesMultiple (lead_at b k).k (lead_at b i).k (lead_at b j).k) where
    abbrev p : Place
    p = pair_place b i j

    i_in : i < length b
    i_in = let o : i < j = pair.order in let w : j < length b = pair.within in omega (arith, o, w)

    abbrev mono : ℕ → List ℕ
    mono n = (lead_at b n).at.m

    abbrev to : ℕ → List ℕ
    to n = quotient p.m (mono n)

    abbrev coeff : ℕ → ℤ
    coeff n = (lead_at b n).k

    same_length : length (mono i) ≡ length (mono j)
    same_length = lead_length b entries i i_in ∙ sym (lead_length b entries j pair.within)

    p-length : length p.m ≡ VARIABLES
    p-length = length-combined (λ a c. max a c) (mono i) (mono j) same_length ∙ lead_length b entries i i_in

    both_divide : (divides (mono i) p.m ≡ true) × (divides (mono j) p.m ≡ true)
    both_divide = divides_common (mono i) (mono j) same_length

    to-length : (n : ℕ) → n < length b → divides (mono n) p.m ≡ true → length (to n) ≡ VARIABLES
    to-length n h d = length-quotient (mono n) p.m d ∙ lead_length b entries n h

    there : (n : ℕ) → n < length b → (lead_at b n).at.c ≡ p.c → divides (mono n) p.m ≡ true → moved (to n) (lead_at b n).at ≡ p
    there n h e d = λ x. record { m = quotient-back (mono n) p.m (lead_length b entries n h ∙ sym p-length) d x; c = e x }

    meets : (m n : ℕ) → m < length b → n < length b → (lead_at b m).at.c ≡ p.c → (lead_at b n).at.c ≡ p.c → divides (mono m) p.m ≡ true
        → divides (mono n) p.m ≡ true → Meets b entries m n (to m) (to n) p
    meets m n hm hn em en dm dn = record {
      i_in = hm;
      j_in = hn;
      t-length = to-length m hm dm;
      u-length = to-length n hn dn;
      first = there m hm em dm;
      second = there n hn en dn;
    }

    by_both : PairCarried b entries i k (to i) (to k) p → PairCarried b entries k j (to k) (to j) p → Combined (unsigned_abs (coeff i)) (unsigned_abs (coeff j))
        → IsClosed b S i j
    by_both one two g = parts (divisor_of (coeff j) (pos g.d) hj some g.divisor.1) (divisor_of (coeff i) (pos g.d) hi some g.divisor.0)
      where
        hi : pos 0 <ℤ coeff i
        hi = lead_positive b entries i i_in

        hj : pos 0 <ℤ coeff j
        hj = lead_positive b entries j pair.within

        hk : pos 0 <ℤ coeff k
        hk = lead_positive b entries k k_in

        some : pos 0 <ℤ pos g.d
        some = divisor_some g.d (coeff i) hi g.divisor.0

        parts : Divides (pos g.d) (coeff j) → Divides (pos g.d) (coeff i) → IsClosed b S i j
        parts (q, eq) (w, ew) = (
          first,
          second,
          are,
          record {
            steps = scaled m.x one.steps ++ scaled m.y two.steps;
            below = at_append b entries (λ x. IsBelow x p) (scaled m.x one.steps) (scaled m.y two.steps)
                (at_scaled b entries (λ x. IsBelow x p) m.x one.steps one.below) (at_scaled b entries (λ x. IsBelow x p) m.y two.steps two.below);
            is = is;
          },
        )
          where
            r : ℤ
            r = neg_ℤ w

            first : Step
            first = record { q = q; t = to i; by = i }

            second : Step
            second = record { q = r; t = to j; by = j }

            twice : (z : ℤ) → neg_ℤ (neg_ℤ z) ≡ z
            twice z = omega (arith, ints)

            are : ArePairSteps S b i j first second
            are = record {
              factors = (g.d, g.divisor, sym eq, neg_ℤ-*ℤ w (pos g.d) ∙ ap neg_ℤ (sym ew));
              first_monomial = refl;
              second_monomial = refl;
              first_number = refl;
              second_number = refl;
            }

            m : Mixed q r one.q one.r two.q two.r
            m = mixed (coeff i) (coeff j) (coeff k) (pos g.d) q r (pos one.factors.0) one.q one.r (pos two.factors.0) two.q two.r hi hj hk
                (record { divisor = g.divisor; positive = some; first = eq; second = ew ∙ ap (λ z. z *ℤ pos g.d) (sym (twice w)) })
                (factored (coeff i) (coeff k) one.q one.r hk one.factors)
                (factored (coeff k) (coeff j) two.q two.r hj two.factors)
                coefficient

            is : (x : Place) → both_at b first second x ≡ steps_at b (scaled m.x one.steps ++ scaled m.y two.steps) x
            is x =
                (λ n. taken_is b first x n +ℤ taken_is b second x n)
                ∙ combine q r one.q one.r two.q two.r (shifted (to i) (vector_at b i) x) (shifted (to k) (vector_at b k) x) (shifted (to j) (vector_at b j) x) m
                ∙ (λ n. m.x *ℤ one.is x n +ℤ m.y *ℤ two.is x n)
                ∙ (λ n. sym (steps_at-scaled b m.x one.steps x) n +ℤ sym (steps_at-scaled b m.y two.steps x) n)
                ∙ sym (steps_at-append b (scaled m.x one.steps) (scaled m.y two.steps) x)

  pub chain_rule : ChainRule b
  chain_rule i j k pair k_in reduces coefficient ik kj = by_both i j k pair k_in reduces coefficient
      (carried_either i k (to i j k pair k_in reduces coefficient i) (to i j k pair k_in reduces coefficient k) (pair_place b i j) ik
      (meets i j k pair k_in reduces coefficient i k (i_in i j k pair k_in reduces coefficient) k_in refl reduces.0
      (both_divide i j k pair k_in reduces coefficient).0 reduces.1))
      (carried_either k j (to i j k pair k_in reduces coefficient k) (to i j k pair k_in reduces coefficient j) (pair_place b i j) kj
      (meets i j k pair k_in reduces coefficient k j k_in pair.within reduces.0 (sym pair.component) reduces.1
      (both_divide i j k pair k_in reduces coefficient).1))
      (combined (unsigned_abs (lead_at b i).k) (unsigned_abs (lead_at b j).k))

  -- through the closed pairs of a list
  pub closed_through : (pairs : List (ℕ × ℕ)) → AreClosedPairs b pairs → (i j k : ℕ) → IsPair b i j → IsChained b pairs i j k → IsClosed b S i j
  closed_through pairs closed i j k pair h = chain_rule i j k pair h.number h.leads.reduces h.leads.coefficient (either b pairs closed i k h.with_first)
      (either b pairs closed k j h.with_second)
