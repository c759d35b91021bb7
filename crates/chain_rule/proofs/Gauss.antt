-- Euclid's algorithm and Gauss's lemma: what divides a product and has no part in the first factor divides the second.
use Rattle.std.proofs.Common.{◌≡◌, ℕ, zero, suc, ◌+◌, ◌*◌, ◌/◌, ◌%◌, ◌<◌, ℤ, pos, negsuc, neg_ℤ, ◌+ℤ◌, ◌*ℤ◌, refl, sym, ap, ◌∙◌, arith}
use borrow.Author.Differences.{ints}
use Rattle.std.specs.Int.{IsGcd, ◌∣◌}
use Rattle.std.specs.Prelude.{unsigned_abs, ◌<ℤ◌}
use Rattle.std.proofs.Math.IntN.{*ℤ_comm}
use Rattle.std.proofs.Math.Nat.{div-mul_cancel}
use Rattle.std.proofs.lemmas.Nat.Gcd.{IsGcd-from_zero, IsGcd-from_mod, same_from_IsGcd}
use Rattle.formal_sums.proofs.Integers.{*ℤ-+ℤ, +ℤ-*ℤ, *ℤ_assoc, neg_ℤ-*ℤ}
use Rattle.strong_pairs.specs.Covering.{Divides}
use Rattle.strong_pairs.proofs.Exchanges.{cancel}

-- ---- products

-- (a·b)·(c·d) = (a·c)·(b·d)
pub exchanged : (a b c d : ℤ) → (a *ℤ b) *ℤ (c *ℤ d) ≡ (a *ℤ c) *ℤ (b *ℤ d)
exchanged a b c d = *ℤ_assoc a b (c *ℤ d) ∙ ap (λ z. a *ℤ z) (sym (*ℤ_assoc b c d) ∙ ap (λ z. z *ℤ d) (*ℤ_comm b c) ∙ *ℤ_assoc c b d)
    ∙ sym (*ℤ_assoc a c (b *ℤ d))

-- a·(b·c) = b·(a·c)
pub carried_over : (a b c : ℤ) → a *ℤ (b *ℤ c) ≡ b *ℤ (a *ℤ c)
carried_over a b c = sym (*ℤ_assoc a b c) ∙ ap (λ z. z *ℤ c) (*ℤ_comm a b) ∙ *ℤ_assoc b a c

pub positive_is : (z : ℤ) → pos 0 <ℤ z → pos (unsigned_abs z) ≡ z
positive_is (pos n) h = refl
positive_is (negsuc n) h = absurd (omega (arith, ints, h))

-- a divisor of the absolute value
pub divisor_of : (k d : ℤ) → pos 0 <ℤ k → pos 0 <ℤ d → unsigned_abs d ∣ unsigned_abs k → Divides d k
divisor_of (pos k) (pos d) h g u = let whole : (k / d) * d ≡ k = div-mul_cancel d u in (pos (k / d), omega (arith, ints, whole))
divisor_of (negsuc k) d h g u = absurd (omega (arith, ints, h))
divisor_of (pos k) (negsuc d) h g u = absurd (omega (arith, ints, g))

pub divisor_some : (d : ℕ) (k : ℤ) → pos 0 <ℤ k → d ∣ unsigned_abs k → pos 0 <ℤ pos d
divisor_some (suc d) k h u = omega (arith, ints)
divisor_some zero k h u =
    let none : unsigned_abs k ≡ 0 = sym (div-mul_cancel 0 u) ∙ omega arith in
    let same : pos (unsigned_abs k) ≡ k = positive_is k h in
    absurd (nothing (unsigned_abs k) k none same h)
  where
    nothing : (n : ℕ) (k : ℤ) → n ≡ 0 → pos n ≡ k → pos 0 <ℤ k → ⊥
    nothing n k e f h = omega (arith, ints, e, sym f, h)

-- ---- the greatest common divisor as a sum of multiples

pub record Combined (a b : ℕ) : Type 0 where
  pub d : ℕ
  pub u : ℤ
  pub v : ℤ
  pub divisor : IsGcd a b d
  pub sum : u *ℤ pos a +ℤ v *ℤ pos b ≡ pos d

step_sum : (u v q c r a d : ℤ) → a ≡ q *ℤ c +ℤ r → u *ℤ c +ℤ v *ℤ r ≡ d → v *ℤ a +ℤ (u +ℤ neg_ℤ (v *ℤ q)) *ℤ c ≡ d
step_sum u v q c r a d e h =
    let one : v *ℤ a ≡ v *ℤ (q *ℤ c) +ℤ v *ℤ r = ap (λ z. v *ℤ z) e ∙ *ℤ-+ℤ v (q *ℤ c) r in
    let two : (u +ℤ neg_ℤ (v *ℤ q)) *ℤ c ≡ u *ℤ c +ℤ neg_ℤ (v *ℤ (q *ℤ c)) = +ℤ-*ℤ u (neg_ℤ (v *ℤ q)) c
    ∙ ap (λ z. u *ℤ c +ℤ z) (neg_ℤ-*ℤ (v *ℤ q) c ∙ ap neg_ℤ (*ℤ_assoc v q c)) in
    (λ n. one n +ℤ two n) ∙ regroup (v *ℤ (q *ℤ c)) (v *ℤ r) (u *ℤ c) d h
  where
    regroup : (w x y d : ℤ) → y +ℤ x ≡ d → (w +ℤ x) +ℤ (y +ℤ neg_ℤ w) ≡ d
    regroup w x y d h = omega (arith, ints, h)

euclid : (n a b : ℕ) → b < n → Combined a b
euclid zero a b h = absurd (omega (arith, h))
euclid (suc n) a zero h = record { d = a; u = pos 1; v = pos 0; divisor = IsGcd-from_zero a 0 refl; sum = omega (arith, ints) }
euclid (suc n) a (suc b) h = next (euclid n (suc b) (a % suc b) (omega (arith, h)))
  where
    next : Combined (suc b) (a % suc b) → Combined a (suc b)
    next c =
        let whole : a ≡ (a / suc b) * suc b + a % suc b = omega arith in
        let whole_integer : pos a ≡ pos (a / suc b) *ℤ pos (suc b) +ℤ pos (a % suc b) = ap pos whole ∙ omega (arith, ints) in
        record {
          d = c.d;
          u = c.v;
          v = c.u +ℤ neg_ℤ (c.v *ℤ pos (a / suc b));
          divisor = IsGcd-from_mod a (suc b) c.d c.divisor;
          sum = step_sum c.u c.v (pos (a / suc b)) (pos (suc b)) (pos (a % suc b)) (pos a) (pos c.d) whole_integer c.sum;
        }

pub combined : (a b : ℕ) → Combined a b
combined a b = euclid (suc b) a b (omega arith)

-- ---- Gauss's lemma

-- with u·c + v·k = d, c = q·d and k·n = f·c
gauss_by : (c k n q d u v f : ℤ) → pos 0 <ℤ d → u *ℤ c +ℤ v *ℤ k ≡ d → c ≡ q *ℤ d → k *ℤ n ≡ f *ℤ c → n ≡ (n *ℤ u +ℤ v *ℤ f) *ℤ q
gauss_by c k n q d u v f some sum part multiple =
    cancel n ((n *ℤ u +ℤ v *ℤ f) *ℤ q) d some
    (ap (λ z. n *ℤ z) (sym sum) ∙ *ℤ-+ℤ n (u *ℤ c) (v *ℤ k) ∙ (λ i. first i +ℤ second i) ∙ sym (+ℤ-*ℤ (n *ℤ u) (v *ℤ f) c)
    ∙ ap (λ z. (n *ℤ u +ℤ v *ℤ f) *ℤ z) part ∙ sym (*ℤ_assoc (n *ℤ u +ℤ v *ℤ f) q d))
  where
    first : n *ℤ (u *ℤ c) ≡ (n *ℤ u) *ℤ c
    first = sym (*ℤ_assoc n u c)

    second : n *ℤ (v *ℤ k) ≡ (v *ℤ f) *ℤ c
    second = carried_over n v k ∙ ap (λ z. v *ℤ z) (*ℤ_comm n k ∙ multiple) ∙ sym (*ℤ_assoc v f c)

-- d is the greatest common divisor of c and k, and c = q·d: where c divides k·n, q divides n
pub gauss : (c k n q d : ℤ) → pos 0 <ℤ c → pos 0 <ℤ k → pos 0 <ℤ d → IsGcd (unsigned_abs c) (unsigned_abs k) (unsigned_abs d) → c ≡ q *ℤ d
    → Divides c (k *ℤ n) → Divides q n
gauss c k n q d hc hk hd g part (f, multiple) = by (combined (unsigned_abs c) (unsigned_abs k))
  where
    by : Combined (unsigned_abs c) (unsigned_abs k) → Divides q n
    by w =
        let same : pos w.d ≡ d = ap pos (same_from_IsGcd (unsigned_abs c) (unsigned_abs k) w.d (unsigned_abs d) w.divisor g) ∙ positive_is d hd in
        let sum : w.u *ℤ c +ℤ w.v *ℤ k ≡ d = (λ i. w.u *ℤ sym (positive_is c hc) i +ℤ w.v *ℤ sym (positive_is k hk) i) ∙ w.sum ∙ same in
        (n *ℤ w.u +ℤ w.v *ℤ f, gauss_by c k n q d w.u w.v f hd sum part multiple)
