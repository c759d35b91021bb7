-- Rounding down: `int_div_euclid k l` is the floor of k / l where l is positive.
use Rattle.std.proofs.Common.{◌≡◌, ℕ, suc, zero, ◌+◌, ◌-◌, ◌*◌, ◌/◌, ◌%◌, ◌<◌, ℤ, pos, negsuc, neg_ℤ, ◌+ℤ◌, ◌*ℤ◌, arith, refl, ap, sym, ◌∙◌}
use Rattle.std.specs.Prelude.{◌<ℤ◌, ◌≤ℤ◌}
use Rattle.std.specs.Int.{int_div_euclid}
use Rattle.formal_sums.proofs.Integers.{+ℤ-*ℤ, neg_ℤ-*ℤ}
use Rattle.std.proofs.Math.IntN.{+ℤ_invr}
use borrow.Author.Differences.{ints}

-- the floor and a remainder from 0 on, below the divisor
pub floor_remainder : (k l : ℤ) → pos 0 <ℤ l → (r : ℕ) × (k ≡ int_div_euclid k l *ℤ l +ℤ pos r) × (pos r <ℤ l)
floor_remainder (pos a) (pos l) h =
    let positive : 0 < l = omega (arith, ints) in
    let parts : a ≡ (a / l) * l + a % l = omega arith in
    let below : a % l < l = omega arith in
    (a % l, omega (arith, ints), omega (arith, ints))
floor_remainder (negsuc a) (pos l) h =
    let positive : 0 < l = omega (arith, ints) in
    let parts : a ≡ (a / l) * l + a % l = omega arith in
    let below : a % l < l = omega arith in
    (l - 1 - a % l, omega (arith, ints), omega (arith, ints))
floor_remainder k (negsuc l) h = absurd (omega (arith, ints))

-- two remainders below l differ by no multiple of l but 0
one_remainder : (d : ℤ) (l r s : ℕ) → d *ℤ pos l +ℤ pos r ≡ pos s → r < l → s < l → d ≡ pos 0
one_remainder (pos zero) l r s e h g = refl
one_remainder (pos (suc d)) l r s e h g = absurd (omega (arith, ints))
one_remainder (negsuc d) l r s e h g = absurd (omega (arith, ints))

one_quotient : (p q : ℤ) (l r s : ℕ) → p *ℤ pos l +ℤ pos r ≡ q *ℤ pos l +ℤ pos s → r < l → s < l → p ≡ q
one_quotient p q l r s e h g =
    let apart : (p +ℤ neg_ℤ q) *ℤ pos l ≡ p *ℤ pos l +ℤ neg_ℤ (q *ℤ pos l) = +ℤ-*ℤ p (neg_ℤ q) (pos l) ∙ ap (λ z. p *ℤ pos l +ℤ z) (neg_ℤ-*ℤ q (pos l)) in
    let same : p +ℤ neg_ℤ q ≡ pos 0 = one_remainder (p +ℤ neg_ℤ q) l r s (by (p *ℤ pos l) (q *ℤ pos l) ((p +ℤ neg_ℤ q) *ℤ pos l) e apart) h g in
    omega (arith, ints)
  where
    by : (a b c : ℤ) → a +ℤ pos r ≡ b +ℤ pos s → c ≡ a +ℤ neg_ℤ b → c +ℤ pos r ≡ pos s
    by a b c e f = omega (arith, ints)

-- the only quotient with such a remainder
pub floor_unique : (k l q : ℤ) (r : ℕ) → k ≡ q *ℤ l +ℤ pos r → pos r <ℤ l → int_div_euclid k l ≡ q
floor_unique k (pos l) q r e h = by (floor_remainder k (pos l) (omega (arith, ints)))
  where
    by : (s : ℕ) × (k ≡ int_div_euclid k (pos l) *ℤ pos l +ℤ pos s) × (pos s <ℤ pos l) → int_div_euclid k (pos l) ≡ q
    by (s, is, below) = one_quotient (int_div_euclid k (pos l)) q l s r (sym is ∙ e) (omega (arith, ints)) (omega (arith, ints))
floor_unique k (negsuc l) q r e h = absurd (omega (arith, ints))

-- the floor is 0 exactly from 0 up to the divisor
pub zero_floor : (k l : ℤ) → pos 0 ≤ℤ k → k <ℤ l → int_div_euclid k l ≡ pos 0
zero_floor (pos a) l low high = floor_unique (pos a) l (pos 0) a (omega (arith, ints)) high
zero_floor (negsuc a) l low high = absurd (omega (arith, ints))

pub floor_zero : (k l : ℤ) → pos 0 <ℤ l → int_div_euclid k l ≡ pos 0 → (pos 0 ≤ℤ k) × (k <ℤ l)
floor_zero k l h e = by (floor_remainder k l h)
  where
    by : (r : ℕ) × (k ≡ int_div_euclid k l *ℤ l +ℤ pos r) × (pos r <ℤ l) → (pos 0 ≤ℤ k) × (k <ℤ l)
    by (r, is, below) =
        let whole : k ≡ pos 0 *ℤ l +ℤ pos r = is ∙ ap (λ z. z *ℤ l +ℤ pos r) e in
        let same : k ≡ pos r = omega (arith, ints) in
        (omega (arith, ints), omega (arith, ints))

-- a multiple of the divisor adds to the floor
pub floor-add_mul : (k l q : ℤ) → pos 0 <ℤ l → int_div_euclid (k +ℤ q *ℤ l) l ≡ int_div_euclid k l +ℤ q
floor-add_mul k l q h = by (floor_remainder k l h)
  where
    regroup : (a b r : ℤ) → a +ℤ r +ℤ b ≡ a +ℤ b +ℤ r
    regroup a b r = omega (arith, ints)

    by : (r : ℕ) × (k ≡ int_div_euclid k l *ℤ l +ℤ pos r) × (pos r <ℤ l) → int_div_euclid (k +ℤ q *ℤ l) l ≡ int_div_euclid k l +ℤ q
    by (r, is, below) = floor_unique (k +ℤ q *ℤ l) l (int_div_euclid k l +ℤ q) r (ap (λ z. z +ℤ q *ℤ l) is ∙ regroup (int_div_euclid k l *ℤ l) (q *ℤ l) (pos r)
        ∙ ap (λ z. z +ℤ pos r) (sym (+ℤ-*ℤ (int_div_euclid k l) q l))) below

-- what is left when the floor is taken out has the floor 0
pub floor_left : (k l : ℤ) → pos 0 <ℤ l → int_div_euclid (k +ℤ neg_ℤ (int_div_euclid k l *ℤ l)) l ≡ pos 0
floor_left k l h =
    ap (λ z. int_div_euclid (k +ℤ z) l) (sym (neg_ℤ-*ℤ (int_div_euclid k l) l))
    ∙ floor-add_mul k l (neg_ℤ (int_div_euclid k l)) h
    ∙ +ℤ_invr (int_div_euclid k l)
