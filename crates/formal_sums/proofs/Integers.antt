-- Laws of the ring of integers beside those of `Rattle.std.proofs.Math.IntN`.
use Rattle.std.proofs.Common.{◌≡◌, ℕ, zero, suc, ◌+◌, ◌*◌, ◌⊎◌, inl, inr, ℤ, pos, negsuc, neg_ℤ, ◌+ℤ◌, ◌*ℤ◌, ap, sym, ◌∙◌, refl, arith}
use Rattle.std.proofs.Math.IntN.{*ℤ_comm}
use borrow.Author.Differences.{up, down, ints, same_in}

-- distributivity on the left
pub *ℤ-+ℤ : (a b c : ℤ) → a *ℤ (b +ℤ c) ≡ a *ℤ b +ℤ a *ℤ c
*ℤ-+ℤ a b c =
    let e : up (b +ℤ c) + down b + down c ≡ down (b +ℤ c) + up b + up c = omega (arith, ints) in
    let e1 : up a * (up (b +ℤ c) + down b + down c) ≡ up a * (down (b +ℤ c) + up b + up c) = ap (λ (z : ℕ). up a * z) e in
    let e2 : down a * (up (b +ℤ c) + down b + down c) ≡ down a * (down (b +ℤ c) + up b + up c) = ap (λ (z : ℕ). down a * z) e in
    same_in (a *ℤ (b +ℤ c)) (a *ℤ b +ℤ a *ℤ c) (omega (arith, ints))

-- distributivity on the right
pub +ℤ-*ℤ : (a b c : ℤ) → (a +ℤ b) *ℤ c ≡ a *ℤ c +ℤ b *ℤ c
+ℤ-*ℤ a b c = *ℤ_comm (a +ℤ b) c ∙ *ℤ-+ℤ c a b ∙ λ i. *ℤ_comm c a i +ℤ *ℤ_comm c b i

pub *ℤ_assoc : (a b c : ℤ) → (a *ℤ b) *ℤ c ≡ a *ℤ (b *ℤ c)
*ℤ_assoc a b c =
    let e : up (a *ℤ b) + up a * down b + down a * up b ≡ down (a *ℤ b) + up a * up b + down a * down b = omega (arith, ints) in
    let f : up (b *ℤ c) + up b * down c + down b * up c ≡ down (b *ℤ c) + up b * up c + down b * down c = omega (arith, ints) in
    let e1 : up c * (up (a *ℤ b) + up a * down b + down a * up b) ≡ up c * (down (a *ℤ b) + up a * up b + down a * down b) = ap (λ (z : ℕ). up c * z) e in
    let e2 : down c * (up (a *ℤ b) + up a * down b + down a * up b) ≡ down c * (down (a *ℤ b) + up a * up b + down a * down b) = ap (λ (z : ℕ). down c * z) e in
    let f1 : up a * (up (b *ℤ c) + up b * down c + down b * up c) ≡ up a * (down (b *ℤ c) + up b * up c + down b * down c) = ap (λ (z : ℕ). up a * z) f in
    let f2 : down a * (up (b *ℤ c) + up b * down c + down b * up c) ≡ down a * (down (b *ℤ c) + up b * up c + down b * down c) = ap (λ (z : ℕ). down a * z) f in
    same_in ((a *ℤ b) *ℤ c) (a *ℤ (b *ℤ c)) (omega (arith, ints))

pub one-*ℤ : (a : ℤ) → pos 1 *ℤ a ≡ a
one-*ℤ a = omega (arith, ints)

pub *ℤ-neg_ℤ : (a b : ℤ) → a *ℤ neg_ℤ b ≡ neg_ℤ (a *ℤ b)
*ℤ-neg_ℤ a b =
    let nothing : b +ℤ neg_ℤ b ≡ pos 0 = omega (arith, ints) in
    let gone : a *ℤ (b +ℤ neg_ℤ b) ≡ pos 0 = ap (λ z. a *ℤ z) nothing ∙ omega (arith, ints) in
    omega (arith, ints, sym (*ℤ-+ℤ a b (neg_ℤ b)) ∙ gone)

pub neg_ℤ-*ℤ : (a b : ℤ) → neg_ℤ a *ℤ b ≡ neg_ℤ (a *ℤ b)
neg_ℤ-*ℤ a b = *ℤ_comm (neg_ℤ a) b ∙ *ℤ-neg_ℤ b a ∙ ap neg_ℤ (*ℤ_comm b a)

-- no zero divisors
pub *ℤ-eq-zero : (a b : ℤ) → a *ℤ b ≡ pos 0 → (a ≡ pos 0) ⊎ (b ≡ pos 0)
*ℤ-eq-zero (pos zero) b e = inl refl
*ℤ-eq-zero a (pos zero) e = inr refl
*ℤ-eq-zero (pos (suc a)) (pos (suc b)) e = absurd (omega (arith, ints, e))
*ℤ-eq-zero (pos (suc a)) (negsuc b) e = absurd (omega (arith, ints, e))
*ℤ-eq-zero (negsuc a) (pos (suc b)) e = absurd (omega (arith, ints, e))
*ℤ-eq-zero (negsuc a) (negsuc b) e = absurd (omega (arith, ints, e))
