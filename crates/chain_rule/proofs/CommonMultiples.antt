-- Divisors of the least common multiple of two numbers.
use Rattle.std.proofs.Common.{◌≡◌, ℤ, pos, ◌*ℤ◌, refl, sym, ap, ◌∙◌}
use Rattle.std.specs.Int.{IsGcd}
use Rattle.std.specs.Prelude.{unsigned_abs, ◌<ℤ◌, ◌↔◌}
use Rattle.std.proofs.Math.IntN.{*ℤ_comm}
use Rattle.formal_sums.proofs.Integers.{*ℤ_assoc}
use Rattle.strong_pairs.specs.Covering.{Divides}
use Rattle.chain_rule.specs.Chaining.{DividesMultiple}
use Rattle.chain_rule.proofs.Gauss.{exchanged, carried_over, divisor_of, gauss}

-- p is the quotient of k by its greatest common divisor with l
abbrev pub IsPart : ℤ → ℤ → ℤ → Type 0
IsPart k l p = (d : ℤ) × (pos 0 <ℤ d) × IsGcd (unsigned_abs k) (unsigned_abs l) (unsigned_abs d) × (k ≡ p *ℤ d)

-- what is divided by p and by l is divided by c = p·d, and a multiple of p by l is one of c
module _ (c k l p q : ℤ) (hc : pos 0 <ℤ c) (hk : pos 0 <ℤ k) (hl : pos 0 <ℤ l) (is_p : IsPart c l p) (is_q : IsPart k l q) where
  of_l : (d : ℤ) → pos 0 <ℤ d → (m : ℤ) → IsGcd (unsigned_abs m) (unsigned_abs l) (unsigned_abs d) → Divides d l
  of_l d h m g = divisor_of l d hl h g.1

  -- b·l, where b is a multiple of p
  multiple_of_both : (b f d x : ℤ) → b ≡ f *ℤ p → l ≡ x *ℤ d → c ≡ p *ℤ d → b *ℤ l ≡ (f *ℤ x) *ℤ c
  multiple_of_both b f d x eb el ec = (λ i. eb i *ℤ el i) ∙ exchanged f p x d ∙ ap (λ z. (f *ℤ x) *ℤ z) (sym ec)

  forth : Divides p q → DividesMultiple c k l
  forth (f, qf) n (a, na) (b, nb) = by (gauss k l b q is_q.0 hk hl is_q.1 is_q.2 is_q.3 (a, *ℤ_comm l b ∙ sym nb ∙ na)) (of_l is_p.0 is_p.1 c is_p.2)
    where
      by : Divides q b → Divides is_p.0 l → Divides c n
      by (g, bg) (x, lx) = ((g *ℤ f) *ℤ x, nb ∙ multiple_of_both b (g *ℤ f) is_p.0 x (bg ∙ ap (λ z. g *ℤ z) qf ∙ sym (*ℤ_assoc g f p)) lx is_p.3)

  back : DividesMultiple c k l → Divides p q
  back h = by (of_l is_q.0 is_q.1 k is_q.2)
    where
      by : Divides is_q.0 l → Divides p q
      by (x, lx) = last (h (q *ℤ l) (x, ap (λ z. q *ℤ z) lx ∙ carried_over q x is_q.0 ∙ ap (λ z. x *ℤ z) (sym is_q.3)) (q, refl))
        where
          last : Divides c (q *ℤ l) → Divides p q
          last (f, e) = gauss c l q p is_p.0 hc hl is_p.1 is_p.2 is_p.3 (f, *ℤ_comm l q ∙ e)

  pub multiple_test : Divides p q ↔ DividesMultiple c k l
  multiple_test = (forth, back)
