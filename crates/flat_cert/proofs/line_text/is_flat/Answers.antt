use Rattle.std.proofs.Common.{◌≡◌, ◌⊎◌, inl, inr, ◌+◌, ◌*◌, ◌<◌, ◌==◌, Bool, true, false, slice_index, refl, sym, subst, arith}
use Rattle.std.proofs.lemmas.Bool.Decides.{nat_tests}
use Rattle.flat_cert.proofs.LineTexts.{flat_from, not_missing}
use Rattle.flat_cert.proofs.line_text.is_flat.Goals as goal
use Rattle.flat_cert.proofs.line_text.is_flat.Goals.{else-exp-gt0-via-then-exp-gt0+else-exp-gt0-2, else-exp-gt0-via-else-exp-gt0}

pub returns-then-exp-gt0-2 : goal.returns-then-exp-gt0-2
returns-then-exp-gt0-2 c = (
  λ e. absurd cc,
  λ flat. absurd (not_missing c.args.m.now c.loop-g.g (omega (arith, c.exp.ensures, c.if-exp-gt0.true))
      (omega (arith, c.exp-then-exp-gt0.ensures, c.if-exp-gt0-2.true)) flat),
)

pub loop-g-preserved : goal.loop-g-preserved
loop-g-preserved c k lt = by (k == c.loop-g.g) refl
  where
    own : (slice_index c.args.m.now (2 * c.loop-g.g) ≡ 0) ⊎ (slice_index c.args.m.now (2 * c.loop-g.g + 1) ≡ 0)
    own = elim c.else-exp-gt0.branch [
      | else-exp-gt0-via-then-exp-gt0+else-exp-gt0-2 w ↦ inr (omega (arith, w.exp-then-exp-gt0.ensures, w.if-exp-gt0-2.false))
      | else-exp-gt0-via-else-exp-gt0 w ↦ inl (omega (arith, c.exp.ensures, w.if-exp-gt0.false))
    ]

    by : (b : Bool) → (k == c.loop-g.g) ≡ b → (slice_index c.args.m.now (2 * k) ≡ 0) ⊎ (slice_index c.args.m.now (2 * k + 1) ≡ 0)
    by true e =
        let same : k ≡ c.loop-g.g = grind (arith, nat_tests) in
        subst (λ i. (slice_index c.args.m.now (2 * i) ≡ 0) ⊎ (slice_index c.args.m.now (2 * i + 1) ≡ 0)) (sym same) own
    by false e = let below : k < c.loop-g.g = grind (arith, nat_tests) in c.loop-g.invariant k below

pub returns : goal.returns
returns c =
    (λ e. flat_from 24 c.args.m.now (c.degree.ensures.monomial.variables) (λ k lt. c.loop-g.invariant k (omega (arith, lt, c.loop-g-test.false))), λ e. refl)
