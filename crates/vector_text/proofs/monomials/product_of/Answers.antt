use Rattle.std.proofs.Common.{List, ℕ, Some, option_map, Bor, ap, arith}
use Rattle.presentation.proofs.WritingBack.{names_of}
use Rattle.vector_text.proofs.MonomialTexts.{Going, still, no_factor, not_rising, too_high, going_on}
use Rattle.vector_text.proofs.monomials.product_of.Goals as goal
use Rattle.vector_text.proofs.monomials.product_of.Goals.{In-Some}

here : (c : In-Some) → Going c.args.p.now.names c.args.text.now c.loop-left.made c.loop-left.next (Some c.in-Some.rest.now)
here c = still c.args.p.now.names c.args.text.now c.loop-left.made c.loop-left.next (option_map (λ (r : Bor (List ℕ)). r.now) c.loop-left.left)
    c.in-Some.rest.now (ap (option_map (λ (r : Bor (List ℕ)). r.now)) c.in-Some.is) c.loop-left.invariant

pub returns-in_err-factor : goal.returns-in_err-factor
returns-in_err-factor c =
    let h = here (goal.at.returns-in_err-factor c).In-Some in
    rw c.from_residual.ensures (no_factor c.args.p.now.names (names_of c.args.p.now c.known.ensures) c.args.text.now c.loop-left.made c.in-Some.rest.now
    c.first_part.result.0.now c.loop-left.next _ h c.first_part.ensures.parts c.in_err-factor.ensures)

pub returns-then-factor-next : goal.returns-then-factor-next
returns-then-factor-next c =
    let h = here (goal.at.returns-then-factor-next c).In-Some in
    not_rising c.args.p.now.names (names_of c.args.p.now c.known.ensures) c.args.text.now c.loop-left.made c.in-Some.rest.now c.first_part.result.0.now
    c.loop-left.next _ c.in_ok-factor.factor h c.first_part.ensures.parts c.in_ok-factor.ensures c.if-factor-next.true

pub returns-in_err-made : goal.returns-in_err-made
returns-in_err-made c =
    let h = here (goal.at.returns-in_err-made c).In-Some in
    rw c.from_residual-in_err-made.ensures (too_high c.args.p.now.names (names_of c.args.p.now c.known.ensures) c.args.text.now c.loop-left.made
    c.in-Some.rest.now c.first_part.result.0.now c.loop-left.next _ c.in_ok-factor.factor c.in_ok-power.power h c.first_part.ensures.parts
    c.in_ok-factor.ensures (omega (arith, c.in_ok-factor.ensures.0.variable, c.known.ensures.few_names)) c.in_ok-power.ensures.made.1
    c.in_err-made.ensures.made)

pub loop-left-preserved : goal.loop-left-preserved
loop-left-preserved c =
    let h = here (goal.at.loop-left-preserved c).In-Some in
    going_on c.args.p.now.names (omega (arith, c.known.ensures.few_names)) c.args.text.now c.loop-left.made c.in-Some.rest.now c.first_part.result.0.now
    c.loop-left.next _ c.in_ok-factor.factor c.in_ok-power.power c.in_ok-made.made h c.first_part.ensures.parts c.in_ok-factor.ensures c.if-factor-next.false
    c.in_ok-power.ensures.made.1 c.in_ok-made.ensures.made.1 c.in_ok-made.ensures.monomial
