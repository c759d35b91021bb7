use Rattle.std.proofs.Common.{◌≡◌, true, false, List, ℕ, Some, option_map, Bor, sym, ap, subst, ◌∙◌}
use Rattle.presentation.proofs.WritingBack.{names_of}
use Rattle.module_vec.specs.declared.places.Term.{Term}
use Rattle.vector_text.specs.Over.{MayFollow}
use Rattle.vector_text.proofs.VectorTexts.{Going, still, no_term, not_falling, going_on}
use Rattle.vector_text.proofs.vectors.sum_of.Goals as goal
use Rattle.vector_text.proofs.vectors.sum_of.Goals.{In-Some}

here : (c : In-Some) → Going c.args.p.now.names c.args.text.now c.loop-left.terms.items (Some c.in-Some.rest.now)
here c = still c.args.p.now.names c.args.text.now c.loop-left.terms.items (option_map (λ (r : Bor (List ℕ)). r.now) c.loop-left.left) c.in-Some.rest.now
    (ap (option_map (λ (r : Bor (List ℕ)). r.now)) c.in-Some.is) c.loop-left.invariant

pub returns-in_default-term_of : goal.returns-in_default-term_of
returns-in_default-term_of c =
    let h = here (goal.at.returns-in_default-term_of c).In-Some in
    no_term c.args.p.now.names (names_of c.args.p.now c.known.ensures) c.args.text.now c.in-Some.rest.now c.first_part.result.0.now _ c.loop-left.terms.items h
    c.first_part.ensures.parts c.in_default-term_of.ensures

pub returns-then-not-may_follow : goal.returns-then-not-may_follow
returns-then-not-may_follow c =
    let h = here (goal.at.returns-then-not-may_follow c).In-Some in
    let P : List Term → Type 0 = λ v. MayFollow v c.in-Some-term_of.term in
    not_falling c.args.p.now.names (names_of c.args.p.now c.known.ensures) c.args.text.now c.in-Some.rest.now c.first_part.result.0.now _
    c.loop-left.terms.items c.in-Some-term_of.term h c.first_part.ensures.parts c.in-Some-term_of.ensures
    (λ m. let yes = c.may_follow.ensures.1 (subst P (sym c.deref.ensures.value) m) in let t : true ≡ false = sym yes ∙ c.if-not-may_follow.true in cc)

pub loop-left-preserved : goal.loop-left-preserved
loop-left-preserved c =
    let h = here (goal.at.loop-left-preserved c).In-Some in
    let P : List Term → Type 0 = λ v. MayFollow v c.in-Some-term_of.term in
    rw c.in_ok-push.ensures.items (going_on c.args.p.now.names c.args.text.now c.in-Some.rest.now c.first_part.result.0.now _ c.loop-left.terms.items
    c.in-Some-term_of.term h c.first_part.ensures.parts c.in-Some-term_of.ensures
    (subst P c.deref.ensures.value (c.may_follow.ensures.0 c.if-not-may_follow.false)))
