use Rattle.std.proofs.Common.{◌≡◌, ◌≤◌, ◌<◌, get_or, ◌∙◌, sym, ap, subst, ◌∷◌, ◌++◌, ◌+◌, take, drop, length, List}
use Rattle.std.proofs.lemmas.List.{take-append-drop, take_all}
use Rattle.module_vec.specs.declared.places.Term.{Term}
use Rattle.module_vec.specs.Vectors.{IsSparse}
use Rattle.module_vec.proofs.FallingTerms.{drop_read}
use Rattle.step_lists.proofs.Parting.{longer, some_parts}
use Rattle.step_lists.proofs.sum.Sum.difference.Goals as goal

pub returns-then-is_some : goal.returns-then-is_some
returns-then-is_some c =
    let i = c.loop-term.term-index in
    let w : List Term = c.args.v.now in
    let split : w ≡ take i w ++ c.term-item.result ∷ drop (i + 1) w = sym (take-append-drop i w)
    ∙ ap (λ r. take i w ++ r) (drop_read w i c.term-item.result (subst (λ y. i < length y) c.terms-term-items.ensures.is c.loop-term-test.true)
    (c.term-item.is ∙ ap (λ y. get_or y i c.term-item.result) c.terms-term-items.ensures.is)) in
    some_parts c.args.self w (take i w) c.loop-term.terms c.pop.new.self (drop (i + 1) w) c.pop.result c.term-item.result c.parting-parting.result
    (subst IsSparse c.self.view_is c.self.invariant.sparse) c.terms-term-items.ensures.vector.sparse
    c.loop-term.invariant split c.pop.ensures.is (sym c.is_some.ensures ∙ c.if-is_some.true) c.parting-parting.ensures

pub returns : goal.returns
returns c =
    let w : List Term = c.args.v.now in
    let whole : take c.loop-term.term-index w ≡ w = take_all c.loop-term.term-index w
    (subst (λ y. length y ≤ c.loop-term.term-index) c.terms-term-items.ensures.is c.loop-term-test.false) in
    let split : c.args.self ≡ w ++ c.in_ok-top.top ∷ c.pop-2.new.self = sym c.loop-term.invariant ∙ (λ j. whole j ++ c.in_ok-top.ensures.is j) in
    longer c.args.self w c.pop-2.new.self c.in_ok-top.top (subst IsSparse c.self.view_is c.self.invariant.sparse) split
