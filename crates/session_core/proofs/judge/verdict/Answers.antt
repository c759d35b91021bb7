use Rattle.std.proofs.Common.{rules, ◌≡◌, take, List, subst}
use Rattle.std.proofs.lemmas.List.{take_all}
use Rattle.module_vec.specs.declared.places.Term.{Term}
use Rattle.hom_check.specs.Shown.{Shows}
use Rattle.session_core.specs.Verdicts.{IsVerdict}
use Rattle.session_core.proofs.Exactness.{trivial_verdict, extends_verdict}
use Rattle.session_core.proofs.judge.verdict.Goals as goal

pub returns-clause-is : goal.returns-clause-is
returns-clause-is g c =
    let b : List (List Term) = g.F.VecList.vectors c.args.list.now in
    let all : take c.count.result b ≡ b = take_all c.count.result b (search rules) in
    let shown : Shows b c.args.q.now c.in_ok-shown.shown = subst (λ (l : List (List Term)). Shows l c.args.q.now c.in_ok-shown.shown) all
    c.in_ok-shown.ensures.is in
    c.on_shown.ensures c.args.p.now b (g.F.Front.seal c.args.list.now) c.is_sealed_for-sealed.ensures shown

pub returns-clause-trivial : goal.returns-clause-trivial
returns-clause-trivial g c =
    let b : List (List Term) = g.F.VecList.vectors c.args.list.now in
    let all : take c.count.result b ≡ b = take_all c.count.result b (search rules) in
    let shown : Shows b c.args.q.now c.in_ok-shown.shown = subst (λ (l : List (List Term)). Shows l c.args.q.now c.in_ok-shown.shown) all
    c.in_ok-shown.ensures.is in
    let is : IsVerdict c.args.p.now b (g.F.Front.seal c.args.list.now) c.args.q.now c.on_shown.result =
    c.on_shown.ensures c.args.p.now b (g.F.Front.seal c.args.list.now) c.is_sealed_for-sealed.ensures shown in
    trivial_verdict c.args.p.now (g.F.Front.entries c.args.list.now) b (g.F.Front.seal c.args.list.now) c.args.q.now c.on_shown.result c.known-2.ensures
    c.known.ensures c.requires.entries c.requires.question
    (g.met.F.Front.vectors_are c.args.list.now) is

pub returns-clause-extends : goal.returns-clause-extends
returns-clause-extends g c =
    let b : List (List Term) = g.F.VecList.vectors c.args.list.now in
    let all : take c.count.result b ≡ b = take_all c.count.result b (search rules) in
    let shown : Shows b c.args.q.now c.in_ok-shown.shown = subst (λ (l : List (List Term)). Shows l c.args.q.now c.in_ok-shown.shown) all
    c.in_ok-shown.ensures.is in
    let is : IsVerdict c.args.p.now b (g.F.Front.seal c.args.list.now) c.args.q.now c.on_shown.result =
    c.on_shown.ensures c.args.p.now b (g.F.Front.seal c.args.list.now) c.is_sealed_for-sealed.ensures shown in
    extends_verdict c.args.p.now (g.F.Front.entries c.args.list.now) b (g.F.Front.seal c.args.list.now) c.args.q.now c.on_shown.result c.known-2.ensures
    c.known.ensures c.requires.entries c.requires.question
    (g.met.F.Front.vectors_are c.args.list.now) is
