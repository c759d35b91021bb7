use Rattle.std.proofs.Common.{rules, ◌≡◌, arith, sym, ap, subst, map}
use Rattle.std.proofs.lemmas.List.{length-map}
use Rattle.std.proofs.lemmas.List.Elements.{recursion_from_All}
use Rattle.std.specs.List.{AllByRecursion}
use Rattle.std.specs.Arc.{arc_value}
use Rattle.presentation.specs.Presented.{Presented}
use Rattle.session_core.specs.Questions.{CanBeAsked}
use Rattle.session_core.specs.Sessions.{SessionState}
use Rattle.interleave_core.proofs.tests.session.Goals as goal

pub returns-in_ok-open-in-Ok : goal.returns-in_ok-open-in-Ok
returns-in_ok-open-in-Ok c =
    let is = c.in_ok-open-in-Ok.ensures in
    let p = arc_value c.args.p.now in
    let read : c.deref.result.now ≡ p = search rules in
    record {
      number = ap (λ (s : SessionState). s.number) is;
      base = λ es are.
          let alike = (c.generator_entries_are_short.ensures.alike p (map arc_value c.in_ok-base.field-0.items) es c.in_ok-base.ensures are).0 in
          let l = length-map c.in_ok-base.field-0.items arc_value in
          let b = ap (λ (s : SessionState). s.base) is in
          omega (arith, alike, l, b);
      questions = subst (AllByRecursion (CanBeAsked p)) (sym (ap (λ (s : SessionState). s.questions) is))
          (subst (λ (q : Presented). AllByRecursion (CanBeAsked q) c.in-Ok.questions.items) read
          (recursion_from_All (CanBeAsked c.deref.result.now) c.in-Ok.questions.items c.in-Ok.ensures.written));
      kept = ap (λ (s : SessionState). s.kept) is;
    }
