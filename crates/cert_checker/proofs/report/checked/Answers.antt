use Rattle.std.proofs.Common.{sym, ◌∙◌, subst}
use Rattle.std.specs.Prelude.{Ok, Err}
use Rattle.cert_checker.specs.declared.faults.CertKind.TheVariants.{Text}
use Rattle.cert_checker.specs.declared.faults.CertFault.TheVariants as texts
use Rattle.cert_checker.specs.Texts.{BytesHold, Tells, counts}
use Rattle.cert_checker.proofs.Telling.{text_fails, taken_words}
use Rattle.cert_checker.proofs.report.checked.Goals as goal

pub returns-in-Err : goal.returns-in-Err
returns-in-Err c =
    text_fails c.args.p.now c.args.text.now c.in_ok-generators.generators.items c.deref.result.now c.loop-line.number c.loop-line.checker c.loop-line.rest.now
    c.in-Some.line.now c.in-Some.others.now c.in-Err.fault c.of_line.result
    c.in_ok-generators.ensures c.deref.ensures.value c.loop-line.invariant.told c.in-Some.ensures.parts c.in-Err.ensures c.of_line.ensures

pub loop-line-preserved : goal.loop-line-preserved
loop-line-preserved c =
    let holds : BytesHold c.args.p.now c.in_ok-generators.generators.items c.loop-line.checker c.in-Some.line.now c.in-Ok.taken =
    subst (λ gens. BytesHold c.args.p.now gens c.loop-line.checker c.in-Some.line.now c.in-Ok.taken) c.deref.ensures.value c.in-Ok.ensures in
    record {
      told = λ r h. c.loop-line.invariant.told r (Tells.goes_on c.loop-line.number c.loop-line.checker c.in-Ok.taken c.loop-line.rest.now c.in-Some.line.now
          c.in-Some.others.now r c.in-Some.ensures.parts holds
          (subst (λ n. Tells c.args.p.now c.in_ok-generators.generators.items n c.in-Ok.taken c.in-Some.others.now r) c.saturating_add-number.ensures h));
      words = taken_words c.args.p.now c.in_ok-generators.generators.items c.loop-line.checker c.in-Ok.taken c.in-Some.line.now holds
          c.loop-line.invariant.words;
    }

pub returns-then-not-is_complete : goal.returns-then-not-is_complete
returns-then-not-is_complete c = record {
  generators = c.in_ok-generators.generators.items;
  are = c.in_ok-generators.ensures;
  tells = c.loop-line.invariant.told (Err (texts.Line c.loop-line.number Text))
      (Tells.missing c.loop-line.number c.loop-line.checker c.loop-line.rest.now c.in_default.ensures.parts
      (λ whole. let wrong = sym (c.is_complete.ensures.1 whole) ∙ c.if-not-is_complete.true in cc));
}

pub returns : goal.returns
returns c = record {
  generators = c.in_ok-generators.generators.items;
  are = c.in_ok-generators.ensures;
  tells = subst (λ k. Tells c.args.p.now c.in_ok-generators.generators.items _ _ c.args.text.now (Ok k)) (sym c.counts.ensures)
      (c.loop-line.invariant.told (Ok (counts c.loop-line.checker)) (Tells.complete c.loop-line.number c.loop-line.checker c.loop-line.rest.now
      c.in_default.ensures.parts (c.is_complete.ensures.0 c.if-not-is_complete.false)));
}
