use Rattle.std.proofs.Common.{rules, ◌≡◌, ◌+◌, ◌++◌, ◌∷◌, length, map, sym, ap, subst, ◌∙◌}
use Rattle.std.proofs.lemmas.Result.{err_from_is_err_and}
use Rattle.std.specs.Arc.{arc_value}
use Rattle.std.specs.Prelude.{MatchResult}
use Rattle.presentation.specs.Presented.{Presented, IsPresented}
use Rattle.report_lines.specs.Texts.{pres_line}
use Rattle.fox_calculus.specs.Generators.{AreGenerators}
use Rattle.saved_basis.specs.declared.faults.LineKind.TheVariants.{Text}
use Rattle.saved_basis.specs.declared.faults.BasisFault.TheVariants.{Line}
use Rattle.saved_basis.specs.Files.{title, begun_text}
use Rattle.saved_basis.specs.Reading.{IsFileOf, TellsLine, HeadFails}
use Rattle.saved_basis.proofs.EachLine.{of_fault, head_tells, none_left, line_tells, taken_text, ended_result}
use Rattle.saved_basis.proofs.Texts.{begun}
use Rattle.saved_basis.proofs.reading.read_entries.Goals as goal

pub returns-in_err-rest : goal.returns-in_err-rest
returns-in_err-rest c =
    let p = err_from_is_err_and c.from_residual-in_err-rest.result c.from_residual-in_err-rest.ensures.1 in
    let same : c.deref-2.result.now ≡ arc_value c.args.p.now = search rules in
    let base = c.in_ok-reader.ensures.2.base in
    of_fault c.from_residual-in_err-rest.result (λ es. IsFileOf (arc_value c.args.p.now) c.args.text.now (map arc_value es.items))
    (TellsLine (arc_value c.args.p.now) c.args.text.now) p.0 c.in_err-rest.field-0.0 p.1 p.2
    (head_tells (arc_value c.args.p.now) c.args.text.now base.gens c.in_err-rest.field-0.0
    (subst (λ (q : Presented). AreGenerators q base.gens) c.in_ok-reader.ensures.0 base.generators)
    (subst (λ (q : Presented). HeadFails q c.args.text.now c.in_err-rest.field-0.0) same c.in_err-rest.ensures.fault))

pub loop-line-init : goal.loop-line-init
loop-line-init c =
    let same : c.deref-2.result.now ≡ arc_value c.args.p.now = search rules in
    let body : c.args.text.now ≡ title ++ 10 ∷ (pres_line (arc_value c.args.p.now) ++ 10 ∷ c.in_ok-rest.rest.now) =
    subst (λ (q : Presented). c.args.text.now ≡ title ++ 10 ∷ (pres_line q ++ 10 ∷ c.in_ok-rest.rest.now)) same c.in_ok-rest.ensures.body in
    record {
      source = c.in_ok-reader.ensures.0;
      text = begun (arc_value c.args.p.now) c.args.text.now c.in_ok-rest.rest.now body
          ∙ ap (λ es. begun_text (arc_value c.args.p.now) es ++ c.in_ok-rest.rest.now) (sym c.in_ok-reader.ensures.1);
    }

pub returns-then-is_last : goal.returns-then-is_last
returns-then-is_last c =
    let source : c.loop-line.reader.source ≡ arc_value c.args.p.now = c.loop-line.invariant.source in
    let is : c.args.text.now ≡ begun_text c.loop-line.reader.source c.loop-line.reader.entries ++ c.loop-line.rest.now =
    c.loop-line.invariant.text ∙ ap (λ (q : Presented). begun_text q c.loop-line.reader.entries ++ c.loop-line.rest.now) (sym source) in
    let given : c.deref.result.now ≡ c.loop-line.reader.source = (search rules) ∙ sym source in
    let known : IsPresented c.loop-line.reader.source = subst IsPresented given c.known.ensures in
    subst (λ (q : Presented). MatchResult c.ended.result (λ es. IsFileOf q c.args.text.now (map arc_value es.items)) (TellsLine q c.args.text.now)) source
    (ended_result c.loop-line.reader c.is_last.ensures.reading c.args.text.now c.loop-line.rest.now is c.in-Some.line.now c.in-Some.others.now
    c.in-Some.ensures.parts c.ended.result (λ es. map arc_value es.items) known (c.is_last.ensures.is.0 c.if-is_last.true) c.ended.ensures)

pub returns-in-Err : goal.returns-in-Err
returns-in-Err c =
    let source : c.loop-line.reader.source ≡ arc_value c.args.p.now = c.loop-line.invariant.source in
    let is : c.args.text.now ≡ begun_text c.loop-line.reader.source c.loop-line.reader.entries ++ c.loop-line.rest.now =
    c.loop-line.invariant.text ∙ ap (λ (q : Presented). begun_text q c.loop-line.reader.entries ++ c.loop-line.rest.now) (sym source) in
    let reading = c.is_last.ensures.reading in
    subst (λ (q : Presented). TellsLine q c.args.text.now c.of_line.result) source
    (line_tells c.loop-line.reader reading c.args.text.now c.loop-line.rest.now is c.in-Some.line.now c.in-Some.others.now c.in-Some.ensures.parts
    c.in-Err.fault c.line-number.result c.of_line.result c.line-number.ensures.is c.of_line.ensures
    (c.in-Err.ensures reading.base.gens reading.base.generators))

pub loop-line-preserved : goal.loop-line-preserved
loop-line-preserved c =
    let source : c.loop-line.reader.source ≡ arc_value c.args.p.now = c.loop-line.invariant.source in
    let is : c.args.text.now ≡ begun_text c.loop-line.reader.source c.loop-line.reader.entries ++ c.loop-line.rest.now =
    c.loop-line.invariant.text ∙ ap (λ (q : Presented). begun_text q c.loop-line.reader.entries ++ c.loop-line.rest.now) (sym source) in
    let reading = c.is_last.ensures.reading in
    let more = taken_text c.loop-line.reader reading c.args.text.now c.loop-line.rest.now is c.in-Some.line.now c.in-Some.others.now c.in-Some.ensures.parts
    c.in-Ok.taken (c.in-Ok.ensures reading.base.gens reading.base.generators) in
    let same : c.in-Ok.taken.source ≡ arc_value c.args.p.now = more.0 ∙ source in
    record {
      source = same;
      text = more.1 ∙ ap (λ (q : Presented). begun_text q c.in-Ok.taken.entries ++ c.in-Some.others.now) same;
    }

pub returns : goal.returns
returns c =
    let source : c.loop-line.reader.source ≡ arc_value c.args.p.now = c.loop-line.invariant.source in
    let is : c.args.text.now ≡ begun_text c.loop-line.reader.source c.loop-line.reader.entries ++ c.loop-line.rest.now =
    c.loop-line.invariant.text ∙ ap (λ (q : Presented). begun_text q c.loop-line.reader.entries ++ c.loop-line.rest.now) (sym source) in
    let fault : c.no_text.result ≡ Line (length c.loop-line.reader.entries + 3) Text = c.no_text.ensures ∙ ap (λ n. Line n Text) c.line.ensures.is in
    subst (λ (q : Presented). TellsLine q c.args.text.now c.no_text.result) source
    (none_left c.loop-line.reader c.line.ensures.reading c.args.text.now c.loop-line.rest.now is c.no_text.result fault c.in_default.ensures.parts)
