use Rattle.std.proofs.Common.{◌≡◌, ◌<◌, ◌+◌, ◌++◌, ◌∷◌, [], true, false, length, sym, subst, ◌∙◌, arith}
use Rattle.flat_cert.specs.Texts.{title, lines_text, IsCertificate, IsFirstFault}
use Rattle.flat_cert.proofs.Texts.{nothing_left, something_left, no_title, other_title, begun, no_lines, missing, goes_on, whole, too_many, no_line}
use Rattle.flat_cert.proofs.Texts.{one_more, longer}
use Rattle.flat_cert.proofs.reading.read_flat.Goals as goal

pub returns-in_default : goal.returns-in_default
returns-in_default c = no_title c.args.p.now c.args.text.now c.in_default.ensures.parts

pub returns-then-not-is_same : goal.returns-then-not-is_same
returns-then-not-is_same c =
    other_title c.args.p.now c.args.text.now c.in-Some.first.now c.in-Some.body.now c.in-Some.ensures.parts
    (λ same. let wrong : false ≡ true = sym c.if-not-is_same.true ∙ c.is_same.ensures.1 same in cc)

pub loop-line-init : goal.loop-line-init
loop-line-init c = record {
  certificate = subst (IsCertificate c.args.p.now) (sym c.new-list.ensures.items) (no_lines c.args.p.now c.args.text.now);
  text = subst (λ ls. c.args.text.now ≡ title ++ 10 ∷ (lines_text c.args.p.now.names ls ++ c.in-Some.body.now)) (sym c.new-list.ensures.items)
      (begun c.args.p.now c.args.text.now c.in-Some.first.now c.in-Some.body.now c.in-Some.ensures.parts (c.is_same.ensures.0 c.if-not-is_same.false));
}

pub returns-then-not-is_empty : goal.returns-then-not-is_empty
returns-then-not-is_empty c =
    goes_on c.args.p.now c.args.text.now c.loop-line.list.items c.loop-line.rest.now c.loop-line.invariant.certificate
    c.loop-line.invariant.text c.in-Some-cut.line.now c.in-Some-cut.others.now c.in-Some-cut.ensures.parts
    (c.len.result + 2 + 1) (omega (arith, c.len.ensures)) (c.is_same-in-Some-cut.ensures.0 c.if-is_same.true)
    (something_left c.in-Some-cut.others.now c.if-not-is_empty.ensures)

pub returns-then-is_same : goal.returns-then-is_same
returns-then-is_same c =
    let none : c.in-Some-cut.others.now ≡ [] = nothing_left c.in-Some-cut.others.now c.if-not-is_empty.ensures in (
      c.loop-line.invariant.certificate,
      whole c.args.p.now c.args.text.now c.loop-line.list.items c.loop-line.rest.now c.loop-line.invariant.certificate
          c.loop-line.invariant.text
          c.in-Some-cut.line.now c.in-Some-cut.others.now c.in-Some-cut.ensures.parts (c.is_same-in-Some-cut.ensures.0 c.if-is_same.true) none,
    )

pub returns-then-len : goal.returns-then-len
returns-then-len c =
    too_many c.args.p.now c.args.text.now c.loop-line.list.items c.loop-line.rest.now c.loop-line.invariant.certificate
    c.loop-line.invariant.text c.in-Some-cut.line.now c.in-Some-cut.others.now c.in-Some-cut.ensures.parts
    (c.len.result + 2) (omega (arith, c.len.ensures)) (λ same. let wrong : false ≡ true = sym c.if-is_same.false ∙ c.is_same-in-Some-cut.ensures.1 same in cc)
    (omega (arith, c.if-len.true, c.len-in-Some-cut.ensures))

pub returns-in_default-line_of : goal.returns-in_default-line_of
returns-in_default-line_of c =
    no_line c.args.p.now c.args.text.now c.loop-line.list.items c.loop-line.rest.now c.loop-line.invariant.certificate
    c.loop-line.invariant.text c.in-Some-cut.line.now c.in-Some-cut.others.now c.in-Some-cut.ensures.parts
    (c.len.result + 2) (omega (arith, c.len.ensures)) (λ same. let wrong : false ≡ true = sym c.if-is_same.false ∙ c.is_same-in-Some-cut.ensures.1 same
    in cc) c.in_default-line_of.ensures

pub loop-line-preserved : goal.loop-line-preserved
loop-line-preserved c =
    let room : length c.loop-line.list.items < 1000000 = omega (arith, c.if-len.false, c.len-in-Some-cut.ensures) in
    record {
      certificate = subst (IsCertificate c.args.p.now) (sym c.in_ok-push.ensures.items)
          (one_more c.args.p.now c.args.text.now c.loop-line.list.items c.loop-line.rest.now c.loop-line.invariant.certificate
          c.loop-line.invariant.text
          c.in-Some-cut.line.now c.in-Some-cut.others.now c.in-Some-cut.ensures.parts c.in-Some-line_of.flat c.in-Some-line_of.ensures room);
      text = subst (λ ls. c.args.text.now ≡ title ++ 10 ∷ (lines_text c.args.p.now.names ls ++ c.in-Some-cut.others.now)) (sym c.in_ok-push.ensures.items)
          (longer c.args.p.now c.args.text.now c.loop-line.list.items c.loop-line.rest.now c.loop-line.invariant.certificate
          c.loop-line.invariant.text c.in-Some-cut.line.now c.in-Some-cut.others.now c.in-Some-cut.ensures.parts c.in-Some-line_of.flat
          c.in-Some-line_of.ensures room);
    }

pub returns : goal.returns
returns c =
    let number : length c.loop-line.list.items + 2 ≡ c.len-2.result + 2 = omega (arith, c.len-2.ensures) in
    subst (IsFirstFault c.args.p.now c.args.text.now) number (missing c.args.p.now c.args.text.now c.loop-line.list.items c.loop-line.rest.now
    c.loop-line.invariant.certificate c.loop-line.invariant.text c.in_default-cut.ensures.parts)
