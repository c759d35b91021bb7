use Rattle.std.proofs.Common.{◌≡◌, sym, ap, ◌∙◌, decimal, true, false}
use Rattle.spelling.proofs.Numbers.{wide_is_utf8, wide_not, wide_is, same_text}
use Rattle.spelling.proofs.number.read_wide.Goals as goal

pub returns-in_default : goal.returns-in_default
returns-in_default c = λ x small e. absurd (c.in_default.ensures.cases.0 (rw e (wide_is_utf8 x small)))

pub returns-in_default-parse : goal.returns-in_default-parse
returns-in_default-parse c = λ x small e. wide_not c.in_default-parse.field-0 x c.in-Ok.digits.now small (c.in-Ok.ensures.cases.0
    ∙ e) c.in_default-parse.ensures.value.0

pub returns-else-eq : goal.returns-else-eq
returns-else-eq c = λ x small e.
    let k = wide_is c.parse.result c.in-Ok-parse.n x c.in-Ok.digits.now small (c.in-Ok.ensures.cases.0 ∙ e) c.parse.ensures.value.0 c.in-Ok-parse.is in
    let t = same_text c.as_bytes.result.now c.args.text.now (c.as_bytes.ensures.value ∙ c.format.ensures.text ∙ ap decimal k ∙ sym e) in
    let f : true ≡ false = sym (c.eq.ensures ∙ t) ∙ c.if-eq.false in cc
