use Rattle.std.proofs.Common.{◌≡◌, ◌∙◌, sym, true, false}
use Rattle.session_text.proofs.QuestionLemmas.{written_is_over}
use Rattle.session_text.proofs.QuestionBack.{refused, other, same_text}
use Rattle.session_text.proofs.one_question.read_question.Goals as goal

pub returns-in-Err-Text : goal.returns-in-Err-Text
returns-in-Err-Text c =
    refused c.args.p.now c.args.text.now _ c.in-Err-Text.field-0 c.in-Err-Text.field-0-0 c.known.ensures c.new.ensures c.in-Err-Text.field-0-is
    c.in-Err-Text.ensures.exact

pub write_question-requires : goal.write_question-requires
write_question-requires c = written_is_over c.args.p.now c.in-Ok.question c.in-Ok.ensures.written

pub returns-else-eq : goal.returns-else-eq
returns-else-eq c =
    other c.args.p.now c.args.text.now _ c.in-Ok.question c.in_ok-written.written.items c.known.ensures c.new.ensures c.in-Ok.ensures.exact
    c.in_ok-written.ensures.text
    (λ same. let t = same_text c.as_slice.result.now c.args.text.now (c.as_slice.ensures.value ∙ same)
    in let f : true ≡ false = sym (c.eq.ensures ∙ t) ∙ c.if-eq.false in cc)
