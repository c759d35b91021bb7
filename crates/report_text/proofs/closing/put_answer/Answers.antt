use Rattle.std.proofs.Common.{refl, rules, ◌≡◌, ◌++◌, ◌-◌, ℕ, List, Some, ap, subst, ◌∙◌}
use Rattle.std.proofs.lemmas.Result.{err_from_is_err_and}
use Rattle.report_lines.specs.declared.lines.Line.TheVariants as lines
use Rattle.report_lines.specs.declared.lines.QuestionNumber.{QuestionNumber}
use Rattle.report_lines.specs.Texts.{line_text, lines_text}
use Rattle.session_text.proofs.QuestionLemmas.{written_is_over}
use Rattle.session_core.specs.Questions.{CanBeAsked}
use Rattle.basis_entry.proofs.Vectors.{are_entries}
use Rattle.basis_entry.specs.Entries.{vectors_of}
use Rattle.report_text.specs.Closing.{HasClosing}
use Rattle.report_text.specs.Histories.{closing_lines}
use Rattle.report_text.proofs.Lists.{at_place, same_item}
use Rattle.report_text.proofs.Telling.{final_verdict, final_over, final_shown, reply_stops, reply_puts, closing_there, on_ok}
use Rattle.report_text.proofs.Written.{stops_at_once}
use Rattle.report_text.proofs.closing.put_answer.Goals as goal

pub verdict-requires-clause-question : goal.verdict-requires-clause-question
verdict-requires-clause-question g c = rw c.pres-p.ensures.is (at_place (CanBeAsked c.args.log.now.pres) c.args.session.now.questions
    (c.args.number - 1) c.question-question.result.now c.requires.asked c.question-question.ensures)

pub returns-in_err-verdict-clause-text : goal.returns-in_err-verdict-clause-text
returns-in_err-verdict-clause-text g c = λ q r read h.
    let p = err_from_is_err_and c.from_residual.result c.from_residual.ensures.1 in
    rw p.1 (stops_at_once (g.K.Sink.taken c.args.out.now) (lines_text c.args.log.now.pres (closing_lines c.args.session.now.number c.args.number q (Some r))))

pub put_closing-requires-clause-question : goal.put_closing-requires-clause-question
put_closing-requires-clause-question g c =
    let h : CanBeAsked c.args.log.now.pres c.question-question.result.now =
    at_place (CanBeAsked c.args.log.now.pres) c.args.session.now.questions (c.args.number - 1) c.question-question.result.now c.requires.asked
    c.question-question.ensures in
    rw c.pres-p.ensures.is (written_is_over c.args.log.now.pres c.question-question.result.now h.0)

pub put_closing-requires-clause-verdict : goal.put_closing-requires-clause-verdict
put_closing-requires-clause-verdict g c =
    let h : CanBeAsked c.args.log.now.pres c.question-question.result.now =
    at_place (CanBeAsked c.args.log.now.pres) c.args.session.now.questions (c.args.number - 1) c.question-question.result.now c.requires.asked
    c.question-question.ensures in
    rw c.pres-p.ensures.is (final_over c.args.log.now.pres (vectors_of c.args.log.now.entries) c.args.log.now.entries
    c.args.log.now.seal refl c.question-question.result.now c.in_ok-verdict.verdict h
    (are_entries c.args.log.now.entries c.known.ensures) c.pres-p.ensures.log.over (rw c.pres-p.ensures.is at c.in_ok-verdict.ensures.is))

pub returns-in_err-put_closing-clause-text : goal.returns-in_err-put_closing-clause-text
returns-in_err-put_closing-clause-text g c = λ q r read h.
    let p = err_from_is_err_and c.from_residual-in_err-put_closing.result c.from_residual-in_err-put_closing.ensures.1 in
    rw p.1 (stops_at_once (g.K.Sink.taken c.args.out.now) (lines_text c.args.log.now.pres (closing_lines c.args.session.now.number c.args.number q (Some r))))

pub returns-in_err-put_with_end-clause-text : goal.returns-in_err-put_with_end-clause-text
returns-in_err-put_with_end-clause-text g c = λ q r read h.
    let p = err_from_is_err_and c.from_residual-in_err-put_with_end.result c.from_residual-in_err-put_with_end.ensures.1 in
    let numbers : c.new-at.result ≡ record { session = c.args.session.now.number; number = c.args.number } = search rules in
    let text : c.put_closing.new.out.items ≡ line_text c.args.log.now.pres (lines.Close c.args.session.now.number c.args.number c.question-question.result.now
    c.in_ok-verdict.verdict) =
    (rw c.pres-p.ensures.is at c.in_ok-put_closing.ensures)
    ∙ ap (λ (t : List ℕ). t ++ line_text c.args.log.now.pres (lines.Close c.new-at.result.session c.new-at.result.number c.question-question.result.now
    c.in_ok-verdict.verdict)) c.new-line.ensures.items
    ∙ ap (λ (at : QuestionNumber). line_text c.args.log.now.pres (lines.Close at.session at.number c.question-question.result.now
    c.in_ok-verdict.verdict)) numbers in
    rw p.1 (reply_stops c.args.log.now.pres c.args.log.now.entries c.args.log.now.seal c.args.session.now.number
    c.args.number c.question-question.result.now q (same_item c.args.session.now.questions (c.args.number - 1) c.question-question.result.now q
    c.question-question.ensures read)
    c.in_ok-verdict.verdict c.put_closing.new.out.items r h (final_verdict c.args.log.now.pres (vectors_of c.args.log.now.entries)
    c.args.log.now.entries c.args.log.now.seal refl
    c.question-question.result.now c.in_ok-verdict.verdict (rw c.pres-p.ensures.is at c.in_ok-verdict.ensures.is)) text
    (g.K.Sink.taken c.args.out.now) (g.K.Sink.taken c.put_with_end.new.out) c.in_err-put_with_end.ensures.text)

pub put_proofs-requires-clause-asked : goal.put_proofs-requires-clause-asked
put_proofs-requires-clause-asked g c = at_place (CanBeAsked c.args.log.now.pres) c.args.session.now.questions (c.args.number - 1)
    c.question-question.result.now c.requires.asked c.question-question.ensures

pub put_proofs-requires-clause-shown : goal.put_proofs-requires-clause-shown
put_proofs-requires-clause-shown g c =
    final_shown c.args.log.now.pres (vectors_of c.args.log.now.entries) c.args.log.now.entries
    c.args.log.now.seal refl c.question-question.result.now c.in_ok-verdict.verdict
    (rw c.pres-p.ensures.is at c.in_ok-verdict.ensures.is)
    c.front.result c.front.ensures.is

pub returns-clause-text : goal.returns-clause-text
returns-clause-text g c = λ q r read h.
    let numbers : c.new-at.result ≡ record { session = c.args.session.now.number; number = c.args.number } = search rules in
    let text : c.put_closing.new.out.items ≡ line_text c.args.log.now.pres (lines.Close c.args.session.now.number c.args.number c.question-question.result.now
    c.in_ok-verdict.verdict) =
    (rw c.pres-p.ensures.is at c.in_ok-put_closing.ensures)
    ∙ ap (λ (t : List ℕ). t ++ line_text c.args.log.now.pres (lines.Close c.new-at.result.session c.new-at.result.number c.question-question.result.now
    c.in_ok-verdict.verdict)) c.new-line.ensures.items
    ∙ ap (λ (at : QuestionNumber). line_text c.args.log.now.pres (lines.Close at.session at.number c.question-question.result.now
    c.in_ok-verdict.verdict)) numbers in
    reply_puts c.args.log.now.pres c.args.log.now.entries c.args.log.now.seal c.args.session.now.number c.args.number
    c.question-question.result.now q (same_item c.args.session.now.questions (c.args.number - 1) c.question-question.result.now q
    c.question-question.ensures read)
    c.in_ok-verdict.verdict c.put_closing.new.out.items r h (final_verdict c.args.log.now.pres (vectors_of c.args.log.now.entries)
    c.args.log.now.entries c.args.log.now.seal refl
    c.question-question.result.now c.in_ok-verdict.verdict (rw c.pres-p.ensures.is at c.in_ok-verdict.ensures.is)) text
    (g.K.Sink.taken c.args.out.now) (g.K.Sink.taken c.put_with_end.new.out) (g.K.Sink.taken c.put_proofs.new.out) c.put_proofs.result c.front.result
    c.front.ensures.is c.in_ok-put_with_end.ensures.text c.put_proofs.ensures.text

pub returns-clause-told : goal.returns-clause-told
returns-clause-told g c = on_ok c.put_proofs.result (λ q read.
    subst (HasClosing c.args.log.now.pres c.args.log.now.entries c.args.log.now.seal)
    (same_item c.args.session.now.questions (c.args.number - 1) c.question-question.result.now q c.question-question.ensures read)
    (closing_there c.args.log.now.pres (vectors_of c.args.log.now.entries) c.args.log.now.entries
    c.args.log.now.seal refl c.question-question.result.now c.in_ok-verdict.verdict
    (rw c.pres-p.ensures.is at c.in_ok-verdict.ensures.is)))
