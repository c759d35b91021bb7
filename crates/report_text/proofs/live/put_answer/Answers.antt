use Rattle.std.proofs.Common.{refl, rules, ◌≡◌, ◌++◌, ◌-◌, ℕ, List, length, ap, ◌∙◌}
use Rattle.std.proofs.lemmas.Result.{err_from_is_err_and}
use Rattle.report_lines.specs.declared.lines.Line.TheVariants as lines
use Rattle.report_lines.specs.declared.lines.QuestionNumber.{QuestionNumber}
use Rattle.report_lines.specs.Texts.{line_text, lines_text}
use Rattle.session_text.proofs.QuestionLemmas.{written_is_over}
use Rattle.session_core.specs.Questions.{CanBeAsked}
use Rattle.basis_entry.proofs.Vectors.{are_entries}
use Rattle.basis_entry.specs.Entries.{vectors_of}
use Rattle.basis_entry.specs.Items.{seal_below, vectors_below}
use Rattle.report_text.specs.Histories.{live_lines}
use Rattle.basis_entry.proofs.Firsts.{entries_counted}
use Rattle.report_text.proofs.Lists.{at_place, vectors_over, same_item}
use Rattle.report_text.proofs.Telling.{live_stops, live_puts}
use Rattle.report_text.proofs.Verdicts.{verdict_over, yes_is_shown}
use Rattle.report_text.proofs.Written.{stops_at_once}
use Rattle.report_text.proofs.live.put_answer.Goals as goal

pub verdict_of-requires-clause-asked : goal.verdict_of-requires-clause-asked
verdict_of-requires-clause-asked g c = at_place (CanBeAsked c.args.log.now.pres) c.args.session.now.questions (c.args.number - 1)
    c.question-question.result.now c.requires.replied.asked c.question-question.ensures

pub verdict_of-requires-clause-reply : goal.verdict_of-requires-clause-reply
verdict_of-requires-clause-reply g c = c.requires.replied.each (c.args.number - 1) c.question-question.result.now c.args.kept c.question-question.ensures
    c.requires.kept

pub returns-in_err-verdict-clause-text : goal.returns-in_err-verdict-clause-text
returns-in_err-verdict-clause-text g c = λ q a read h.
    let p = err_from_is_err_and c.from_residual.result c.from_residual.ensures.1 in
    rw p.1 (stops_at_once (g.K.Sink.taken c.args.out.now) (lines_text c.args.log.now.pres (live_lines c.args.session.now.number c.args.number a)))

pub put_live-requires-clause-question : goal.put_live-requires-clause-question
put_live-requires-clause-question g c =
    let h : CanBeAsked c.args.log.now.pres c.question-question.result.now =
    at_place (CanBeAsked c.args.log.now.pres) c.args.session.now.questions (c.args.number - 1) c.question-question.result.now c.requires.replied.asked
    c.question-question.ensures in
    rw c.pres-p.ensures.is (written_is_over c.args.log.now.pres c.question-question.result.now h.0)

pub put_live-requires-clause-verdict : goal.put_live-requires-clause-verdict
put_live-requires-clause-verdict g c =
    let h : CanBeAsked c.args.log.now.pres c.question-question.result.now =
    at_place (CanBeAsked c.args.log.now.pres) c.args.session.now.questions (c.args.number - 1) c.question-question.result.now c.requires.replied.asked
    c.question-question.ensures in
    rw c.pres-p.ensures.is (verdict_over c.args.log.now.pres (vectors_below c.args.log.now.entries c.args.kept.front)
    (seal_below c.args.log.now.entries c.args.log.now.seal c.args.kept.front) c.question-question.result.now
    c.in_ok-verdict.verdict h
    (entries_counted c.args.kept.front (vectors_of c.args.log.now.entries) c.args.log.now.entries
    refl (are_entries c.args.log.now.entries c.known.ensures))
    (vectors_over (length c.args.log.now.pres.names) c.args.kept.front c.args.log.now.entries c.pres-p.ensures.log.over) c.in_ok-verdict.ensures)

pub returns-in_err-put_live-clause-text : goal.returns-in_err-put_live-clause-text
returns-in_err-put_live-clause-text g c = λ q a read h.
    let p = err_from_is_err_and c.from_residual-in_err-put_live.result c.from_residual-in_err-put_live.ensures.1 in
    rw p.1 (stops_at_once (g.K.Sink.taken c.args.out.now) (lines_text c.args.log.now.pres (live_lines c.args.session.now.number c.args.number a)))

pub returns-in_err-put_with_end-clause-text : goal.returns-in_err-put_with_end-clause-text
returns-in_err-put_with_end-clause-text g c = λ q a read h.
    let p = err_from_is_err_and c.from_residual-in_err-put_with_end.result c.from_residual-in_err-put_with_end.ensures.1 in
    let numbers : c.new-at.result ≡ record { session = c.args.session.now.number; number = c.args.number } = search rules in
    let text : c.put_live.new.out.items ≡ line_text c.args.log.now.pres (lines.Live c.args.session.now.number c.args.number c.args.kept.front
    c.question-question.result.now c.in_ok-verdict.verdict) =
    (rw c.pres-p.ensures.is at c.in_ok-put_live.ensures) ∙ ap (λ (t : List ℕ). t ++ line_text c.args.log.now.pres
    (lines.Live c.new-at.result.session c.new-at.result.number c.args.kept.front c.question-question.result.now c.in_ok-verdict.verdict))
    c.new-line.ensures.items
    ∙ ap (λ (at : QuestionNumber). line_text c.args.log.now.pres (lines.Live at.session at.number c.args.kept.front c.question-question.result.now
    c.in_ok-verdict.verdict)) numbers in
    rw p.1 (live_stops c.args.log.now.pres c.args.log.now.entries c.args.log.now.seal c.args.session.now.number
    c.args.number c.question-question.result.now q (same_item c.args.session.now.questions (c.args.number - 1) c.question-question.result.now q
    c.question-question.ensures read)
    c.in_ok-verdict.verdict c.put_live.new.out.items c.args.kept a h c.in_ok-verdict.ensures text (g.K.Sink.taken c.args.out.now)
    (g.K.Sink.taken c.put_with_end.new.out) c.in_err-put_with_end.ensures.text)

pub put_proofs-requires-clause-asked : goal.put_proofs-requires-clause-asked
put_proofs-requires-clause-asked g c = at_place (CanBeAsked c.args.log.now.pres) c.args.session.now.questions (c.args.number - 1)
    c.question-question.result.now c.requires.replied.asked c.question-question.ensures

pub put_proofs-requires-clause-shown : goal.put_proofs-requires-clause-shown
put_proofs-requires-clause-shown g c =
    yes_is_shown c.args.log.now.pres (vectors_below c.args.log.now.entries c.args.kept.front)
    (seal_below c.args.log.now.entries c.args.log.now.seal c.args.kept.front) c.question-question.result.now
    c.in_ok-verdict.verdict c.in_ok-verdict.ensures

pub returns-clause-text : goal.returns-clause-text
returns-clause-text g c = λ q a read h.
    let numbers : c.new-at.result ≡ record { session = c.args.session.now.number; number = c.args.number } = search rules in
    let text : c.put_live.new.out.items ≡ line_text c.args.log.now.pres (lines.Live c.args.session.now.number c.args.number c.args.kept.front
    c.question-question.result.now c.in_ok-verdict.verdict) =
    (rw c.pres-p.ensures.is at c.in_ok-put_live.ensures) ∙ ap (λ (t : List ℕ). t ++ line_text c.args.log.now.pres
    (lines.Live c.new-at.result.session c.new-at.result.number c.args.kept.front c.question-question.result.now c.in_ok-verdict.verdict))
    c.new-line.ensures.items
    ∙ ap (λ (at : QuestionNumber). line_text c.args.log.now.pres (lines.Live at.session at.number c.args.kept.front c.question-question.result.now
    c.in_ok-verdict.verdict)) numbers in
    live_puts c.args.log.now.pres c.args.log.now.entries c.args.log.now.seal c.args.session.now.number c.args.number
    c.question-question.result.now q (same_item c.args.session.now.questions (c.args.number - 1) c.question-question.result.now q
    c.question-question.ensures read)
    c.in_ok-verdict.verdict c.put_live.new.out.items c.args.kept a h c.in_ok-verdict.ensures text (g.K.Sink.taken c.args.out.now)
    (g.K.Sink.taken c.put_with_end.new.out) (g.K.Sink.taken c.put_proofs.new.out) c.put_proofs.result
    c.in_ok-put_with_end.ensures.text c.put_proofs.ensures.text
