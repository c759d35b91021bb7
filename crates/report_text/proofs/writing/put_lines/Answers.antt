use Rattle.std.proofs.Common.{rules, ◌≡◌, ◌++◌, ◌∷◌, [], List, ℕ, subst}
use Rattle.std.proofs.lemmas.Result.{err_from_is_err_and}
use Rattle.report_lines.specs.declared.lines.Line.TheVariants as lines
use Rattle.report_lines.specs.Texts.{line_text}
use Rattle.report_text.specs.Reports.{reported_of}
use Rattle.report_text.specs.Writing.{Puts}
use Rattle.report_text.proofs.Telling.{on_ok}
use Rattle.report_text.proofs.Whole.{head_stops, items_stop, end_stops, closings_halt, behind_closings, done_puts}
use Rattle.report_text.proofs.Written.{goes_halts}
use Rattle.report_text.proofs.writing.put_lines.Goals as goal

pub returns-in_err-put_head-clause-text : goal.returns-in_err-put_head-clause-text
returns-in_err-put_head-clause-text g c = λ h is.
    let q = err_from_is_err_and c.from_residual.result c.from_residual.ensures.1 in
    rw q.1 (head_stops (reported_of c.args.log.now c.args.end.now c.args.sessions.now) h is (g.K.Sink.taken c.args.out.now)
    (g.K.Sink.taken c.put_head.new.out) c.in_err-put_head.ensures.text)

pub returns-in_err-put_items-clause-text : goal.returns-in_err-put_items-clause-text
returns-in_err-put_items-clause-text g c = λ h is.
    let q = err_from_is_err_and c.from_residual-in_err-put_items.result c.from_residual-in_err-put_items.ensures.1 in
    rw q.1 (items_stop (reported_of c.args.log.now c.args.end.now c.args.sessions.now) h is (g.K.Sink.taken c.args.out.now)
    (g.K.Sink.taken c.put_head.new.out) c.in_ok-put_head.ensures.text (g.K.Sink.taken c.put_items.new.out)
    (c.in_err-put_items.ensures.text h.sessions is.answered))

pub returns-in_err-put_end-clause-text : goal.returns-in_err-put_end-clause-text
returns-in_err-put_end-clause-text g c = λ h is.
    let q = err_from_is_err_and c.from_residual-in_err-put_end.result c.from_residual-in_err-put_end.ensures.1 in
    rw q.1 (end_stops (reported_of c.args.log.now c.args.end.now c.args.sessions.now) h is (g.K.Sink.taken c.args.out.now)
    (g.K.Sink.taken c.put_head.new.out) c.in_ok-put_head.ensures.text (g.K.Sink.taken c.put_items.new.out)
    (c.in_ok-put_items.ensures.text h.sessions is.answered) (g.K.Sink.taken c.put_end.new.out) c.in_err-put_end.ensures.text)

pub returns-in_err-put_closings-clause-text : goal.returns-in_err-put_closings-clause-text
returns-in_err-put_closings-clause-text g c = λ h is.
    let q = err_from_is_err_and c.from_residual-in_err-put_closings.result c.from_residual-in_err-put_closings.ensures.1 in
    rw q.1 (closings_halt (reported_of c.args.log.now c.args.end.now c.args.sessions.now) h is (g.K.Sink.taken c.args.out.now)
    (g.K.Sink.taken c.put_head.new.out) c.in_ok-put_head.ensures.text (g.K.Sink.taken c.put_items.new.out)
    (c.in_ok-put_items.ensures.text h.sessions is.answered) (g.K.Sink.taken c.put_end.new.out) c.in_ok-put_end.ensures.text
    (g.K.Sink.taken c.put_closings.new.out) (c.in_err-put_closings.ensures.text h.sessions is.answered))

pub returns-in_err-last-clause-text : goal.returns-in_err-last-clause-text
returns-in_err-last-clause-text g c = λ h is.
    let q = err_from_is_err_and c.from_residual-in_err-last.result c.from_residual-in_err-last.ensures.1 in
    rw q.1 (goes_halts (g.K.Sink.taken c.args.out.now) (g.K.Sink.taken c.put_closings.new.out) _ _
    (behind_closings (reported_of c.args.log.now c.args.end.now c.args.sessions.now) h is (g.K.Sink.taken c.args.out.now)
    (g.K.Sink.taken c.put_head.new.out) c.in_ok-put_head.ensures.text (g.K.Sink.taken c.put_items.new.out)
    (c.in_ok-put_items.ensures.text h.sessions is.answered) (g.K.Sink.taken c.put_end.new.out) c.in_ok-put_end.ensures.text
    (g.K.Sink.taken c.put_closings.new.out) (c.in_ok-put_closings.ensures.text h.sessions is.answered)))

pub returns-clause-text : goal.returns-clause-text
returns-clause-text g c = λ h is.
    let line : c.in_ok-last.last.items ≡ line_text c.args.log.now.pres lines.Done = search rules in
    done_puts (reported_of c.args.log.now c.args.end.now c.args.sessions.now) h is (g.K.Sink.taken c.args.out.now)
    (g.K.Sink.taken c.put_head.new.out) c.in_ok-put_head.ensures.text (g.K.Sink.taken c.put_items.new.out)
    (c.in_ok-put_items.ensures.text h.sessions is.answered) (g.K.Sink.taken c.put_end.new.out) c.in_ok-put_end.ensures.text
    (g.K.Sink.taken c.put_closings.new.out) (c.in_ok-put_closings.ensures.text h.sessions is.answered) (g.K.Sink.taken c.put_with_end.new.out)
    c.put_with_end.result
    (subst (λ (t : List ℕ). Puts (g.K.Sink.taken c.put_closings.new.out) (t ++ 10 ∷ []) c.put_with_end.result (g.K.Sink.taken c.put_with_end.new.out)) line
    c.put_with_end.ensures.text)

pub returns-clause-told : goal.returns-clause-told
returns-clause-told g c = on_ok c.put_with_end.result c.in_ok-put_closings.ensures.told
