use Rattle.std.proofs.Common.{rules, ◌≡◌, ◌-◌, ◌∙◌, true, false, sym}
use Rattle.report_text.proofs.Telling.{nothing_closes, reply_closes, on_map}
use Rattle.report_text.proofs.closing.put_if_open.Goals as goal

pub returns-then-not-is_open-clause-text : goal.returns-then-not-is_open-clause-text
returns-then-not-is_open-clause-text g c = λ q k a question kept h.
    let closed : c.is_open.result ≡ false = search rules in
    nothing_closes c.args.log.now.pres c.args.log.now.entries c.args.log.now.seal c.args.session.now
    c.requires.replied (c.args.number - 1) q k a question kept h (g.K.Sink.taken c.args.out.now) c.args.number (sym (c.is_open.ensures k kept) ∙ closed)

pub returns-clause-text : goal.returns-clause-text
returns-clause-text g c = λ q k a question kept h.
    let opened : c.is_open.result ≡ true = search rules in
    reply_closes c.args.log.now.pres c.args.log.now.entries c.args.log.now.seal c.args.session.now c.requires.replied
    (c.args.number - 1) q k a question kept h (g.K.Sink.taken c.args.out.now) (g.K.Sink.taken c.put_answer.new.out) c.args.number c.put_answer.result
    (sym (c.is_open.ensures k kept) ∙ opened) (λ x is. c.put_answer.ensures.text q x question is)

pub returns-clause-told : goal.returns-clause-told
returns-clause-told g c = on_map c.put_answer.result c.put_answer.ensures.told (λ f q k question kept left. f q question)
