use Rattle.std.proofs.Common.{◌≡◌, ◌++◌, ◌∙◌, List, ap, subst}
use Rattle.std.specs.Arc.{arc_value}
use Rattle.std.proofs.lemmas.Result.{IfOk-weaker}
use Rattle.presentation.specs.Presented.{Presented}
use Rattle.session_text.specs.declared.question.Question.{Question}
use Rattle.pair_book.specs.declared.limits.Limits.{Limits}
use Rattle.pair_book.specs.Books.{Held}
use Rattle.report_text.specs.Reports.{reported}
use Rattle.legal_report.specs.Legal.{IsLegal}
use Rattle.legal_report.specs.Gathering.{questions_of}
use Rattle.legal_report.proofs.Actors.{actors_ask, questions_are}
use Rattle.legal_report.proofs.gathering.gather.Goals as goal

pub reported_on-requires-clause-sessions : goal.reported_on-requires-clause-sessions
reported_on-requires-clause-sessions c =
    actors_ask (arc_value c.args.p.now) c.args.limits c.args.book c.in_ok-book.book c.in_ok-end.end c.finished.new.book c.args.actors.items
    c.in_ok-sessions.sessions.items c.in_ok-book.ensures.same c.in_ok-book.ensures.source c.in_ok-end.ensures.completed c.in_ok-end.ensures.books.1
    c.requires.actors c.in_ok-sessions.ensures

pub returns-clause-legal : goal.returns-clause-legal
returns-clause-legal c =
    let p : Presented = arc_value c.args.p.now in
    let new : Held = c.finished.new.book in
    let limited : new.limits ≡ c.args.limits = c.in_ok-end.ensures.completed.limits ∙ c.in_ok-book.ensures.limits in
    let asked = questions_are new.entries new.seal c.args.actors.items c.in_ok-sessions.sessions.items c.in_ok-sessions.ensures in
    IfOk-weaker c.reported_on.result _ _ (λ r legal.
    subst (λ (qs : List (List Question)). IsLegal p c.args.limits qs (reported r)) asked
    (subst (λ (l : Limits). IsLegal p l (questions_of c.in_ok-sessions.sessions.items) (reported r)) limited legal)) c.reported_on.ensures.legal

pub returns-clause-begins : goal.returns-clause-begins
returns-clause-begins c =
    let done = c.in_ok-end.ensures.completed in
    IfOk-weaker c.reported_on.result _ _ (λ r is source limited.
    let same = c.in_ok-book.ensures.same source limited in
    (done.more, is ∙ done.entries ∙ ap (λ (h : Held). h.entries ++ done.more) same)) c.reported_on.ensures.entries
