use Rattle.std.proofs.Common.{rules, ◌≡◌, ◌∙◌, ◌+◌, sym, ap, subst, Option}
use Rattle.std.specs.Arc.{arc_value}
use Rattle.std.proofs.lemmas.Result.{IfOk-weaker}
use Rattle.presentation.specs.Presented.{Presented}
use Rattle.basis_entry.specs.Seals.{Seal}
use Rattle.pair_book.specs.Books.{Held}
use Rattle.report_text.specs.Reports.{Reported, reported}
use Rattle.legal_report.specs.Legal.{IsLegal, seal_at}
use Rattle.legal_report.specs.Gathering.{CanGoOn, AreAnsweredOn, questions_of}
use Rattle.legal_report.proofs.Legality.{legal, can_go_on}
use Rattle.legal_report.proofs.gathering.reported_on.Goals as goal

pub answered-requires-clause-sessions : goal.answered-requires-clause-sessions
answered-requires-clause-sessions c = λ i s at.
    let p : Presented = arc_value c.args.p.now in
    let h : Held = c.args.book in
    let go : CanGoOn p h.entries h.seal s = can_go_on p h s (i + 1) c.requires.ended.source c.known.ensures (c.requires.sessions i s at) in
    search (rules, go)

pub returns-clause-legal : goal.returns-clause-legal
returns-clause-legal c =
    let p : Presented = arc_value c.args.p.now in
    let h : Held = c.args.book in
    let on : AreAnsweredOn p h.entries h.seal c.args.sessions.items c.in_ok-sessions.sessions.items = search (rules, c.in_ok-sessions.ensures) in
    let told : Option Seal → Reported = λ z. record {
      pres = p;
      entries = h.entries;
      seal = z;
      end = c.args.end;
      sessions = c.in_ok-sessions.sessions.items;
    } in
    let is : IsLegal p h.limits (questions_of c.args.sessions.items) (told h.seal) =
    legal p h.limits c.args.end h c.args.sessions.items c.in_ok-sessions.sessions.items c.requires.ended c.known.ensures c.requires.sessions on in
    let seals : told (seal_at p h.entries c.args.end) ≡ told h.seal = ap told (sym c.requires.ended.seal) in
    IfOk-weaker c.report.result _ _ (λ r e.
    let same : reported r ≡ told h.seal = e ∙ seals in
    subst (IsLegal p h.limits (questions_of c.args.sessions.items)) (sym same) is) c.report.ensures
