use Rattle.std.proofs.Common.{rules, ◌≡◌, ◌-◌, ℕ, None, Some, slice_get, sym, ◌∙◌}
use Rattle.basis_entry.specs.Seals.{item_count}
use Rattle.session_core.specs.Questions.{CanBeAsked}
use Rattle.report_text.proofs.Lists.{at_place}
use Rattle.legal_report.specs.Last.{kind_kept}
use Rattle.legal_report.proofs.Lasting.{some_kept, none_kept, kept_last, asked_last}
use Rattle.legal_report.proofs.last.last_kind.Goals as goal

pub returns-in-Some : goal.returns-in-Some
returns-in-Some g c =
    let i : ℕ = c.args.number - 1 in
    let all : ℕ = item_count (g.F.Front.entries c.args.list.now) (g.F.Front.seal c.args.list.now) in
    let is : kind_kept all (slice_get c.args.session.now.kept i) ≡ Some c.in-Some.kind = search rules in
    let kept = some_kept all (slice_get c.args.session.now.kept i) c.in-Some.kind is in
    kept_last c.args.p.now (g.F.Front.entries c.args.list.now) (g.F.Front.seal c.args.list.now) c.args.session.now c.requires.replied i c.in-Some.kind
    kept.k kept.kept kept.last kept.is

pub verdict-requires-clause-question : goal.verdict-requires-clause-question
verdict-requires-clause-question g c =
    at_place (CanBeAsked c.args.p.now) c.args.session.now.questions (c.args.number - 1) c.question.result.now c.requires.replied.asked c.question.ensures

pub returns-in_ok-verdict-in-None : goal.returns-in_ok-verdict-in-None
returns-in_ok-verdict-in-None g c =
    let i : ℕ = c.args.number - 1 in
    let all : ℕ = item_count (g.F.Front.entries c.args.list.now) (g.F.Front.seal c.args.list.now) in
    let is : kind_kept all (slice_get c.args.session.now.kept i) ≡ None = search rules in
    asked_last c.args.p.now (g.F.Front.entries c.args.list.now) (g.F.Front.seal c.args.list.now) c.args.session.now c.requires.replied i c.of-in-None.result
    (g.F.VecList.vectors c.args.list.now) c.question.result.now c.in_ok-verdict-in-None.verdict (search rules) c.question.ensures
    (λ k kept. none_kept all (slice_get c.args.session.now.kept i) is k kept) c.in_ok-verdict-in-None.ensures.is (search rules)
