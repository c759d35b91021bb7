use Rattle.std.proofs.Common.{rules, ◌≡◌, ◌<◌, ◌≤◌, length, Some, slice_get, slice_index_or}
use Rattle.std.proofs.lemmas.Option.{slice_get-get_or}
use Rattle.session_core.specs.Sessions.{SessionState}
use Rattle.legal_report.specs.Gathering.{IsAnsweredOn}
use Rattle.legal_report.proofs.Answering.{one_answered, all_answered, next_goes_on}
use Rattle.legal_report.proofs.gathering.answer.Goals as goal

pub answer_session-requires-clause-questions : goal.answer_session-requires-clause-questions
answer_session-requires-clause-questions g c =
    let now : SessionState = slice_index_or c.loop-at.sessions c.loop-at.at c.index-sessions-at.result in
    let lt : c.loop-at.at < length c.loop-at.sessions = search rules in
    let here : slice_get c.loop-at.sessions c.loop-at.at ≡ Some now = slice_get-get_or c.loop-at.sessions c.loop-at.at c.index-sessions-at.result lt in
    (next_goes_on c.args.p.now (g.F.Front.entries c.args.list.now) (g.F.Front.seal c.args.list.now) c.loop-at.at c.args.sessions.now c.loop-at.sessions now
    c.loop-at.invariant c.requires.sessions here).0

pub answer_session-requires-clause-front : goal.answer_session-requires-clause-front
answer_session-requires-clause-front g c =
    let now : SessionState = slice_index_or c.loop-at.sessions c.loop-at.at c.index-sessions-at.result in
    let lt : c.loop-at.at < length c.loop-at.sessions = search rules in
    let here : slice_get c.loop-at.sessions c.loop-at.at ≡ Some now = slice_get-get_or c.loop-at.sessions c.loop-at.at c.index-sessions-at.result lt in
    (next_goes_on c.args.p.now (g.F.Front.entries c.args.list.now) (g.F.Front.seal c.args.list.now) c.loop-at.at c.args.sessions.now c.loop-at.sessions now
    c.loop-at.invariant c.requires.sessions here).1

pub loop-at-preserved : goal.loop-at-preserved
loop-at-preserved g c =
    let now : SessionState = slice_index_or c.loop-at.sessions c.loop-at.at c.index-sessions-at.result in
    let lt : c.loop-at.at < length c.loop-at.sessions = search rules in
    let here : slice_get c.loop-at.sessions c.loop-at.at ≡ Some now = slice_get-get_or c.loop-at.sessions c.loop-at.at c.index-sessions-at.result lt in
    let on : IsAnsweredOn c.args.p.now (g.F.Front.entries c.args.list.now) (g.F.Front.seal c.args.list.now) now c.answer_session.new.session =
    c.in_ok-answer_session.ensures in
    one_answered c.args.p.now (g.F.Front.entries c.args.list.now) (g.F.Front.seal c.args.list.now) c.loop-at.at c.args.sessions.now c.loop-at.sessions now
    c.answer_session.new.session
    c.loop-at.invariant here on

pub returns : goal.returns
returns g c =
    let many : length c.loop-at.sessions ≡ length c.args.sessions.now = c.loop-at.invariant.count in
    let past : length c.args.sessions.now ≤ c.loop-at.at = search rules in
    all_answered c.args.p.now (g.F.Front.entries c.args.list.now) (g.F.Front.seal c.args.list.now) c.loop-at.at c.args.sessions.now c.loop-at.sessions
    c.loop-at.invariant past
