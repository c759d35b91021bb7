use Rattle.std.proofs.Common.{sym, subst}
use Rattle.std.proofs.lemmas.Result.{err_from_is_err_and}
use Rattle.outcomes.specs.declared.tasks.Task.{Task}
use Rattle.basis_entry.specs.Entries.{vectors_of}
use Rattle.pair_book.specs.Books.{Held}
use Rattle.completion_solo.specs.Finishing.{EndsWith}
use Rattle.completion_solo.specs.Rounds.{IsFullAt}
use Rattle.completion_solo.proofs.Committing.{rest_known, closed_round, appended_round, broken_round}
use Rattle.completion_solo.proofs.Ending.{refused}
use Rattle.completion_solo.proofs.rounds.commit.Goals as goal
use Rattle.completion_solo.proofs.rounds.commit.Goals.{in-Ok+in-Closed, in-Ok+in-Appended+in_ok-push-in-Appended, in-Err}

pub commit_known-committed-requires-clause-source : goal.commit_known-committed-requires-clause-source
commit_known-committed-requires-clause-source c = rest_known c.args.book.now.source (vectors_of c.args.book.now.entries) c.args.outcome.task
    c.args.outcome.close c.requires.work.3

pub returns-in_err-push-in-Appended : goal.returns-in_err-push-in-Appended
returns-in_err-push-in-Appended c =
    let p = err_from_is_err_and c.from_residual.result c.from_residual.ensures.1 in
    rw p.1 (broken_round c.args.book.now c.commit_known-committed.new.self c.args.outcome c.in-Ok.done c.in-Appended.entry c.in-Appended.closed c.args.index.now
    c.args.stale c.known.ensures c.known-2.ensures c.requires.due c.in-Appended.is c.in-Ok.ensures)

pub full-requires-clause-full : goal.full-requires-clause-full
full-requires-clause-full c =
    let h : Held = c.args.book.now in
    let fault = c.in-Err.fault in
    let f = refused h c.args.outcome c.known.ensures c.requires.due.hand fault c.requires.work c.in-Err.ensures.0 in
    subst (λ (x : Held). IsFullAt x c.task-task.result fault) (sym c.in-Err.ensures.2) (subst (λ (z : Task). IsFullAt h z fault) (sym c.task-task.ensures.is) f)

pub returns : goal.returns
returns c = elim c.match-committed.branch [
  | in-Ok+in-Closed w ↦ rw (w.result-is, w.book-is, w.index-is) (closed_round c.args.book.now c.commit_known-committed.new.self c.args.outcome w.in-Ok.done
      c.args.index.now c.args.stale c.known.ensures c.known-2.ensures c.requires.due w.in-Closed.is w.in-Ok.ensures)
  | in-Ok+in-Appended+in_ok-push-in-Appended w ↦
      rw (w.result-is, w.book-is, w.index-is) (appended_round c.args.book.now c.commit_known-committed.new.self c.args.outcome w.in-Ok.done w.in-Appended.entry
      w.in-Appended.closed c.args.index.now c.args.stale c.known.ensures c.known-2.ensures c.requires.due w.in-Appended.is w.in-Ok.ensures
      w.push.new.self w.lead.result w.lead.ensures.is w.in_ok-push-in-Appended.ensures.ok)
  | in-Err w ↦ rw (w.result-is, w.book-is) (subst (λ (x : Held). EndsWith x.source x w.full.result w.full.new.book) w.in-Err.ensures.2 w.full.ensures)
]
