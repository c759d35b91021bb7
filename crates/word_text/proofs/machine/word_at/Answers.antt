use Rattle.std.proofs.Common.{map, string_bytes}
use Rattle.std.proofs.lemmas.Result.{err_from_is_err_and}
use Rattle.word_text.specs.Powers.{written}
use Rattle.word_text.specs.State.{reading}
use Rattle.word_text.specs.Machine.{word_at, finding}
use Rattle.word_text.proofs.Turning.{more, fails, ends}
use Rattle.word_text.proofs.machine.word_at.Goals as goal

pub returns-in_err-ended : goal.returns-in_err-ended
returns-in_err-ended c =
    let find = finding (map string_bytes c.args.names.now) in
    let p = err_from_is_err_and c.from_residual.result c.from_residual.ensures.1 in
    rw (p.1, p.2) (fails written find (word_at find c.args.text.now) (reading c.loop-state.state) c.loop-state.rest.now c.in_err-ended.field-0.0
    c.in_err-ended.ensures.exact c.loop-state.invariant)

pub returns-then-ended : goal.returns-then-ended
returns-then-ended c =
    let find = finding (map string_bytes c.args.names.now) in
    rw (c.in_ok-word.ensures) (ends written find (word_at find c.args.text.now) (reading c.loop-state.state) (reading c.turn.new.self) c.loop-state.rest.now
    c.in_ok-ended.after.now
    (rw c.if-ended.true at c.in_ok-ended.ensures.exact) c.loop-state.invariant)

pub loop-state-preserved : goal.loop-state-preserved
loop-state-preserved c =
    let find = finding (map string_bytes c.args.names.now) in
    more written find (word_at find c.args.text.now) (reading c.loop-state.state) (reading c.turn.new.self) c.loop-state.rest.now c.in_ok-ended.after.now
    (rw c.if-ended.false at c.in_ok-ended.ensures.exact) (c.in_ok-ended.ensures.shorter c.if-ended.false) c.loop-state.invariant
