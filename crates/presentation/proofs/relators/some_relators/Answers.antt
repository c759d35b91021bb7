use Rattle.std.proofs.Common.{◌≤◌, ◌<◌, [], ◌∷◌, ◌++◌, map, length, string_bytes, arith, ap}
use Rattle.std.proofs.lemmas.Result.{err_from_is_err_and}
use Rattle.word_text.specs.Machine.{finding}
use Rattle.presentation.specs.declared.TheConstants.{RELATORS}
use Rattle.presentation.specs.Reading.{relators_from}
use Rattle.presentation.proofs.RelatorTurns.{more, fails, too_many, done}
use Rattle.presentation.proofs.relators.some_relators.Goals as goal

pub returns-in_err-word : goal.returns-in_err-word
returns-in_err-word c =
    let p = err_from_is_err_and c.from_residual.result c.from_residual.ensures.1 in
    let find = finding (map string_bytes c.args.names.now) in
    rw (p.1, p.2) (fails find (relators_from RELATORS find [] c.args.text.now) c.loop-relators.relators.items c.loop-relators.rest.now c.in_err-word.field-0.0
    c.in_err-word.ensures c.loop-relators.invariant)

pub returns-then-not-first_is : goal.returns-then-not-first_is
returns-then-not-first_is c =
    let find = finding (map string_bytes c.args.names.now) in
    rw c.in_ok-push.ensures.items
    (done find (relators_from RELATORS find [] c.args.text.now) c.loop-relators.relators.items c.in_ok-word.word c.loop-relators.rest.now c.in_ok-word.after.now
    c.in_ok-word.ensures (cc) c.loop-relators.invariant)

pub returns-then-len : goal.returns-then-len
returns-then-len c =
    let find = finding (map string_bytes c.args.names.now) in
    let full : RELATORS ≤ length (c.loop-relators.relators.items ++ c.in_ok-word.word ∷ []) = omega (arith, ap length c.in_ok-push.ensures.items) in
    too_many find (relators_from RELATORS find [] c.args.text.now) c.loop-relators.relators.items c.in_ok-word.word c.loop-relators.rest.now
    c.in_ok-word.after.now c.in_ok-word.ensures (cc) full c.loop-relators.invariant

pub loop-relators-preserved : goal.loop-relators-preserved
loop-relators-preserved c =
    let find = finding (map string_bytes c.args.names.now) in
    let room : length (c.loop-relators.relators.items ++ c.in_ok-word.word ∷ []) < RELATORS = omega (arith, ap length c.in_ok-push.ensures.items) in
    rw (c.in_ok-push.ensures.items, c.after_first-rest.ensures.rest)
    (more find (relators_from RELATORS find [] c.args.text.now) c.loop-relators.relators.items c.in_ok-word.word c.loop-relators.rest.now c.in_ok-word.after.now
    c.in_ok-word.ensures (cc) room c.loop-relators.invariant)
