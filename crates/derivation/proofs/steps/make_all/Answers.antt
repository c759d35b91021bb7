use Rattle.derivation.proofs.Runs.{run_grows, run_stops}
use Rattle.derivation.proofs.steps.make_all.Goals as goal

pub returns-in-Err-clause-err : goal.returns-in-Err-clause-err
returns-in-Err-clause-err c =
    run_stops c.args.p.now c.args.moving.now c.args.moves.now c.loop-made.made c.loop-made.moving c.index-moves-made.result c.in-Err.fault c.at_move.result
    c.loop-made-test.true c.index-moves-made.is c.loop-made.invariant c.in-Err.ensures.err c.at_move.ensures

-- the run goes on by the move that was made
pub loop-made-preserved : goal.loop-made-preserved
loop-made-preserved c =
    run_grows c.args.p.now c.args.moving.now c.args.moves.now c.loop-made.made c.loop-made.moving c.make.new.self c.index-moves-made.result
    c.loop-made-test.true c.index-moves-made.is c.loop-made.invariant c.in-Ok.ensures.ok
