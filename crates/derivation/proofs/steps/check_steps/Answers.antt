use Rattle.std.proofs.Common.{arith}
use Rattle.derivation.proofs.Runs.{runs_end_trivial}
use Rattle.derivation.proofs.steps.check_steps.Goals as goal

pub returns-in-0-clause-trivial : goal.returns-in-0-clause-trivial
returns-in-0-clause-trivial c =
    rw (← c.in_ok-moving.ensures)
    (runs_end_trivial c.args.p.now c.in_ok-moving.moving c.args.moves.now c.make_all.new.moving c.requires c.in_ok-make_all.ensures.ok (omega arith))
