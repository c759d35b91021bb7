use Rattle.step_text.proofs.ReadingBack.{steps_back}
use Rattle.step_text.proofs.list.write_steps.Goals as goal

pub returns-clause-read_back : goal.returns-clause-read_back
returns-clause-read_back c = λ steps. steps_back c.args.p.now c.args.steps.now c.put_steps.new.out.items c.known.ensures steps
    (rw c.new-out.ensures.items at c.in_ok-put_steps.ensures)
