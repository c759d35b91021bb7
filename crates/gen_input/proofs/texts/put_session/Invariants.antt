use Rattle.std.proofs.Common.{◌≡◌, ◌++◌, ◌-◌}
use Rattle.gen_input.specs.declared.TheConstants.{QUESTIONS}
use Rattle.gen_input.specs.Texts.{lines_text}
use Rattle.gen_input.proofs.texts.put_session.Given as goal

-- what is written so far and what is still to be drawn
abbrev pub invariant-loop : goal.invariant-loop
invariant-loop l = l.out.items ++ lines_text (QUESTIONS - l.counter) l.draws.state ≡ l.initial.out.items ++ lines_text QUESTIONS l.initial.draws.state
