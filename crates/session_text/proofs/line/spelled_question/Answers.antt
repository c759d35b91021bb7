use Rattle.std.proofs.Common.{rules, drop}
use Rattle.session_text.specs.Reading.{question_at, room_at, letters_at}
use Rattle.session_text.proofs.line.spelled_question.Goals as goal

pub returns-clause-exact : goal.returns-clause-exact
unfolding question_at room_at letters_at
returns-clause-exact c = (drop c.asked.new.reader.at c.args.line.now, search rules)

pub returns-then-is_passed_by-clause-exact : goal.returns-then-is_passed_by-clause-exact
unfolding question_at room_at letters_at
returns-then-is_passed_by-clause-exact c = search rules
