use Rattle.std.proofs.Common.{take}
use Rattle.std.specs.List.{AllByRecursion}
use Rattle.session_text.specs.Questions.{HasSource}
use Rattle.session_text.proofs.question.Question.all_known.Given as goal

abbrev pub invariant-loop-question : goal.invariant-loop-question
invariant-loop-question l = AllByRecursion HasSource (take l.question-index l.questions)
