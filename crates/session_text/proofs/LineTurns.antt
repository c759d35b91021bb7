-- Reading one line of a session.
use Rattle.std.proofs.Common.{◌≡◌, ℕ, true, false, List, [], ◌∷◌, ◌++◌, Ok, Err, refl}
use Rattle.word_text.specs.Machine.{Find}
use Rattle.presentation.specs.Line.{is_end}
use Rattle.session_text.specs.declared.question.Question.{Question}
use Rattle.session_text.specs.declared.fault.SessionFault.{SessionFault}
use Rattle.session_text.specs.declared.fault.SessionFault.TheVariants.{Text, ImageTooLong}
use Rattle.session_text.specs.declared.fault.SessionFault.TheVariants as faults
use Rattle.session_text.specs.Reading.{line_question, line_questions, ReadsQuestion, ReadsLine}

-- blanks alone
pub blank : (find : Find) (number : ℕ) (before : List Question) (line : List ℕ) → is_end line ≡ true → line_questions find number before line ≡ Ok before
blank find number before line e = rw e refl

-- a question
pub one_more : (find : Find) (number : ℕ) (before : List Question) (line : List ℕ) (q : Question) → is_end line ≡ false
    → line_question find number before line ≡ Ok q → line_questions find number before line ≡ Ok (before ++ q ∷ [])
one_more find number before line q e r = rw (e, r) refl

-- no question, for a fault or for want of memory
pub refused : (find : Find) (number : ℕ) (before after : List Question) (line : List ℕ) (e : SessionFault) → is_end line ≡ false
    → ReadsQuestion (line_question find number before line) (Err e) → ReadsLine after (line_questions find number before line) (Err e)
refused find number before after line faults.NoMemory some r = tt
refused find number before after line (Text f) some r = rw (some, r) refl
refused find number before after line (ImageTooLong l j) some r = rw (some, r) refl
