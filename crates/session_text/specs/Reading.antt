-- Reading a session: the value of each part of a line and what follows it, or the first fault; and then all its lines.
use Rattle.std.specs.Prelude.{◌≡◌, ℕ, zero, suc, ◌+◌, ◌-◌, nat_le, nat_lt, codes, List, [], ◌∷◌, ◌++◌, length, Option}
use Rattle.std.specs.Prelude.{Some, None, Result, Ok, Err, Vec, if◌then◌else◌}
use Rattle.std.specs.declared.alloc.Global.{Global}
use Rattle.free_words.specs.declared.letter.Letter.{Letter}
use Rattle.word_text.specs.declared.fault.Fault.{Fault}
use Rattle.word_text.specs.declared.fault.ReadFault.{ReadFault}
use Rattle.word_text.specs.declared.fault.ReadFault.TheVariants as reading
use Rattle.word_text.specs.declared.fault.TextKind.TheVariants.{TooManyQuestions, TooManyLetters}
use Rattle.word_text.specs.Scan.{◌>>=◌, after_blanks, due}
use Rattle.word_text.specs.Machine.{Find, finding, word_at}
use Rattle.word_text.specs.Place.{capped, on_line}
use Rattle.presentation.specs.Presented.{Presented}
use Rattle.presentation.specs.Line.{comes_next, after_mark, is_word, after_word, is_end}
use Rattle.presentation.specs.Reading.{presentation_at}
use Rattle.derivation.specs.Reading.{ending_at, lines_of}
use Rattle.session_text.specs.declared.TheConstants.{QUESTIONS, LETTERS}
use Rattle.session_text.specs.declared.fault.SessionFault.{SessionFault}
use Rattle.session_text.specs.declared.fault.SessionFault.TheVariants.{Text, ImageTooLong}
use Rattle.session_text.specs.declared.fault.SessionFault.TheVariants as faults
use Rattle.session_text.specs.declared.reading.Form.{Form}
use Rattle.session_text.specs.declared.reading.Form.TheVariants as forms
use Rattle.session_text.specs.declared.question.Question.{Question}
use Rattle.session_text.specs.declared.question.Question.TheVariants.{Trivial, Equal, Normal, Hom}
use Rattle.session_text.specs.Questions.{question_letters, session_letters, first_long}

-- the keyword at the head of a line
unfoldable pub form_at : List ℕ → Result (Form × List ℕ) Fault
form_at bs =
    if is_word (codes "trivial") bs then Ok (forms.Trivial, after_word bs)
    else if is_word (codes "equal") bs then Ok (forms.Equal, after_word bs)
    else if is_word (codes "normal") bs then Ok (forms.Normal, after_word bs)
    else if is_word (codes "hom") bs then Ok (forms.Hom, after_word bs)
    else Err (due (after_blanks bs))

-- the mark that is due
unfoldable pub mark_at : List ℕ → List ℕ → Result (Unit {0} × List ℕ) Fault
mark_at mark bs = if comes_next mark bs then Ok (tt, after_mark mark bs) else Err (due (after_blanks bs))

unfoldable pub trivial_at : Find → List ℕ → Result (Question × List ℕ) Fault
trivial_at find bs = word_at find bs >>= λ w. Ok (Trivial w.0, w.1)

-- two words with `=` between them
unfoldable pub equal_at : Find → List ℕ → Result (Question × List ℕ) Fault
equal_at find bs = do
  u ← word_at find bs
  sign ← mark_at (codes "=") u.1
  v ← word_at find sign.1
  Ok (Equal u.0 v.0, v.1)

unfoldable pub normal_at : Find → List ℕ → Result (Question × List ℕ) Fault
normal_at find bs = word_at find bs >>= λ w. Ok (Normal w.0, w.1)

-- a word behind others
unfoldable pub image_behind : Find → List (List Letter) → List ℕ → Result (List (List Letter) × List ℕ) Fault
image_behind find before bs = word_at find bs >>= λ w. Ok (before ++ w.0 ∷ [], w.1)

-- a comma, and a word behind others
unfoldable pub next_image : Find → List (List Letter) → List ℕ → Result (List (List Letter) × List ℕ) Fault
next_image find before bs = mark_at (codes ",") bs >>= λ c. image_behind find before c.1

-- so many more words behind others, each with a comma before it
abbrev pub later_images : ℕ → Find → List (List Letter) → List ℕ → Result (List (List Letter) × List ℕ) Fault
later_images zero find before bs = Ok (before, bs)
later_images (suc n) find before bs = next_image find before bs >>= λ ws. later_images n find ws.0 ws.1

-- so many words with commas between them
unfoldable pub images_at : ℕ → Find → List ℕ → Result (List (List Letter) × List ℕ) Fault
images_at n find bs = image_behind find [] bs >>= λ ws. later_images (n - 1) find ws.0 ws.1

-- a presentation, `->` and a word for each of its generators
unfoldable pub hom_at : Find → List ℕ → Result (Question × List ℕ) Fault
hom_at find bs = do
  source ← presentation_at bs
  arrow ← mark_at (codes "->") source.1
  images ← images_at (length (source.0).names) find arrow.1
  Ok (Hom source.0 images.0, images.1)

-- what stands behind the keyword of each form
abbrev pub asked_at : Find → Form → List ℕ → Result (Question × List ℕ) Fault
asked_at find forms.Trivial bs = trivial_at find bs
asked_at find forms.Equal bs = equal_at find bs
asked_at find forms.Normal bs = normal_at find bs
asked_at find forms.Hom bs = hom_at find bs

-- behind so many questions there may be another, whose keyword stands first here
unfoldable pub room_at : ℕ → List ℕ → Result (Unit {0}) Fault
room_at count bs = if nat_le QUESTIONS count then Err (record {
  kind = TooManyQuestions;
  left = length (after_blanks bs);
}) else Ok tt

-- so many letters are not too many for a session with the question whose keyword stands first here
unfoldable pub letters_at : ℕ → List ℕ → Result (Unit {0}) Fault
letters_at letters bs = if nat_lt LETTERS letters then Err (record {
  kind = TooManyLetters;
  left = length (after_blanks bs);
}) else Ok tt

-- the question that a line spells, behind so many questions with so many letters
unfoldable pub question_at : Find → ℕ → ℕ → List ℕ → Result (Question × List ℕ) Fault
question_at find count letters bs = do
  form ← form_at bs
  room ← room_at count bs
  question ← asked_at find form.0 form.1
  end ← ending_at question.1
  few ← letters_at (letters + question_letters question.0) bs
  Ok (question.0, end.1)

-- the question of the line of this number, if no relator has too long an image; relators are numbered from 1
abbrev pub fitting_by : ℕ → Question → Option ℕ → Result Question SessionFault
fitting_by number q None = Ok q
fitting_by number q (Some j) = Err (ImageTooLong number (j + 1))

abbrev pub fitting : ℕ → Question → Result Question SessionFault
fitting number q = fitting_by number q (first_long q)

-- the same of what a line spells; its fault stands in the line of this number
abbrev pub fitting_line : ℕ → List ℕ → Result (Question × List ℕ) Fault → Result Question SessionFault
fitting_line number line (Ok q) = fitting number q.0
fitting_line number line (Err e) = Err (Text (on_line line number e))

-- the question of a line behind those before it
abbrev pub line_question : Find → ℕ → List Question → List ℕ → Result Question SessionFault
line_question find number before line = fitting_line number line
    (question_at find (length before) (session_letters before) line)

-- questions and one more, or its fault
abbrev pub and_then : List Question → Result Question SessionFault → Result (List Question) SessionFault
and_then before (Ok q) = Ok (before ++ q ∷ [])
and_then before (Err f) = Err f

-- questions and that of a further line, if it has more than blanks
abbrev pub line_questions : Find → ℕ → List Question → List ℕ → Result (List Question) SessionFault
line_questions find number before line = if is_end line then Ok before else and_then before
    (line_question find number before line)

-- what comes of some questions, unless there is a fault
abbrev pub going_on : Result (List Question) SessionFault → (List Question → Result (List Question) SessionFault)
    → Result (List Question) SessionFault
going_on (Ok qs) later = later qs
going_on (Err f) later = Err f

-- the questions before these lines, of which the first has this number, and those of these lines
abbrev pub session_from : Find → ℕ → List Question → List (List ℕ) → Result (List Question) SessionFault
session_from find number before [] = Ok before
session_from find number before (l ∷ ls) = going_on (line_questions find number before l)
    (λ qs. session_from find (capped (number + 1)) qs ls)

-- the session that is the whole text, or its first fault
unfoldable pub session_text : Presented → List ℕ → Result (List Question) SessionFault
session_text p text = session_from (finding p.names) 1 [] (lines_of text)

-- what a reader of the question of this line answers, from the line's start
abbrev pub ReadsAlone : List ℕ → ℕ → Result (Question × List ℕ) Fault → Result Question ReadFault → Type 0
ReadsAlone line number read (Ok q) = (rest : List ℕ) × (read ≡ Ok (q, rest))
ReadsAlone line number read (Err reading.NoMemory) = Unit {0}
ReadsAlone line number read (Err (reading.Text f)) = (e : Fault) × (read ≡ Err e) × (f ≡ on_line line number e)

-- what a reader of one question answers, unless memory runs out
abbrev pub ReadsQuestion : Result Question SessionFault → Result Question SessionFault → Type 0
ReadsQuestion read (Ok q) = read ≡ Ok q
ReadsQuestion read (Err faults.NoMemory) = Unit {0}
ReadsQuestion read (Err (Text f)) = read ≡ Err (Text f)
ReadsQuestion read (Err (ImageTooLong l r)) = read ≡ Err (ImageTooLong l r)

-- what reading one more line answers: the questions are then those that are read, or it has the first fault
abbrev pub ReadsLine : List Question → Result (List Question) SessionFault → Result (Unit {0}) SessionFault → Type 0
ReadsLine new read (Ok done) = read ≡ Ok new
ReadsLine new read (Err faults.NoMemory) = Unit {0}
ReadsLine new read (Err (Text f)) = read ≡ Err (Text f)
ReadsLine new read (Err (ImageTooLong l r)) = read ≡ Err (ImageTooLong l r)

-- what a reader of a session answers: the questions, or the first fault
abbrev pub ReadsSession : Result (List Question) SessionFault → Result (Vec Question Global) SessionFault → Type 0
ReadsSession read (Ok questions) = read ≡ Ok questions.items
ReadsSession read (Err faults.NoMemory) = Unit {0}
ReadsSession read (Err (Text f)) = read ≡ Err (Text f)
ReadsSession read (Err (ImageTooLong l r)) = read ≡ Err (ImageTooLong l r)
