-- What is read of a text is a session of the grammar, with its questions.
use Rattle.std.proofs.Common.{◌≡◌, ℕ, ◌+◌, ◌<◌, ◌≤◌, Bool, true, false, List, [], ◌∷◌, ◌++◌, length, Option, Some, None, Result, Ok, Err, IfOk, Vec, refl, sym}
use Rattle.std.proofs.Common.{ap, ◌∙◌, subst, arith, append_assoc, append-nil, length-append, if◌then◌else◌}
use Rattle.std.specs.declared.alloc.Global.{Global}
use Rattle.word_text.specs.declared.fault.Fault.{Fault}
use Rattle.word_text.specs.Place.{capped}
use Rattle.word_text.specs.Machine.{Find, finding}
use Rattle.presentation.specs.Presented.{Presented}
use Rattle.presentation.specs.Line.{is_end}
use Rattle.derivation.specs.Reading.{lines_of}
use Rattle.derivation.specs.Grammar.{IsLine}
use Rattle.presentation.specs.Writing.{joined}
use Rattle.word_text.proofs.Lexing.{no_blanks}
use Rattle.std.specs.List.{AllByRecursion}
use Rattle.derivation.proofs.LineLists.{lines_joined, are_lines, lines_again}
use Rattle.derivation.proofs.ReadAgain.{end_again}
use Rattle.derivation.proofs.Spelled.{end_spelled}
use Rattle.session_text.specs.declared.TheConstants.{QUESTIONS, LETTERS}
use Rattle.session_text.specs.declared.fault.SessionFault.{SessionFault}
use Rattle.session_text.specs.declared.fault.SessionFault.TheVariants.{Text, ImageTooLong}
use Rattle.session_text.specs.declared.fault.SessionFault.TheVariants as faults
use Rattle.session_text.specs.declared.question.Question.{Question}
use Rattle.session_text.specs.Questions.{question_letters, session_letters, first_long}
use Rattle.session_text.specs.Reading.{fitting_by, fitting_line, line_question, line_questions, and_then, going_on, session_from, session_text, question_at}
use Rattle.session_text.specs.Reading.{ReadsSession}
use Rattle.session_text.specs.Grammar.{IsAsked, HaveQuestions, IsSession}
use Rattle.session_text.proofs.LetterSums.{letters_behind}
use Rattle.session_text.proofs.ImageFits.{none_long}
use Rattle.session_text.proofs.ReadAgain.{question_again, no_end, no_long}
use Rattle.session_text.proofs.Spelled.{question_spelled}

same : {A : Type 0} (x y : A) → ◌≡◌ {A = Result A SessionFault} (Ok x) (Ok y) → x ≡ y
same x y e = cc

fitting_ok : (number : ℕ) (q x : Question) (o : Option ℕ) → fitting_by number q o ≡ Ok x → (o ≡ None) × (q ≡ x)
fitting_ok number q x None e = (refl, same q x e)
fitting_ok number q x (Some j) e = cc

line_ok : (number : ℕ) (line : List ℕ) (r : Result (Question × List ℕ) Fault) (x : Question) → fitting_line number line r ≡ Ok x
    → (y : Question × List ℕ) × (r ≡ Ok y) × (first_long y.0 ≡ None) × (y.0 ≡ x)
line_ok number line (Ok y) x e = let f = fitting_ok number y.0 x (first_long y.0) e in (y, refl, f.0, f.1)
line_ok number line (Err f) x e = cc

-- what holds of one more question, behind others
record Follows (find : Find) (before : List Question) (line : List ℕ) (q : Question) : Type 0 where
  is : IsAsked find line q
  room : length before + 1 ≤ QUESTIONS
  few : session_letters before + question_letters q ≤ LETTERS

follows : (find : Find) (number : ℕ) (before : List Question) (line : List ℕ) (q : Question) → line_question find number before line ≡ Ok q
    → Follows find before line q
follows find number before line q e =
    let l = line_ok number line (question_at find (length before) (session_letters before) line) q e in
    let r = question_spelled find (length before) (session_letters before) line l.0 l.1 in
    let all : Follows find before line (l.0).0 = record {
      is = (r.end, r.stands, r.ends, none_long (l.0).0 l.2);
      room = omega (arith, r.room);
      few = r.few;
    } in
    subst (Follows find before line) l.3 all

-- the questions of a line behind others
and_ok : (before all : List Question) (r : Result Question SessionFault) → and_then before r ≡ Ok all → (q : Question) × (r ≡ Ok q) × (before ++ q ∷ [] ≡ all)
and_ok before all (Ok q) e = (q, refl, same (before ++ q ∷ []) all e)
and_ok before all (Err f) e = cc

going_ok : (r : Result (List Question) SessionFault) (later : List Question → Result (List Question) SessionFault) (all : List Question)
    → going_on r later ≡ Ok all
    → (qs : List Question) × (r ≡ Ok qs) × (later qs ≡ Ok all)
going_ok (Ok qs) later all e = (qs, refl, e)
going_ok (Err f) later all e = cc

-- questions behind others, within the limits
record Behind (find : Find) (before : List Question) (ls : List (List ℕ)) (all : List Question) : Type 0 where
  new : List Question
  are : HaveQuestions find ls new
  whole : all ≡ before ++ new
  few : length all ≤ QUESTIONS
  few_letters : session_letters all ≤ LETTERS

-- within the limits
abbrev Within : List Question → Type 0
Within qs = (length qs ≤ QUESTIONS) × (session_letters qs ≤ LETTERS)

blank_first : (find : Find) (before all : List Question) (line : List ℕ) (ls : List (List ℕ)) → is_end line ≡ true → Behind find before ls all
    → Behind find before (line ∷ ls) all
blank_first find before all line ls e b = record {
  new = b.new;
  are = HaveQuestions.blank line ls b.new (end_spelled line e) b.are;
  whole = b.whole;
  few = b.few;
  few_letters = b.few_letters;
}

question_first : (find : Find) (before all : List Question) (line : List ℕ) (ls : List (List ℕ)) (q : Question) → IsAsked find line q
    → Behind find (before ++ q ∷ []) ls all
    → Behind find before (line ∷ ls) all
question_first find before all line ls q is b = record {
  new = q ∷ b.new;
  are = HaveQuestions.question line q ls b.new is b.are;
  whole = b.whole ∙ append_assoc before (q ∷ []) b.new;
  few = b.few;
  few_letters = b.few_letters;
}

within_more : (before : List Question) (q : Question) → length before + 1 ≤ QUESTIONS → session_letters before + question_letters q ≤ LETTERS
    → Within (before ++ q ∷ [])
within_more before q room few = (omega (arith, room, length-append before (q ∷ [])), omega (arith, few, letters_behind before q))

-- one more line, of the two kinds
line_first : (find : Find) (number : ℕ) (before mid all : List Question) (line : List ℕ) (ls : List (List ℕ)) (b : Bool) → is_end line ≡ b
    → (if b then Ok before else and_then before (line_question find number before line)) ≡ Ok mid → Within before
    → (Within mid → Behind find mid ls all) → Behind find before (line ∷ ls) all
line_first find number before mid all line ls true t e within later =
    let m : before ≡ mid = same before mid e in
    blank_first find before all line ls t (subst (λ (qs : List Question). Within qs → Behind find qs ls all) (sym m) later within)
line_first find number before mid all line ls false t e within later =
    let a = and_ok before mid (line_question find number before line) e in
    let f = follows find number before line a.0 a.1 in
    question_first find before all line ls a.0 f.is
    (subst (λ (qs : List Question). Within qs → Behind find qs ls all) (sym a.2) later (within_more before a.0 f.room f.few))

session_spelled : (find : Find) (number : ℕ) (before : List Question) (ls : List (List ℕ)) (all : List Question) → session_from find number before ls ≡ Ok all
    → Within before
    → Behind find before ls all
session_spelled find number before [] all e within =
    let b : Behind find before [] before = record {
      new = [];
      are = HaveQuestions.none;
      whole = sym (append-nil before);
      few = within.0;
      few_letters = within.1;
    } in
    subst (Behind find before []) (same before all e) b
session_spelled find number before (l ∷ ls) all e within =
    let g = going_ok (line_questions find number before l) (λ qs. session_from find (capped (number + 1)) qs ls) all e in
    line_first find number before g.0 all l ls (is_end l) refl g.1 within (λ w. session_spelled find (capped (number + 1)) g.0 ls all g.2 w)

-- what is read is a session of the grammar
pub text_spelled : (p : Presented) (text : List ℕ) (qs : List Question) → session_text p text ≡ Ok qs → IsSession p text qs
unfolding session_text
text_spelled p text qs e =
    let b = session_spelled (finding p.names) 1 [] (lines_of text) qs e (omega arith, omega arith) in
    let are : HaveQuestions (finding p.names) (lines_of text) qs = subst (HaveQuestions (finding p.names) (lines_of text)) (sym b.whole) b.are in
    (lines_of text, lines_joined text, are_lines text, are, b.few, b.few_letters)

-- letters of questions behind others
letters_append : (qs rs : List Question) → session_letters (qs ++ rs) ≡ session_letters qs + session_letters rs
letters_append [] rs = omega arith
letters_append (q ∷ qs) rs = omega (arith, letters_append qs rs)

-- a line that is a question is read behind others
asked_again : (find : Find) (number : ℕ) (before : List Question) (line : List ℕ) (q : Question) (later : List Question) → IsAsked find line q
    → Within (before ++ q ∷ later)
    → line_questions find number before line ≡ Ok (before ++ q ∷ [])
asked_again find number before line q later is within =
    let room : length before < QUESTIONS = omega (arith, within.0, length-append before (q ∷ later)) in
    let few : session_letters before + question_letters q ≤ LETTERS = omega (arith, within.1, letters_append before (q ∷ later)) in
    let r = question_again find (length before) (session_letters before) line q is.0 is.1 is.2 room few in
    rw (no_end find line q is.0 is.1, r.1, no_long q is.3) refl

session_again : (find : Find) (number : ℕ) (before : List Question) (ls : List (List ℕ)) (qs : List Question) → HaveQuestions find ls qs → Within (before ++ qs)
    → session_from find number before ls ≡ Ok (before ++ qs)
session_again find number before _ _ HaveQuestions.none within = ap (λ (l : List Question). Ok l) (sym (append-nil before))
session_again find number before _ _ (HaveQuestions.blank line ls qs e h) within =
    rw (end_again line e) (session_again find (capped (number + 1)) before ls qs h within)
session_again find number before _ _ (HaveQuestions.question line q ls qs is h) within =
    let all : (before ++ q ∷ []) ++ qs ≡ before ++ q ∷ qs = append_assoc before (q ∷ []) qs in
    rw (asked_again find number before line q qs is within, ← all)
    (session_again find (capped (number + 1)) (before ++ q ∷ []) ls qs h (rw all within))

no_lines : (find : Find) (qs : List Question) → HaveQuestions find [] qs → qs ≡ []
no_lines find _ HaveQuestions.none = refl

-- the lines of a text, read
lines_read : (p : Presented) (lines : List (List ℕ)) (qs : List Question) → AllByRecursion IsLine lines → HaveQuestions (finding p.names) lines qs → Within qs
    → session_from (finding p.names) 1 [] (lines_of (joined (10 ∷ []) lines)) ≡ Ok qs
lines_read p [] qs are h within = rw (no_lines (finding p.names) qs h, end_again [] no_blanks) refl
lines_read p (l ∷ ls) qs are h within = rw (lines_again l ls are) (session_again (finding p.names) 1 [] (l ∷ ls) qs h within)

-- a session of the grammar is read
pub text_again : (p : Presented) (text : List ℕ) (qs : List Question) → IsSession p text qs → session_text p text ≡ Ok qs
unfolding session_text
text_again p text qs h = rw (h.1) (lines_read p h.0 qs h.2 h.3 (h.4, h.5))

-- a text spells one list of questions at most
pub one_value : (p : Presented) (text : List ℕ) (qs rs : List Question) → IsSession p text qs → IsSession p text rs → qs ≡ rs
one_value p text qs rs g h = same qs rs (sym (text_again p text qs g) ∙ text_again p text rs h)

-- the same of what a reader answers
pub is_found : (p : Presented) (text : List ℕ) (result : Result (Vec Question Global) SessionFault) → ReadsSession (session_text p text) result
    → IfOk result (λ qs. IsSession p text qs.items)
is_found p text (Ok qs) e = text_spelled p text qs.items e
is_found p text (Err faults.NoMemory) e = tt
is_found p text (Err (Text f)) e = tt
is_found p text (Err (ImageTooLong l r)) e = tt

pub is_only : (p : Presented) (text : List ℕ) (result : Result (Vec Question Global) SessionFault) (qs : List Question) → IsSession p text qs
    → ReadsSession (session_text p text) result → ReadsSession (Ok qs) result
is_only p text (Ok questions) qs h e = sym (text_again p text qs h) ∙ e
is_only p text (Err faults.NoMemory) qs h e = tt
is_only p text (Err (Text f)) qs h e = sym (text_again p text qs h) ∙ e
is_only p text (Err (ImageTooLong l r)) qs h e = sym (text_again p text qs h) ∙ e
