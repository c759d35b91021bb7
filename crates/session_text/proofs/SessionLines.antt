-- Reading a session line after line.
use Rattle.std.proofs.Common.{◌≡◌, ℕ, ◌+◌, ◌<◌, ◌≤◌, List, [], ◌∷◌, length, take, drop, Result, Ok, Err, refl, ◌∙◌, arith}
use Rattle.std.specs.List.{prefix_len}
use Rattle.word_text.specs.Machine.{Find}
use Rattle.word_text.specs.Place.{capped}
use Rattle.derivation.specs.Reading.{lines_of}
use Rattle.derivation.proofs.Lines.{no_end, later_lines, lines-first}
use Rattle.session_text.specs.declared.question.Question.{Question}
use Rattle.session_text.specs.declared.fault.SessionFault.{SessionFault}
use Rattle.session_text.specs.declared.fault.SessionFault.TheVariants.{Text, ImageTooLong}
use Rattle.session_text.specs.declared.fault.SessionFault.TheVariants as faults
use Rattle.session_text.specs.Reading.{line_questions, session_from, ReadsLine, ReadsSession}

-- the questions before this place, and those of the lines from here on
abbrev pub from_here : Find → ℕ → List Question → List ℕ → Result (List Question) SessionFault
from_here find number before bs = session_from find number before (lines_of bs)

-- one more line is read, and another follows
pub line_more : (find : Find) (number : ℕ) (bs line after : List ℕ) (whole : Result (List Question) SessionFault) (old new : List Question)
    → line ≡ take (prefix_len no_end bs) bs → after ≡ drop (prefix_len no_end bs) bs → 0 < length after
    → whole ≡ from_here find number old bs → line_questions find number old line ≡ Ok new
    → whole ≡ from_here find (capped (number + 1)) new (drop 1 after)
line_more find number bs line [] whole old new l a some so r = absurd (omega arith)
line_more find number bs line (b ∷ after) whole old new l a some so r =
    let first : lines_of bs ≡ line ∷ lines_of after = lines-first bs ∙ rw (← l, ← a) refl in
    so ∙ rw (first, r) refl

-- one more line is read, and it is the last
pub line_last : (find : Find) (number : ℕ) (bs line after : List ℕ) (whole : Result (List Question) SessionFault) (old new : List Question)
    → line ≡ take (prefix_len no_end bs) bs → after ≡ drop (prefix_len no_end bs) bs → length after ≤ 0
    → whole ≡ from_here find number old bs → line_questions find number old line ≡ Ok new
    → whole ≡ Ok new
line_last find number bs line (b ∷ after) whole old new l a none so r = absurd (omega arith)
line_last find number bs line [] whole old new l a none so r =
    let first : lines_of bs ≡ line ∷ [] = lines-first bs ∙ rw (← l, ← a) refl in
    so ∙ rw (first, r) refl

-- a line has a fault
line_fails : (find : Find) (number : ℕ) (bs line : List ℕ) (whole : Result (List Question) SessionFault) (old : List Question) (f : SessionFault)
    → line ≡ take (prefix_len no_end bs) bs
    → whole ≡ from_here find number old bs → line_questions find number old line ≡ Err f
    → whole ≡ Err f
line_fails find number bs line whole old f l so r =
    let first : lines_of bs ≡ line ∷ later_lines (drop (prefix_len no_end bs) bs) = lines-first bs ∙ rw (← l) refl in
    so ∙ rw (first, r) refl

-- a line is not read, for a fault or for want of memory
pub line_refuses : (find : Find) (number : ℕ) (bs line : List ℕ) (whole : Result (List Question) SessionFault) (old new : List Question) (e : SessionFault)
    → line ≡ take (prefix_len no_end bs) bs → whole ≡ from_here find number old bs
    → ReadsLine new (line_questions find number old line) (Err e) → ReadsSession whole (Err e)
line_refuses find number bs line whole old new faults.NoMemory l so r = tt
line_refuses find number bs line whole old new (Text f) l so r = line_fails find number bs line whole old (Text f) l so r
line_refuses find number bs line whole old new (ImageTooLong n j) l so r = line_fails find number bs line whole old (ImageTooLong n j) l so r
