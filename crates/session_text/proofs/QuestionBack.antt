-- A written question stands in the grammar, and is read back.
use Rattle.std.proofs.Common.{◌≡◌, ℕ, ◌<◌, ◌≤◌, true, false, nat_eq, codes, List, [], ◌∷◌, ◌++◌, length, map, Result, Ok, Err, refl, sym, ◌∙◌, ap, subst, arith}
use Rattle.std.proofs.Common.{append_assoc, append-nil}
use Rattle.std.specs.List.{AllByRecursion}
use Rattle.std.specs.Cmp.Lexicographic.{pointwise}
use Rattle.std.proofs.lemmas.Slice.Eq.{bytes_eq-Decides}
use Rattle.free_words.specs.declared.letter.Letter.{Letter}
use Rattle.word_text.specs.declared.fault.Fault.{Fault}
use Rattle.word_text.specs.declared.fault.TextFault.{TextFault}
use Rattle.word_text.specs.declared.fault.ReadFault.{ReadFault}
use Rattle.word_text.specs.declared.fault.ReadFault.TheVariants as reading
use Rattle.word_text.specs.Scan.{is_blank, is_letter, is_digit, is_name_byte, is_known, mark_byte, after_blanks, name_at}
use Rattle.word_text.specs.Machine.{finding}
use Rattle.word_text.proofs.Lexing.{blanks_once, no_blanks}
use Rattle.word_text.proofs.Reached.{word_spelled}
use Rattle.presentation.specs.Presented.{Presented, IsPresented, IsName, IsWritten}
use Rattle.presentation.specs.Grammar.{PresentationAt}
use Rattle.presentation.specs.Writing.{led_by, joined, written_word, written_presentation, ends_word}
use Rattle.presentation.proofs.SoundWhole.{presentation_sound}
use Rattle.presentation.proofs.WritingBack.{names_of, word_plain, word_read_before}
use Rattle.presentation.proofs.WritingEnds.{kept, skipped}
use Rattle.presentation.proofs.WritingFollows.{comma_ends, equals_ends, space_ends}
use Rattle.presentation.proofs.WritingNames.{name_taken, name_left}
use Rattle.presentation.proofs.WritingTurns.{name_plain}
use Rattle.presentation.proofs.WritingWhole.{presentation_read_before}
use Rattle.derivation.specs.Grammar.{KeywordAt, WordAt, WordsAt}
use Rattle.session_text.specs.declared.TheConstants.{LETTERS}
use Rattle.session_text.specs.declared.question.Question.{Question}
use Rattle.session_text.specs.declared.question.Question.TheVariants.{Trivial, Equal, Normal, Hom}
use Rattle.session_text.specs.Questions.{IsWritable, question_letters, session_letters}
use Rattle.session_text.specs.Reading.{question_at, ReadsAlone}
use Rattle.session_text.specs.Writing.{written_question}
use Rattle.session_text.specs.Grammar.{MarkAt, QuestionAt}
use Rattle.session_text.proofs.LetterSums.{few_in_relators, few_in_question}
use Rattle.session_text.proofs.ReadAgain.{question_again}

bytes : (is_blank 32 ≡ true) × (is_blank 44 ≡ false) × (is_blank 45 ≡ false) × (is_blank 60 ≡ false) × (is_blank 61 ≡ false) × (is_name_byte 32 ≡ false)
unfolding is_blank is_name_byte is_letter is_digit
bytes = (refl, refl, refl, refl, refl, refl)

keywords : IsName (codes "trivial") × IsName (codes "equal") × IsName (codes "normal") × IsName (codes "hom")
unfolding is_blank mark_byte is_letter is_digit is_name_byte is_known name_at
keywords = ((refl, refl), (refl, refl), (refl, refl), (refl, refl))

-- a keyword with a space behind it
keyword_stands : (word more : List ℕ) → IsName word → KeywordAt (word ++ 32 ∷ more) word (32 ∷ more)
keyword_stands word more h =
    let plain : after_blanks (word ++ 32 ∷ more) ≡ word ++ 32 ∷ more = name_plain word (32 ∷ more) h in
    rw plain (name_taken word (32 ∷ more) h bytes.5, sym (name_left word (32 ∷ more) h bytes.5))

-- a written word behind a space
behind_space : (p : Presented) (w : List Letter) (more : List ℕ) → IsPresented p → IsWritten (length p.names) w
    → after_blanks (32 ∷ (written_word p.names w ++ more)) ≡ written_word p.names w ++ more
behind_space p w more h k = skipped 32 (written_word p.names w ++ more) bytes.0 ∙ word_plain p.names (names_of p h) w more k.0

word_stands : (p : Presented) (w : List Letter) (text more : List ℕ) → IsPresented p → IsWritten (length p.names) w → ends_word more ≡ true
    → after_blanks text ≡ written_word p.names w ++ more → WordAt (finding p.names) text w (after_blanks more)
word_stands p w text more h k ends e = word_spelled (finding p.names) text w (after_blanks more) (word_read_before p w text more h k ends e)

-- the last word of a line
last_stands : (p : Presented) (w : List Letter) → IsPresented p → IsWritten (length p.names) w
    → WordAt (finding p.names) (32 ∷ written_word p.names w) w (after_blanks [])
last_stands p w h k =
    let text : List ℕ = written_word p.names w in
    word_stands p w (32 ∷ text) [] h k refl (subst (λ (t : List ℕ). after_blanks (32 ∷ t) ≡ text ++ []) (append-nil text) (behind_space p w [] h k))

words_stand : (p : Presented) (ws : List (List Letter)) (text : List ℕ) → IsPresented p → AllByRecursion (IsWritten (length p.names)) ws → 0 < length ws
    → after_blanks text ≡ joined (codes ", ") (map (written_word p.names) ws) → WordsAt (finding p.names) text ws (after_blanks [])
words_stand p [] text h are some e = absurd (omega arith)
words_stand p (w ∷ []) text h are some e = word_stands p w text [] h are.0 refl e
words_stand p (w ∷ v ∷ vs) text h are some e =
    let later : List ℕ = led_by (codes ", ") (map (written_word p.names) vs) in
    let next : List ℕ = 32 ∷ (written_word p.names v ++ later) in
    let mark : MarkAt (after_blanks (44 ∷ next)) (codes ",") next = blanks_once (44 ∷ next) ∙ kept 44 next bytes.1 in (
      after_blanks (44 ∷ next),
      next,
      word_stands p w text (44 ∷ next) h are.0 (comma_ends next) e,
      mark,
      words_stand p (v ∷ vs) next h are.1 (omega arith) (behind_space p v later h are.1.0),
    )

-- a written source behind a space, with an arrow behind it
source_stands : (source : Presented) (more : List ℕ) → IsPresented source → source.modulus ≡ 0
    → PresentationAt (32 ∷ (written_presentation source ++ more)) source.names source.relators more
source_stands source more h none =
    let text : List ℕ = 32 ∷ (written_presentation source ++ more) in
    let plain : after_blanks text ≡ written_presentation source ++ more = skipped 32 (written_presentation source ++ more) bytes.0 ∙ kept 60 _ bytes.3 in
    (presentation_sound text source more (presentation_read_before source text more h none plain)).0

-- two words with ` = ` between them
equation_stands : (p : Presented) (u v : List Letter) → IsPresented p → IsWritten (length p.names) u → IsWritten (length p.names) v
    → QuestionAt (finding p.names) (codes "equal" ++ 32 ∷ (written_word p.names u ++ 32 ∷ 61 ∷ 32 ∷ written_word p.names v)) (Equal u v) (after_blanks [])
equation_stands p u v h is_u is_v =
    let next : List ℕ = 32 ∷ written_word p.names v in
    let sign : List ℕ = 32 ∷ 61 ∷ next in
    let here : List ℕ = 32 ∷ (written_word p.names u ++ sign) in
    let mark : MarkAt (after_blanks sign) (codes "=") next = blanks_once sign ∙ (skipped 32 (61 ∷ next) bytes.0 ∙ kept 61 next bytes.4) in
    let ends : ends_word sign ≡ true = space_ends (61 ∷ next) (equals_ends next) in
    let first : WordAt (finding p.names) here u (after_blanks sign) = word_stands p u here sign h is_u ends (behind_space p u sign h is_u) in
    (here, after_blanks sign, next, keyword_stands (codes "equal") (written_word p.names u ++ sign) keywords.1, first, mark, last_stands p v h is_v)

first_plain : (p : Presented) (ws : List (List Letter)) → IsPresented p → AllByRecursion (IsWritten (length p.names)) ws → 0 < length ws
    → after_blanks (32 ∷ joined (codes ", ") (map (written_word p.names) ws)) ≡ joined (codes ", ") (map (written_word p.names) ws)
first_plain p [] h are some = absurd (omega arith)
first_plain p (w ∷ ws) h are some = behind_space p w (led_by (codes ", ") (map (written_word p.names) ws)) h are.0

-- a source, ` -> `, and the images
map_stands : (p source : Presented) (images : List (List Letter)) → IsPresented p → IsPresented source → source.modulus ≡ 0
    → AllByRecursion (IsWritten (length p.names)) images → length images ≡ length source.names
    → QuestionAt (finding p.names) (codes "hom" ++ 32 ∷ (written_presentation source ++ 32 ∷ 45 ∷ 62 ∷ 32
    ∷ joined (codes ", ") (map (written_word p.names) images)))
    (Hom source images) (after_blanks [])
map_stands p source images h known none are so =
    let next : List ℕ = 32 ∷ joined (codes ", ") (map (written_word p.names) images) in
    let arrow : List ℕ = 32 ∷ 45 ∷ 62 ∷ next in
    let here : List ℕ = 32 ∷ (written_presentation source ++ arrow) in
    let mark : MarkAt arrow (codes "->") next = skipped 32 (45 ∷ 62 ∷ next) bytes.0 ∙ kept 45 (62 ∷ next) bytes.2 in
    let some : 0 < length images = omega (arith, so, known.some_name) in
    let list : WordsAt (finding p.names) next images (after_blanks []) = words_stand p images next h are some (first_plain p images h are some) in (
      here,
      arrow,
      next,
      keyword_stands (codes "hom") (written_presentation source ++ arrow) keywords.3,
      source_stands source arrow known none,
      none,
      mark,
      list,
      so,
    )

-- a written question stands as a whole line
pub question_stands : (p : Presented) (q : Question) → IsPresented p → IsWritable p q
    → QuestionAt (finding p.names) (written_question p.names q) q (after_blanks [])
question_stands p (Trivial w) h is =
    (32 ∷ written_word p.names w, keyword_stands (codes "trivial") (written_word p.names w) keywords.0, last_stands p w h (is.0).1)
question_stands p (Equal u v) h is =
    subst (λ (t : List ℕ). QuestionAt (finding p.names) (codes "equal" ++ 32 ∷ t) (Equal u v) (after_blanks []))
    (sym (append_assoc (written_word p.names u) (codes " = ") (written_word p.names v)))
    (equation_stands p u v h ((is.0).1).0 ((is.0).1).1)
question_stands p (Normal w) h is =
    (32 ∷ written_word p.names w, keyword_stands (codes "normal") (written_word p.names w) keywords.2, last_stands p w h (is.0).1)
question_stands p (Hom source images) h is =
    subst (λ (t : List ℕ). QuestionAt (finding p.names) (codes "hom" ++ 32 ∷ t) (Hom source images) (after_blanks []))
    (sym (append_assoc (written_presentation source) (codes " -> ") (joined (codes ", ") (map (written_word p.names) images))))
    (map_stands p source images h is.1 ((is.0).0).1 (is.0).1 ((is.0).0).0)

pub written_stands : (p : Presented) (q : Question) (text : List ℕ) → IsPresented p → text ≡ written_question p.names q → IsWritable p q
    → QuestionAt (finding p.names) text q (after_blanks [])
written_stands p q text h e is = rw e (question_stands p q h is)

-- one question is within the limits of a session
letters_fit : (p : Presented) (q : Question) → IsWritable p q → question_letters q ≤ LETTERS
letters_fit p (Trivial w) is = omega (arith, (is.0).1.1)
letters_fit p (Equal u v) is = omega (arith, (is.0).1.0.1, (is.0).1.1.1)
letters_fit p (Normal w) is = omega (arith, (is.0).1.1)
letters_fit p (Hom source images) is = omega (arith, few_in_relators source is.1, few_in_question source p images is.1 (is.0).1 (is.0).0.0)

pub question_back : (p : Presented) (q : Question) → IsPresented p → IsWritable p q
    → (end : List ℕ) × (question_at (finding p.names) 0 0 (written_question p.names q) ≡ Ok (q, end))
question_back p q h is =
    let ends : after_blanks (after_blanks []) ≡ [] = blanks_once [] ∙ no_blanks in
    question_again (finding p.names) 0 0 (written_question p.names q) q (after_blanks []) (question_stands p q h is) ends (omega arith)
    (omega (arith, letters_fit p q is))

-- what is read of a text behind no questions
abbrev read_first : Presented → List Question → List ℕ → Result (Question × List ℕ) Fault
read_first p before text = question_at (finding p.names) (length before) (session_letters before) text

back_behind : (p : Presented) (before : List Question) (q : Question) → IsPresented p → before ≡ [] → IsWritable p q
    → (end : List ℕ) × (read_first p before (written_question p.names q) ≡ Ok (q, end))
back_behind p before q h none is = rw none (question_back p q h is)

one_question : (q r : Question) (a b : List ℕ) → ◌≡◌ {A = Result (Question × List ℕ) Fault} (Ok (q, a)) (Ok (r, b)) → q ≡ r
one_question q r a b k = ap (λ (y : Question × List ℕ). y.0) (inside (q, a) (r, b) k)
  where
    inside : (x y : Question × List ℕ) → ◌≡◌ {A = Result (Question × List ℕ) Fault} (Ok x) (Ok y) → x ≡ y
    inside x y k = cc

-- a text that has a fault is no written question
pub refused : (p : Presented) (text : List ℕ) (before : List Question) (r : ReadFault) (f : TextFault) → IsPresented p → before ≡ [] → r ≡ reading.Text f
    → ReadsAlone text 1 (read_first p before text) (Err r) → (x : Question) → IsWritable p x → text ≡ written_question p.names x → ⊥
refused p text before reading.NoMemory f h none e read x is same = absurd (cc)
refused p text before (reading.Text g) f h none e read x is same =
    let b = back_behind p before x h none is in
    unlike (x, b.0) read.0 (sym b.1 ∙ rw same at read.1)
  where
    unlike : (y : Question × List ℕ) (e : Fault) → ◌≡◌ {A = Result (Question × List ℕ) Fault} (Ok y) (Err e) → ⊥
    unlike y e k = cc

-- a text of which a question is read is written of no other
pub other : (p : Presented) (text : List ℕ) (before : List Question) (q : Question) (written : List ℕ) → IsPresented p → before ≡ []
    → ReadsAlone text 1 (read_first p before text) (Ok q) → written ≡ written_question p.names q → (written ≡ text → ⊥)
    → (x : Question) → IsWritable p x → text ≡ written_question p.names x → ⊥
other p text before q written h none read w differs x is same =
    let b = back_behind p before x h none is in
    let k : q ≡ x = one_question q x read.0 b.0 (sym (rw same at read.1) ∙ b.1) in
    differs (w ∙ (ap (written_question p.names) k ∙ sym same))

pub same_text : (a b : List ℕ) → a ≡ b → pointwise nat_eq a b ≡ true
same_text a b e = (bytes_eq-Decides a b).1 e

-- one text is written of one question
pub one_spelling : (p : Presented) (q r : Question) → IsPresented p → IsWritable p q → IsWritable p r
    → written_question p.names q ≡ written_question p.names r → q ≡ r
one_spelling p q r h is are same =
    let b = question_back p q h is in
    let d = question_back p r h are in
    one_question q r b.0 d.0 (sym (rw same at b.1) ∙ d.1)
