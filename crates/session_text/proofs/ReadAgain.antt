-- The questions that the grammar has are read.
use Rattle.std.proofs.Common.{◌≡◌, ◌==◌, ◌+◌, ◌-◌, ◌<◌, ◌≤◌, ℕ, suc, true, false, nat_le, nat_lt, codes, List, [], ◌∷◌, ◌++◌, length, None, Ok, refl, sym, ◌∙◌}
use Rattle.std.proofs.Common.{ap, arith, append_assoc}
use Rattle.std.specs.Str.{bytes_eq}
use Rattle.std.specs.List.{AllByRecursion, position_or_len}
use Rattle.std.proofs.lemmas.Bool.Decides.{nat_tests}
use Rattle.std.proofs.lemmas.Slice.Eq.{bytes_eq-Decides}
use Rattle.free_words.specs.declared.letter.Letter.{Letter}
use Rattle.free_words.specs.declared.TheConstants.{COMPOSED}
use Rattle.free_words.specs.Words.{word_image}
use Rattle.word_text.specs.declared.scan.Mark.TheVariants as marks
use Rattle.word_text.specs.Scan.{is_letter, is_digit, is_name_byte, is_known, mark_byte, after_blanks, name_at, mark_of}
use Rattle.word_text.specs.Machine.{Find}
use Rattle.word_text.proofs.Lexing.{blanks_once}
use Rattle.presentation.specs.Presented.{Presented}
use Rattle.presentation.specs.Grammar.{PresentationAt}
use Rattle.presentation.specs.Reading.{presentation_at}
use Rattle.presentation.specs.Line.{comes_next, after_mark, is_word, after_word, is_end}
use Rattle.presentation.proofs.Complete.{presentation_again}
use Rattle.derivation.specs.Reading.{ending_at}
use Rattle.derivation.specs.Grammar.{KeywordAt, WordsAt}
use Rattle.derivation.proofs.WordEnds.{word_again}
use Rattle.derivation.proofs.ReadAgain.{end_again}
use Rattle.session_text.specs.declared.TheConstants.{QUESTIONS, LETTERS}
use Rattle.session_text.specs.declared.reading.Form.{Form}
use Rattle.session_text.specs.declared.reading.Form.TheVariants as forms
use Rattle.session_text.specs.declared.question.Question.{Question}
use Rattle.session_text.specs.declared.question.Question.TheVariants.{Trivial, Equal, Normal, Hom}
use Rattle.session_text.specs.Questions.{HasImages, question_letters, first_long}
use Rattle.session_text.specs.Reading.{form_at, mark_at, trivial_at, equal_at, normal_at, image_behind, next_image, later_images, images_at, hom_at, asked_at}
use Rattle.session_text.specs.Reading.{room_at, letters_at, question_at}
use Rattle.session_text.specs.Grammar.{MarkAt, QuestionAt}
use Rattle.session_text.proofs.ImageFits.{is_long}

-- the keyword that stands there is seen, and no other
keyword : (w bs rest : List ℕ) → KeywordAt bs w rest → is_word w bs ≡ true
unfolding is_word
keyword w bs rest h = (bytes_eq-Decides (name_at (after_blanks bs)) w).1 h.0

other_keyword : (w v bs rest : List ℕ) → bytes_eq w v ≡ false → KeywordAt bs w rest → is_word v bs ≡ false
unfolding is_word
other_keyword w v bs rest e h = rw (h.0) e

behind : (w bs rest : List ℕ) → KeywordAt bs w rest → after_word bs ≡ rest
unfolding after_word
behind w bs rest h = sym h.1

trivial_form : (bs rest : List ℕ) → KeywordAt bs (codes "trivial") rest → form_at bs ≡ Ok (forms.Trivial, rest)
unfolding form_at
trivial_form bs rest h = rw (keyword (codes "trivial") bs rest h, behind (codes "trivial") bs rest h) refl

equal_form : (bs rest : List ℕ) → KeywordAt bs (codes "equal") rest → form_at bs ≡ Ok (forms.Equal, rest)
unfolding form_at
equal_form bs rest h =
    let w : List ℕ = codes "equal" in
    rw (other_keyword w (codes "trivial") bs rest refl h, keyword w bs rest h, behind w bs rest h) refl

normal_form : (bs rest : List ℕ) → KeywordAt bs (codes "normal") rest → form_at bs ≡ Ok (forms.Normal, rest)
unfolding form_at
normal_form bs rest h =
    let w : List ℕ = codes "normal" in
    rw (other_keyword w (codes "trivial") bs rest refl h, other_keyword w (codes "equal") bs rest refl h, keyword w bs rest h, behind w bs rest h) refl

hom_form : (bs rest : List ℕ) → KeywordAt bs (codes "hom") rest → form_at bs ≡ Ok (forms.Hom, rest)
unfolding form_at
hom_form bs rest h =
    let w : List ℕ = codes "hom" in
    rw (
      other_keyword w (codes "trivial") bs rest refl h,
      other_keyword w (codes "equal") bs rest refl h,
      other_keyword w (codes "normal") bs rest refl h,
      keyword w bs rest h,
      behind w bs rest h,
    ) refl

comma_again : (bs next : List ℕ) → MarkAt bs (codes ",") next → mark_at (codes ",") bs ≡ Ok (tt, next)
unfolding mark_at comes_next after_mark
comma_again bs next e = rw e refl

sign_again : (bs next : List ℕ) → MarkAt bs (codes "=") next → mark_at (codes "=") bs ≡ Ok (tt, next)
unfolding mark_at comes_next after_mark
sign_again bs next e = rw e refl

arrow_again : (bs next : List ℕ) → MarkAt bs (codes "->") next → mark_at (codes "->") bs ≡ Ok (tt, next)
unfolding mark_at comes_next after_mark
arrow_again bs next e = rw e refl

comma_ends : (bs next : List ℕ) → MarkAt bs (codes ",") next → mark_of (after_blanks bs) ≡ marks.Other
unfolding mark_byte is_letter is_known is_name_byte is_digit
comma_ends bs next e = rw e refl

sign_ends : (bs next : List ℕ) → MarkAt bs (codes "=") next → mark_of (after_blanks bs) ≡ marks.Other
unfolding mark_byte is_letter is_known is_name_byte is_digit
sign_ends bs next e = rw e refl

end_ends : (bs : List ℕ) → after_blanks bs ≡ [] → mark_of (after_blanks bs) ≡ marks.Other
end_ends bs e = rw e refl

-- words with a comma before each are read behind others
later_again : (find : Find) (before : List (List Letter)) (v : List Letter) (vs : List (List Letter)) (mid next rest : List ℕ) → MarkAt mid (codes ",") next
    → WordsAt find next (v ∷ vs) rest → after_blanks rest ≡ [] → later_images (length (v ∷ vs)) find before (after_blanks mid)
    ≡ Ok (before ++ v ∷ vs, after_blanks rest)
unfolding next_image image_behind
later_again find before v [] mid next rest comma are e =
    rw (comma_again (after_blanks mid) next (blanks_once mid ∙ comma), word_again find next v rest are (end_ends rest e)) refl
later_again find before v (u ∷ us) mid next rest comma are e =
    rw (
      comma_again (after_blanks mid) next (blanks_once mid ∙ comma),
      word_again find next v are.0 are.2 (comma_ends are.0 are.1 are.3),
      later_again find (before ++ v ∷ []) u us are.0 are.1 rest are.3 are.4 e,
      append_assoc before (v ∷ []) (u ∷ us),
    ) refl

images_again : (find : Find) (bs : List ℕ) (ws : List (List Letter)) (rest : List ℕ) → WordsAt find bs ws rest → after_blanks rest ≡ []
    → images_at (length ws) find bs ≡ Ok (ws, after_blanks rest)
unfolding images_at image_behind
images_again find bs [] rest are e = absurd are
images_again find bs (w ∷ []) rest are e = rw (word_again find bs w rest are (end_ends rest e)) refl
images_again find bs (w ∷ v ∷ vs) rest are e =
    let n : length (w ∷ v ∷ vs) - 1 ≡ length (v ∷ vs) = omega arith in
    rw (word_again find bs w are.0 are.2 (comma_ends are.0 are.1 are.3), n) (later_again find (w ∷ []) v vs are.0 are.1 rest are.3 are.4 e)

-- what stands behind a keyword is read, and blanks alone are left
record AsksAgain (find : Find) (bs : List ℕ) (q : Question) : Type 0 where
  form : Form
  mid : List ℕ
  named : form_at bs ≡ Ok (form, mid)
  end : List ℕ
  asked : asked_at find form mid ≡ Ok (q, end)
  ends : after_blanks end ≡ []

clear : (bs : List ℕ) → after_blanks bs ≡ [] → after_blanks (after_blanks bs) ≡ []
clear bs e = blanks_once bs ∙ e

hom_again : (find : Find) (mid arrow next rest : List ℕ) (source : Presented) (images : List (List Letter))
    → PresentationAt mid source.names source.relators arrow
    → source.modulus ≡ 0 → MarkAt arrow (codes "->") next → WordsAt find next images rest → length images ≡ length source.names → after_blanks rest ≡ []
    → hom_at find mid ≡ Ok (Hom source images, after_blanks rest)
unfolding hom_at
hom_again find mid arrow next rest source images is none mark are so e =
    let p : presentation_at mid ≡ Ok (source, arrow) = presentation_again mid source.names source.relators arrow is
    ∙ ap (λ (m : ℕ). let q : Presented = record { names = source.names; relators = source.relators; modulus = m } in Ok (q, arrow)) (sym none) in
    rw (p, arrow_again arrow next mark, ← so, images_again find next images rest are e) refl

asks_again : (find : Find) (bs : List ℕ) (q : Question) (rest : List ℕ) → QuestionAt find bs q rest → after_blanks rest ≡ [] → AsksAgain find bs q
unfolding trivial_at equal_at normal_at
asks_again find bs (Trivial w) rest h e = record {
  form = forms.Trivial;
  mid = h.0;
  named = trivial_form bs h.0 h.1;
  end = after_blanks rest;
  asked = rw (word_again find h.0 w rest h.2 (end_ends rest e)) refl;
  ends = clear rest e;
}
asks_again find bs (Equal u v) rest h e = record {
  form = forms.Equal;
  mid = h.0;
  named = equal_form bs h.0 h.3;
  end = after_blanks rest;
  asked = rw (
    word_again find h.0 u h.1 h.4 (sign_ends h.1 h.2 h.5),
    sign_again (after_blanks h.1) h.2 (blanks_once h.1 ∙ h.5),
    word_again find h.2 v rest h.6 (end_ends rest e),
  ) refl;
  ends = clear rest e;
}
asks_again find bs (Normal w) rest h e = record {
  form = forms.Normal;
  mid = h.0;
  named = normal_form bs h.0 h.1;
  end = after_blanks rest;
  asked = rw (word_again find h.0 w rest h.2 (end_ends rest e)) refl;
  ends = clear rest e;
}
asks_again find bs (Hom source images) rest h e = record {
  form = forms.Hom;
  mid = h.0;
  named = hom_form bs h.0 h.3;
  end = after_blanks rest;
  asked = hom_again find h.0 h.1 h.2 rest source images h.4 h.5 h.6 h.7 h.8 e;
  ends = clear rest e;
}

has_room : (count : ℕ) → count < QUESTIONS → nat_le QUESTIONS count ≡ false
has_room count lt = grind (arith, nat_tests)

are_few : (letters : ℕ) → letters ≤ LETTERS → nat_lt LETTERS letters ≡ false
are_few letters le = grind (arith, nat_tests)

-- a line that is a question is read as one
pub question_again : (find : Find) (count letters : ℕ) (line : List ℕ) (q : Question) (rest : List ℕ) → QuestionAt find line q rest → after_blanks rest ≡ []
    → count < QUESTIONS → letters + question_letters q ≤ LETTERS → (end : List ℕ) × (question_at find count letters line ≡ Ok (q, end))
unfolding question_at room_at letters_at ending_at
question_again find count letters line q rest h e room few =
    let a = asks_again find line q rest h e in
    (a.end, rw (a.named, has_room count room, a.asked, end_again a.end a.ends, are_few (letters + question_letters q) few) refl)

-- a line that begins with a keyword is no line of blanks
some_byte : (bs : List ℕ) (b : ℕ) (bytes : List ℕ) → name_at bs ≡ b ∷ bytes → (length bs == 0) ≡ false
unfolding name_at
some_byte [] b bytes e = cc
some_byte (x ∷ xs) b bytes e = grind (arith, nat_tests)

pub no_end : (find : Find) (bs : List ℕ) (q : Question) (rest : List ℕ) → QuestionAt find bs q rest → is_end bs ≡ false
unfolding is_end
no_end find bs (Trivial w) rest h = some_byte (after_blanks bs) _ _ (h.1).0
no_end find bs (Equal u v) rest h = some_byte (after_blanks bs) _ _ (h.3).0
no_end find bs (Normal w) rest h = some_byte (after_blanks bs) _ _ (h.1).0
no_end find bs (Hom source images) rest h = some_byte (after_blanks bs) _ _ (h.3).0

-- where all images are within the limit, none is too long
not_long : (images : List (List Letter)) (r : List Letter) → length (word_image images r) ≤ COMPOSED → is_long images r ≡ false
not_long images r le = grind (arith, nat_tests)

to_end : (images rs : List (List Letter)) → AllByRecursion (λ (r : List Letter). length (word_image images r) ≤ COMPOSED) rs
    → position_or_len (is_long images) rs ≡ length rs
to_end images [] are = refl
to_end images (r ∷ rs) are =
    let n : 1 + length rs ≡ suc (length rs) = omega arith in
    rw (not_long images r are.0, to_end images rs are.1, n) refl

not_below : (n : ℕ) → nat_lt n n ≡ false
not_below n = grind (arith, nat_tests)

pub no_long : (q : Question) → HasImages q → first_long q ≡ None
no_long (Trivial w) h = refl
no_long (Equal u v) h = refl
no_long (Normal w) h = refl
no_long (Hom source images) h = rw (to_end images source.relators h, not_below (length source.relators)) refl
