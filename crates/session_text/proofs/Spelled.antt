-- The parts of a line that are read are those of the grammar.
use Rattle.std.proofs.Common.{◌≡◌, ◌+◌, ◌-◌, ◌<◌, ◌≤◌, ◌⊎◌, inl, inr, ℕ, zero, suc, Bool, true, false, nat_le, nat_lt, codes, List, [], ◌∷◌, ◌++◌, length, take}
use Rattle.std.proofs.Common.{drop, Result, Ok, Err, refl, sym, ◌∙◌, ap, subst, arith, if◌then◌else◌}
use Rattle.std.proofs.lemmas.Bool.Decides.{nat_tests}
use Rattle.std.proofs.lemmas.List.{take-append-drop}
use Rattle.std.proofs.lemmas.Slice.Eq.{bytes_eq-Decides}
use Rattle.free_words.specs.declared.letter.Letter.{Letter}
use Rattle.word_text.specs.declared.fault.Fault.{Fault}
use Rattle.word_text.specs.declared.fault.TextKind.TheVariants.{TooManyQuestions, TooManyLetters}
use Rattle.word_text.specs.Scan.{after_blanks, name_at, due}
use Rattle.word_text.specs.Machine.{Find, word_at}
use Rattle.word_text.proofs.Reached.{word_spelled}
use Rattle.presentation.specs.Grammar.{NamesAt}
use Rattle.presentation.specs.Reading.{presentation_at}
use Rattle.presentation.specs.Line.{comes_next, after_mark, is_word, after_word, is_end}
use Rattle.presentation.proofs.Steps.{bind_ok, ok_is, guard_ok, test_ok}
use Rattle.presentation.proofs.SoundWhole.{presentation_sound}
use Rattle.derivation.specs.Reading.{ending_at}
use Rattle.derivation.specs.Grammar.{KeywordAt, WordAt, WordsAt}
use Rattle.derivation.proofs.Spelled.{end_spelled}
use Rattle.session_text.specs.declared.TheConstants.{QUESTIONS, LETTERS}
use Rattle.session_text.specs.declared.reading.Form.{Form}
use Rattle.session_text.specs.declared.reading.Form.TheVariants as forms
use Rattle.session_text.specs.declared.question.Question.{Question}
use Rattle.session_text.specs.declared.question.Question.TheVariants.{Trivial, Equal, Normal, Hom}
use Rattle.session_text.specs.Questions.{question_letters}
use Rattle.session_text.specs.Reading.{form_at, mark_at, trivial_at, equal_at, normal_at, image_behind, next_image, later_images, images_at, hom_at, asked_at}
use Rattle.session_text.specs.Reading.{room_at, letters_at, question_at}
use Rattle.session_text.specs.Grammar.{MarkAt, QuestionAt}

-- one of two ways was taken
choice : {A : Type 0} (b : Bool) (x y : Result A Fault) (v : A) → (if b then x else y) ≡ Ok v → ((b ≡ true) × (x ≡ Ok v)) ⊎ (y ≡ Ok v)
choice true x y v e = inl (refl, e)
choice false x y v e = inr e

keyword : (w bs : List ℕ) → is_word w bs ≡ true → KeywordAt bs w (after_word bs)
unfolding is_word after_word
keyword w bs e = ((bytes_eq-Decides (name_at (after_blanks bs)) w).0 e, refl)

comes : (mark bs : List ℕ) → comes_next mark bs ≡ true → MarkAt bs mark (after_mark mark bs)
unfolding comes_next after_mark
comes mark bs e =
    let here : List ℕ = after_blanks bs in
    let front : take (length mark) here ≡ mark = (bytes_eq-Decides (take (length mark) here) mark).0 e in
    rw e (sym (take-append-drop (length mark) here) ∙ ap (λ (l : List ℕ). l ++ drop (length mark) here) front)

mark_spelled : (mark bs : List ℕ) (x : Unit {0} × List ℕ) → mark_at mark bs ≡ Ok x → MarkAt bs mark x.1
unfolding mark_at
mark_spelled mark bs x e =
    let c = test_ok (comes_next mark bs) (due (after_blanks bs)) (Ok (tt, after_mark mark bs)) x e in
    let p = ok_is {A = Unit {0} × List ℕ} (tt, after_mark mark bs) x c.1 in
    comes mark bs c.0 ∙ ap (λ (y : Unit {0} × List ℕ). mark ++ y.1) p

-- the keyword of a form
abbrev pub name_of : Form → List ℕ
name_of forms.Trivial = codes "trivial"
name_of forms.Equal = codes "equal"
name_of forms.Normal = codes "normal"
name_of forms.Hom = codes "hom"

abbrev Named : List ℕ → Form × List ℕ → Type 0
Named bs x = KeywordAt bs (name_of x.0) x.1

named : (bs : List ℕ) (f : Form) (x : Form × List ℕ) → is_word (name_of f) bs ≡ true
    → ◌≡◌ {A = Result (Form × List ℕ) Fault} (Ok (f, after_word bs)) (Ok x) → Named bs x
named bs f x t e = subst (Named bs) (ok_is {A = Form × List ℕ} (f, after_word bs) x e) (keyword (name_of f) bs t)

-- this form, and what follows its keyword
abbrev as_form : Form → List ℕ → Result (Form × List ℕ) Fault
as_form f bs = Ok (f, after_word bs)

form_spelled : (bs : List ℕ) (x : Form × List ℕ) → form_at bs ≡ Ok x → Named bs x
unfolding form_at
form_spelled bs x e = trivials (choice (is_word (codes "trivial") bs) _ _ x e)
  where
    homs : (is_word (codes "hom") bs ≡ true) × (as_form forms.Hom bs ≡ Ok x) → Named bs x
    homs (t, e) = named bs forms.Hom x t e

    normals : ((is_word (codes "normal") bs ≡ true) × (as_form forms.Normal bs ≡ Ok x))
        ⊎ ((if is_word (codes "hom") bs then as_form forms.Hom bs else Err (due (after_blanks bs))) ≡ Ok x) → Named bs x
    normals (inl (t, e)) = named bs forms.Normal x t e
    normals (inr e) = homs (test_ok (is_word (codes "hom") bs) (due (after_blanks bs)) (as_form forms.Hom bs) x e)

    equals : ((is_word (codes "equal") bs ≡ true) × (as_form forms.Equal bs ≡ Ok x))
        ⊎ ((if is_word (codes "normal") bs then as_form forms.Normal bs
        else if is_word (codes "hom") bs then as_form forms.Hom bs else Err (due (after_blanks bs))) ≡ Ok x) → Named bs x
    equals (inl (t, e)) = named bs forms.Equal x t e
    equals (inr e) = normals (choice (is_word (codes "normal") bs) _ _ x e)

    trivials : ((is_word (codes "trivial") bs ≡ true) × (as_form forms.Trivial bs ≡ Ok x))
        ⊎ ((if is_word (codes "equal") bs then as_form forms.Equal bs else if is_word (codes "normal") bs then as_form forms.Normal bs
        else if is_word (codes "hom") bs then as_form forms.Hom bs else Err (due (after_blanks bs))) ≡ Ok x) → Named bs x
    trivials (inl (t, e)) = named bs forms.Trivial x t e
    trivials (inr e) = equals (choice (is_word (codes "equal") bs) _ _ x e)

-- words and one more behind them
one_more : (find : Find) (start mid next : List ℕ) (ws : List (List Letter)) (w : List Letter) (rest : List ℕ) → WordsAt find start ws mid
    → MarkAt mid (codes ",") next
    → WordAt find next w rest → WordsAt find start (ws ++ w ∷ []) rest
one_more find start mid next [] w rest are comma is = absurd are
one_more find start mid next (v ∷ []) w rest are comma is = (mid, next, are, comma, is)
one_more find start mid next (v ∷ u ∷ us) w rest are comma is = (are.0, are.1, are.2, are.3, one_more find are.1 mid next (u ∷ us) w rest are.4 comma is)

abbrev Behind : Find → List ℕ → ℕ → List (List Letter) × List ℕ → Type 0
Behind find start n x = WordsAt find start x.0 x.1 × (length x.0 ≡ n)

longer : (ws : List (List Letter)) (w : List Letter) (n : ℕ) → length ws ≡ n → length (ws ++ w ∷ []) ≡ n + 1
longer [] w n e = omega (arith, e)
longer (v ∷ ws) w n e = omega (arith, e, longer ws w (length ws) refl)

next_spelled : (find : Find) (start bs : List ℕ) (before : List (List Letter)) (n : ℕ) (x : List (List Letter) × List ℕ) → Behind find start n (before, bs)
    → next_image find before bs ≡ Ok x → Behind find start (n + 1) x
unfolding next_image image_behind
next_spelled find start bs before n x h e =
    let c = bind_ok (mark_at (codes ",") bs) _ x e in
    let w = bind_ok (word_at find (c.0).1) _ x c.2 in
    subst (Behind find start (n + 1)) (ok_is {A = List (List Letter) × List ℕ} (before ++ (w.0).0 ∷ [], (w.0).1) x w.2) (
      one_more find start bs (c.0).1 before (w.0).0 (w.0).1 h.0 (mark_spelled (codes ",") bs c.0 c.1) (word_spelled find (c.0).1 (w.0).0 (w.0).1 w.1),
      longer before (w.0).0 n h.1,
    )

later_spelled : (n : ℕ) (find : Find) (start bs : List ℕ) (before : List (List Letter)) (m : ℕ) (x : List (List Letter) × List ℕ)
    → Behind find start m (before, bs)
    → later_images n find before bs ≡ Ok x → Behind find start (m + n) x
later_spelled zero find start bs before m x h e =
    let all : Behind find start (m + zero) (before, bs) = (h.0, omega (arith, h.1)) in
    subst (Behind find start (m + zero)) (ok_is {A = List (List Letter) × List ℕ} (before, bs) x e) all
later_spelled (suc n) find start bs before m x h e =
    let w = bind_ok (next_image find before bs) _ x e in
    let all = later_spelled n find start (w.0).1 (w.0).0 (m + 1) x (next_spelled find start bs before m w.0 h w.1) w.2 in
    (all.0, omega (arith, all.1))

images_spelled : (n : ℕ) (find : Find) (bs : List ℕ) (x : List (List Letter) × List ℕ) → 0 < n → images_at n find bs ≡ Ok x → Behind find bs n x
unfolding images_at image_behind
images_spelled n find bs x some e =
    let f = bind_ok (image_behind find [] bs) _ x e in
    let w = bind_ok (word_at find bs) _ f.0 f.1 in
    let one : Behind find bs 1 f.0 = subst (Behind find bs 1) (ok_is {A = List (List Letter) × List ℕ} ((w.0).0 ∷ [], (w.0).1) f.0 w.2)
    (word_spelled find bs (w.0).0 (w.0).1 w.1, refl) in
    let all = later_spelled (n - 1) find bs (f.0).1 (f.0).0 1 x one f.2 in
    (all.0, omega (arith, all.1))

some_name : (bs : List ℕ) (ns : List (List ℕ)) (rest : List ℕ) → NamesAt bs ns rest → 0 < length ns
some_name bs [] rest h = absurd h
some_name bs (n ∷ ns) rest h = omega arith

abbrev Stands : Find → List ℕ → Question × List ℕ → Type 0
Stands find bs x = QuestionAt find bs x.0 x.1

trivial_spelled : (find : Find) (bs mid : List ℕ) (x : Question × List ℕ) → KeywordAt bs (codes "trivial") mid → trivial_at find mid ≡ Ok x → Stands find bs x
unfolding trivial_at
trivial_spelled find bs mid x k e =
    let w = bind_ok (word_at find mid) _ x e in
    subst (Stands find bs) (ok_is {A = Question × List ℕ} (Trivial (w.0).0, (w.0).1) x w.2) (mid, k, word_spelled find mid (w.0).0 (w.0).1 w.1)

normal_spelled : (find : Find) (bs mid : List ℕ) (x : Question × List ℕ) → KeywordAt bs (codes "normal") mid → normal_at find mid ≡ Ok x → Stands find bs x
unfolding normal_at
normal_spelled find bs mid x k e =
    let w = bind_ok (word_at find mid) _ x e in
    subst (Stands find bs) (ok_is {A = Question × List ℕ} (Normal (w.0).0, (w.0).1) x w.2) (mid, k, word_spelled find mid (w.0).0 (w.0).1 w.1)

equal_spelled : (find : Find) (bs mid : List ℕ) (x : Question × List ℕ) → KeywordAt bs (codes "equal") mid → equal_at find mid ≡ Ok x → Stands find bs x
unfolding equal_at
equal_spelled find bs mid x k e =
    let u = bind_ok (word_at find mid) _ x e in
    let s = bind_ok (mark_at (codes "=") (u.0).1) _ x u.2 in
    let v = bind_ok (word_at find (s.0).1) _ x s.2 in
    subst (Stands find bs) (ok_is {A = Question × List ℕ} (Equal (u.0).0 (v.0).0, (v.0).1) x v.2) (
      mid,
      (u.0).1,
      (s.0).1,
      k,
      word_spelled find mid (u.0).0 (u.0).1 u.1,
      mark_spelled (codes "=") (u.0).1 s.0 s.1,
      word_spelled find (s.0).1 (v.0).0 (v.0).1 v.1,
    )

hom_spelled : (find : Find) (bs mid : List ℕ) (x : Question × List ℕ) → KeywordAt bs (codes "hom") mid → hom_at find mid ≡ Ok x → Stands find bs x
unfolding hom_at
hom_spelled find bs mid x k e =
    let s = bind_ok (presentation_at mid) _ x e in
    let a = bind_ok (mark_at (codes "->") (s.0).1) _ x s.2 in
    let i = bind_ok (images_at (length ((s.0).0).names) find (a.0).1) _ x a.2 in
    let p = presentation_sound mid (s.0).0 (s.0).1 s.1 in
    let some : 0 < length ((s.0).0).names = some_name _ ((s.0).0).names _ (p.0).names_stand in
    let all = images_spelled (length ((s.0).0).names) find (a.0).1 i.0 some i.1 in
    subst (Stands find bs) (ok_is {A = Question × List ℕ} (Hom (s.0).0 (i.0).0, (i.0).1) x i.2)
    (mid, (s.0).1, (a.0).1, k, p.0, p.1, mark_spelled (codes "->") (s.0).1 a.0 a.1, all.0, all.1)

asked_spelled : (find : Find) (f : Form) (bs mid : List ℕ) (x : Question × List ℕ) → KeywordAt bs (name_of f) mid → asked_at find f mid ≡ Ok x
    → Stands find bs x
asked_spelled find forms.Trivial bs mid x k e = trivial_spelled find bs mid x k e
asked_spelled find forms.Equal bs mid x k e = equal_spelled find bs mid x k e
asked_spelled find forms.Normal bs mid x k e = normal_spelled find bs mid x k e
asked_spelled find forms.Hom bs mid x k e = hom_spelled find bs mid x k e

fewer : (m n : ℕ) → nat_le m n ≡ false → n < m
fewer m n e = grind (arith, nat_tests)

not_past : (m n : ℕ) → nat_lt m n ≡ false → n ≤ m
not_past m n e = grind (arith, nat_tests)

room_is : (count : ℕ) (bs : List ℕ) (t : Unit {0}) → room_at count bs ≡ Ok t → count < QUESTIONS
unfolding room_at
room_is count bs t e = fewer QUESTIONS count (guard_ok (nat_le QUESTIONS count) (record {
  kind = TooManyQuestions;
  left = length (after_blanks bs);
}) (Ok tt) t e).0

few_is : (letters : ℕ) (bs : List ℕ) (t : Unit {0}) → letters_at letters bs ≡ Ok t → letters ≤ LETTERS
unfolding letters_at
few_is letters bs t e = not_past LETTERS letters (guard_ok (nat_lt LETTERS letters) (record {
  kind = TooManyLetters;
  left = length (after_blanks bs);
}) (Ok tt) t e).0

ending_spelled : (bs : List ℕ) (x : Unit {0} × List ℕ) → ending_at bs ≡ Ok x → after_blanks bs ≡ []
unfolding ending_at
ending_spelled bs x e = end_spelled bs (test_ok (is_end bs) (due (after_blanks bs)) (Ok (tt, bs)) x e).0

-- what holds of a question that is read behind so many with so many letters
pub record IsRead (find : Find) (count letters : ℕ) (line : List ℕ) (q : Question) : Type 0 where
  pub end : List ℕ
  pub stands : QuestionAt find line q end
  pub ends : after_blanks end ≡ []
  pub room : count < QUESTIONS
  pub few : letters + question_letters q ≤ LETTERS

pub question_spelled : (find : Find) (count letters : ℕ) (line : List ℕ) (x : Question × List ℕ) → question_at find count letters line ≡ Ok x
    → IsRead find count letters line x.0
unfolding question_at
question_spelled find count letters line x e =
    let f = bind_ok (form_at line) _ x e in
    let r = bind_ok (room_at count line) _ x f.2 in
    let q = bind_ok (asked_at find (f.0).0 (f.0).1) _ x r.2 in
    let t = bind_ok (ending_at (q.0).1) _ x q.2 in
    let l = bind_ok (letters_at (letters + question_letters (q.0).0) line) _ x t.2 in
    let is : IsRead find count letters line (q.0).0 = record {
      end = (q.0).1;
      stands = asked_spelled find (f.0).0 line (f.0).1 q.0 (form_spelled line f.0 f.1) q.1;
      ends = ending_spelled (q.0).1 t.0 t.1;
      room = room_is count line r.0 r.1;
      few = few_is (letters + question_letters (q.0).0) line l.0 l.1;
    } in
    subst (λ (y : Question × List ℕ). IsRead find count letters line y.0) (ok_is {A = Question × List ℕ} ((q.0).0, (t.0).1) x l.2) is
