-- The parts of a line that are read are those of the grammar.
use Rattle.std.proofs.Common.{◌≡◌, ◌==◌, ◌<◌, ◌≤◌, ◌⊎◌, inl, inr, ℕ, Bool, true, false, nat_lt, codes, List, [], ◌∷◌, ◌++◌, length, take, drop, Option, Some}
use Rattle.std.proofs.Common.{None, Result, Ok, Err, refl, sym, ◌∙◌, ap, subst, arith, if◌then◌else◌}
use Rattle.std.proofs.lemmas.Bool.Decides.{nat_tests}
use Rattle.std.proofs.lemmas.List.{take-append-drop}
use Rattle.std.proofs.lemmas.Slice.Eq.{bytes_eq-Decides}
use Rattle.free_words.specs.declared.letter.Letter.{Letter}
use Rattle.word_text.specs.declared.fault.Fault.{Fault}
use Rattle.word_text.specs.declared.fault.TextKind.TheVariants.{Expected}
use Rattle.word_text.specs.declared.scan.Mark.{Mark}
use Rattle.word_text.specs.declared.scan.Mark.TheVariants as marks
use Rattle.word_text.specs.Scan.{after_blanks, name_at, after_name, digits_at, after_digits, mark_of, number, due}
use Rattle.word_text.specs.Machine.{Find, word_at}
use Rattle.word_text.proofs.Reached.{word_spelled}
use Rattle.presentation.specs.Line.{number_at, comes_next, after_mark, is_word, after_word, is_end, letter_of, letter_on, letter_at}
use Rattle.presentation.proofs.Steps.{bind_ok, ok_is, guard_ok, test_ok}
use Rattle.derivation.specs.declared.moves.Insert.{Insert}
use Rattle.derivation.specs.declared.moves.Insert.TheVariants.{Pair, Rel, Dbl, Pow}
use Rattle.derivation.specs.declared.moves.Move.{Move}
use Rattle.derivation.specs.Reading.{direction_at, comma_at, next_word, two_words, pair_at, relator_at, double_at, power_at, insert_at, ending_at, move_at}
use Rattle.derivation.specs.Grammar.{KeywordAt, NumberAt, WordsAt, SignAt, LetterAt, InsertAt, IsMove}

some_is : (n : ℕ) → (n == 0) ≡ false → 0 < n
some_is n e = grind (arith, nat_tests)

not_past : (m n : ℕ) → nat_lt m n ≡ false → n ≤ m
not_past m n e = grind (arith, nat_tests)

empty_is : (xs : List ℕ) → (length xs == 0) ≡ true → xs ≡ []
empty_is [] e = refl
empty_is (x ∷ xs) e = absurd (grind (arith, nat_tests))

-- one of two ways was taken
choice : {A : Type 0} (b : Bool) (x y : Result A Fault) (v : A) → (if b then x else y) ≡ Ok v → ((b ≡ true) × (x ≡ Ok v)) ⊎ (y ≡ Ok v)
choice true x y v e = inl (refl, e)
choice false x y v e = inr e

keyword : (w bs : List ℕ) → is_word w bs ≡ true → KeywordAt bs w (after_word bs)
unfolding is_word after_word
keyword w bs e = ((bytes_eq-Decides (name_at (after_blanks bs)) w).0 e, refl)

pub number_spelled : (bs : List ℕ) (n : ℕ) (rest : List ℕ) → number_at bs ≡ Ok (n, rest) → NumberAt bs n rest
unfolding number_at
number_spelled bs n rest e =
    let here : List ℕ = after_blanks bs in
    let some = guard_ok (length (digits_at here) == 0) (due here) _ (n, rest) e in
    let few = guard_ok (nat_lt 6 (length (digits_at here))) (record { kind = Expected; left = length (drop 6 here) })
    (Ok (number 0 (digits_at here), after_digits here)) (n, rest) some.1 in
    let p = ok_is {A = ℕ × List ℕ} (number 0 (digits_at here), after_digits here) (n, rest) few.1 in (
      some_is (length (digits_at here)) some.0,
      not_past 6 (length (digits_at here)) few.0,
      sym (ap (λ (x : ℕ × List ℕ). x.0) p),
      sym (ap (λ (x : ℕ × List ℕ). x.1) p),
    )

mark_spelled : (mark bs : List ℕ) → comes_next mark bs ≡ true → after_blanks bs ≡ mark ++ after_mark mark bs
unfolding comes_next after_mark
mark_spelled mark bs e =
    let here : List ℕ = after_blanks bs in
    let front : take (length mark) here ≡ mark = (bytes_eq-Decides (take (length mark) here) mark).0 e in
    rw e (sym (take-append-drop (length mark) here) ∙ ap (λ (l : List ℕ). l ++ drop (length mark) here) front)

no_mark : (mark bs : List ℕ) → comes_next mark bs ≡ false → after_blanks bs ≡ after_mark mark bs
unfolding after_mark
no_mark mark bs e = rw e refl

comma_spelled : (bs : List ℕ) (t : Unit {0}) (rest : List ℕ) → comma_at bs ≡ Ok (t, rest) → after_blanks bs ≡ codes "," ++ rest
unfolding comma_at
comma_spelled bs t rest e =
    let c = test_ok (comes_next (codes ",") bs) (due (after_blanks bs)) (Ok (tt, after_mark (codes ",") bs)) (t, rest) e in
    let p = ok_is {A = Unit {0} × List ℕ} (tt, after_mark (codes ",") bs) (t, rest) c.1 in
    mark_spelled (codes ",") bs c.0 ∙ ap (λ (x : Unit {0} × List ℕ). codes "," ++ x.1) p

sign_spelled : (bs : List ℕ) (inv : Bool) → comes_next (codes "^-1") bs ≡ inv → SignAt bs inv (after_mark (codes "^-1") bs)
sign_spelled bs true e = mark_spelled (codes "^-1") bs e
sign_spelled bs false e = no_mark (codes "^-1") bs e

on_letter : (find : Find) (m : Mark) (bs : List ℕ) (x : Letter × List ℕ) → letter_on find m bs ≡ Ok x
    → (m ≡ marks.Letter) × (letter_of (find (name_at bs)) bs ≡ Ok x)
on_letter find marks.Letter bs x e = (refl, e)
on_letter find marks.One bs x e = cc
on_letter find marks.Round bs x e = cc
on_letter find marks.Square bs x e = cc
on_letter find marks.Star bs x e = cc
on_letter find marks.Bad bs x e = cc
on_letter find marks.Other bs x e = cc

-- the letter of a name that is found
found : (o : Option ℕ) (bs : List ℕ) (x : Letter × List ℕ) → letter_of o bs ≡ Ok x → (o ≡ Some (x.0).g) × SignAt (after_name bs) (x.0).inv x.1
found None bs x e = cc
found (Some g) bs x e =
    let rest : List ℕ = after_name bs in
    let p = ok_is {A = Letter × List ℕ} (record { g = g; inv = comes_next (codes "^-1") rest }, after_mark (codes "^-1") rest) x e in
    subst (λ (y : Letter × List ℕ). (Some g ≡ Some (y.0).g) × SignAt rest (y.0).inv y.1) p (refl, sign_spelled rest (comes_next (codes "^-1") rest) refl)

letter_spelled : (find : Find) (bs : List ℕ) (x : Letter × List ℕ) → letter_at find bs ≡ Ok x → LetterAt find bs x.0 x.1
unfolding letter_at
letter_spelled find bs x e =
    let l = on_letter find (mark_of (after_blanks bs)) (after_blanks bs) x e in
    let f = found (find (name_at (after_blanks bs))) (after_blanks bs) x l.1 in
    (l.0, f.0, f.1)

-- two words, and what stands around their comma
two_spelled : (find : Find) (bs : List ℕ) (x : (List Letter × List Letter) × List ℕ) → two_words find bs ≡ Ok x
    → WordsAt find bs ((x.0).0 ∷ (x.0).1 ∷ []) x.1
unfolding two_words next_word
two_spelled find bs x e =
    let a = bind_ok (word_at find bs) _ x e in
    let b = bind_ok (next_word find (a.0).1) _ x a.2 in
    let c = bind_ok (comma_at (a.0).1) _ b.0 b.1 in
    let p = ok_is {A = (List Letter × List Letter) × List ℕ} (((a.0).0, (b.0).0), (b.0).1) x b.2 in
    subst (λ (y : (List Letter × List Letter) × List ℕ). WordsAt find bs ((y.0).0 ∷ (y.0).1 ∷ []) y.1) p
    ((a.0).1, (c.0).1, word_spelled find bs (a.0).0 (a.0).1 a.1, comma_spelled (a.0).1 (c.0).0 (c.0).1 c.1, word_spelled find (c.0).1 (b.0).0 (b.0).1 c.2)

abbrev Stands : Find → List ℕ → Insert × List ℕ → Type 0
Stands find bs x = InsertAt find bs x.0 x.1

pair_spelled : (find : Find) (bs mid : List ℕ) (x : Insert × List ℕ) → KeywordAt bs (codes "pair") mid → pair_at find mid ≡ Ok x → Stands find bs x
pair_spelled find bs mid x k e =
    let l = bind_ok (letter_at find mid) _ x e in
    subst (Stands find bs) (ok_is {A = Insert × List ℕ} (Pair (l.0).0, (l.0).1) x l.2) (mid, k, letter_spelled find mid l.0 l.1)

-- a value is answered
abbrev Answers : {A : Type 0} → A → A → Type 0
Answers {A} y x = ◌≡◌ {A = Result A Fault} (Ok y) (Ok x)

inverse_spelled : (find : Find) (bs mid last : List ℕ) (j : ℕ) (x : Insert × List ℕ) → KeywordAt bs (codes "rel") mid → NumberAt mid j last
    → ((is_word (codes "inv") last ≡ true) × Answers {A = Insert × List ℕ} (Rel j true, after_word last) x)
    ⊎ Answers {A = Insert × List ℕ} (Rel j false, last) x → Stands find bs x
inverse_spelled find bs mid last j x k n (inl (t, e)) =
    subst (Stands find bs) (ok_is {A = Insert × List ℕ} (Rel j true, after_word last) x e) (mid, last, k, n, keyword (codes "inv") last t)
inverse_spelled find bs mid last j x k n (inr e) = subst (Stands find bs) (ok_is {A = Insert × List ℕ} (Rel j false, last) x e) (mid, last, k, n, refl)

relator_spelled : (find : Find) (bs mid : List ℕ) (x : Insert × List ℕ) → KeywordAt bs (codes "rel") mid → relator_at mid ≡ Ok x → Stands find bs x
unfolding relator_at
relator_spelled find bs mid x k e =
    let j = bind_ok (number_at mid) _ x e in
    inverse_spelled find bs mid (j.0).1 (j.0).0 x k (number_spelled mid (j.0).0 (j.0).1 j.1) (choice (is_word (codes "inv") (j.0).1) _ _ x j.2)

-- four words
four : (find : Find) (bs mid next rest : List ℕ) (a b c d : List Letter) → WordsAt find bs (a ∷ b ∷ []) mid → after_blanks mid ≡ codes "," ++ next
    → WordsAt find next (c ∷ d ∷ []) rest → WordsAt find bs (a ∷ b ∷ c ∷ d ∷ []) rest
four find bs mid next rest a b c d u comma v = (u.0, u.1, u.2, u.3, (mid, next, u.4, comma, v))

double_spelled : (find : Find) (bs mid : List ℕ) (x : Insert × List ℕ) → KeywordAt bs (codes "dbl") mid → double_at find mid ≡ Ok x → Stands find bs x
unfolding double_at
double_spelled find bs mid x k e =
    let a = bind_ok (two_words find mid) _ x e in
    let c = bind_ok (comma_at (a.0).1) _ x a.2 in
    let b = bind_ok (two_words find (c.0).1) _ x c.2 in
    let all = four find mid (a.0).1 (c.0).1 (b.0).1 ((a.0).0).0 ((a.0).0).1 ((b.0).0).0 ((b.0).0).1 (two_spelled find mid a.0 a.1)
    (comma_spelled (a.0).1 (c.0).0 (c.0).1 c.1) (two_spelled find (c.0).1 b.0 b.1) in
    subst (Stands find bs) {x = (Dbl ((a.0).0).0 ((a.0).0).1 ((b.0).0).0 ((b.0).0).1, (b.0).1)}
    (ok_is {A = Insert × List ℕ} (Dbl ((a.0).0).0 ((a.0).0).1 ((b.0).0).0 ((b.0).0).1, (b.0).1) x b.2) (mid, k, all)

power_spelled : (find : Find) (bs mid : List ℕ) (x : Insert × List ℕ) → KeywordAt bs (codes "pow") mid → power_at find mid ≡ Ok x → Stands find bs x
unfolding power_at
power_spelled find bs mid x k e =
    let a = bind_ok (two_words find mid) _ x e in
    subst (Stands find bs) (ok_is {A = Insert × List ℕ} (Pow ((a.0).0).0 ((a.0).0).1, (a.0).1) x a.2) (mid, k, two_spelled find mid a.0 a.1)

insert_spelled : (find : Find) (bs : List ℕ) (x : Insert × List ℕ) → insert_at find bs ≡ Ok x → Stands find bs x
unfolding insert_at
insert_spelled find bs x e = pairs (choice (is_word (codes "pair") bs) _ _ x e)
  where
    mid : List ℕ
    mid = after_word bs

    powers : (is_word (codes "pow") bs ≡ true) × (power_at find mid ≡ Ok x) → Stands find bs x
    powers (t, e) = power_spelled find bs mid x (keyword (codes "pow") bs t) e

    doubles : ((is_word (codes "dbl") bs ≡ true) × (double_at find mid ≡ Ok x))
        ⊎ ((if is_word (codes "pow") bs then power_at find mid else Err (due (after_blanks bs))) ≡ Ok x)
        → Stands find bs x
    doubles (inl (t, e)) = double_spelled find bs mid x (keyword (codes "dbl") bs t) e
    doubles (inr e) = powers (test_ok (is_word (codes "pow") bs) (due (after_blanks bs)) (power_at find mid) x e)

    relators : ((is_word (codes "rel") bs ≡ true) × (relator_at mid ≡ Ok x))
        ⊎ ((if is_word (codes "dbl") bs then double_at find mid else if is_word (codes "pow") bs then power_at find mid else Err
        (due (after_blanks bs))) ≡ Ok x)
        → Stands find bs x
    relators (inl (t, e)) = relator_spelled find bs mid x (keyword (codes "rel") bs t) e
    relators (inr e) = doubles (choice (is_word (codes "dbl") bs) _ _ x e)

    pairs : ((is_word (codes "pair") bs ≡ true) × (pair_at find mid ≡ Ok x))
        ⊎ ((if is_word (codes "rel") bs then relator_at mid else if is_word (codes "dbl") bs then double_at find mid
        else if is_word (codes "pow") bs then power_at find mid else Err (due (after_blanks bs))) ≡ Ok x)
        → Stands find bs x
    pairs (inl (t, e)) = pair_spelled find bs mid x (keyword (codes "pair") bs t) e
    pairs (inr e) = relators (choice (is_word (codes "rel") bs) _ _ x e)

abbrev Turned : List ℕ → Bool × List ℕ → Type 0
Turned bs x = KeywordAt bs (if x.0 then codes "del" else codes "ins") x.1

put_in_or_out : (bs : List ℕ) (x : Bool × List ℕ) → ((is_word (codes "ins") bs ≡ true) × Answers {A = Bool × List ℕ} (false, after_word bs) x)
    ⊎ ((if is_word (codes "del") bs then Ok (true, after_word bs) else Err (due (after_blanks bs))) ≡ Ok x) → Turned bs x
put_in_or_out bs x (inl (t, e)) = subst (Turned bs) (ok_is {A = Bool × List ℕ} (false, after_word bs) x e) (keyword (codes "ins") bs t)
put_in_or_out bs x (inr e) =
    let d = test_ok (is_word (codes "del") bs) (due (after_blanks bs)) (Ok (true, after_word bs)) x e in
    subst (Turned bs) (ok_is {A = Bool × List ℕ} (true, after_word bs) x d.1) (keyword (codes "del") bs d.0)

direction_spelled : (bs : List ℕ) (x : Bool × List ℕ) → direction_at bs ≡ Ok x → Turned bs x
unfolding direction_at
direction_spelled bs x e = put_in_or_out bs x (choice (is_word (codes "ins") bs) _ _ x e)

pub end_spelled : (bs : List ℕ) → is_end bs ≡ true → after_blanks bs ≡ []
unfolding is_end
end_spelled bs e = empty_is (after_blanks bs) e

ending_spelled : (bs : List ℕ) (x : Unit {0} × List ℕ) → ending_at bs ≡ Ok x → after_blanks bs ≡ []
unfolding ending_at
ending_spelled bs x e = end_spelled bs (test_ok (is_end bs) (due (after_blanks bs)) (Ok (tt, bs)) x e).0

-- a line that is read is a move
pub move_spelled : (find : Find) (line : List ℕ) (x : Move × List ℕ) → move_at find line ≡ Ok x → IsMove find line x.0
unfolding move_at
move_spelled find line x e =
    let d = bind_ok (direction_at line) _ x e in
    let n = bind_ok (number_at (d.0).1) _ x d.2 in
    let i = bind_ok (insert_at find (n.0).1) _ x n.2 in
    let t = bind_ok (ending_at (i.0).1) _ x i.2 in
    let m : Move = record { at = (n.0).0; del = (d.0).0; what = (i.0).0 } in
    let is : IsMove find line m = record {
      place = (d.0).1;
      direction = direction_spelled line d.0 d.1;
      what = (n.0).1;
      place_stands = number_spelled (d.0).1 (n.0).0 (n.0).1 n.1;
      end = (i.0).1;
      what_stands = insert_spelled find (n.0).1 i.0 i.1;
      ends = ending_spelled (i.0).1 t.0 t.1;
    } in
    subst (λ (y : Move × List ℕ). IsMove find line y.0) (ok_is {A = Move × List ℕ} (m, (t.0).1) x t.2) is
