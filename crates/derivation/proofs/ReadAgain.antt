-- The parts of a line that the grammar has are read, where blanks alone follow them.
use Rattle.std.proofs.Common.{◌≡◌, ◌==◌, ◌<◌, ◌≤◌, ℕ, Bool, true, false, nat_lt, codes, List, [], ◌∷◌, ◌++◌, length, Result, Ok, refl, sym, ◌∙◌, arith}
use Rattle.std.proofs.Common.{if◌then◌else◌}
use Rattle.std.specs.Str.{bytes_eq}
use Rattle.std.proofs.lemmas.Bool.Decides.{nat_tests}
use Rattle.std.proofs.lemmas.Slice.Eq.{bytes_eq-Decides}
use Rattle.free_words.specs.declared.letter.Letter.{Letter}
use Rattle.word_text.specs.declared.fault.Fault.{Fault}
use Rattle.word_text.specs.declared.scan.Mark.TheVariants as marks
use Rattle.word_text.specs.Scan.{is_letter, is_digit, is_name_byte, is_known, mark_byte, after_blanks, name_at, after_name, digits_at, mark_of}
use Rattle.word_text.specs.Machine.{Find}
use Rattle.word_text.proofs.Lexing.{no_blanks, blanks_once}
use Rattle.presentation.specs.Line.{number_at, comes_next, after_mark, is_word, after_word, is_end, letter_at}
use Rattle.derivation.specs.declared.moves.Insert.{Insert}
use Rattle.derivation.specs.declared.moves.Insert.TheVariants.{Pair, Rel, Dbl, Pow}
use Rattle.derivation.specs.declared.moves.Move.{Move}
use Rattle.derivation.specs.Reading.{direction_at, comma_at, next_word, two_words, inverse_at, relator_at, double_at, power_at, insert_at, ending_at, move_at}
use Rattle.derivation.specs.Grammar.{KeywordAt, NumberAt, WordAt, SignAt, LetterAt, InverseAt, InsertAt, IsMove}
use Rattle.derivation.proofs.WordEnds.{word_again}

-- a part is read, and blanks alone are left
abbrev pub Reads : {X : Type 0} → Result (X × List ℕ) Fault → X → Type 0
Reads read x = (end : List ℕ) × (read ≡ Ok (x, end)) × (after_blanks end ≡ [])

some_digit : (n : ℕ) → 0 < n → (n == 0) ≡ false
some_digit n lt = grind (arith, nat_tests)

not_past : (m n : ℕ) → n ≤ m → nat_lt m n ≡ false
not_past m n le = grind (arith, nat_tests)

-- the keyword that stands there is seen, and no other
keyword : (w bs rest : List ℕ) → KeywordAt bs w rest → is_word w bs ≡ true
unfolding is_word
keyword w bs rest h = (bytes_eq-Decides (name_at (after_blanks bs)) w).1 h.0

other_keyword : (w v bs rest : List ℕ) → bytes_eq w v ≡ false → KeywordAt bs w rest → is_word v bs ≡ false
unfolding is_word
other_keyword w v bs rest e h = rw (h.0) e

behind : (w bs rest : List ℕ) → KeywordAt bs w rest → after_word bs ≡ rest
unfolding after_word
behind w bs rest h = sym h.1

no_keyword : (w bs : List ℕ) → bytes_eq [] w ≡ false → after_blanks bs ≡ [] → is_word w bs ≡ false
unfolding is_word name_at
no_keyword w bs n e = rw e n

number_again : (bs : List ℕ) (n : ℕ) (rest : List ℕ) → NumberAt bs n rest → number_at bs ≡ Ok (n, rest)
unfolding number_at
number_again bs n rest h = rw (some_digit (length (digits_at (after_blanks bs))) h.0, not_past 6 (length (digits_at (after_blanks bs))) h.1, h.2, h.3) refl

comma_again : (bs next : List ℕ) → after_blanks bs ≡ codes "," ++ next → comma_at bs ≡ Ok (tt, next)
unfolding comma_at comes_next after_mark
comma_again bs next e = rw e refl

comma_mark : (bs next : List ℕ) → after_blanks bs ≡ codes "," ++ next → mark_of (after_blanks bs) ≡ marks.Other
unfolding mark_byte is_letter is_known is_name_byte is_digit
comma_mark bs next e = rw e refl

end_mark : (bs : List ℕ) → after_blanks bs ≡ [] → mark_of (after_blanks bs) ≡ marks.Other
end_mark bs e = rw e refl

sign_again : (bs : List ℕ) (inv : Bool) (rest : List ℕ) → SignAt bs inv rest → after_blanks rest ≡ []
    → (comes_next (codes "^-1") bs ≡ inv) × (after_blanks (after_mark (codes "^-1") bs) ≡ [])
unfolding comes_next after_mark
sign_again bs true rest h e = rw h (refl, e)
sign_again bs false rest h e =
    let none : after_blanks bs ≡ [] = sym (blanks_once bs) ∙ rw h e in
    rw none (refl, no_blanks)

letter_again : (find : Find) (bs : List ℕ) (x : Letter) (rest : List ℕ) → LetterAt find bs x rest → after_blanks rest ≡ [] → Reads (letter_at find bs) x
unfolding letter_at
letter_again find bs x rest h e =
    let raw : List ℕ = after_name (after_blanks bs) in
    let s = sign_again raw x.inv rest h.2 e in
    (after_mark (codes "^-1") raw, rw (h.0, h.1, s.0) refl, s.1)

-- two words are read, where what follows them can't stand in a word
two_again : (find : Find) (bs : List ℕ) (a b : List Letter) (mid next rest : List ℕ) → WordAt find bs a mid → after_blanks mid ≡ codes "," ++ next
    → WordAt find next b rest → mark_of (after_blanks rest) ≡ marks.Other → two_words find bs ≡ Ok ((a, b), after_blanks rest)
unfolding two_words next_word
two_again find bs a b mid next rest first comma second e =
    rw (
      word_again find bs a mid first (comma_mark mid next comma),
      comma_again (after_blanks mid) next (blanks_once mid ∙ comma),
      word_again find next b rest second e,
    ) refl

double_again : (find : Find) (bs : List ℕ) (a b c d : List Letter) (m k n l o q rest : List ℕ) → WordAt find bs a m → after_blanks m ≡ codes "," ++ k
    → WordAt find k b n → after_blanks n ≡ codes "," ++ l → WordAt find l c o → after_blanks o ≡ codes "," ++ q → WordAt find q d rest
    → after_blanks rest ≡ [] → double_at find bs ≡ Ok (Dbl a b c d, after_blanks rest)
unfolding double_at
double_again find bs a b c d m k n l o q rest wa ca wb cb wc cc_ wd e =
    rw (
      two_again find bs a b m k n wa ca wb (comma_mark n l cb),
      comma_again (after_blanks n) l (blanks_once n ∙ cb),
      two_again find l c d o q rest wc cc_ wd (end_mark rest e),
    ) refl

clear : (bs : List ℕ) → after_blanks bs ≡ [] → after_blanks (after_blanks bs) ≡ []
clear bs e = blanks_once bs ∙ e

inverse_again : (j : ℕ) (last : List ℕ) (inverted : Bool) (rest : List ℕ) → InverseAt last inverted rest → after_blanks rest ≡ []
    → Reads (inverse_at j last) (Rel j inverted)
inverse_again j last true rest h e = (rest, rw (keyword (codes "inv") last rest h, behind (codes "inv") last rest h) refl, e)
inverse_again j last false rest h e =
    let none : after_blanks last ≡ [] = rw h at e in
    (last, rw (no_keyword (codes "inv") last refl none) refl, none)

relator_again : (bs : List ℕ) (j : ℕ) (last : List ℕ) (inverted : Bool) (rest : List ℕ) → NumberAt bs j last → InverseAt last inverted rest
    → after_blanks rest ≡ []
    → Reads (relator_at bs) (Rel j inverted)
unfolding relator_at
relator_again bs j last inverted rest n h e =
    let r = inverse_again j last inverted rest h e in
    (r.0, rw (number_again bs j last n) (r.1), r.2)

insert_again : (find : Find) (bs : List ℕ) (what : Insert) (rest : List ℕ) → InsertAt find bs what rest → after_blanks rest ≡ []
    → Reads (insert_at find bs) what
unfolding insert_at power_at
insert_again find bs (Pair x) rest h e =
    let r = letter_again find h.0 x rest h.2 e in
    (r.0, rw (keyword (codes "pair") bs h.0 h.1, behind (codes "pair") bs h.0 h.1, r.1) refl, r.2)
insert_again find bs (Rel j inverted) rest h e =
    let r = relator_again h.0 j h.1 inverted rest h.3 h.4 e in
    (r.0, rw (other_keyword (codes "rel") (codes "pair") bs h.0 refl h.2, keyword (codes "rel") bs h.0 h.2, behind (codes "rel") bs h.0 h.2) (r.1), r.2)
insert_again find bs (Dbl a b c d) rest h e =
    let u = h.2 in
    let v = u.4 in
    let w = v.4 in
    let r = double_again find h.0 a b c d u.0 u.1 v.0 v.1 w.0 w.1 rest u.2 u.3 v.2 v.3 w.2 w.3 w.4 e in (
      after_blanks rest,
      rw (
        other_keyword (codes "dbl") (codes "pair") bs h.0 refl h.1,
        other_keyword (codes "dbl") (codes "rel") bs h.0 refl h.1,
        keyword (codes "dbl") bs h.0 h.1,
        behind (codes "dbl") bs h.0 h.1,
      ) r,
      clear rest e,
    )
insert_again find bs (Pow a b) rest h e =
    let u = h.2 in
    let r = two_again find h.0 a b u.0 u.1 rest u.2 u.3 u.4 (end_mark rest e) in (
      after_blanks rest,
      rw (
        other_keyword (codes "pow") (codes "pair") bs h.0 refl h.1,
        other_keyword (codes "pow") (codes "rel") bs h.0 refl h.1,
        other_keyword (codes "pow") (codes "dbl") bs h.0 refl h.1,
        keyword (codes "pow") bs h.0 h.1,
        behind (codes "pow") bs h.0 h.1,
        r,
      ) refl,
      clear rest e,
    )

direction_again : (bs : List ℕ) (del : Bool) (rest : List ℕ) → KeywordAt bs (if del then codes "del" else codes "ins") rest → direction_at bs ≡ Ok (del, rest)
unfolding direction_at
direction_again bs true rest h = rw (
  other_keyword (codes "del") (codes "ins") bs rest refl h,
  keyword (codes "del") bs rest h,
  behind (codes "del") bs rest h,
) refl
direction_again bs false rest h = rw (keyword (codes "ins") bs rest h, behind (codes "ins") bs rest h) refl

pub end_again : (bs : List ℕ) → after_blanks bs ≡ [] → is_end bs ≡ true
unfolding is_end
end_again bs e = rw e refl

-- a line that begins with a keyword is no line of blanks
some_byte : (bs : List ℕ) (b : ℕ) (bytes : List ℕ) → name_at bs ≡ b ∷ bytes → (length bs == 0) ≡ false
unfolding name_at
some_byte [] b bytes e = cc
some_byte (x ∷ xs) b bytes e = grind (arith, nat_tests)

no_end : (bs : List ℕ) (del : Bool) (rest : List ℕ) → KeywordAt bs (if del then codes "del" else codes "ins") rest → is_end bs ≡ false
unfolding is_end
no_end bs true rest h = some_byte (after_blanks bs) _ _ h.0
no_end bs false rest h = some_byte (after_blanks bs) _ _ h.0

-- a line that is a move is read as one
pub record ReadsMove (find : Find) (line : List ℕ) (m : Move) : Type 0 where
  pub some : is_end line ≡ false
  pub end : List ℕ
  pub read : move_at find line ≡ Ok (m, end)

pub move_again : (find : Find) (line : List ℕ) (m : Move) → IsMove find line m → ReadsMove find line m
unfolding move_at ending_at
move_again find line m h =
    let i = insert_again find h.what m.what h.end h.what_stands h.ends in
    record {
      some = no_end line m.del h.place h.direction;
      end = i.0;
      read = rw (direction_again line m.del h.place h.direction, number_again h.place m.at h.what h.place_stands, i.1, end_again i.0 i.2) refl;
    }
