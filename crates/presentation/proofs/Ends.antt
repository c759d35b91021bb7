-- What reading leaves is an end of the bytes.
use Rattle.std.proofs.Common.{◌≡◌, ℕ, ◌+◌, ◌-◌, ◌≤◌, Bool, List, [], ◌∷◌, length, drop, take_while, Ok, refl, ◌∙◌, ap, arith, length-drop}
use Rattle.std.proofs.lemmas.List.{drop-drop}
use Rattle.std.proofs.lemmas.List.Sums.{prefix_len-le-length}
use Rattle.std.proofs.lemmas.List.Folds.{length-prefix_len}
use Rattle.free_words.specs.declared.letter.Letter.{Letter}
use Rattle.word_text.specs.Scan.{is_blank, is_digit, is_name_byte, after_blanks, after_name, after_digits}
use Rattle.word_text.specs.Machine.{Find, word_at}
use Rattle.word_text.proofs.Tails.{Tail, word_left}

pub whole : (bs : List ℕ) → Tail bs bs
whole bs = (0, omega arith, refl)

pub join : (a b c : List ℕ) → Tail a b → Tail b c → Tail a c
join a b c f g =
    let e : length b ≡ length a - f.0 = ap length f.2 ∙ length-drop f.0 a in
    (f.0 + g.0, omega (arith, f.1, g.1, e), g.2 ∙ (ap (λ (l : List ℕ). drop g.0 l) f.2 ∙ drop-drop g.0 f.0 a))

behind : (p : ℕ → Bool) (bs : List ℕ) → Tail bs (drop (length (take_while p bs)) bs)
behind p bs = (length (take_while p bs), omega (arith, length-prefix_len p bs, prefix_len-le-length p bs), refl)

pub blanks : (bs : List ℕ) → Tail bs (after_blanks bs)
unfolding after_blanks
blanks bs = behind is_blank bs

pub name : (bs : List ℕ) → Tail bs (after_name bs)
unfolding after_name
name bs = behind is_name_byte bs

pub digits : (bs : List ℕ) → Tail bs (after_digits bs)
unfolding after_digits
digits bs = behind is_digit bs

pub behind_front : (n : ℕ) (bs : List ℕ) → n ≤ length bs → Tail bs (drop n bs)
behind_front n bs le = (n, le, refl)

pub first : (bs : List ℕ) → Tail bs (drop 1 bs)
first [] = (0, omega arith, refl)
first (b ∷ bs) = (1, omega arith, refl)

pub word : (find : Find) (bs : List ℕ) (w : List Letter) (rest : List ℕ) → word_at find bs ≡ Ok (w, rest) → Tail bs rest
word find bs w rest e = (length bs - length rest, omega arith, word_left find bs w rest e)

-- what is left of a text from a place on is left of the text
pub left_at : (text : List ℕ) (at : ℕ) (rest : List ℕ) → at ≤ length text → Tail (drop at text) rest → Tail text rest
left_at text at rest le t = join text (drop at text) rest (at, le, refl) t

pub left_no_longer : (bs rest : List ℕ) → Tail bs rest → length rest ≤ length bs
left_no_longer bs rest t = omega (arith, ap length t.2 ∙ length-drop t.0 bs)

-- the place of what is left
pub place : (bs rest : List ℕ) → Tail bs rest → rest ≡ drop (length bs - length rest) bs
place bs rest t =
    let e : length rest ≡ length bs - t.0 = ap length t.2 ∙ length-drop t.0 bs in
    let n : length bs - length rest ≡ t.0 = omega (arith, e, t.1) in
    rw n (t.2)

-- the place of what is left of a line
pub ruleset places = (left_no_longer, left_at, place)
