-- What a part of the grammar leaves is an end of the bytes at which it stands.
use Rattle.std.proofs.Common.{◌≡◌, ℕ, ◌+◌, ◌-◌, ◌≤◌, Bool, true, false, List, [], ◌∷◌, length, drop, take_while, refl, ◌∙◌, ap, arith, length-drop}
use Rattle.std.proofs.lemmas.List.{drop-drop}
use Rattle.std.proofs.lemmas.List.Sums.{prefix_len-le-length}
use Rattle.std.proofs.lemmas.List.Folds.{length-prefix_len}
use Rattle.free_words.specs.declared.letter.Letter.{Letter}
use Rattle.word_text.specs.Scan.{is_blank, is_digit, is_name_byte, after_blanks, after_name, after_digits}
use Rattle.word_text.specs.Machine.{Find}
use Rattle.word_text.specs.Grammar.{IsSize, IsExponent, Raised, Part, Product, Factor, Atom, SpelledWithin}
use Rattle.word_text.proofs.Lexing.{blanks_once}

abbrev pub Tail : List ℕ → List ℕ → Type 0
Tail bs rest = (n : ℕ) × (n ≤ length bs) × (rest ≡ drop n bs)

pub same : (bs : List ℕ) → Tail bs bs
same bs = (0, omega arith, refl)

pub join : (a b c : List ℕ) → Tail a b → Tail b c → Tail a c
join a b c f g =
    let e : length b ≡ length a - f.0 = ap length f.2 ∙ length-drop f.0 a in
    (f.0 + g.0, omega (arith, f.1, g.1, e), g.2 ∙ (ap (λ (l : List ℕ). drop g.0 l) f.2 ∙ drop-drop g.0 f.0 a))

pub no_longer : (bs rest : List ℕ) → Tail bs rest → length rest ≤ length bs
no_longer bs rest t = omega (arith, ap length t.2 ∙ length-drop t.0 bs)

behind : (p : ℕ → Bool) (bs : List ℕ) → Tail bs (drop (length (take_while p bs)) bs)
behind p bs = (length (take_while p bs), omega (arith, length-prefix_len p bs, prefix_len-le-length p bs), refl)

pub blanks : (bs : List ℕ) → Tail bs (after_blanks bs)
unfolding after_blanks
blanks bs = behind is_blank bs

pub name : (bs : List ℕ) → Tail bs (after_name bs)
unfolding after_name
name bs = behind is_name_byte bs

pub digits : (bs : List ℕ) → Tail bs (after_digits bs)
unfolding after_digits
digits bs = behind is_digit bs

pub first : (bs : List ℕ) → Tail bs (drop 1 bs)
first [] = (0, omega arith, refl)
first (b ∷ bs) = (1, omega arith, refl)

-- a byte, and the blanks behind it
pub token : (bs : List ℕ) → Tail bs (after_blanks (drop 1 bs))
token bs = join bs (drop 1 bs) (after_blanks (drop 1 bs)) (first bs) (blanks (drop 1 bs))

size : (bs : List ℕ) (n : ℕ) (rest : List ℕ) → IsSize bs n rest → Tail bs rest
size bs n rest h = rw (h.3) (digits bs)

pub exponent : (bs : List ℕ) (negative : Bool) (n : ℕ) (rest : List ℕ) → IsExponent bs negative n rest → Tail bs rest
exponent bs true n rest h = join bs (after_blanks (drop 1 bs)) rest (token bs) (size (after_blanks (drop 1 bs)) n rest h.1)
exponent bs false n rest h = size bs n rest h.1

pub raised : (limit : ℕ) (w v : List Letter) (bs rest : List ℕ) → Raised limit w bs v rest → Tail bs rest
raised limit _ _ _ _ (Raised.none w bs) = same bs
raised limit _ _ _ _ (Raised.more w v bs mid rest negative n t x le p) =
    join bs (after_blanks (drop 1 bs)) rest (token bs)
    (join (after_blanks (drop 1 bs)) mid rest (exponent (after_blanks (drop 1 bs)) negative n mid x)
    (join mid (after_blanks mid) rest (blanks mid) (raised limit _ v (after_blanks mid) rest p)))

pub spelled : (limit : ℕ) (find : Find) (p : Part) (bs : List ℕ) (w : List Letter) (rest : List ℕ) → SpelledWithin limit find p bs w rest → Tail bs rest
spelled limit find _ _ _ _ (SpelledWithin.nothing bs) = same bs
spelled limit find _ _ _ _ (SpelledWithin.follows s bs mid rest u v a f le) =
    join bs mid rest (spelled limit find (Product s) bs u mid a) (spelled limit find Factor mid v rest f)
spelled limit find _ _ _ _ (SpelledWithin.times bs mid rest u v a m f le) = join bs mid rest (spelled limit find _ bs u mid a)
    (join mid (after_blanks (drop 1 mid)) rest (token mid) (spelled limit find Factor (after_blanks (drop 1 mid)) v rest f))
spelled limit find _ _ _ _ (SpelledWithin.powers bs mid rest w v a p) = join bs mid rest (spelled limit find Atom bs w mid a)
    (join mid (after_blanks mid) rest (blanks mid) (raised limit w v (after_blanks mid) rest p.0))
spelled limit find _ _ _ _ (SpelledWithin.name bs g m f) = name bs
spelled limit find _ _ _ _ (SpelledWithin.one bs m) = first bs
spelled limit find _ _ _ _ (SpelledWithin.round s bs mid w m a c) = join bs (after_blanks (drop 1 bs)) (drop 1 mid) (token bs)
    (join (after_blanks (drop 1 bs)) mid (drop 1 mid) (spelled limit find (Product s) (after_blanks (drop 1 bs)) w mid a) (first mid))
spelled limit find _ _ _ _ (SpelledWithin.square s t bs mid last u v m a c b d le) = join bs (after_blanks (drop 1 bs)) (drop 1 last) (token bs)
    (join (after_blanks (drop 1 bs)) mid (drop 1 last) (spelled limit find (Product s) (after_blanks (drop 1 bs)) u mid a)
    (join mid (after_blanks (drop 1 mid)) (drop 1 last) (token mid)
    (join (after_blanks (drop 1 mid)) last (drop 1 last) (spelled limit find (Product t) (after_blanks (drop 1 mid)) v last b) (first last))))

-- the place of an end
pub place : (bs rest : List ℕ) → Tail bs rest → rest ≡ drop (length bs - length rest) bs
place bs rest t =
    let e : length rest ≡ length bs - t.0 = ap length t.2 ∙ length-drop t.0 bs in
    let n : length bs - length rest ≡ t.0 = omega (arith, e, t.1) in
    rw n (t.2)

-- powers leave bytes behind blanks
pub raised_clear : (limit : ℕ) (w v : List Letter) (bs rest : List ℕ) → Raised limit w bs v rest → after_blanks bs ≡ bs → after_blanks rest ≡ rest
raised_clear limit _ _ _ _ (Raised.none w bs) c = c
raised_clear limit _ _ _ _ (Raised.more w v bs mid rest negative k t x le p) c = raised_clear limit _ v (after_blanks mid) rest p (blanks_once mid)

-- the blanks behind a factor are skipped with it
abbrev Clear : Part → List ℕ → List ℕ → Type 0
Clear (Product s) bs rest = after_blanks bs ≡ bs → after_blanks rest ≡ rest
Clear Factor bs rest = after_blanks rest ≡ rest
Clear Atom bs rest = Unit {0}

pub clear : (limit : ℕ) (find : Find) (p : Part) (bs : List ℕ) (w : List Letter) (rest : List ℕ) → SpelledWithin limit find p bs w rest → Clear p bs rest
clear limit find _ _ _ _ (SpelledWithin.nothing bs) = λ c. c
clear limit find _ _ _ _ (SpelledWithin.follows s bs mid rest u v a f le) = λ c. clear limit find Factor mid v rest f
clear limit find _ _ _ _ (SpelledWithin.times bs mid rest u v a m f le) = λ c. clear limit find Factor (after_blanks (drop 1 mid)) v rest f
clear limit find _ _ _ _ (SpelledWithin.powers bs mid rest w v a p) = raised_clear limit w v (after_blanks mid) rest p.0 (blanks_once mid)
clear limit find _ _ _ _ (SpelledWithin.name bs g m f) = tt
clear limit find _ _ _ _ (SpelledWithin.one bs m) = tt
clear limit find _ _ _ _ (SpelledWithin.round s bs mid w m a c) = tt
clear limit find _ _ _ _ (SpelledWithin.square s t bs mid last u v m a c b d le) = tt
