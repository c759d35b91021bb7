-- The letters of a word that is read are generators that its names gave, and it is no longer than a written word may be.
use Rattle.std.proofs.Common.{◌≡◌, ℕ, zero, suc, ◌<◌, ◌≤◌, Bool, true, false, List, [], ◌∷◌, ◌++◌, length, Some, Ok, arith}
use Rattle.std.proofs.lemmas.List.{map-append, reverse-append}
use Rattle.free_words.specs.declared.letter.Letter.{Letter}
use Rattle.free_words.specs.Words.{IsOver, flipped, inverse, commutator, copies}
use Rattle.word_text.specs.Powers.{written, power_of}
use Rattle.word_text.specs.Machine.{Find, word_at}
use Rattle.word_text.specs.Grammar.{Raised, Part, Product, Factor, Atom, SpelledWithin, IsWord}
use Rattle.word_text.specs.Scan.{after_blanks}
use Rattle.word_text.proofs.Reached.{word_spelled}

over_append : (n : ℕ) (u v : List Letter) → IsOver n u → IsOver n v → IsOver n (u ++ v)
over_append n [] v a b = b
over_append n (x ∷ u) v a b = (a.0, over_append n u v a.1 b)

over_inverse : (n : ℕ) (w : List Letter) → IsOver n w → IsOver n (inverse w)
over_inverse n [] a = tt
over_inverse n (x ∷ w) a =
    rw (reverse-append (x ∷ []) w, map-append) (over_append n (inverse w) (flipped x ∷ []) (over_inverse n w a.1) (a.0, tt))

over_copies : (n k : ℕ) (w : List Letter) → IsOver n w → IsOver n (copies k w)
over_copies n zero w a = tt
over_copies n (suc k) w a = over_append n (copies k w) w (over_copies n k w a) a

over_power : (n k : ℕ) (negative : Bool) (w : List Letter) → IsOver n w → IsOver n (power_of negative k w)
over_power n k true w a = over_copies n k (inverse w) (over_inverse n w a)
over_power n k false w a = over_copies n k w a

over_raised : (limit n : ℕ) (w v : List Letter) (bs rest : List ℕ) → Raised limit w bs v rest → IsOver n w → IsOver n v
over_raised limit n _ _ _ _ (Raised.none w bs) a = a
over_raised limit n _ _ _ _ (Raised.more w v bs mid rest negative k t x le p) a =
    over_raised limit n (power_of negative k w) v (after_blanks mid) rest p (over_power n k negative w a)

over_commutator : (n : ℕ) (u v : List Letter) → IsOver n u → IsOver n v → IsOver n (commutator u v)
over_commutator n u v a b =
    over_append n (u ++ v ++ inverse u) (inverse v) (over_append n (u ++ v) (inverse u) (over_append n u v a b) (over_inverse n u a)) (over_inverse n v b)

-- where each name that is found has a number below n, so has each letter
pub over_spelled : (limit n : ℕ) (find : Find) → ((name : List ℕ) (g : ℕ) → find name ≡ Some g → g < n)
    → (p : Part) (bs : List ℕ) (w : List Letter) (rest : List ℕ) → SpelledWithin limit find p bs w rest → IsOver n w
over_spelled limit n find below _ _ _ _ (SpelledWithin.nothing bs) = tt
over_spelled limit n find below _ _ _ _ (SpelledWithin.follows s bs mid rest u v a f le) =
    over_append n u v (over_spelled limit n find below (Product s) bs u mid a) (over_spelled limit n find below Factor mid v rest f)
over_spelled limit n find below _ _ _ _ (SpelledWithin.times bs mid rest u v a m f le) =
    over_append n u v (over_spelled limit n find below _ bs u mid a) (over_spelled limit n find below Factor _ v rest f)
over_spelled limit n find below _ _ _ _ (SpelledWithin.powers bs mid rest w v a p) =
    over_raised limit n w v (after_blanks mid) rest p.0 (over_spelled limit n find below Atom bs w mid a)
over_spelled limit n find below _ _ _ _ (SpelledWithin.name bs g m f) = (below _ g f, tt)
over_spelled limit n find below _ _ _ _ (SpelledWithin.one bs m) = tt
over_spelled limit n find below _ _ _ _ (SpelledWithin.round s bs mid w m a c) = over_spelled limit n find below (Product s) _ w mid a
over_spelled limit n find below _ _ _ _ (SpelledWithin.square s t bs mid last u v m a c b d le) =
    over_commutator n u v (over_spelled limit n find below (Product s) _ u mid a) (over_spelled limit n find below (Product t) _ v last b)

abbrev pub Short : ℕ → Part → List Letter → Type 0
Short limit (Product s) w = length w ≤ limit
Short limit Factor w = Unit {0}
Short limit Atom w = Unit {0}

pub short : (limit : ℕ) (find : Find) (p : Part) (bs : List ℕ) (w : List Letter) (rest : List ℕ) → SpelledWithin limit find p bs w rest → Short limit p w
short limit find _ _ _ _ (SpelledWithin.nothing bs) = omega arith
short limit find _ _ _ _ (SpelledWithin.follows s bs mid rest u v a f le) = le
short limit find _ _ _ _ (SpelledWithin.times bs mid rest u v a m f le) = le
short limit find _ _ _ _ (SpelledWithin.powers bs mid rest w v a p) = tt
short limit find _ _ _ _ (SpelledWithin.name bs g m f) = tt
short limit find _ _ _ _ (SpelledWithin.one bs m) = tt
short limit find _ _ _ _ (SpelledWithin.round s bs mid w m a c) = tt
short limit find _ _ _ _ (SpelledWithin.square s t bs mid last u v m a c b d le) = tt

pub word_over : (n : ℕ) (find : Find) (text : List ℕ) (w : List Letter) → ((name : List ℕ) (g : ℕ) → find name ≡ Some g → g < n)
    → IsWord find text w → IsOver n w
word_over n find text w below h = over_spelled written n find below (Product h.0) (after_blanks text) w [] h.1

pub word_short : (find : Find) (text : List ℕ) (w : List Letter) → IsWord find text w → length w ≤ written
word_short find text w h = short written find (Product h.0) (after_blanks text) w [] h.1

pub read_over : (n : ℕ) (find : Find) (text : List ℕ) (w : List Letter) (rest : List ℕ) → ((name : List ℕ) (g : ℕ) → find name ≡ Some g → g < n)
    → word_at find text ≡ Ok (w, rest) → IsOver n w
read_over n find text w rest below e =
    let h = word_spelled find text w rest e in
    over_spelled written n find below (Product h.0) (after_blanks text) w rest h.1

pub read_short : (find : Find) (text : List ℕ) (w : List Letter) (rest : List ℕ) → word_at find text ≡ Ok (w, rest) → length w ≤ written
read_short find text w rest e =
    let h = word_spelled find text w rest e in
    short written find (Product h.0) (after_blanks text) w rest h.1
