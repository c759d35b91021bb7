-- What no word within the limit goes on with.
use Rattle.std.proofs.Common.{◌≡◌, inl, ℕ, ◌<◌, Bool, true, List, [], ◌∷◌, ◌++◌, length, drop, Err, refl, sym, ◌∙◌, subst, arith}
use Rattle.std.proofs.lemmas.List.{append-nil}
use Rattle.free_words.specs.declared.letter.Letter.{Letter}
use Rattle.free_words.specs.Words.{commutator}
use Rattle.word_text.specs.declared.fault.Fault.{Fault}
use Rattle.word_text.specs.declared.fault.TextKind.TheVariants.{WordTooLong}
use Rattle.word_text.specs.declared.machine.Spot.{Spot}
use Rattle.word_text.specs.declared.machine.Spot.TheVariants.{Start, After, Starred}
use Rattle.word_text.specs.declared.scan.Mark.TheVariants as marks
use Rattle.word_text.specs.Scan.{first_is, after_blanks, mark_of}
use Rattle.word_text.specs.Powers.{power_of}
use Rattle.word_text.specs.Machine.{Second, Frame, Find, factor_ends, shuts, turn}
use Rattle.word_text.specs.Grammar.{IsExponent, Raised, Product, Factor, Atom, SpelledWithin, IsWordWithin}
use Rattle.word_text.specs.Fronts.{SoFar}
use Rattle.word_text.specs.Faults.{bytes_before, RefusedWithin}
use Rattle.word_text.proofs.Lexing.{other, unblank}
use Rattle.word_text.proofs.Limits.{made_long}
use Rattle.word_text.proofs.Factors.{factor_long}
use Rattle.word_text.proofs.Inside.{Inside}
use Rattle.word_text.proofs.PowersRead.{powers_again, powers_long}
use Rattle.word_text.proofs.Again.{at, complete, closes_at, no_star}
use Rattle.word_text.proofs.Swaps.{Swap, both}
use Rattle.word_text.proofs.TokensStay.{Marked, marked, Token, token, Exponent, exponent}
use Rattle.word_text.proofs.PartsStay.{Parts, moves, Pair, pair_moves}
use Rattle.word_text.proofs.Ends.{before_is}
use Rattle.word_text.proofs.Refused.{TextInside, text_moves, read_through, not_read, stuck, SameFirst, same_fits}
use Rattle.word_text.proofs.RefusedNumbers.{AtCaret, caret_moves}

abbrev too_long : ℕ → Fault
too_long start = record { kind = WordTooLong; left = start }

-- a factor whose end fails
no_word_factor : (limit : ℕ) (find : Find) (text : List ℕ) (frames : List Frame) (outer a : List Letter) (spot : Spot) (place mid : List ℕ) (e : Fault)
    (word : List Letter)
    → Inside limit find (after_blanks text) frames outer spot place → SpelledWithin limit find Atom place a mid
    → factor_ends limit frames outer (length place) a mid ≡ Err e → IsWordWithin limit find text word → ⊥
no_word_factor limit find text frames outer a spot place mid e word h atom ends is =
    let x = read_through limit find text frames outer spot place word h is in
    let y = complete limit find Atom place a mid atom frames outer spot x.0 x.1 in
    not_read limit y.0 find (at frames outer spot) place word (factor_ends limit frames outer (length place) a mid) (inl (e, ends)) (sym y.2 ∙ x.2)

-- by one of its powers
power_ends : (limit : ℕ) (frames : List Frame) (outer : List Letter) (start : ℕ) (a v : List Letter) (mid caret last : List ℕ) (negative : Bool) (n : ℕ)
    → Raised limit a (after_blanks mid) v caret → first_is 94 caret ≡ true → IsExponent (after_blanks (drop 1 caret)) negative n last
    → limit < length (power_of negative n v) → factor_ends limit frames outer start a mid ≡ Err (too_long start)
unfolding factor_ends
power_ends limit frames outer start a v mid caret last negative n p c x long = rw (powers_long limit start a v mid caret last negative n p c x long) refl

abbrev AtPower : ℕ → Find → List Letter → List Letter → Bool → ℕ → List ℕ → List ℕ → Type 0
AtPower limit find a v negative n text last = (caret : List ℕ) × AtCaret limit find a v text caret × (first_is 94 caret ≡ true)
    × IsExponent (after_blanks (drop 1 caret)) negative n last

abbrev Caret_exponent : Bool → ℕ → List ℕ → List ℕ → Type 0
Caret_exponent negative n caret last = (first_is 94 caret ≡ true) × IsExponent (after_blanks (drop 1 caret)) negative n last

power_moves : (limit : ℕ) (find : Find) (text : List ℕ) (frames : List Frame) (outer a v : List Letter) (spot : Spot) (place mid caret last : List ℕ)
    (negative : Bool) (n : ℕ)
    → Inside limit find (after_blanks text) frames outer spot place → SpelledWithin limit find Atom place a mid → Raised limit a (after_blanks mid) v caret
    → first_is 94 caret ≡ true → IsExponent (after_blanks (drop 1 caret)) negative n last → Swap (AtPower limit find a v negative n) text last
power_moves limit find text frames outer a v spot place mid caret last negative n h atom p c x =
    let next : List ℕ = after_blanks (drop 1 caret) in
    both (AtCaret limit find a v) (Caret_exponent negative n) (AtPower limit find a v negative n) text caret last
    (caret_moves limit limit find text frames outer a v spot place mid caret (omega arith) h atom p)
    (both (Token 94) (Exponent negative n) (Caret_exponent negative n) caret next last (token 94 caret c) (exponent next negative n last x)
    (λ x y z t i. (t.0, subst (λ (l : List ℕ). IsExponent l negative n z) t.1 i)))
    (λ x y z r i. (y, r, i.0, i.1))

-- no word within the limit begins as the text does, up to some place and its first byte
abbrev NoWord : ℕ → Find → List ℕ → List ℕ → Type 0
NoWord limit find text rest = (cs : List ℕ) → SameFirst rest cs → (word : List Letter)
    → IsWordWithin limit find (bytes_before text (length rest) ++ cs) word → ⊥

there : (limit : ℕ) (find : Find) (text q rest cs : List ℕ) (word : List Letter) → text ≡ q ++ rest
    → IsWordWithin limit find (bytes_before text (length rest) ++ cs) word → IsWordWithin limit find (q ++ cs) word
there limit find text q rest cs word e is = subst (λ (l : List ℕ). IsWordWithin limit find (l ++ cs) word) (before_is text q rest (length rest) e refl) is

pub refuses_power : (limit : ℕ) (find : Find) (text : List ℕ) (frames : List Frame) (outer a v : List Letter) (spot : Spot) (place mid caret last : List ℕ)
    (negative : Bool) (n : ℕ)
    → Inside limit find (after_blanks text) frames outer spot place → SpelledWithin limit find Atom place a mid → Raised limit a (after_blanks mid) v caret
    → first_is 94 caret ≡ true → IsExponent (after_blanks (drop 1 caret)) negative n last → limit < length (power_of negative n v)
    → NoWord limit find text last
refuses_power limit find text frames outer a v spot place mid caret last negative n h atom p c x long = λ cs f word is.
    let s = power_moves limit find text frames outer a v spot place mid caret last negative n h atom p c x in
    let d = s.2 cs (same_fits last cs f) in
    let r = d.1 in
    no_word_factor limit find (s.0 ++ cs) r.0 r.1 a r.2 r.3 r.4 (too_long (length r.3)) word r.5 r.6
    (power_ends limit r.0 r.1 (length r.3) a v r.4 d.0 cs negative n r.7 d.2 d.3 long) (there limit find text s.0 last cs word s.1 is)

-- by the product with it
abbrev AtFactor : ℕ → Find → List Frame → List Letter → Spot → List Letter → List ℕ → List ℕ → Type 0
AtFactor limit find frames outer spot v text rest = (place : List ℕ) × TextInside limit find frames outer spot text place
    × SpelledWithin limit find Factor place v rest

no_word_product : (limit : ℕ) (find : Find) (text : List ℕ) (frames : List Frame) (outer v : List Letter) (spot : Spot) (place rest : List ℕ)
    (word : List Letter)
    → Inside limit find (after_blanks text) frames outer spot place → SpelledWithin limit find Factor place v rest → limit < length (outer ++ v)
    → IsWordWithin limit find text word → ⊥
no_word_product limit find text frames outer _ spot _ _ word h (SpelledWithin.powers place mid rest a v atom p) long is =
    no_word_factor limit find text frames outer a spot place mid (too_long (length place)) word h atom
    (factor_long limit frames outer (length place) a v mid rest (powers_again limit (length place) a v mid rest p) long) is

pub refuses_product : (limit : ℕ) (find : Find) (text : List ℕ) (frames : List Frame) (outer v : List Letter) (spot : Spot) (place rest : List ℕ)
    → Inside limit find (after_blanks text) frames outer spot place → SpelledWithin limit find Factor place v rest → limit < length (outer ++ v)
    → NoWord limit find text rest
refuses_product limit find text frames outer v spot place rest h factor long = λ cs f word is.
    let s =
    both (TextInside limit find frames outer spot) (Parts limit find Factor v) (AtFactor limit find frames outer spot v) text place rest
    (text_moves limit limit find text frames outer spot place (omega arith) h) (moves limit limit find Factor place v rest (omega arith) factor)
    (λ x y z i p. (y, i, p)) in
    let d = s.2 cs (same_fits rest cs f) in
    no_word_product limit find (s.0 ++ cs) d.1.0 outer v spot d.0 cs word d.1.1 d.2 long (there limit find text s.0 rest cs word s.1 is)

-- by a commutator
so_far : (limit : ℕ) (find : Find) (s : Spot) (begin : List ℕ) (w : List Letter) (rest : List ℕ) → SpelledWithin limit find (Product s) begin w rest
    → SoFar limit find s begin w rest
so_far limit find Start begin w rest h = h
so_far limit find After begin w rest h = h
so_far limit find Starred begin w rest h = absurd (no_star limit find (Product Starred) begin w rest h)

commutator_shuts : (limit : ℕ) (frames : List Frame) (outer u v : List Letter) (start : ℕ) (bs : List ℕ) → first_is 93 bs ≡ true
    → limit < length (commutator u v)
    → shuts limit (Second u) frames outer start v bs ≡ Err (too_long start)
commutator_shuts limit frames outer u v start bs c long = rw (c, made_long limit start (commutator u v) long) refl

no_word_commutator : (limit : ℕ) (find : Find) (text : List ℕ) (frames : List Frame) (outer u v : List Letter) (spot s t : Spot) (place mid last : List ℕ)
    (word : List Letter)
    → Inside limit find (after_blanks text) frames outer spot place → mark_of place ≡ marks.Square
    → SpelledWithin limit find (Product s) (after_blanks (drop 1 place)) u mid → first_is 44 mid ≡ true
    → SpelledWithin limit find (Product t) (after_blanks (drop 1 mid)) v last → first_is 93 last ≡ true → limit < length (commutator u v)
    → IsWordWithin limit find text word → ⊥
no_word_commutator limit find text frames outer u v spot s t place mid last word h m a c b d long is =
    let g : Frame = record { outer = outer; start = length place; opening = Second u } in
    let next : List ℕ = after_blanks (drop 1 mid) in
    let x = read_through limit find text (g ∷ frames) v t last word (
      place,
      next,
      spot,
      h,
      (s, mid, m, a, c, refl),
      so_far limit find t next v last b,
      refl,
    ) is in
    let e : turn limit find (at (g ∷ frames) v t) last ≡ Err (too_long (length place)) =
    closes_at limit find t (g ∷ frames) v 93 last (no_star limit find (Product t) next v last b) other.2 unblank.2 d
    ∙ commutator_shuts limit frames outer u v (length place) last d long in
    stuck limit x.0 find (at (g ∷ frames) v t) last word x.1 (inl (too_long (length place), e)) x.2

abbrev AtSquare : ℕ → Find → List Frame → List Letter → Spot → Spot → Spot → List Letter → List Letter → List ℕ → List ℕ → Type 0
AtSquare limit find frames outer spot s t u v text rest = (place : List ℕ) × TextInside limit find frames outer spot text place × (mark_of place ≡ marks.Square)
    × Pair limit find s t u v (after_blanks (drop 1 place)) rest

abbrev Square_pair : ℕ → Find → Spot → Spot → List Letter → List Letter → List ℕ → List ℕ → Type 0
Square_pair limit find s t u v place rest = (mark_of place ≡ marks.Square) × Pair limit find s t u v (after_blanks (drop 1 place)) rest

square_moves : (limit : ℕ) (find : Find) (text : List ℕ) (frames : List Frame) (outer u v : List Letter) (spot s t : Spot) (place mid last : List ℕ)
    → Inside limit find (after_blanks text) frames outer spot place → mark_of place ≡ marks.Square
    → SpelledWithin limit find (Product s) (after_blanks (drop 1 place)) u mid → first_is 44 mid ≡ true
    → SpelledWithin limit find (Product t) (after_blanks (drop 1 mid)) v last → first_is 93 last ≡ true
    → Swap (AtSquare limit find frames outer spot s t u v) text (drop 1 last)
square_moves limit find text frames outer u v spot s t place mid last h m a c b d =
    let next : List ℕ = after_blanks (drop 1 place) in
    let second : List ℕ = after_blanks (drop 1 mid) in
    both (TextInside limit find frames outer spot) (Square_pair limit find s t u v) (AtSquare limit find frames outer spot s t u v) text place (drop 1 last)
    (text_moves limit limit find text frames outer spot place (omega arith) h)
    (both (Marked marks.Square) (Pair limit find s t u v) (Square_pair limit find s t u v) place next (drop 1 last) (marked marks.Square place m (λ e. cc))
    (pair_moves limit find s t u v next mid last (moves limit limit find (Product s) next u mid (omega arith) a) c
    (moves limit limit find (Product t) second v last (omega arith) b) d)
    (λ x y z k p. (k.0, subst (λ (l : List ℕ). Pair limit find s t u v l z) k.1 p)))
    (λ x y z i p. (y, i, p.0, p.1))

pub refuses_commutator : (limit : ℕ) (find : Find) (text : List ℕ) (frames : List Frame) (outer u v : List Letter) (spot s t : Spot) (place mid last : List ℕ)
    → Inside limit find (after_blanks text) frames outer spot place → mark_of place ≡ marks.Square
    → SpelledWithin limit find (Product s) (after_blanks (drop 1 place)) u mid → first_is 44 mid ≡ true
    → SpelledWithin limit find (Product t) (after_blanks (drop 1 mid)) v last → first_is 93 last ≡ true → limit < length (commutator u v)
    → NoWord limit find text (drop 1 last)
refuses_commutator limit find text frames outer u v spot s t place mid last h m a c b d long = λ cs f word is.
    let x = square_moves limit find text frames outer u v spot s t place mid last h m a c b d in
    let y = x.2 cs (same_fits (drop 1 last) cs f) in
    let p = y.3 in
    no_word_commutator limit find (x.0 ++ cs) y.1.0 outer u v spot s t y.0 p.0 p.3.0 word y.1.1 y.2 p.1 p.2 p.3.1 p.3.2 long
    (there limit find text x.0 (drop 1 last) cs word x.1 is)

pub refused_within : (limit : ℕ) (find : Find) (text rest : List ℕ) → NoWord limit find text rest
    → RefusedWithin limit find (bytes_before text (length rest)) rest
refused_within limit find text [] f =
    λ word is. f [] SameFirst.none word (subst (λ (l : List ℕ). IsWordWithin limit find l word) (sym (append-nil (bytes_before text 0))) is)
refused_within limit find text (b ∷ bs) f = λ more word is. f (b ∷ more) (SameFirst.some b bs more) word is
