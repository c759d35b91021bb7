-- How the reading of a word ends: with a word of the grammar, or where it stops.
use Rattle.std.proofs.Common.{◌==◌, ◌≡◌, ℕ, zero, suc, ◌<◌, Bool, true, false, List, [], ◌∷◌, length, Result, Ok, Err, refl, subst, arith, if◌then◌else◌}
use Rattle.std.proofs.lemmas.Bool.Decides.{nat_tests}
use Rattle.free_words.specs.declared.letter.Letter.{Letter}
use Rattle.word_text.specs.declared.fault.Fault.{Fault}
use Rattle.word_text.specs.declared.machine.Spot.{Spot}
use Rattle.word_text.specs.declared.machine.Spot.TheVariants.{Start, After, Starred}
use Rattle.word_text.specs.Scan.{◌>>=◌, after_blanks, due}
use Rattle.word_text.specs.Powers.{written}
use Rattle.word_text.specs.Machine.{Frame, Reading, Turned, Find, turn, word_from, word_within, word_at, fresh}
use Rattle.word_text.specs.Grammar.{Product, SpelledWithin, IsWordWithin, IsWord}
use Rattle.word_text.specs.Fronts.{SoFar}
use Rattle.word_text.specs.Place.{whole, text_within, word_text}
use Rattle.word_text.proofs.Lexing.{skip_le}
use Rattle.word_text.proofs.Inside.{Inside, goes_on_with, CanEnd, Blocked, Stops}
use Rattle.word_text.proofs.Turns.{Turns, turn_leads}

-- a word at the head of the bytes, or a fault
pub data HeadRead (limit : ℕ) (find : Find) (origin : List ℕ) : Result (List Letter × List ℕ) Fault → Type 0 where
  head : (w : List Letter) (spot : Spot) (rest : List ℕ) → SoFar limit find spot origin w rest → CanEnd spot rest → HeadRead limit find origin (Ok (w, rest))
  stops : (e : Fault) → Stops limit find origin e → HeadRead limit find origin (Err e)

turned : (limit n : ℕ) (find : Find) (origin bs : List ℕ) (r : Result Turned Fault) → Turns limit find origin bs r
    → ((frames : List Frame) (w : List Letter) (spot : Spot) (rest : List ℕ) → Inside limit find origin frames w spot (after_blanks rest)
    → length rest < length bs
    → HeadRead limit find origin (word_from limit n find (record { frames = frames; product = w; spot = spot }) rest))
    → HeadRead limit find origin (r >>= λ t. if t.ended then Ok (t.state.product, t.rest) else word_from limit n find t.state t.rest)
turned limit n find origin bs _ (Turns.on frames w spot rest h lt) next = next frames w spot rest h lt
turned limit n find origin bs _ (Turns.ends w spot h can) next = HeadRead.head w spot bs h can
turned limit n find origin bs _ (Turns.stops e h) next = HeadRead.stops e h

head_from : (limit n : ℕ) (find : Find) (origin : List ℕ) (s : Reading) (bs : List ℕ) → length bs < n
    → Inside limit find origin s.frames s.product s.spot (after_blanks bs) → HeadRead limit find origin (word_from limit n find s bs)
unfolding word_from
head_from limit zero find origin s bs lt h = absurd (omega arith)
head_from limit (suc n) find origin s bs lt h =
    turned limit n find origin (after_blanks bs) (turn limit find s bs) (turn_leads limit find origin s bs h)
    (λ frames w spot rest i less. head_from limit n find origin (record { frames = frames; product = w; spot = spot }) rest (omega (arith, skip_le bs)) i)

pub head_read : (limit : ℕ) (find : Find) (bs : List ℕ) → HeadRead limit find (after_blanks bs) (word_within limit find bs)
unfolding word_within
head_read limit find bs =
    head_from limit (suc (length bs)) find (after_blanks bs) fresh bs (omega arith) (SpelledWithin.nothing (after_blanks bs))

-- the word that is the whole text, or the first fault
pub data TextRead (limit : ℕ) (find : Find) (text : List ℕ) : Result (List Letter) Fault → Type 0 where
  word : (w : List Letter) → IsWordWithin limit find text w → TextRead limit find text (Ok w)
  stops : (e : Fault) → Stops limit find (after_blanks text) e → TextRead limit find text (Err e)

abbrev pub Whole : ℕ → Find → List ℕ → List Letter → List ℕ → Type 0
Whole limit find begin w rest = (s : Spot) × SpelledWithin limit find (Product s) begin w rest

pub product_of : (limit : ℕ) (find : Find) (spot : Spot) (begin : List ℕ) (w : List Letter) (rest : List ℕ) → SoFar limit find spot begin w rest
    → CanEnd spot rest
    → Whole limit find begin w rest
product_of limit find Start begin w rest h can = (Start, h)
product_of limit find After begin w rest h can = (After, h)
product_of limit find Starred begin w rest h can = absurd can

blocked_end : (spot : Spot) (rest : List ℕ) → CanEnd spot rest → goes_on_with [] rest ≡ false → Blocked [] spot rest
blocked_end Start rest can e = (can, e)
blocked_end After rest can e = (can, e)
blocked_end Starred rest can e = absurd can

empty_is : (xs : List ℕ) → (length xs == 0) ≡ true → xs ≡ []
empty_is [] e = refl
empty_is (x ∷ xs) e = absurd (grind (arith, nat_tests))

ended : (limit : ℕ) (find : Find) (text : List ℕ) (w : List Letter) (spot : Spot) (rest : List ℕ) (b : Bool) → (length rest == 0) ≡ b
    → SoFar limit find spot (after_blanks text) w rest → CanEnd spot rest → TextRead limit find text (if b then Ok w else Err (due rest))
ended limit find text w spot rest true e h can =
    TextRead.word w (subst (λ (l : List ℕ). Whole limit find (after_blanks text) w l) (empty_is rest e)
    (product_of limit find spot (after_blanks text) w rest h can))
ended limit find text w spot rest false e h can = TextRead.stops (due rest) (Stops.blocked [] w spot rest h (blocked_end spot rest can e))

by_head : (limit : ℕ) (find : Find) (text : List ℕ) (r : Result (List Letter × List ℕ) Fault) → HeadRead limit find (after_blanks text) r
    → TextRead limit find text (whole r)
by_head limit find text _ (HeadRead.head w spot rest h can) = ended limit find text w spot rest (length rest == 0) refl h can
by_head limit find text _ (HeadRead.stops e h) = TextRead.stops e h

pub text_read : (limit : ℕ) (find : Find) (text : List ℕ) → TextRead limit find text (text_within limit find text)
unfolding text_within
text_read limit find text = by_head limit find text (word_within limit find text) (head_read limit find text)

-- what is read at the head of the bytes is a product of the grammar
head_word : (limit : ℕ) (find : Find) (origin : List ℕ) (r : Result (List Letter × List ℕ) Fault) (w : List Letter) (rest : List ℕ)
    → HeadRead limit find origin r
    → r ≡ Ok (w, rest) → Whole limit find origin w rest
head_word limit find origin _ w rest (HeadRead.head v spot bs h can) e =
    let same : ◌≡◌ {A = List Letter × List ℕ} (v, bs) (w, rest) = cc in
    subst (λ (x : List Letter × List ℕ). Whole limit find origin x.0 x.1) same (product_of limit find spot origin v bs h can)
head_word limit find origin _ w rest (HeadRead.stops d h) e = cc

pub word_spelled_within : (limit : ℕ) (find : Find) (bs : List ℕ) (w : List Letter) (rest : List ℕ) → word_within limit find bs ≡ Ok (w, rest)
    → Whole limit find (after_blanks bs) w rest
word_spelled_within limit find bs w rest e = head_word limit find (after_blanks bs) (word_within limit find bs) w rest (head_read limit find bs) e

pub word_spelled : (find : Find) (bs : List ℕ) (w : List Letter) (rest : List ℕ) → word_at find bs ≡ Ok (w, rest) → Whole written find (after_blanks bs) w rest
word_spelled find bs w rest e = word_spelled_within written find bs w rest e

-- what is read of a whole text is a word of the grammar
text_word : (limit : ℕ) (find : Find) (text : List ℕ) (r : Result (List Letter) Fault) (w : List Letter) → TextRead limit find text r → r ≡ Ok w
    → IsWordWithin limit find text w
text_word limit find text _ w (TextRead.word v h) e =
    let same : v ≡ w = cc in
    subst (λ (x : List Letter). IsWordWithin limit find text x) same h
text_word limit find text _ w (TextRead.stops d h) e = cc

pub text_spelled_within : (limit : ℕ) (find : Find) (text : List ℕ) (w : List Letter) → text_within limit find text ≡ Ok w → IsWordWithin limit find text w
text_spelled_within limit find text w e = text_word limit find text (text_within limit find text) w (text_read limit find text) e

pub text_spelled : (find : Find) (text : List ℕ) (w : List Letter) → word_text find text ≡ Ok w → IsWord find text w
text_spelled find text w e = text_spelled_within written find text w e

-- where a reading fails it stops
text_stop : (limit : ℕ) (find : Find) (text : List ℕ) (r : Result (List Letter) Fault) (e : Fault) → TextRead limit find text r → r ≡ Err e
    → Stops limit find (after_blanks text) e
text_stop limit find text _ e (TextRead.word v h) q = cc
text_stop limit find text _ e (TextRead.stops d h) q =
    let same : d ≡ e = cc in
    subst (λ (x : Fault). Stops limit find (after_blanks text) x) same h

pub text_stops : (limit : ℕ) (find : Find) (text : List ℕ) (e : Fault) → text_within limit find text ≡ Err e → Stops limit find (after_blanks text) e
text_stops limit find text e q = text_stop limit find text (text_within limit find text) e (text_read limit find text) q
