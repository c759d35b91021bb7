-- What is in the grammar is read.
use Rattle.std.proofs.Common.{◌≡◌, ℕ, zero, suc, ◌<◌, ◌≤◌, true, false, List, [], ◌∷◌, ◌++◌, length, drop, Option, Result, Ok, refl, sym, ◌∙◌, ap, subst, arith}
use Rattle.std.proofs.Common.{if◌then◌else◌}
use Rattle.free_words.specs.declared.letter.Letter.{Letter}
use Rattle.free_words.specs.Words.{commutator}
use Rattle.word_text.specs.declared.fault.Fault.{Fault}
use Rattle.word_text.specs.declared.scan.Mark.{Mark}
use Rattle.word_text.specs.declared.scan.Mark.TheVariants as marks
use Rattle.word_text.specs.declared.machine.Spot.{Spot}
use Rattle.word_text.specs.declared.machine.Spot.TheVariants.{Start, After, Starred}
use Rattle.word_text.specs.Scan.{◌>>=◌, is_blank, mark_byte, first_is, after_blanks, after_name, mark_of}
use Rattle.word_text.specs.Powers.{written}
use Rattle.word_text.specs.Machine.{Opening, Round, Square, Second, Frame, Reading, Turned, Find, goes_on, factor_ends, shuts, closes, stands_no_factor, named}
use Rattle.word_text.specs.Machine.{turn_on, turn, word_from, word_within, fresh}
use Rattle.word_text.specs.Grammar.{Part, Product, Factor, Atom, SpelledWithin, PowersWithin, IsWordWithin, IsWord}
use Rattle.word_text.specs.Fronts.{SoFar}
use Rattle.word_text.specs.Place.{text_within, word_text}
use Rattle.word_text.proofs.Limits.{made_ok}
use Rattle.word_text.proofs.Lexing.{blanks_once, no_blanks, marked_skip, closing, other, unblank, skip_le, name_lt, first_lt, mark_some}
use Rattle.word_text.proofs.Suffixes.{no_longer, raised}
use Rattle.word_text.proofs.Factors.{factor_ok}
use Rattle.word_text.proofs.PowersRead.{powers_again}
use Rattle.word_text.proofs.Inside.{Opened, Inside}

-- with room enough, reading from here is reading from there
abbrev pub Reaches : ℕ → Find → Reading → List ℕ → Reading → List ℕ → Type 0
Reaches limit find s bs t rest =
    (n : ℕ) → length bs < n → (m : ℕ) × (length rest < m) × (word_from limit n find s bs ≡ word_from limit m find t rest)

pub thence : (limit : ℕ) (find : Find) (s t u : Reading) (bs mid rest : List ℕ) → Reaches limit find s bs t mid → Reaches limit find t mid u rest
    → Reaches limit find s bs u rest
thence limit find s t u bs mid rest f g = λ n lt. (let x = f n lt in let y = g x.0 x.1 in (y.0, y.1, x.2 ∙ y.2))

-- what a turn leads to, read on
abbrev pub Onward : ℕ → ℕ → Find → Result Turned Fault → Result (List Letter × List ℕ) Fault
Onward limit n find r = r >>= λ t. if t.ended then Ok (t.state.product, t.rest) else word_from limit n find t.state t.rest

-- reading from here is reading on from the factor that ends there
abbrev pub Arrives : ℕ → Find → Reading → List ℕ → Result Turned Fault → List ℕ → Type 0
Arrives limit find s bs r raw = (n : ℕ) → length bs < n → (m : ℕ) × (length raw < m) × (word_from limit n find s bs ≡ Onward limit m find r)

then_arrives : (limit : ℕ) (find : Find) (s t : Reading) (bs mid raw : List ℕ) (r : Result Turned Fault) → Reaches limit find s bs t mid
    → Arrives limit find t mid r raw → Arrives limit find s bs r raw
then_arrives limit find s t bs mid raw r f g = λ n lt. (let x = f n lt in let y = g x.0 x.1 in (y.0, y.1, x.2 ∙ y.2))

pub word_skips : (limit n : ℕ) (find : Find) (s : Reading) (bs : List ℕ) → word_from limit (suc n) find s (after_blanks bs) ≡ word_from limit (suc n) find s bs
unfolding word_from turn
word_skips limit n find s bs = rw (blanks_once bs) refl

turned : (limit n : ℕ) (find : Find) (s t : Reading) (bs raw : List ℕ) → turn limit find s bs ≡ goes_on t.frames t.product t.spot raw
    → word_from limit (suc n) find s bs ≡ word_from limit n find t raw
unfolding word_from
turned limit n find s t bs raw e = rw e refl

one_turn : (limit : ℕ) (find : Find) (s t : Reading) (bs raw : List ℕ) → turn limit find s bs ≡ goes_on t.frames t.product t.spot raw → length raw < length bs
    → Reaches limit find s bs t (after_blanks raw)
one_turn limit find s t bs raw e lt zero room = absurd (omega arith)
one_turn limit find s t bs raw e lt (suc zero) room = absurd (omega arith)
one_turn limit find s t bs raw e lt (suc (suc n)) room =
    (suc n, omega (arith, skip_le raw), turned limit (suc n) find s t bs raw e ∙ sym (word_skips limit n find t raw))

pub last_turn : (limit n : ℕ) (find : Find) (s : Reading) (bs : List ℕ) (r : Result Turned Fault) → turn limit find s bs ≡ r
    → word_from limit (suc n) find s bs ≡ Onward limit n find r
unfolding word_from
last_turn limit n find s bs r e = rw e refl

arrives : (limit : ℕ) (find : Find) (s : Reading) (bs raw : List ℕ) (r : Result Turned Fault) → turn limit find s bs ≡ r → length raw < length bs
    → Arrives limit find s bs r raw
arrives limit find s bs raw r e lt zero room = absurd (omega arith)
arrives limit find s bs raw r e lt (suc n) room = (n, omega arith, last_turn limit n find s bs r e)

-- a turn at a mark
pub turn_at : (limit : ℕ) (find : Find) (m : Mark) (s : Reading) (bs : List ℕ) → mark_of bs ≡ m → after_blanks bs ≡ bs
    → turn limit find s bs ≡ turn_on limit find m s bs
unfolding turn
turn_at limit find m s bs e sk = rw (sk, e) refl

-- `*` never ends a product
abbrev pub Unstarred : Part → Type 0
Unstarred (Product Start) = Unit {0}
Unstarred (Product After) = Unit {0}
Unstarred (Product Starred) = ⊥
Unstarred Factor = Unit {0}
Unstarred Atom = Unit {0}

pub no_star : (limit : ℕ) (find : Find) (p : Part) (bs : List ℕ) (w : List Letter) (rest : List ℕ) → SpelledWithin limit find p bs w rest → Unstarred p
no_star limit find _ _ _ _ (SpelledWithin.nothing bs) = tt
no_star limit find _ _ _ _ (SpelledWithin.follows s bs mid rest u v a f le) = tt
no_star limit find _ _ _ _ (SpelledWithin.times bs mid rest u v a m f le) = tt
no_star limit find _ _ _ _ (SpelledWithin.powers bs mid rest w v a p) = tt
no_star limit find _ _ _ _ (SpelledWithin.name bs g m f) = tt
no_star limit find _ _ _ _ (SpelledWithin.one bs m) = tt
no_star limit find _ _ _ _ (SpelledWithin.round s bs mid w m a c) = tt
no_star limit find _ _ _ _ (SpelledWithin.square s t bs mid last u v m a c b d le) = tt

no_factor : (limit : ℕ) (s : Spot) (st : Reading) (bs : List ℕ) → Unstarred (Product s) → stands_no_factor limit s st bs ≡ closes limit st.frames st bs
no_factor limit Start st bs u = refl
no_factor limit After st bs u = refl
no_factor limit Starred st bs u = absurd u

abbrev pub at : List Frame → List Letter → Spot → Reading
at frames product spot = record { frames = frames; product = product; spot = spot }

-- the bytes that go on with a bracket
pub closes_at : (limit : ℕ) (find : Find) (s : Spot) (frames : List Frame) (w : List Letter) (c : ℕ) (bs : List ℕ) → Unstarred (Product s)
    → mark_byte c ≡ marks.Other → is_blank c ≡ false → first_is c bs ≡ true → turn limit find (at frames w s) bs ≡ closes limit frames (at frames w s) bs
closes_at limit find s frames w c bs u m n e =
    let k = closing c m n bs e in
    turn_at limit find marks.Other (at frames w s) bs k.0 k.1 ∙ no_factor limit s (at frames w s) bs u

-- a bracket opens
opens_there : (limit : ℕ) (find : Find) (frames : List Frame) (outer : List Letter) (spot : Spot) (place : List ℕ) → mark_of place ≡ marks.Round
    → Reaches limit find (at frames outer spot) place (at (record { outer = outer; start = length place; opening = Round } ∷ frames) [] Start)
    (after_blanks (drop 1 place))
opens_there limit find frames outer spot place m =
    one_turn limit find (at frames outer spot) (at (record { outer = outer; start = length place; opening = Round } ∷ frames) [] Start) place (drop 1 place)
    (turn_at limit find marks.Round (at frames outer spot) place m (marked_skip place marks.Round m (λ e. cc))) (mark_some place marks.Round m (λ e. cc))

opens_square : (limit : ℕ) (find : Find) (frames : List Frame) (outer : List Letter) (spot : Spot) (place : List ℕ) → mark_of place ≡ marks.Square
    → Reaches limit find (at frames outer spot) place (at (record { outer = outer; start = length place; opening = Square } ∷ frames) [] Start)
    (after_blanks (drop 1 place))
opens_square limit find frames outer spot place m =
    one_turn limit find (at frames outer spot) (at (record { outer = outer; start = length place; opening = Square } ∷ frames) [] Start) place (drop 1 place)
    (turn_at limit find marks.Square (at frames outer spot) place m (marked_skip place marks.Square m (λ e. cc))) (mark_some place marks.Square m (λ e. cc))

-- the comma of a square bracket
passes_comma : (limit : ℕ) (find : Find) (frames : List Frame) (outer u : List Letter) (start : ℕ) (s : Spot) (mid : List ℕ) → Unstarred (Product s)
    → first_is 44 mid ≡ true
    → Reaches limit find (at (record { outer = outer; start = start; opening = Square } ∷ frames) u s) mid
    (at (record { outer = outer; start = start; opening = Second u } ∷ frames) [] Start) (after_blanks (drop 1 mid))
passes_comma limit find frames outer u start s mid n c =
    let f : Frame = record { outer = outer; start = start; opening = Square } in
    let g : Frame = record { outer = outer; start = start; opening = Second u } in
    let q : shuts limit Square frames outer start u mid ≡ goes_on (g ∷ frames) [] Start (drop 1 mid) = rw c refl in
    one_turn limit find (at (f ∷ frames) u s) (at (g ∷ frames) [] Start) mid (drop 1 mid)
    (closes_at limit find s (f ∷ frames) u 44 mid n other.1 unblank.1 c ∙ q) (first_lt 44 mid c)

-- `*` behind a factor
passes_star : (limit : ℕ) (find : Find) (frames : List Frame) (w : List Letter) (star : List ℕ) → mark_of star ≡ marks.Star
    → Reaches limit find (at frames w After) star (at frames w Starred) (after_blanks (drop 1 star))
passes_star limit find frames w star m =
    one_turn limit find (at frames w After) (at frames w Starred) star (drop 1 star)
    (turn_at limit find marks.Star (at frames w After) star m (marked_skip star marks.Star m (λ e. cc))) (mark_some star marks.Star m (λ e. cc))

-- each claim of a part, by the brackets that are open around it
abbrev Claim : ℕ → Find → Part → List ℕ → List Letter → List ℕ → Type 0
Claim limit find (Product s) bs w rest = (frames : List Frame) → Reaches limit find (at frames [] Start) bs (at frames w s) rest
Claim limit find Factor bs v rest = (frames : List Frame) (outer : List Letter) (spot : Spot) → length (outer ++ v) ≤ limit
    → Reaches limit find (at frames outer spot) bs (at frames (outer ++ v) After) rest
Claim limit find Atom bs a raw = (frames : List Frame) (outer : List Letter) (spot : Spot)
    → Arrives limit find (at frames outer spot) bs (factor_ends limit frames outer (length bs) a raw) raw

-- an atom with its powers
factor_reaches : (limit : ℕ) (find : Find) (frames : List Frame) (outer a v : List Letter) (spot : Spot) (bs raw rest : List ℕ)
    → Arrives limit find (at frames outer spot) bs (factor_ends limit frames outer (length bs) a raw) raw
    → PowersWithin limit a (after_blanks raw) v rest → length (outer ++ v) ≤ limit
    → Reaches limit find (at frames outer spot) bs (at frames (outer ++ v) After) rest
factor_reaches limit find frames outer a v spot bs raw rest f p le = λ n lt.
    let x = f n lt in
    let e : factor_ends limit frames outer (length bs) a raw ≡ goes_on frames (outer ++ v) After rest =
    factor_ok limit frames outer (length bs) a v raw rest (powers_again limit (length bs) a v raw rest p) le in
    (x.0, omega (arith, x.1, skip_le raw, no_longer (after_blanks raw) rest (raised limit a v (after_blanks raw) rest p.0)), x.2 ∙ ap (Onward limit x.0 find) e)

pub complete : (limit : ℕ) (find : Find) (p : Part) (bs : List ℕ) (w : List Letter) (rest : List ℕ) → SpelledWithin limit find p bs w rest
    → Claim limit find p bs w rest
complete limit find _ _ _ _ (SpelledWithin.nothing bs) = λ frames n lt. (n, lt, refl)
complete limit find _ _ _ _ (SpelledWithin.follows s bs mid rest u v a f le) = λ frames.
    thence limit find (at frames [] Start) (at frames u s) (at frames (u ++ v) After) bs mid rest
    (complete limit find (Product s) bs u mid a frames) (complete limit find Factor mid v rest f frames u s le)
complete limit find _ _ _ _ (SpelledWithin.times bs mid rest u v a m f le) = λ frames.
    thence limit find (at frames [] Start) (at frames u After) (at frames (u ++ v) After) bs mid rest (complete limit find (Product After) bs u mid a frames)
    (thence limit find (at frames u After) (at frames u Starred) (at frames (u ++ v) After) mid (after_blanks (drop 1 mid)) rest
    (passes_star limit find frames u mid m)
    (complete limit find Factor (after_blanks (drop 1 mid)) v rest f frames u Starred le))
complete limit find _ _ _ _ (SpelledWithin.powers bs mid rest w v a p) = λ frames outer spot le.
    factor_reaches limit find frames outer w v spot bs mid rest (complete limit find Atom bs w mid a frames outer spot) p le
complete limit find _ _ _ _ (SpelledWithin.name bs g m f) = λ frames outer spot.
    arrives limit find (at frames outer spot) bs (after_name bs) _
    (turn_at limit find marks.Letter (at frames outer spot) bs m (marked_skip bs marks.Letter m (λ e. cc))
    ∙ ap (λ (o : Option ℕ). named limit o (at frames outer spot) bs) f)
    (name_lt bs m)
complete limit find _ _ _ _ (SpelledWithin.one bs m) = λ frames outer spot.
    arrives limit find (at frames outer spot) bs (drop 1 bs) _
    (turn_at limit find marks.One (at frames outer spot) bs m (marked_skip bs marks.One m (λ e. cc))) (mark_some bs marks.One m (λ e. cc))
complete limit find _ _ _ _ (SpelledWithin.round s bs mid w m a c) = λ frames outer spot.
    let f : Frame = record { outer = outer; start = length bs; opening = Round } in
    let q : shuts limit Round frames outer (length bs) w mid ≡ factor_ends limit frames outer (length bs) w (drop 1 mid) = rw c refl in
    then_arrives limit find (at frames outer spot) (at (f ∷ frames) w s) bs mid (drop 1 mid) _
    (thence limit find (at frames outer spot) (at (f ∷ frames) [] Start) (at (f ∷ frames) w s) bs (after_blanks (drop 1 bs)) mid
    (opens_there limit find frames outer spot bs m) (complete limit find (Product s) (after_blanks (drop 1 bs)) w mid a (f ∷ frames)))
    (arrives limit find (at (f ∷ frames) w s) mid (drop 1 mid) _
    (closes_at limit find s (f ∷ frames) w 41 mid (no_star limit find (Product s) _ w mid a) other.0 unblank.0 c ∙ q) (first_lt 41 mid c))
complete limit find _ _ _ _ (SpelledWithin.square s t bs mid last u v m a c b d long) = λ frames outer spot.
    let f : Frame = record { outer = outer; start = length bs; opening = Square } in
    let g : Frame = record { outer = outer; start = length bs; opening = Second u } in
    let r : shuts limit (Second u) frames outer (length bs) v last ≡ factor_ends limit frames outer (length bs) (commutator u v) (drop 1 last) =
    rw (d, made_ok limit (length bs) (commutator u v) long) refl in
    then_arrives limit find (at frames outer spot) (at (g ∷ frames) v t) bs last (drop 1 last) _
    (thence limit find (at frames outer spot) (at (f ∷ frames) [] Start) (at (g ∷ frames) v t) bs (after_blanks (drop 1 bs)) last
    (opens_square limit find frames outer spot bs m)
    (thence limit find (at (f ∷ frames) [] Start) (at (f ∷ frames) u s) (at (g ∷ frames) v t) (after_blanks (drop 1 bs)) mid last
    (complete limit find (Product s) (after_blanks (drop 1 bs)) u mid a (f ∷ frames))
    (thence limit find (at (f ∷ frames) u s) (at (g ∷ frames) [] Start) (at (g ∷ frames) v t) mid (after_blanks (drop 1 mid)) last
    (passes_comma limit find frames outer u (length bs) s mid (no_star limit find (Product s) _ u mid a) c)
    (complete limit find (Product t) (after_blanks (drop 1 mid)) v last b (g ∷ frames)))))
    (arrives limit find (at (g ∷ frames) v t) last (drop 1 last) _
    (closes_at limit find t (g ∷ frames) v 93 last (no_star limit find (Product t) _ v last b) other.2 unblank.2 d ∙ r) (first_lt 93 last d))

-- a product so far
so_far_reached : (limit : ℕ) (find : Find) (spot : Spot) (frames : List Frame) (begin : List ℕ) (w : List Letter) (bs : List ℕ)
    → SoFar limit find spot begin w bs
    → Reaches limit find (at frames [] Start) begin (at frames w spot) bs
so_far_reached limit find Start frames begin w bs h = complete limit find (Product Start) begin w bs h frames
so_far_reached limit find After frames begin w bs h = complete limit find (Product After) begin w bs h frames
so_far_reached limit find Starred frames begin w bs h =
    subst (λ (l : List ℕ). Reaches limit find (at frames [] Start) begin (at frames w Starred) l) (sym h.3)
    (thence limit find (at frames [] Start) (at frames w After) (at frames w Starred) begin h.0 (after_blanks (drop 1 h.0))
    (complete limit find (Product After) begin w h.0 h.1 frames) (passes_star limit find frames w h.0 h.2))

-- a bracket that is open
opened_reached : (limit : ℕ) (find : Find) (opening : Opening) (frames : List Frame) (outer : List Letter) (spot : Spot) (place begin : List ℕ)
    → Opened limit find opening place begin
    → Reaches limit find (at frames outer spot) place (at (record { outer = outer; start = length place; opening = opening } ∷ frames) [] Start) begin
opened_reached limit find Round frames outer spot place begin o = rw (o.1) (opens_there limit find frames outer spot place o.0)
opened_reached limit find Square frames outer spot place begin o = rw (o.1) (opens_square limit find frames outer spot place o.0)
opened_reached limit find (Second u) frames outer spot place begin o =
    let f : Frame = record { outer = outer; start = length place; opening = Square } in
    let g : Frame = record { outer = outer; start = length place; opening = Second u } in
    rw (o.5) (thence limit find (at frames outer spot) (at (f ∷ frames) [] Start) (at (g ∷ frames) [] Start) place (after_blanks (drop 1 place))
    (after_blanks (drop 1 o.1))
    (opens_square limit find frames outer spot place o.2)
    (thence limit find (at (f ∷ frames) [] Start) (at (f ∷ frames) u o.0) (at (g ∷ frames) [] Start) (after_blanks (drop 1 place)) o.1
    (after_blanks (drop 1 o.1))
    (complete limit find (Product o.0) (after_blanks (drop 1 place)) u o.1 o.3 (f ∷ frames))
    (passes_comma limit find frames outer u (length place) o.0 o.1 (no_star limit find (Product o.0) _ u o.1 o.3) o.4)))

-- each state that stands for a front of a word is reached
pub inside_reached : (limit : ℕ) (find : Find) (origin : List ℕ) (frames : List Frame) (w : List Letter) (spot : Spot) (bs : List ℕ)
    → Inside limit find origin frames w spot bs → Reaches limit find fresh origin (at frames w spot) bs
inside_reached limit find origin [] w spot bs h = so_far_reached limit find spot [] origin w bs h
inside_reached limit find origin (f ∷ fs) w spot bs h =
    let g : Frame = record { outer = f.outer; start = length h.0; opening = f.opening } in
    let same : g ≡ f = ap (λ (n : ℕ). let x : Frame = record { outer = f.outer; start = n; opening = f.opening } in x) (sym h.6) in
    let r : Reaches limit find fresh origin (at (g ∷ fs) w spot) bs =
    thence limit find fresh (at fs f.outer h.2) (at (g ∷ fs) w spot) origin h.0 bs (inside_reached limit find origin fs f.outer h.2 h.0 h.3)
    (thence limit find (at fs f.outer h.2) (at (g ∷ fs) [] Start) (at (g ∷ fs) w spot) h.0 h.1 bs
    (opened_reached limit find f.opening fs f.outer h.2 h.0 h.1 h.4) (so_far_reached limit find spot (g ∷ fs) h.1 w bs h.5)) in
    subst (λ (x : Frame). Reaches limit find fresh origin (at (x ∷ fs) w spot) bs) same r

-- from the text's first byte
pub from_text : (limit : ℕ) (find : Find) (text : List ℕ) (t : Reading) (rest : List ℕ) → Reaches limit find fresh (after_blanks text) t rest
    → (m : ℕ) × (length rest < m) × (word_within limit find text ≡ word_from limit m find t rest)
unfolding word_within
from_text limit find text t rest f =
    let x = f (suc (length text)) (omega (arith, skip_le text)) in
    (x.0, x.1, sym (word_skips limit (length text) find fresh text) ∙ x.2)

end_read : (limit m : ℕ) (find : Find) (s : Spot) (w : List Letter) → 0 < m → Unstarred (Product s) → word_from limit m find (at [] w s) [] ≡ Ok (w, [])
unfolding word_from
end_read limit zero find s w lt u = absurd (omega arith)
end_read limit (suc m) find s w lt u =
    let e : turn limit find (at [] w s) [] ≡ Ok (record { state = at [] w s; ended = true; rest = [] }) =
    turn_at limit find marks.Other (at [] w s) [] refl no_blanks ∙ no_factor limit s (at [] w s) [] u in
    rw e refl

pub word_again : (limit : ℕ) (find : Find) (text : List ℕ) (w : List Letter) → IsWordWithin limit find text w → word_within limit find text ≡ Ok (w, [])
word_again limit find text w h =
    let x = from_text limit find text (at [] w h.0) [] (complete limit find (Product h.0) (after_blanks text) w [] h.1 []) in
    x.2 ∙ end_read limit x.0 find h.0 w (omega (arith, x.1)) (no_star limit find (Product h.0) (after_blanks text) w [] h.1)

-- a word of the grammar that is the whole text is read
pub text_again_within : (limit : ℕ) (find : Find) (text : List ℕ) (w : List Letter) → IsWordWithin limit find text w → text_within limit find text ≡ Ok w
unfolding text_within
text_again_within limit find text w h = rw (word_again limit find text w h) refl

pub text_again : (find : Find) (text : List ℕ) (w : List Letter) → IsWord find text w → word_text find text ≡ Ok w
text_again find text w h = text_again_within written find text w h
