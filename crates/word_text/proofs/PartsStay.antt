-- Parts of the grammar that stay where other bytes stand behind them, and where words may be longer.
use Rattle.std.proofs.Common.{◌≡◌, ℕ, ◌≤◌, Bool, true, false, List, [], ◌∷◌, ◌++◌, length, drop, refl, sym, ◌∙◌, ap, subst, arith}
use Rattle.free_words.specs.declared.letter.Letter.{Letter}
use Rattle.free_words.specs.Words.{commutator}
use Rattle.word_text.specs.declared.scan.Mark.TheVariants as marks
use Rattle.word_text.specs.declared.machine.Spot.{Spot}
use Rattle.word_text.specs.declared.machine.Spot.TheVariants.{Start, After, Starred}
use Rattle.word_text.specs.Scan.{first_is, after_blanks, name_at, after_name, mark_of}
use Rattle.word_text.specs.Powers.{power_of}
use Rattle.word_text.specs.Machine.{Opening, Round, Square, Second, Find}
use Rattle.word_text.specs.Grammar.{IsExponent, Raised, PowersWithin, Part, Product, Factor, Atom, SpelledWithin}
use Rattle.word_text.specs.Fronts.{SoFar}
use Rattle.word_text.proofs.Inside.{Opened}
use Rattle.word_text.proofs.Swaps.{Fits, Swap, both, weaker, stays, unmoved}
use Rattle.word_text.proofs.TokensStay.{Skips, skipped, Marked, marked, Token, token, Single, single, Byte, byte, Named, named, Exponent, exponent}

-- where no power stands, none does behind other bytes
not_caret : (bs cs : List ℕ) → Fits bs cs → first_is 94 bs ≡ false → first_is 94 cs ≡ false
not_caret _ _ (Fits.alike c bs cs) e = e
not_caret _ _ (Fits.halts bs [] h) e = refl
not_caret _ _ (Fits.halts bs (c ∷ cs) h) e = h.3

abbrev pub Raises : ℕ → List Letter → List Letter → List ℕ → List ℕ → Type 0
Raises limit w v bs rest = Raised limit w bs v rest

abbrev pub Powered : ℕ → List Letter → List Letter → List ℕ → List ℕ → Type 0
Powered limit w v bs rest = PowersWithin limit w (after_blanks bs) v rest

abbrev pub Raises_behind : ℕ → List Letter → List Letter → List ℕ → List ℕ → Type 0
Raises_behind limit w v bs rest = Raised limit w (after_blanks bs) v rest

abbrev Exponent_then : ℕ → Bool → ℕ → List Letter → List Letter → List ℕ → List ℕ → Type 0
Exponent_then limit negative n w v bs rest = (mid : List ℕ) × IsExponent bs negative n mid × Raised limit w (after_blanks mid) v rest

pub behind_blanks : (limit : ℕ) (w v : List Letter) (bs rest : List ℕ) → Swap (Raises limit w v) (after_blanks bs) rest → Swap (Raises_behind limit w v) bs rest
behind_blanks limit w v bs rest s =
    both Skips (Raises limit w v) (Raises_behind limit w v) bs (after_blanks bs) rest (skipped bs) s
    (λ x y z p q. subst (λ (l : List ℕ). Raised limit w l v z) p q)

pub raised_moves : (limit m : ℕ) (w v : List Letter) (bs rest : List ℕ) → limit ≤ m → Raised limit w bs v rest → Swap (Raises m w v) bs rest
raised_moves limit m _ _ _ _ le (Raised.none w bs) = stays (Raises m w w) bs (λ cs h. Raised.none w cs)
raised_moves limit m _ _ _ _ le (Raised.more w v bs mid rest negative n c x short p) =
    let u : List Letter = power_of negative n w in
    let fits : length u ≤ m = omega (arith, le, short) in
    let here : List ℕ = after_blanks (drop 1 bs) in
    both (Token 94) (Exponent_then m negative n u v) (Raises m w v) bs here rest (token 94 bs c)
    (both (Exponent negative n) (Raises_behind m u v) (Exponent_then m negative n u v) here mid rest (exponent here negative n mid x)
    (behind_blanks m u v mid rest (raised_moves limit m u v (after_blanks mid) rest le p)) (λ x y z f g. (y, f, g)))
    (λ x y z f g. Raised.more w v x g.0 z negative n f.0 (subst (λ (l : List ℕ). IsExponent l negative n g.0) f.1 g.1) fits g.2)

powers_move : (limit m : ℕ) (w v : List Letter) (bs rest : List ℕ) → limit ≤ m → PowersWithin limit w (after_blanks bs) v rest → Swap (Powered m w v) bs rest
powers_move limit m w v bs rest le p =
    let s = behind_blanks m w v bs rest (raised_moves limit m w v (after_blanks bs) rest le p.0) in
    (s.0, s.1, λ cs h. (s.2 cs h, not_caret rest cs h p.1))

-- a part with its value
abbrev pub Parts : ℕ → Find → Part → List Letter → List ℕ → List ℕ → Type 0
Parts limit find p w bs rest = SpelledWithin limit find p bs w rest

-- a part behind a token
abbrev Behind : ℕ → Find → Part → List Letter → List ℕ → List ℕ → Type 0
Behind limit find p w bs rest = SpelledWithin limit find p (after_blanks (drop 1 bs)) w rest

-- a product up to a byte that closes it
abbrev pub Up_to : ℕ → Find → ℕ → Spot → List Letter → List ℕ → List ℕ → Type 0
Up_to limit find c s w bs rest = (mid : List ℕ) × SpelledWithin limit find (Product s) bs w mid × (first_is c mid ≡ true) × (rest ≡ drop 1 mid)

-- both products of a square bracket
abbrev pub Pair : ℕ → Find → Spot → Spot → List Letter → List Letter → List ℕ → List ℕ → Type 0
Pair limit find s t u v bs rest = (mid : List ℕ) × SpelledWithin limit find (Product s) bs u mid × (first_is 44 mid ≡ true)
    × Up_to limit find 93 t v (after_blanks (drop 1 mid)) rest

up_to : (limit : ℕ) (find : Find) (c : ℕ) (s : Spot) (w : List Letter) (bs mid : List ℕ) → Swap (Parts limit find (Product s) w) bs mid → first_is c mid ≡ true
    → Swap (Up_to limit find c s w) bs (drop 1 mid)
up_to limit find c s w bs mid f e =
    both (Parts limit find (Product s) w) (Byte c) (Up_to limit find c s w) bs mid (drop 1 mid) f (byte c mid e) (λ x y z p q. (y, p, q.0, q.1))

pub pair_moves : (limit : ℕ) (find : Find) (s t : Spot) (u v : List Letter) (next mid last : List ℕ) → Swap (Parts limit find (Product s) u) next mid
    → first_is 44 mid ≡ true
    → Swap (Parts limit find (Product t) v) (after_blanks (drop 1 mid)) last → first_is 93 last ≡ true → Swap (Pair limit find s t u v) next (drop 1 last)
pair_moves limit find s t u v next mid last a c b d =
    let second : List ℕ = after_blanks (drop 1 mid) in
    both (Parts limit find (Product s) u) (λ (x y : List ℕ). (first_is 44 x ≡ true)
    × Up_to limit find 93 t v (after_blanks (drop 1 x)) y) (Pair limit find s t u v) next mid (drop 1 last) a
    (both (Token 44) (Up_to limit find 93 t v) (λ (x y : List ℕ). (first_is 44 x ≡ true)
    × Up_to limit find 93 t v (after_blanks (drop 1 x)) y) mid second (drop 1 last)
    (token 44 mid c) (up_to limit find 93 t v second last b d) (λ x y z p q. (p.0, subst (λ (l : List ℕ). Up_to limit find 93 t v l z) p.1 q)))
    (λ x y z p q. (y, p, q.0, q.1))

pub moves : (limit m : ℕ) (find : Find) (p : Part) (bs : List ℕ) (w : List Letter) (rest : List ℕ) → limit ≤ m → SpelledWithin limit find p bs w rest
    → Swap (Parts m find p w) bs rest
moves limit m find _ _ _ _ le (SpelledWithin.nothing bs) = stays (Parts m find (Product Start) []) bs (λ cs h. SpelledWithin.nothing cs)
moves limit m find _ _ _ _ le (SpelledWithin.follows s bs mid rest u v a f short) =
    let fits : length (u ++ v) ≤ m = omega (arith, le, short) in
    both (Parts m find (Product s) u) (Parts m find Factor v) (Parts m find (Product After) (u ++ v)) bs mid rest
    (moves limit m find (Product s) bs u mid le a) (moves limit m find Factor mid v rest le f)
    (λ x y z p q. SpelledWithin.follows s x y z u v p q fits)
moves limit m find _ _ _ _ le (SpelledWithin.times bs mid rest u v a star f short) =
    let fits : length (u ++ v) ≤ m = omega (arith, le, short) in
    let next : List ℕ = after_blanks (drop 1 mid) in
    both (Parts m find (Product After) u) (λ (x y : List ℕ). (mark_of x ≡ marks.Star)
    × Behind m find Factor v x y) (Parts m find (Product After) (u ++ v)) bs mid rest
    (moves limit m find (Product After) bs u mid le a)
    (both (Marked marks.Star) (Parts m find Factor v) (λ (x y : List ℕ). (mark_of x ≡ marks.Star) × Behind m find Factor v x y) mid next rest
    (marked marks.Star mid star (λ e. cc)) (moves limit m find Factor next v rest le f)
    (λ x y z p q. (p.0, subst (λ (l : List ℕ). SpelledWithin m find Factor l v z) p.1 q)))
    (λ x y z p q. SpelledWithin.times x y z u v p q.0 q.1 fits)
moves limit m find _ _ _ _ le (SpelledWithin.powers bs mid rest w v a p) =
    both (Parts m find Atom w) (Powered m w v) (Parts m find Factor v) bs mid rest
    (moves limit m find Atom bs w mid le a) (powers_move limit m w v mid rest le p)
    (λ x y z f g. SpelledWithin.powers x y z w v f g)
moves limit m find _ _ _ _ le (SpelledWithin.name bs g letter found) =
    weaker (Named (name_at bs)) (Parts m find Atom (record { g = g; inv = false } ∷ [])) bs (after_name bs) (named bs letter)
    (λ x y n. subst (λ (l : List ℕ). SpelledWithin m find Atom x (record { g = g; inv = false } ∷ []) l) (sym n.2)
    (SpelledWithin.name x g n.0 (ap find n.1 ∙ found)))
moves limit m find _ _ _ _ le (SpelledWithin.one bs one) =
    weaker (Single marks.One) (Parts m find Atom []) bs (drop 1 bs) (single marks.One bs one (λ e. cc))
    (λ x y n. subst (λ (l : List ℕ). SpelledWithin m find Atom x [] l) (sym n.1) (SpelledWithin.one x n.0))
moves limit m find _ _ _ _ le (SpelledWithin.round s bs mid w round a c) =
    let next : List ℕ = after_blanks (drop 1 bs) in
    both (Marked marks.Round) (Up_to m find 41 s w) (Parts m find Atom w) bs next (drop 1 mid) (marked marks.Round bs round (λ e. cc))
    (up_to m find 41 s w next mid (moves limit m find (Product s) next w mid le a) c)
    (λ x y z p q. subst (λ (l : List ℕ). SpelledWithin m find Atom x w l) (sym q.3)
    (SpelledWithin.round s x q.0 w p.0 (subst (λ (l : List ℕ). SpelledWithin m find (Product s) l w q.0) p.1 q.1) q.2))
moves limit m find _ _ _ _ le (SpelledWithin.square s t bs mid last u v square a c b d short) =
    let fits : length (commutator u v) ≤ m = omega (arith, le, short) in
    let next : List ℕ = after_blanks (drop 1 bs) in
    let second : List ℕ = after_blanks (drop 1 mid) in
    both (Marked marks.Square) (Pair m find s t u v) (Parts m find Atom (commutator u v)) bs next (drop 1 last) (marked marks.Square bs square (λ e. cc))
    (pair_moves m find s t u v next mid last (moves limit m find (Product s) next u mid le a) c (moves limit m find (Product t) second v last le b) d)
    (λ x y z p q. subst (λ (l : List ℕ). SpelledWithin m find Atom x (commutator u v) l) (sym q.3.3)
    (SpelledWithin.square s t x q.0 q.3.0 u v p.0 (subst (λ (l : List ℕ). SpelledWithin m find (Product s) l u q.0) p.1 q.1) q.2 q.3.1 q.3.2 fits))

-- where words may be longer
pub wider : (limit m : ℕ) (find : Find) (p : Part) (bs : List ℕ) (w : List Letter) (rest : List ℕ) → limit ≤ m → SpelledWithin limit find p bs w rest
    → SpelledWithin m find p bs w rest
wider limit m find p bs w rest le h = unmoved (Parts m find p w) bs rest (moves limit m find p bs w rest le h)

pub raised_wider : (limit m : ℕ) (w v : List Letter) (bs rest : List ℕ) → limit ≤ m → Raised limit w bs v rest → Raised m w bs v rest
raised_wider limit m w v bs rest le h = unmoved (Raises m w v) bs rest (raised_moves limit m w v bs rest le h)

-- a product so far
abbrev pub So_far : ℕ → Find → Spot → List Letter → List ℕ → List ℕ → Type 0
So_far limit find spot w begin place = SoFar limit find spot begin w place

pub so_far_moves : (limit m : ℕ) (find : Find) (spot : Spot) (begin : List ℕ) (w : List Letter) (place : List ℕ) → limit ≤ m
    → SoFar limit find spot begin w place
    → Swap (So_far m find spot w) begin place
so_far_moves limit m find Start begin w place le h = moves limit m find (Product Start) begin w place le h
so_far_moves limit m find After begin w place le h = moves limit m find (Product After) begin w place le h
so_far_moves limit m find Starred begin w place le h =
    subst (λ (l : List ℕ). Swap (So_far m find Starred w) begin l) (sym h.3)
    (both (Parts m find (Product After) w) (Marked marks.Star) (So_far m find Starred w) begin h.0 (after_blanks (drop 1 h.0))
    (moves limit m find (Product After) begin w h.0 le h.1) (marked marks.Star h.0 h.2 (λ e. cc)) (λ x y z p q. (y, p, q.0, q.1)))

pub so_far_wider : (limit m : ℕ) (find : Find) (spot : Spot) (begin : List ℕ) (w : List Letter) (place : List ℕ) → limit ≤ m
    → SoFar limit find spot begin w place
    → SoFar m find spot begin w place
so_far_wider limit m find spot begin w place le h = unmoved (So_far m find spot w) begin place (so_far_moves limit m find spot begin w place le h)

-- an open bracket
abbrev pub Opens : ℕ → Find → Opening → List ℕ → List ℕ → Type 0
Opens limit find opening place begin = Opened limit find opening place begin

abbrev To_comma : ℕ → Find → Spot → List Letter → List ℕ → List ℕ → Type 0
To_comma limit find s u bs rest = (mid : List ℕ) × SpelledWithin limit find (Product s) bs u mid × (first_is 44 mid ≡ true) × (rest ≡ after_blanks (drop 1 mid))

pub opened_moves : (limit m : ℕ) (find : Find) (opening : Opening) (place begin : List ℕ) → limit ≤ m → Opened limit find opening place begin
    → Swap (Opens m find opening) place begin
opened_moves limit m find Round place begin le o =
    subst (λ (l : List ℕ). Swap (Opens m find Round) place l) (sym o.1) (marked marks.Round place o.0 (λ e. cc))
opened_moves limit m find Square place begin le o =
    subst (λ (l : List ℕ). Swap (Opens m find Square) place l) (sym o.1) (marked marks.Square place o.0 (λ e. cc))
opened_moves limit m find (Second u) place begin le o =
    let next : List ℕ = after_blanks (drop 1 place) in
    subst (λ (l : List ℕ). Swap (Opens m find (Second u)) place l) (sym o.5)
    (both (Marked marks.Square) (To_comma m find o.0 u) (Opens m find (Second u)) place next (after_blanks (drop 1 o.1))
    (marked marks.Square place o.2 (λ e. cc))
    (both (Parts m find (Product o.0) u) (Token 44) (To_comma m find o.0 u) next o.1 (after_blanks (drop 1 o.1))
    (moves limit m find (Product o.0) next u o.1 le o.3) (token 44 o.1 o.4) (λ x y z p q. (y, p, q.0, q.1)))
    (λ x y z p q. (o.0, q.0, p.0, subst (λ (l : List ℕ). SpelledWithin m find (Product o.0) l u q.0) p.1 q.1, q.2, q.3)))
