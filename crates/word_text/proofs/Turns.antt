-- What a turn leads to, by the bytes alone.
use Rattle.std.proofs.Common.{◌≡◌, ℕ, ◌<◌, ◌≤◌, Bool, true, false, List, [], ◌∷◌, ◌++◌, length, drop, Option, Some, None, Result, Ok, Err, refl, arith, nat_lt}
use Rattle.std.proofs.Common.{if◌then◌else◌}
use Rattle.std.proofs.lemmas.Bool.Decides.{nat_tests}
use Rattle.free_words.specs.declared.letter.Letter.{Letter}
use Rattle.free_words.specs.Words.{commutator}
use Rattle.word_text.specs.declared.fault.Fault.{Fault}
use Rattle.word_text.specs.declared.fault.TextKind.TheVariants.{WordTooLong}
use Rattle.word_text.specs.declared.scan.Mark.{Mark}
use Rattle.word_text.specs.declared.scan.Mark.TheVariants as marks
use Rattle.word_text.specs.declared.machine.Spot.{Spot}
use Rattle.word_text.specs.declared.machine.Spot.TheVariants.{Start, After, Starred}
use Rattle.word_text.specs.Scan.{◌>>=◌, first_is, after_blanks, name_at, after_name, mark_of, due}
use Rattle.word_text.specs.Powers.{powers_within, within_limit}
use Rattle.word_text.specs.Machine.{Opening, Round, Square, Second, Frame, Reading, Turned, Find, goes_on, factor_ends, opens, shuts, closes, stands_no_factor}
use Rattle.word_text.specs.Machine.{starred, named, turn_on, turn}
use Rattle.word_text.specs.Grammar.{Product, Factor, Atom, SpelledWithin}
use Rattle.word_text.specs.Fronts.{SoFar}
use Rattle.word_text.proofs.Lexing.{blanks_once, skip_le, name_lt, mark_some, first_lt}
use Rattle.word_text.proofs.Suffixes.{no_longer, raised, raised_clear}
use Rattle.word_text.proofs.PowersRead.{PowersRead, powers_read}
use Rattle.word_text.proofs.Inside.{Opened, Inside, BeginsNoFactor, closer, goes_on_with, CanEnd, Blocked, Stops}

-- The reading goes on with fewer bytes, ends, or stops.
pub data Turns (limit : ℕ) (find : Find) (origin bs : List ℕ) : Result Turned Fault → Type 0 where
  on : (frames : List Frame) (w : List Letter) (spot : Spot) (rest : List ℕ) → Inside limit find origin frames w spot (after_blanks rest)
      → length rest < length bs → Turns limit find origin bs (goes_on frames w spot rest)
  ends : (w : List Letter) (spot : Spot) → SoFar limit find spot origin w bs → CanEnd spot bs
      → Turns limit find origin bs (Ok (record { state = record { frames = []; product = w; spot = spot }; ended = true; rest = bs }))
  stops : (e : Fault) → Stops limit find origin e → Turns limit find origin bs (Err e)

past : (m n : ℕ) → nat_lt m n ≡ true → m < n
past m n e = grind (arith, nat_tests)

not_past : (m n : ℕ) → nat_lt m n ≡ false → n ≤ m
not_past m n e = grind (arith, nat_tests)

-- a factor joins the product
pub attach_here : (limit : ℕ) (find : Find) (spot : Spot) (begin : List ℕ) (outer v : List Letter) (place rest : List ℕ)
    → SoFar limit find spot begin outer place → SpelledWithin limit find Factor place v rest → length (outer ++ v) ≤ limit
    → SpelledWithin limit find (Product After) begin (outer ++ v) rest
attach_here limit find Start begin outer v place rest h f le = SpelledWithin.follows Start begin place rest outer v h f le
attach_here limit find After begin outer v place rest h f le = SpelledWithin.follows After begin place rest outer v h f le
attach_here limit find Starred begin outer v place rest h f le = SpelledWithin.times begin h.0 rest outer v h.1 h.2 (rw (← h.3) f) le

pub attach : (limit : ℕ) (find : Find) (origin : List ℕ) (frames : List Frame) (spot : Spot) (outer v : List Letter) (place rest : List ℕ)
    → Inside limit find origin frames outer spot place → SpelledWithin limit find Factor place v rest → length (outer ++ v) ≤ limit
    → Inside limit find origin frames (outer ++ v) After rest
attach limit find origin [] spot outer v place rest h f le = attach_here limit find spot origin outer v place rest h f le
attach limit find origin (x ∷ xs) spot outer v place rest h f le =
    (h.0, h.1, h.2, h.3, h.4, attach_here limit find spot h.1 outer v place rest h.5 f le, h.6)

-- the product with a factor, within the limit or past it
joined : (limit : ℕ) (find : Find) (origin bs : List ℕ) (frames : List Frame) (outer v : List Letter) (spot : Spot) (place rest : List ℕ) (start : ℕ) (t : Bool)
    → nat_lt limit (length (outer ++ v)) ≡ t → Inside limit find origin frames outer spot place → SpelledWithin limit find Factor place v rest
    → after_blanks rest ≡ rest → start ≡ length place → length rest < length bs
    → Turns limit find origin bs ((if t then Err (record { kind = WordTooLong; left = start }) else Ok (outer ++ v)) >>= λ p. goes_on frames p After rest)
joined limit find origin bs frames outer v spot place rest start true t h f c s lt =
    rw s (Turns.stops _ (Stops.long_product frames outer spot place rest v h f (past limit (length (outer ++ v)) t)))
joined limit find origin bs frames outer v spot place rest start false t h f c s lt =
    Turns.on frames (outer ++ v) After rest (rw c (attach limit find origin frames spot outer v place rest h f (not_past limit (length (outer ++ v)) t))) lt

-- an atom with its powers
powered : (limit : ℕ) (find : Find) (origin bs : List ℕ) (frames : List Frame) (outer a : List Letter) (spot : Spot) (place raw : List ℕ) (start : ℕ)
    (r : Result (List Letter × List ℕ) Fault) → PowersRead limit start a (after_blanks raw) r
    → Inside limit find origin frames outer spot place → SpelledWithin limit find Atom place a raw → start ≡ length place → length raw < length bs
    → Turns limit find origin bs (r >>= λ x. (within_limit limit start (outer ++ x.0) >>= λ p. goes_on frames p After x.1))
powered limit find origin bs frames outer a spot place raw start _ (PowersRead.powers v rest p) h atom s lt =
    joined limit find origin bs frames outer v spot place rest start (nat_lt limit (length (outer ++ v))) refl h
    (SpelledWithin.powers place raw rest a v atom p) (raised_clear limit a v (after_blanks raw) rest p.0 (blanks_once raw)) s
    (omega (arith, no_longer (after_blanks raw) rest (raised limit a v (after_blanks raw) rest p.0), skip_le raw))
powered limit find origin bs frames outer a spot place raw start _ (PowersRead.no_exponent v at e p c x) h atom s lt =
    Turns.stops e (Stops.no_exponent frames outer spot place raw at a v e h atom p c x)
powered limit find origin bs frames outer a spot place raw start _ (PowersRead.too_long v at last negative n p c x long) h atom s lt =
    rw s (Turns.stops _ (Stops.long_power frames outer spot place raw at last a v negative n h atom p c x long))

factor_turn : (limit : ℕ) (find : Find) (origin bs : List ℕ) (frames : List Frame) (outer a : List Letter) (spot : Spot) (place raw : List ℕ) (start : ℕ)
    → Inside limit find origin frames outer spot place → SpelledWithin limit find Atom place a raw → start ≡ length place → length raw < length bs
    → Turns limit find origin bs (factor_ends limit frames outer start a raw)
unfolding factor_ends
factor_turn limit find origin bs frames outer a spot place raw start h atom s lt =
    powered limit find origin bs frames outer a spot place raw start (powers_within limit start a raw) (powers_read limit start a raw) h atom s lt

-- a bracket opens
opens_turn : (limit : ℕ) (find : Find) (origin : List ℕ) (opening : Opening) (s : Reading) (bs : List ℕ)
    → Inside limit find origin s.frames s.product s.spot bs → Opened limit find opening bs (after_blanks (drop 1 bs)) → length (drop 1 bs) < length bs
    → Turns limit find origin bs (opens opening s bs)
opens_turn limit find origin opening s bs h o lt =
    Turns.on (record { outer = s.product; start = length bs; opening = opening } ∷ s.frames) [] Start (drop 1 bs)
    (bs, after_blanks (drop 1 bs), s.spot, h, o, SpelledWithin.nothing (after_blanks (drop 1 bs)), refl) lt

-- a product that `*` doesn't end
abbrev Whole : ℕ → Find → List ℕ → List Letter → List ℕ → Type 0
Whole limit find begin w bs = (s : Spot) × SpelledWithin limit find (Product s) begin w bs

-- the commutator of a square bracket, within the limit or past it
commutator_turn : (limit : ℕ) (find : Find) (origin : List ℕ) (frames : List Frame) (outer u w : List Letter) (start : ℕ) (bs place begin : List ℕ)
    (before : Spot) (t : Bool)
    → nat_lt limit (length (commutator u w)) ≡ t → Inside limit find origin frames outer before place → Opened limit find (Second u) place begin
    → Whole limit find begin w bs → first_is 93 bs ≡ true → start ≡ length place
    → Turns limit find origin bs ((if t then Err (record { kind = WordTooLong; left = start }) else Ok (commutator u w)) >>=
    λ c. factor_ends limit frames outer start c (drop 1 bs))
commutator_turn limit find origin frames outer u w start bs place begin before true t h o p c s =
    rw s (Turns.stops _ (Stops.long_commutator frames outer before o.0 p.0 place o.1 bs u w h o.2 o.3 o.4 (rw (← o.5) p.1) c
    (past limit (length (commutator u w)) t)))
commutator_turn limit find origin frames outer u w start bs place begin before false t h o p c s =
    factor_turn limit find origin bs frames outer (commutator u w) before place (drop 1 bs) start h
    (SpelledWithin.square o.0 p.0 place o.1 bs u w o.2 o.3 o.4 (rw (← o.5) p.1) c (not_past limit (length (commutator u w)) t)) s (first_lt 93 bs c)

-- the innermost bracket goes on, or the byte that is due isn't there
shut_round : (limit : ℕ) (find : Find) (origin : List ℕ) (frames : List Frame) (outer w : List Letter) (start : ℕ) (bs place begin : List ℕ)
    (before : Spot) (b : Bool)
    → first_is 41 bs ≡ b → (b ≡ false → Stops limit find origin (due bs)) → Inside limit find origin frames outer before place
    → Opened limit find Round place begin → Whole limit find begin w bs → start ≡ length place
    → Turns limit find origin bs (if b then factor_ends limit frames outer start w (drop 1 bs) else Err (due bs))
shut_round limit find origin frames outer w start bs place begin before true c block h o p s =
    factor_turn limit find origin bs frames outer w before place (drop 1 bs) start h
    (SpelledWithin.round p.0 place bs w o.0 (rw (← o.1) p.1) c) s (first_lt 41 bs c)
shut_round limit find origin frames outer w start bs place begin before false c block h o p s = Turns.stops (due bs) (block refl)

pass_comma : (limit : ℕ) (find : Find) (origin : List ℕ) (frames : List Frame) (outer w : List Letter) (start : ℕ) (bs place begin : List ℕ)
    (before : Spot) (b : Bool)
    → first_is 44 bs ≡ b → (b ≡ false → Stops limit find origin (due bs)) → Inside limit find origin frames outer before place
    → Opened limit find Square place begin → Whole limit find begin w bs → start ≡ length place
    → Turns limit find origin bs
    (if b then goes_on (record { outer = outer; start = start; opening = Second w } ∷ frames) [] Start (drop 1 bs) else Err (due bs))
pass_comma limit find origin frames outer w start bs place begin before true c block h o p s =
    let next : List ℕ = after_blanks (drop 1 bs) in
    Turns.on (record { outer = outer; start = start; opening = Second w } ∷ frames) [] Start (drop 1 bs)
    (place, next, before, h, (p.0, bs, o.0, rw (← o.1) p.1, c, refl), SpelledWithin.nothing next, s) (first_lt 44 bs c)
pass_comma limit find origin frames outer w start bs place begin before false c block h o p s = Turns.stops (due bs) (block refl)

shut_square : (limit : ℕ) (find : Find) (origin : List ℕ) (frames : List Frame) (outer u w : List Letter) (start : ℕ) (bs place begin : List ℕ)
    (before : Spot) (b : Bool)
    → first_is 93 bs ≡ b → (b ≡ false → Stops limit find origin (due bs)) → Inside limit find origin frames outer before place
    → Opened limit find (Second u) place begin → Whole limit find begin w bs → start ≡ length place
    → Turns limit find origin bs
    (if b then (within_limit limit start (commutator u w) >>= λ c. factor_ends limit frames outer start c (drop 1 bs)) else Err (due bs))
shut_square limit find origin frames outer u w start bs place begin before true c block h o p s =
    commutator_turn limit find origin frames outer u w start bs place begin before (nat_lt limit (length (commutator u w))) refl h o p c s
shut_square limit find origin frames outer u w start bs place begin before false c block h o p s = Turns.stops (due bs) (block refl)

shuts_turn : (limit : ℕ) (find : Find) (origin : List ℕ) (opening : Opening) (frames : List Frame) (outer w : List Letter) (start : ℕ) (bs place begin : List ℕ)
    (before : Spot)
    → (first_is (closer opening) bs ≡ false → Stops limit find origin (due bs)) → Inside limit find origin frames outer before place
    → Opened limit find opening place begin → Whole limit find begin w bs → start ≡ length place
    → Turns limit find origin bs (shuts limit opening frames outer start w bs)
shuts_turn limit find origin Round frames outer w start bs place begin before block h o p s =
    shut_round limit find origin frames outer w start bs place begin before (first_is 41 bs) refl block h o p s
shuts_turn limit find origin Square frames outer w start bs place begin before block h o p s =
    pass_comma limit find origin frames outer w start bs place begin before (first_is 44 bs) refl block h o p s
shuts_turn limit find origin (Second u) frames outer w start bs place begin before block h o p s =
    shut_square limit find origin frames outer u w start bs place begin before (first_is 93 bs) refl block h o p s

-- no factor stands here
closes_turn : (limit : ℕ) (find : Find) (origin : List ℕ) (frames : List Frame) (w : List Letter) (spot : Spot) (bs : List ℕ)
    → Inside limit find origin frames w spot bs → CanEnd spot bs → (goes_on_with frames bs ≡ false → Blocked frames spot bs)
    → ((begin : List ℕ) → SoFar limit find spot begin w bs → Whole limit find begin w bs)
    → Turns limit find origin bs (closes limit frames (record { frames = frames; product = w; spot = spot }) bs)
closes_turn limit find origin [] w spot bs h can block whole = Turns.ends w spot h can
closes_turn limit find origin (f ∷ fs) w spot bs h can block whole =
    shuts_turn limit find origin f.opening fs f.outer w f.start bs h.0 h.1 h.2
    (λ e. Stops.blocked (f ∷ fs) w spot bs h (block e)) h.3 h.4 (whole h.1 h.5) h.6

no_factor_turn : (limit : ℕ) (find : Find) (origin : List ℕ) (frames : List Frame) (w : List Letter) (spot : Spot) (bs : List ℕ)
    → Inside limit find origin frames w spot bs → BeginsNoFactor (mark_of bs) → (mark_of bs ≡ marks.Star → ⊥)
    → Turns limit find origin bs (stands_no_factor limit spot (record { frames = frames; product = w; spot = spot }) bs)
no_factor_turn limit find origin frames w Start bs h b n =
    closes_turn limit find origin frames w Start bs h b (λ e. (b, e)) (λ begin g. (Start, g))
no_factor_turn limit find origin frames w After bs h b n =
    closes_turn limit find origin frames w After bs h (b, n) (λ e. ((b, n), e)) (λ begin g. (After, g))
no_factor_turn limit find origin frames w Starred bs h b n = Turns.stops (due bs) (Stops.blocked frames w Starred bs h b)

star_here : (limit : ℕ) (find : Find) (origin : List ℕ) (frames : List Frame) (w : List Letter) (bs : List ℕ) → mark_of bs ≡ marks.Star
    → Inside limit find origin frames w After bs → Inside limit find origin frames w Starred (after_blanks (drop 1 bs))
star_here limit find origin [] w bs m h = (bs, h, m, refl)
star_here limit find origin (f ∷ fs) w bs m h = (h.0, h.1, h.2, h.3, h.4, (bs, h.5, m, refl), h.6)

starred_turn : (limit : ℕ) (find : Find) (origin : List ℕ) (frames : List Frame) (w : List Letter) (spot : Spot) (bs : List ℕ)
    → Inside limit find origin frames w spot bs → mark_of bs ≡ marks.Star
    → Turns limit find origin bs (starred limit spot (record { frames = frames; product = w; spot = spot }) bs)
starred_turn limit find origin frames w Start bs h m =
    let b : BeginsNoFactor (mark_of bs) = rw m tt in
    closes_turn limit find origin frames w Start bs h b (λ e. (b, e)) (λ begin g. (Start, g))
starred_turn limit find origin frames w After bs h m =
    Turns.on frames w Starred (drop 1 bs) (star_here limit find origin frames w bs m h) (mark_some bs marks.Star m (λ e. cc))
starred_turn limit find origin frames w Starred bs h m =
    let b : BeginsNoFactor (mark_of bs) = rw m tt in
    Turns.stops (due bs) (Stops.blocked frames w Starred bs h b)

named_turn : (limit : ℕ) (find : Find) (origin : List ℕ) (s : Reading) (bs : List ℕ) (found : Option ℕ) → mark_of bs ≡ marks.Letter → find (name_at bs) ≡ found
    → Inside limit find origin s.frames s.product s.spot bs → Turns limit find origin bs (named limit found s bs)
named_turn limit find origin s bs None m f h = Turns.stops _ (Stops.unknown s.frames s.product s.spot bs h m f)
named_turn limit find origin s bs (Some g) m f h =
    factor_turn limit find origin bs s.frames s.product (record { g = g; inv = false } ∷ []) s.spot bs (after_name bs) (length bs) h
    (SpelledWithin.name bs g m f) refl (name_lt bs m)

on_mark : (limit : ℕ) (find : Find) (origin : List ℕ) (s : Reading) (bs : List ℕ) (mark : Mark) → mark_of bs ≡ mark
    → Inside limit find origin s.frames s.product s.spot bs → Turns limit find origin bs (turn_on limit find mark s bs)
on_mark limit find origin s bs marks.Letter m h = named_turn limit find origin s bs (find (name_at bs)) m refl h
on_mark limit find origin s bs marks.One m h =
    factor_turn limit find origin bs s.frames s.product [] s.spot bs (drop 1 bs) (length bs) h (SpelledWithin.one bs m) refl
    (mark_some bs marks.One m (λ e. cc))
on_mark limit find origin s bs marks.Round m h = opens_turn limit find origin Round s bs h (m, refl) (mark_some bs marks.Round m (λ e. cc))
on_mark limit find origin s bs marks.Square m h = opens_turn limit find origin Square s bs h (m, refl) (mark_some bs marks.Square m (λ e. cc))
on_mark limit find origin s bs marks.Star m h = starred_turn limit find origin s.frames s.product s.spot bs h m
on_mark limit find origin s bs marks.Bad m h =
    let b : BeginsNoFactor (mark_of bs) = rw m tt in
    no_factor_turn limit find origin s.frames s.product s.spot bs h b (λ e. cc)
on_mark limit find origin s bs marks.Other m h =
    let b : BeginsNoFactor (mark_of bs) = rw m tt in
    no_factor_turn limit find origin s.frames s.product s.spot bs h b (λ e. cc)

pub turn_leads : (limit : ℕ) (find : Find) (origin : List ℕ) (s : Reading) (bs : List ℕ) → Inside limit find origin s.frames s.product s.spot (after_blanks bs)
    → Turns limit find origin (after_blanks bs) (turn limit find s bs)
unfolding turn
turn_leads limit find origin s bs h = on_mark limit find origin s (after_blanks bs) (mark_of (after_blanks bs)) refl h
