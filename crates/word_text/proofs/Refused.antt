-- What no word goes on with.
use Rattle.std.proofs.Common.{◌==◌, ◌≡◌, ◌⊎◌, inl, inr, ℕ, zero, suc, ◌+◌, ◌<◌, ◌≤◌, Bool, true, false, List, [], ◌∷◌, ◌++◌, length, drop, take_while, Option}
use Rattle.std.proofs.Common.{None, Result, Ok, Err, refl, sym, ◌∙◌, ap, subst, arith}
use Rattle.std.proofs.lemmas.Bool.Decides.{nat_tests}
use Rattle.std.proofs.lemmas.List.{append_assoc, append-nil}
use Rattle.free_words.specs.declared.letter.Letter.{Letter}
use Rattle.word_text.specs.declared.fault.Fault.{Fault}
use Rattle.word_text.specs.declared.fault.TextKind.TheVariants.{UnknownName}
use Rattle.word_text.specs.declared.scan.Mark.{Mark}
use Rattle.word_text.specs.declared.scan.Mark.TheVariants as marks
use Rattle.word_text.specs.declared.machine.Spot.{Spot}
use Rattle.word_text.specs.declared.machine.Spot.TheVariants.{Start, After, Starred}
use Rattle.word_text.specs.Scan.{is_name_byte, first_is, after_blanks, name_at, mark_of, due}
use Rattle.word_text.specs.Machine.{Opening, Round, Square, Second, Frame, Reading, Turned, Find, shuts, closes, named, turn_on, turn, word_from}
use Rattle.word_text.specs.Grammar.{Product, IsWordWithin}
use Rattle.word_text.specs.Fronts.{SoFar}
use Rattle.word_text.specs.Faults.{IsSomeWord, bytes_before, Refused, NameRefused}
use Rattle.word_text.proofs.Lexing.{blanks_once}
use Rattle.word_text.proofs.Suffixes.{clear}
use Rattle.word_text.proofs.Inside.{Opened, Inside, BeginsNoFactor, closer, goes_on_with, Blocked}
use Rattle.word_text.proofs.Again.{at, Onward, last_turn, turn_at, inside_reached, from_text, word_again}
use Rattle.word_text.proofs.Swaps.{Fits, Swap, both, weaker, taken, none_taken}
use Rattle.word_text.proofs.Ends.{before_is}
use Rattle.word_text.proofs.Marks.{name_some}
use Rattle.word_text.proofs.TokensStay.{Skips, skipped}
use Rattle.word_text.proofs.PartsStay.{wider, So_far, so_far_moves, Opens, opened_moves}

-- a place behind blanks
so_far_clear : (limit : ℕ) (find : Find) (spot : Spot) (begin : List ℕ) (w : List Letter) (bs : List ℕ) → SoFar limit find spot begin w bs
    → after_blanks begin ≡ begin → after_blanks bs ≡ bs
so_far_clear limit find Start begin w bs h c = clear limit find (Product Start) begin w bs h c
so_far_clear limit find After begin w bs h c = clear limit find (Product After) begin w bs h c
so_far_clear limit find Starred begin w bs h c = subst (λ (l : List ℕ). after_blanks l ≡ l) (sym h.3) (blanks_once (drop 1 h.0))

opened_clear : (limit : ℕ) (find : Find) (opening : Opening) (place begin : List ℕ) → Opened limit find opening place begin → after_blanks begin ≡ begin
opened_clear limit find Round place begin o = subst (λ (l : List ℕ). after_blanks l ≡ l) (sym o.1) (blanks_once (drop 1 place))
opened_clear limit find Square place begin o = subst (λ (l : List ℕ). after_blanks l ≡ l) (sym o.1) (blanks_once (drop 1 place))
opened_clear limit find (Second u) place begin o = subst (λ (l : List ℕ). after_blanks l ≡ l) (sym o.5) (blanks_once (drop 1 o.1))

pub inside_clear : (limit : ℕ) (find : Find) (origin : List ℕ) (frames : List Frame) (w : List Letter) (spot : Spot) (bs : List ℕ)
    → Inside limit find origin frames w spot bs → after_blanks origin ≡ origin → after_blanks bs ≡ bs
inside_clear limit find origin [] w spot bs h c = so_far_clear limit find spot origin w bs h c
inside_clear limit find origin (f ∷ fs) w spot bs h c = so_far_clear limit find spot h.1 w bs h.5 (opened_clear limit find f.opening h.0 h.1 h.4)

-- a state stays where other bytes stand from the place on, but for the places of its brackets
abbrev pub SameOpenings : List Frame → List Frame → Type 0
SameOpenings [] [] = Unit {0}
SameOpenings (f ∷ fs) (g ∷ gs) = f.opening ≡ g.opening
SameOpenings [] (g ∷ gs) = ⊥
SameOpenings (f ∷ fs) [] = ⊥

abbrev pub Insides : ℕ → Find → List Frame → List Letter → Spot → List ℕ → List ℕ → Type 0
Insides limit find frames w spot origin bs = (gs : List Frame) × Inside limit find origin gs w spot bs × SameOpenings frames gs

abbrev Bracketed : ℕ → Find → Opening → Spot → List Letter → List ℕ → List ℕ → Type 0
Bracketed limit find opening spot w place here = (begin : List ℕ) × Opened limit find opening place begin × SoFar limit find spot begin w here

inside_moves : (limit m : ℕ) (find : Find) (origin : List ℕ) (frames : List Frame) (w : List Letter) (spot : Spot) (bs : List ℕ) → limit ≤ m
    → Inside limit find origin frames w spot bs → Swap (Insides m find frames w spot) origin bs
inside_moves limit m find origin [] w spot bs le h =
    weaker (So_far m find spot w) (Insides m find [] w spot) origin bs (so_far_moves limit m find spot origin w bs le h) (λ x y s. ([], s, tt))
inside_moves limit m find origin (f ∷ fs) w spot bs le h =
    both (Insides m find fs f.outer h.2) (Bracketed m find f.opening spot w) (Insides m find (f ∷ fs) w spot) origin h.0 bs
    (inside_moves limit m find origin fs f.outer h.2 h.0 le h.3)
    (both (Opens m find f.opening) (So_far m find spot w) (Bracketed m find f.opening spot w) h.0 h.1 bs
    (opened_moves limit m find f.opening h.0 h.1 le h.4) (so_far_moves limit m find spot h.1 w bs le h.5) (λ x y z o s. (y, o, s)))
    (λ x y z i b. (record { outer = f.outer; start = length y; opening = f.opening } ∷ i.0, (y, b.0, h.2, i.1, b.1, b.2, refl), refl))

abbrev pub TextInside : ℕ → Find → List Frame → List Letter → Spot → List ℕ → List ℕ → Type 0
TextInside limit find frames w spot text bs = Insides limit find frames w spot (after_blanks text) bs

pub text_moves : (limit m : ℕ) (find : Find) (text : List ℕ) (frames : List Frame) (w : List Letter) (spot : Spot) (bs : List ℕ) → limit ≤ m
    → Inside limit find (after_blanks text) frames w spot bs → Swap (TextInside m find frames w spot) text bs
text_moves limit m find text frames w spot bs le h =
    both Skips (Insides m find frames w spot) (TextInside m find frames w spot) text (after_blanks text) bs (skipped text)
    (inside_moves limit m find (after_blanks text) frames w spot bs le h)
    (λ x y z k i. (i.0, subst (λ (l : List ℕ). Inside m find l i.0 w spot z) k i.1, i.2))

-- a word is read through each state inside it
pub read_through : (limit : ℕ) (find : Find) (text : List ℕ) (frames : List Frame) (w : List Letter) (spot : Spot) (bs : List ℕ) (word : List Letter)
    → Inside limit find (after_blanks text) frames w spot bs → IsWordWithin limit find text word
    → (n : ℕ) × (length bs < n) × (word_from limit n find (at frames w spot) bs ≡ Ok (word, []))
read_through limit find text frames w spot bs word h is =
    let x = from_text limit find text (at frames w spot) bs (inside_reached limit find (after_blanks text) frames w spot bs h) in
    (x.0, x.1, sym x.2 ∙ word_again limit find text word is)

-- a turn that fails, or ends before the text does, is no part of a word
abbrev pub Stuck : List ℕ → Reading → Result Turned Fault → Type 0
Stuck bs s r = ((e : Fault) × (r ≡ Err e)) ⊎ ((r ≡ Ok (record { state = s; ended = true; rest = bs })) × ((length bs == 0) ≡ false))

pub not_read : (limit n : ℕ) (find : Find) (s : Reading) (bs : List ℕ) (word : List Letter) (r : Result Turned Fault) → Stuck bs s r
    → Onward limit n find r ≡ Ok (word, []) → ⊥
not_read limit n find s bs word r (inl x) o =
    let e : Onward limit n find (Err x.0) ≡ Ok (word, []) = subst (λ (t : Result Turned Fault). Onward limit n find t ≡ Ok (word, [])) x.1 o in
    cc
not_read limit n find s bs word r (inr x) o =
    let t : Turned = record { state = s; ended = true; rest = bs } in
    let e : Onward limit n find (Ok t) ≡ Ok (word, []) = subst (λ (t : Result Turned Fault). Onward limit n find t ≡ Ok (word, [])) x.0 o in
    let pair : ◌≡◌ {A = List Letter × List ℕ} (s.product, bs) (word, []) = cc in
    let none : bs ≡ [] = ap (λ (p : List Letter × List ℕ). p.1) pair in
    let contrary : (length {A = ℕ} [] == 0) ≡ false = subst (λ (l : List ℕ). (length l == 0) ≡ false) none x.1 in
    cc

pub stuck : (limit n : ℕ) (find : Find) (s : Reading) (bs : List ℕ) (word : List Letter) → length bs < n → Stuck bs s (turn limit find s bs)
    → word_from limit n find s bs ≡ Ok (word, []) → ⊥
stuck limit zero find s bs word lt t e = absurd (omega arith)
stuck limit (suc n) find s bs word lt t e =
    not_read limit n find s bs word (turn limit find s bs) t (sym (last_turn limit n find s bs (turn limit find s bs) refl) ∙ e)

-- where neither a factor nor what may follow the product stands
shuts_blocked : (limit : ℕ) (opening : Opening) (frames : List Frame) (outer : List Letter) (start : ℕ) (w : List Letter) (bs : List ℕ)
    → first_is (closer opening) bs ≡ false → shuts limit opening frames outer start w bs ≡ Err (due bs)
shuts_blocked limit Round frames outer start w bs e = rw e refl
shuts_blocked limit Square frames outer start w bs e = rw e refl
shuts_blocked limit (Second u) frames outer start w bs e = rw e refl

closes_blocked : (limit : ℕ) (frames : List Frame) (s : Reading) (bs : List ℕ) → goes_on_with frames bs ≡ false → Stuck bs s (closes limit frames s bs)
closes_blocked limit [] s bs e = inr (refl, e)
closes_blocked limit (f ∷ fs) s bs e = inl (due bs, shuts_blocked limit f.opening fs f.outer f.start s.product bs e)

blocked_turn : (limit : ℕ) (find : Find) (frames : List Frame) (w : List Letter) (spot : Spot) (bs : List ℕ) (m : Mark) → mark_of bs ≡ m
    → Blocked frames spot bs → Stuck bs (at frames w spot) (turn_on limit find m (at frames w spot) bs)
blocked_turn limit find frames w Start bs marks.Letter m b = absurd (subst BeginsNoFactor m b.0)
blocked_turn limit find frames w Start bs marks.One m b = absurd (subst BeginsNoFactor m b.0)
blocked_turn limit find frames w Start bs marks.Round m b = absurd (subst BeginsNoFactor m b.0)
blocked_turn limit find frames w Start bs marks.Square m b = absurd (subst BeginsNoFactor m b.0)
blocked_turn limit find frames w Start bs marks.Star m b = closes_blocked limit frames (at frames w Start) bs b.1
blocked_turn limit find frames w Start bs marks.Bad m b = closes_blocked limit frames (at frames w Start) bs b.1
blocked_turn limit find frames w Start bs marks.Other m b = closes_blocked limit frames (at frames w Start) bs b.1
blocked_turn limit find frames w After bs marks.Letter m b = absurd (subst BeginsNoFactor m b.0.0)
blocked_turn limit find frames w After bs marks.One m b = absurd (subst BeginsNoFactor m b.0.0)
blocked_turn limit find frames w After bs marks.Round m b = absurd (subst BeginsNoFactor m b.0.0)
blocked_turn limit find frames w After bs marks.Square m b = absurd (subst BeginsNoFactor m b.0.0)
blocked_turn limit find frames w After bs marks.Star m b = absurd (b.0.1 m)
blocked_turn limit find frames w After bs marks.Bad m b = closes_blocked limit frames (at frames w After) bs b.1
blocked_turn limit find frames w After bs marks.Other m b = closes_blocked limit frames (at frames w After) bs b.1
blocked_turn limit find frames w Starred bs marks.Letter m b = absurd (subst BeginsNoFactor m b)
blocked_turn limit find frames w Starred bs marks.One m b = absurd (subst BeginsNoFactor m b)
blocked_turn limit find frames w Starred bs marks.Round m b = absurd (subst BeginsNoFactor m b)
blocked_turn limit find frames w Starred bs marks.Square m b = absurd (subst BeginsNoFactor m b)
blocked_turn limit find frames w Starred bs marks.Star m b = inl (due bs, refl)
blocked_turn limit find frames w Starred bs marks.Bad m b = inl (due bs, refl)
blocked_turn limit find frames w Starred bs marks.Other m b = inl (due bs, refl)

no_word_blocked : (limit : ℕ) (find : Find) (text : List ℕ) (frames : List Frame) (w : List Letter) (spot : Spot) (bs : List ℕ) (word : List Letter)
    → Inside limit find (after_blanks text) frames w spot bs → Blocked frames spot bs → IsWordWithin limit find text word → ⊥
no_word_blocked limit find text frames w spot bs word h b is =
    let x = read_through limit find text frames w spot bs word h is in
    let c : after_blanks bs ≡ bs = inside_clear limit find (after_blanks text) frames w spot bs h (blanks_once text) in
    stuck limit x.0 find (at frames w spot) bs word x.1
    (subst (λ (r : Result Turned Fault). Stuck bs (at frames w spot) r) (sym (turn_at limit find (mark_of bs) (at frames w spot) bs refl c))
    (blocked_turn limit find frames w spot bs (mark_of bs) refl b)) x.2

-- where an unknown name stands
no_word_unknown : (limit : ℕ) (find : Find) (text : List ℕ) (frames : List Frame) (w : List Letter) (spot : Spot) (bs : List ℕ) (word : List Letter)
    → Inside limit find (after_blanks text) frames w spot bs → mark_of bs ≡ marks.Letter → find (name_at bs) ≡ None → IsWordWithin limit find text word → ⊥
no_word_unknown limit find text frames w spot bs word h m none is =
    let x = read_through limit find text frames w spot bs word h is in
    let c : after_blanks bs ≡ bs = inside_clear limit find (after_blanks text) frames w spot bs h (blanks_once text) in
    let e : turn limit find (at frames w spot) bs ≡ Err (record { kind = UnknownName; left = length bs }) =
    turn_at limit find marks.Letter (at frames w spot) bs m c ∙ ap (λ (o : Option ℕ). named limit o (at frames w spot) bs) none in
    stuck limit x.0 find (at frames w spot) bs word x.1 (inl (record { kind = UnknownName; left = length bs }, e)) x.2

-- bytes that begin alike
pub data SameFirst : List ℕ → List ℕ → Type 0 where
  none : SameFirst [] []
  some : (b : ℕ) (bs cs : List ℕ) → SameFirst (b ∷ bs) (b ∷ cs)

pub same_fits : (bs cs : List ℕ) → SameFirst bs cs → Fits bs cs
same_fits _ _ SameFirst.none = Fits.halts [] [] tt
same_fits _ _ (SameFirst.some b bs cs) = Fits.alike b bs cs

some_left : (b : ℕ) (bs : List ℕ) → (length (b ∷ bs) == 0) ≡ false
some_left b bs = grind (arith, nat_tests)

goes_on_same : (frames gs : List Frame) (b : ℕ) (bs cs : List ℕ) → SameOpenings frames gs → goes_on_with frames (b ∷ bs) ≡ false
    → goes_on_with gs (b ∷ cs) ≡ false
goes_on_same [] [] b bs cs o e = some_left b cs
goes_on_same (f ∷ fs) (g ∷ gs) b bs cs o e = subst (λ (x : Opening). first_is (closer x) (b ∷ cs) ≡ false) o e
goes_on_same [] (g ∷ gs) b bs cs o e = absurd o
goes_on_same (f ∷ fs) [] b bs cs o e = absurd o

goes_on_none : (frames gs : List Frame) → SameOpenings frames gs → goes_on_with frames [] ≡ false → goes_on_with gs [] ≡ false
goes_on_none [] [] o e = e
goes_on_none (f ∷ fs) (g ∷ gs) o e = refl
goes_on_none [] (g ∷ gs) o e = absurd o
goes_on_none (f ∷ fs) [] o e = absurd o

blocked_same : (frames gs : List Frame) (spot : Spot) (bs cs : List ℕ) → SameFirst bs cs → SameOpenings frames gs → Blocked frames spot bs → Blocked gs spot cs
blocked_same frames gs Start _ _ SameFirst.none o b = (b.0, goes_on_none frames gs o b.1)
blocked_same frames gs After _ _ SameFirst.none o b = (b.0, goes_on_none frames gs o b.1)
blocked_same frames gs Starred _ _ SameFirst.none o b = b
blocked_same frames gs Start _ _ (SameFirst.some c bs cs) o b = (b.0, goes_on_same frames gs c bs cs o b.1)
blocked_same frames gs After _ _ (SameFirst.some c bs cs) o b = (b.0, goes_on_same frames gs c bs cs o b.1)
blocked_same frames gs Starred _ _ (SameFirst.some c bs cs) o b = b

-- words of any length
pub longer : (limit m : ℕ) (find : Find) (text : List ℕ) (word : List Letter) → limit ≤ m → IsWordWithin limit find text word → IsWordWithin m find text word
longer limit m find text word le is = (is.0, wider limit m find (Product is.0) (after_blanks text) word [] le is.1)

-- what begins as the bytes at a place does, behind the bytes before it, is no word
pub refuses_blocked : (limit : ℕ) (find : Find) (text : List ℕ) (frames : List Frame) (w : List Letter) (spot : Spot) (bs : List ℕ)
    → Inside limit find (after_blanks text) frames w spot bs → Blocked frames spot bs → (cs : List ℕ) → SameFirst bs cs
    → IsSomeWord find (bytes_before text (length bs) ++ cs) → ⊥
refuses_blocked limit find text frames w spot bs h b cs f x =
    let m : ℕ = limit + x.0 in
    let s = text_moves limit m find text frames w spot bs (omega arith) h in
    let i = s.2 cs (same_fits bs cs f) in
    no_word_blocked m find (s.0 ++ cs) i.0 w spot cs x.1 i.1 (blocked_same frames i.0 spot bs cs f i.2 b)
    (longer x.0 m find (s.0 ++ cs) x.1 (omega arith)
    (subst (λ (l : List ℕ). IsWordWithin x.0 find (l ++ cs) x.1) (before_is text s.0 bs (length bs) s.1 refl) x.2))

pub refused_by : (find : Find) (front place : List ℕ) → ((cs : List ℕ) → SameFirst place cs → IsSomeWord find (front ++ cs) → ⊥) → Refused find front place
refused_by find front [] f = λ x. f [] SameFirst.none (subst (IsSomeWord find) (sym (append-nil front)) x)
refused_by find front (b ∷ bs) f =
    λ x. f (b ∷ x.0) (SameFirst.some b bs x.0) (subst (IsSomeWord find) (append_assoc front (b ∷ []) x.0) x.1)

-- bytes with the same run of a kind at their head begin alike
same_byte : (b c : ℕ) (bs cs : List ℕ) → c ≡ b → SameFirst (b ∷ bs) (c ∷ cs)
same_byte b c bs cs e = subst (λ (d : ℕ). SameFirst (b ∷ bs) (d ∷ cs)) (sym e) (SameFirst.some b bs cs)

heads : (p : ℕ → Bool) (b c : ℕ) (bs cs : List ℕ) (t u : Bool) → p b ≡ t → p c ≡ u → 0 < length (take_while p (b ∷ bs))
    → take_while p (c ∷ cs) ≡ take_while p (b ∷ bs) → c ≡ b
heads p b c bs cs true true e f lt g =
    let same : c ∷ take_while p cs ≡ b ∷ take_while p bs = sym (taken p c cs f) ∙ (g ∙ taken p b bs e) in
    cc
heads p b c bs cs true false e f lt g =
    let none : [] ≡ b ∷ take_while p bs = sym (none_taken p c cs f) ∙ (g ∙ taken p b bs e) in
    cc
heads p b c bs cs false u e f lt g = absurd (omega (arith, ap length (none_taken p b bs e)))

pub run_first : (p : ℕ → Bool) (bs cs : List ℕ) → 0 < length (take_while p bs) → take_while p cs ≡ take_while p bs → SameFirst bs cs
run_first p [] cs lt e = absurd (omega arith)
run_first p (b ∷ bs) [] lt e = absurd (omega (arith, ap length e))
run_first p (b ∷ bs) (c ∷ cs) lt e = same_byte b c bs cs (heads p b c bs cs (p b) (p c) refl refl lt e)

name_first : (bs cs : List ℕ) → mark_of bs ≡ marks.Letter → name_at cs ≡ name_at bs → SameFirst bs cs
unfolding name_at
name_first bs cs m e = run_first is_name_byte bs cs (name_some bs m) e

pub same_mark : (bs cs : List ℕ) → SameFirst bs cs → mark_of cs ≡ mark_of bs
same_mark _ _ SameFirst.none = refl
same_mark _ _ (SameFirst.some b bs cs) = refl

pub refuses_name : (limit : ℕ) (find : Find) (text : List ℕ) (frames : List Frame) (w : List Letter) (spot : Spot) (bs : List ℕ)
    → Inside limit find (after_blanks text) frames w spot bs → mark_of bs ≡ marks.Letter → find (name_at bs) ≡ None
    → NameRefused find (bytes_before text (length bs)) bs
refuses_name limit find text frames w spot bs h m unknown = λ cs e x.
    let n : ℕ = limit + x.0 in
    let s = text_moves limit n find text frames w spot bs (omega arith) h in
    let f : SameFirst bs cs = name_first bs cs m e in
    let i = s.2 cs (same_fits bs cs f) in
    no_word_unknown n find (s.0 ++ cs) i.0 w spot cs x.1 i.1 (same_mark bs cs f ∙ m) (ap find e ∙ unknown)
    (longer x.0 n find (s.0 ++ cs) x.1 (omega arith)
    (subst (λ (l : List ℕ). IsWordWithin x.0 find (l ++ cs) x.1) (before_is text s.0 bs (length bs) s.1 refl) x.2))
