-- What is read of a text is a schedule of the grammar, and schedules of the grammar are read.
use Rattle.std.proofs.Common.{◌≡◌, ℕ, zero, suc, ◌+◌, ◌-◌, ◌/◌, ◌%◌, ◌<◌, ◌≤◌, ◌==◌, ◌&&◌, nat_le, nat_lt, Bool, true, false, decimal, List, [], ◌∷◌, ◌++◌}
use Rattle.std.proofs.Common.{length, Option, Some, None, option_map, Result, Ok, Err, IfOk, Vec, refl, sym, ◌∙◌, ap, subst, arith, append_assoc, append-nil}
use Rattle.std.proofs.Common.{if◌then◌else◌}
use Rattle.std.specs.declared.alloc.Global.{Global}
use Rattle.std.proofs.lemmas.Bool.Decides.{nat_tests}
use Rattle.std.proofs.lemmas.Fmt.{decimal_digit, decimal_step}
use Rattle.std.proofs.lemmas.List.{length-drop}
use Rattle.word_text.specs.declared.fault.ReadFault.{ReadFault}
use Rattle.word_text.specs.declared.fault.ReadFault.TheVariants as faults
use Rattle.word_text.specs.Scan.{◌>>=◌, after_blanks}
use Rattle.word_text.proofs.Lexing.{blanks_once}
use Rattle.presentation.proofs.Steps.{bind_ok, ok_is, guard_ok}
use Rattle.presentation.proofs.WritingEnds.{skips_le}
use Rattle.session_text.specs.declared.question.Event.{Event}
use Rattle.session_text.specs.declared.question.Event.TheVariants.{Worker, Session}
use Rattle.session_text.specs.Schedule.{IsEvent, small_number, event_of, event_by, event_at, events_from, schedule_text, token_at, after_token, ReadsSchedule}
use Rattle.session_text.specs.ScheduleGrammar.{event_name, TokenAt, IsSchedule}

-- a number from 1 to 16
abbrev IsSmall : ℕ → Type 0
IsSmall n = (1 ≤ n) × (n ≤ 16)

one_digit : (n : ℕ) → n < 10 → decimal n ≡ (48 + n) ∷ []
one_digit n lt = decimal_digit n lt

two_digits : (n : ℕ) → 10 ≤ n → n ≤ 16 → decimal n ≡ 49 ∷ (38 + n) ∷ []
two_digits n low high =
    let front : n / 10 ≡ 1 = omega arith in
    let back : 48 + n % 10 ≡ 38 + n = omega arith in
    decimal_step n low (omega arith) ∙ rw (front, back, one_digit 1 (omega arith)) refl

within : (a low high : ℕ) → (nat_le low a && nat_le a high) ≡ true → (low ≤ a) × (a ≤ high)
within a low high e = (grind (arith, nat_tests), grind (arith, nat_tests))

some_is : (m n : ℕ) → ◌≡◌ {A = Option ℕ} (Some m) (Some n) → m ≡ n
some_is m n e = cc

one_spelled : (a n : ℕ) (t : Bool) → (nat_le 49 a && nat_le a 57) ≡ t → (if t then Some (a - 48) else None) ≡ Some n → ((a ∷ []) ≡ decimal n) × IsSmall n
one_spelled a n true t e =
    let w = within a 49 57 t in
    let k : a - 48 ≡ n = some_is (a - 48) n e in
    let same : a ≡ 48 + n = omega (arith, w.0, k) in
    (ap (λ (b : ℕ). b ∷ []) same ∙ sym (one_digit n (omega (arith, w.1, same))), (omega (arith, w.0, same), omega (arith, w.1, same)))
one_spelled a n false t e = cc

two_spelled : (a b n : ℕ) (t : Bool) → ((a == 49) && (nat_le 48 b && nat_le b 54)) ≡ t → (if t then Some (b - 38) else None) ≡ Some n
    → ((a ∷ b ∷ []) ≡ decimal n) × IsSmall n
two_spelled a b n true t e =
    let first : a ≡ 49 = grind (arith, nat_tests) in
    let low : 48 ≤ b = grind (arith, nat_tests) in
    let high : b ≤ 54 = grind (arith, nat_tests) in
    let k : b - 38 ≡ n = some_is (b - 38) n e in
    let same : b ≡ 38 + n = omega (arith, low, k) in
    (rw (first, same) (sym (two_digits n (omega (arith, low, same)) (omega (arith, high, same)))), (omega (arith, low, same), omega (arith, high, same)))
two_spelled a b n false t e = cc

number_spelled : (bs : List ℕ) (n : ℕ) → small_number bs ≡ Some n → (bs ≡ decimal n) × IsSmall n
number_spelled [] n e = cc
number_spelled (a ∷ []) n e = one_spelled a n (nat_le 49 a && nat_le a 57) refl e
number_spelled (a ∷ b ∷ []) n e = two_spelled a b n ((a == 49) && (nat_le 48 b && nat_le b 54)) refl e
number_spelled (a ∷ b ∷ d ∷ ds) n e = cc

is_one : (n : ℕ) → 1 ≤ n → n < 10 → (nat_le 49 (48 + n) && nat_le (48 + n) 57) ≡ true
is_one n low high = grind (arith, nat_tests)

is_ten : (n : ℕ) → 10 ≤ n → n ≤ 16 → (nat_le 48 (38 + n) && nat_le (38 + n) 54) ≡ true
is_ten n low high = grind (arith, nat_tests)

number_again : (n : ℕ) → IsSmall n → small_number (decimal n) ≡ Some n
number_again n h = by (nat_lt n 10) refl
  where
    by : (t : Bool) → nat_lt n 10 ≡ t → small_number (decimal n) ≡ Some n
    by true t =
        let lt : n < 10 = grind (arith, nat_tests) in
        let back : 48 + n - 48 ≡ n = omega arith in
        rw (one_digit n lt, is_one n h.0 lt, back) refl
    by false t =
        let low : 10 ≤ n = grind (arith, nat_tests) in
        let back : 38 + n - 38 ≡ n = omega arith in
        rw (two_digits n low h.1, is_ten n low h.1, back) refl

-- an event with such a number
abbrev IsNumbered : Event → Type 0
IsNumbered (Worker n) = IsSmall n
IsNumbered (Session n) = IsSmall n

event_is : (d e : Event) → ◌≡◌ {A = Option Event} (Some d) (Some e) → d ≡ e
event_is d e k = cc

worker_spelled : (bs : List ℕ) (e : Event) (o : Option ℕ) → small_number bs ≡ o → option_map (λ n. Worker n) o ≡ Some e
    → ((119 ∷ bs) ≡ event_name e) × IsNumbered e
worker_spelled bs e None r k = cc
worker_spelled bs e (Some n) r k =
    let s = number_spelled bs n r in
    let all : ((119 ∷ bs) ≡ event_name (Worker n)) × IsNumbered (Worker n) = (ap (λ (t : List ℕ). 119 ∷ t) s.0, s.1) in
    subst (λ (d : Event). ((119 ∷ bs) ≡ event_name d) × IsNumbered d) (event_is (Worker n) e k) all

session_spelled : (bs : List ℕ) (e : Event) (o : Option ℕ) → small_number bs ≡ o → option_map (λ n. Session n) o ≡ Some e
    → ((115 ∷ bs) ≡ event_name e) × IsNumbered e
session_spelled bs e None r k = cc
session_spelled bs e (Some n) r k =
    let s = number_spelled bs n r in
    let all : ((115 ∷ bs) ≡ event_name (Session n)) × IsNumbered (Session n) = (ap (λ (t : List ℕ). 115 ∷ t) s.0, s.1) in
    subst (λ (d : Event). ((115 ∷ bs) ≡ event_name d) × IsNumbered d) (event_is (Session n) e k) all

byte_is : (b c : ℕ) → (b == c) ≡ true → b ≡ c
byte_is b c e = grind (arith, nat_tests)

name_spelled : (name : List ℕ) (e : Event) → event_of name ≡ Some e → (name ≡ event_name e) × IsNumbered e
name_spelled [] e k = cc
name_spelled (b ∷ bs) e k = workers (b == 119) refl k
  where
    sessions : (t : Bool) → (b == 115) ≡ t → (if t then option_map (λ n. Session n) (small_number bs) else None) ≡ Some e
        → ((b ∷ bs) ≡ event_name e) × IsNumbered e
    sessions true t k = rw (byte_is b 115 t) (session_spelled bs e (small_number bs) refl k)
    sessions false t k = cc

    workers : (t : Bool) → (b == 119) ≡ t
        → (if t then option_map (λ n. Worker n) (small_number bs) else if b == 115 then option_map (λ n. Session n) (small_number bs) else None) ≡ Some e
        → ((b ∷ bs) ≡ event_name e) × IsNumbered e
    workers true t k = rw (byte_is b 119 t) (worker_spelled bs e (small_number bs) refl k)
    workers false t k = sessions (b == 115) refl k

name_again : (e : Event) → IsNumbered e → event_of (event_name e) ≡ Some e
name_again (Worker n) h = rw (number_again n h) refl
name_again (Session n) h = rw (number_again n h) refl

-- an event that stands here, and what follows it
record StandsFirst (sessions : ℕ) (bs : List ℕ) (x : Event × List ℕ) : Type 0 where
  name : token_at bs ≡ event_name x.0
  rest : x.1 ≡ after_token bs
  is : IsEvent sessions x.0

is_within : (sessions n : ℕ) → nat_lt sessions n ≡ false → n ≤ sessions
is_within sessions n e = grind (arith, nat_tests)

first_spelled : (sessions : ℕ) (bs : List ℕ) (x : Event × List ℕ) (o : Option Event) → event_of (token_at bs) ≡ o → event_by sessions bs o ≡ Ok x
    → StandsFirst sessions bs x
first_spelled sessions bs x None r k = cc
first_spelled sessions bs x (Some (Worker n)) r k =
    let s = name_spelled (token_at bs) (Worker n) r in
    let all : StandsFirst sessions bs (Worker n, after_token bs) = record { name = s.0; rest = refl; is = s.1 } in
    subst (StandsFirst sessions bs) (ok_is {A = Event × List ℕ} (Worker n, after_token bs) x k) all
first_spelled sessions bs x (Some (Session n)) r k =
    let s = name_spelled (token_at bs) (Session n) r in
    let g = guard_ok (nat_lt sessions n) _ (Ok (Session n, after_token bs)) x k in
    let all : StandsFirst sessions bs (Session n, after_token bs) = record { name = s.0; rest = refl; is = ((s.1).0, (s.1).1, is_within sessions n g.0) } in
    subst (StandsFirst sessions bs) (ok_is {A = Event × List ℕ} (Session n, after_token bs) x g.1) all

not_past : (sessions n : ℕ) → n ≤ sessions → nat_lt sessions n ≡ false
not_past sessions n le = grind (arith, nat_tests)

first_again : (sessions : ℕ) (bs : List ℕ) (e : Event) → token_at bs ≡ event_name e → IsEvent sessions e → event_at sessions bs ≡ Ok (e, after_token bs)
first_again sessions bs (Worker n) name is = rw (name, name_again (Worker n) is) refl
first_again sessions bs (Session n) name is = rw (name, name_again (Session n) (is.0, is.1), not_past sessions n is.2) refl

-- a schedule stands behind blanks as it does without them
same_schedule : (sessions : ℕ) (bs ds : List ℕ) (es : List Event) → after_blanks bs ≡ after_blanks ds → IsSchedule sessions bs es → IsSchedule sessions ds es
same_schedule sessions bs ds [] e h = sym e ∙ h
same_schedule sessions bs ds (x ∷ es) e h = (h.0, (ap token_at (sym e) ∙ (h.1).0, (h.1).1 ∙ ap after_token e), h.2, h.3)

empty : (bs : List ℕ) → (length bs == 0) ≡ true → bs ≡ []
empty [] e = refl
empty (b ∷ bs) e = absurd (no (length bs) e)
  where
    no : (n : ℕ) → (suc n == 0) ≡ true → ⊥
    no n e = grind (arith, nat_tests)

-- events behind others
record Behind (sessions : ℕ) (before : List Event) (bs : List ℕ) (all : List Event) : Type 0 where
  new : List Event
  are : IsSchedule sessions bs new
  whole : all ≡ before ++ new

events_spelled : (n sessions : ℕ) (before : List Event) (bs : List ℕ) (all : List Event) → events_from n sessions before bs ≡ Ok all → after_blanks bs ≡ bs
    → Behind sessions before bs all
events_spelled zero sessions before bs all e plain = cc
events_spelled (suc n) sessions before bs all e plain =
    by (length bs == 0) refl e (λ mid rest k. events_spelled n sessions mid (after_blanks rest) all k (blanks_once rest))
  where
    next : (x : Event × List ℕ) → event_at sessions bs ≡ Ok x → Behind sessions (before ++ x.0 ∷ []) (after_blanks x.1) all → Behind sessions before bs all
    next x r b =
        let f = first_spelled sessions bs x (event_of (token_at bs)) refl r in
        let stands : TokenAt bs (event_name x.0) x.1 = (ap token_at plain ∙ f.name, f.rest ∙ ap after_token (sym plain)) in
        record {
          new = x.0 ∷ b.new;
          are = (x.1, stands, f.is, same_schedule sessions (after_blanks x.1) x.1 b.new (blanks_once x.1) b.are);
          whole = b.whole ∙ append_assoc before (x.0 ∷ []) b.new;
        }

    by : (t : Bool) → (length bs == 0) ≡ t
        → (if t then Ok before else event_at sessions bs >>= λ e. events_from n sessions (before ++ e.0 ∷ []) (after_blanks e.1)) ≡ Ok all
        → ((mid : List Event) (rest : List ℕ) → events_from n sessions mid (after_blanks rest) ≡ Ok all → Behind sessions mid (after_blanks rest) all)
        → Behind sessions before bs all
    by true t k later = record { new = []; are = plain ∙ empty bs t; whole = sym (ok_is before all k) ∙ sym (append-nil before) }
    by false t k later =
        let b = bind_ok (event_at sessions bs) (λ e. events_from n sessions (before ++ e.0 ∷ []) (after_blanks e.1)) all k in
        next b.0 b.1 (later (before ++ (b.0).0 ∷ []) (b.0).1 b.2)

-- what is read is a schedule of the grammar
pub text_spelled : (sessions : ℕ) (text : List ℕ) (es : List Event) → schedule_text sessions text ≡ Ok es → IsSchedule sessions text es
unfolding schedule_text
text_spelled sessions text es e =
    let b = events_spelled (suc (length text)) sessions [] (after_blanks text) es e (blanks_once text) in
    let are : IsSchedule sessions text b.new = same_schedule sessions (after_blanks text) text b.new (blanks_once text) b.are in
    subst (IsSchedule sessions text) (sym b.whole) are

some_name : (e : Event) → 0 < length (event_name e)
some_name (Worker n) = omega arith
some_name (Session n) = omega arith

-- what follows a token is shorter
shorter : (bs : List ℕ) → 0 < length (token_at bs) → (length bs == 0) ≡ false × (length (after_token bs) < length bs)
unfolding token_at after_token
shorter [] some = absurd (omega arith)
shorter (b ∷ bs) some = (grind (arith, nat_tests), omega (arith, some, length-drop (length (token_at (b ∷ bs))) (b ∷ bs)))

events_again : (n sessions : ℕ) (before : List Event) (bs : List ℕ) (es : List Event) → IsSchedule sessions bs es → after_blanks bs ≡ bs → length bs < n
    → events_from n sessions before bs ≡ Ok (before ++ es)
events_again zero sessions before bs es h plain lt = absurd (omega arith)
events_again (suc n) sessions before bs [] h plain lt = rw (sym plain ∙ h, append-nil before) refl
events_again (suc n) sessions before bs (e ∷ es) h plain lt =
    let name : token_at bs ≡ event_name e = ap token_at (sym plain) ∙ (h.1).0 in
    let rest : h.0 ≡ after_token bs = (h.1).1 ∙ ap after_token plain in
    let some : 0 < length (token_at bs) = rw name (some_name e) in
    let less = shorter bs some in
    let later : IsSchedule sessions (after_blanks (after_token bs)) es =
    rw (← rest) (same_schedule sessions h.0 (after_blanks h.0) es (sym (blanks_once h.0)) h.3) in
    let room : length (after_blanks (after_token bs)) < n = omega (arith, less.1, lt, skips_le (after_token bs)) in
    rw (less.0, first_again sessions bs e name h.2)
    (events_again n sessions (before ++ e ∷ []) (after_blanks (after_token bs)) es later (blanks_once (after_token bs)) room
    ∙ ap (λ (l : List Event). Ok l) (append_assoc before (e ∷ []) es))

-- a schedule of the grammar is read
pub text_again : (sessions : ℕ) (text : List ℕ) (es : List Event) → IsSchedule sessions text es → schedule_text sessions text ≡ Ok es
unfolding schedule_text
text_again sessions text es h =
    events_again (suc (length text)) sessions [] (after_blanks text) es (same_schedule sessions text (after_blanks text) es (sym (blanks_once text)) h)
    (blanks_once text) (omega (arith, skips_le text))

-- a text spells one list of events at most
pub one_value : (sessions : ℕ) (text : List ℕ) (es ds : List Event) → IsSchedule sessions text es → IsSchedule sessions text ds → es ≡ ds
one_value sessions text es ds g h = ok_is es ds (sym (text_again sessions text es g) ∙ text_again sessions text ds h)

-- the same of what a reader answers
pub is_found : (sessions : ℕ) (text : List ℕ) (result : Result (Vec Event Global) ReadFault) → ReadsSchedule text (schedule_text sessions text) result
    → IfOk result (λ v. IsSchedule sessions text v.items)
is_found sessions text (Ok v) e = text_spelled sessions text v.items e
is_found sessions text (Err faults.NoMemory) e = tt
is_found sessions text (Err (faults.Text f)) e = tt

pub is_only : (sessions : ℕ) (text : List ℕ) (result : Result (Vec Event Global) ReadFault) (es : List Event) → IsSchedule sessions text es
    → ReadsSchedule text (schedule_text sessions text) result → ReadsSchedule text (Ok es) result
is_only sessions text (Ok v) es h e = sym (text_again sessions text es h) ∙ e
is_only sessions text (Err faults.NoMemory) es h e = tt
is_only sessions text (Err (faults.Text f)) es h e = (e.0, sym (text_again sessions text es h) ∙ e.1, e.2)
