-- The answers of all sessions at a front tell them.
use Rattle.std.proofs.Common.{◌≡◌, ◌≢◌, ◌⊎◌, inl, inr, ℕ, ◌+◌, ◌<◌, ◌≤◌, nat_lt, ◌==◌, Bool, true, false, if◌then◌else◌, List, [], ◌∷◌, ◌++◌, length, Option}
use Rattle.std.proofs.Common.{Some, None, refl, sym, ap, subst, ◌∙◌, append_assoc, append-nil, arith}
use Rattle.std.proofs.lemmas.Bool.Decides.{nat_tests}
use Rattle.std.specs.List.{AllByRecursion, flat_map}
use Rattle.std.specs.declared.cmp.Ordering.TheVariants.{Less, Greater}
use Rattle.std.specs.Ordering.{nat_cmp, ordering_then}
use Rattle.outcomes.specs.declared.verdicts.Verdict.{Verdict}
use Rattle.session_text.specs.declared.question.Question.{Question}
use Rattle.session_text.specs.Questions.{first_long_image}
use Rattle.vector_text.proofs.Parts.{all_weaker}
use Rattle.report_lines.specs.declared.lines.Line.{Line}
use Rattle.report_lines.specs.declared.lines.Line.TheVariants as lines
use Rattle.report_reading.specs.declared.replies.ReplyData.{ReplyData}
use Rattle.report_reading.specs.Telling.{Told, Tell, IsShown, IsInOrder, last_number, proof_count, is_open, by_number}
use Rattle.report_text.specs.Histories.{Answered, SessionAnswers, proof_lines, live_lines, live_from, live_at}
use Rattle.report_acceptance.specs.Saying.{live_reply, replied_at, replies_at}
use Rattle.report_acceptance.proofs.Puts.{earlier_session, later_session, earlier_question, later_question}
use Rattle.report_acceptance.proofs.Goes.{Goes, AreSpared, tell_append, then_more, read_so, spared_append, number_kept}
use Rattle.report_acceptance.proofs.ReplyLines.{Base, items_in, last_of, Says, last_behind, opened, started, live_told, proofs_told, proofs_spared}

-- ---- tests of numbers

pub is_lt : (x y : ℕ) → nat_lt x y ≡ true → x < y
is_lt x y e = grind (arith, nat_tests)

pub is_ge : (x y : ℕ) → nat_lt x y ≡ false → y ≤ x
is_ge x y e = grind (arith, nat_tests)

is_same : (x y : ℕ) → (x == y) ≡ true → x ≡ y
is_same x y e = grind (arith, nat_tests)

is_other : (x y : ℕ) → (x == y) ≡ false → x ≢ y
is_other x y e same = grind (arith, nat_tests)

-- ---- how far answers go

-- how many of the answers were made before the front
abbrev pub count_before : ℕ → List Answered → ℕ
count_before f [] = 0
count_before f (a ∷ others) = (if nat_lt a.live.front f then 1 else 0) + count_before f others

-- which questions those leave open, numbered from n on
abbrev pub open_before : ℕ → ℕ → ℕ → List Answered → List ((ℕ × ℕ) × Question)
open_before f s n [] = []
open_before f s n (a ∷ others) = (if nat_lt a.live.front f then opened s n a.question a.live.verdict else []) ++ open_before f s (n + 1) others

abbrev pub all_open_before : ℕ → List SessionAnswers → List ((ℕ × ℕ) × Question)
all_open_before f [] = []
all_open_before f (s ∷ ss) = open_before f s.number 1 s.answers ++ all_open_before f ss

-- fronts don't fall
abbrev pub Rise : ℕ → List Answered → Type 0
Rise lo [] = Unit {0}
Rise lo (a ∷ others) = (lo ≤ a.live.front) × Rise a.live.front others

pub record IsShort (a : Answered) : Type 0 where
  pub short : first_long_image a.question ≡ None
  pub shown : length a.live.proofs ≡ proof_count a.question a.live.verdict

pub record IsSessionShort (s : SessionAnswers) : Type 0 where
  pub answers : AllByRecursion IsShort s.answers
  pub rise : Rise 1 s.answers

-- sessions are numbered
abbrev pub AreNumbered : ℕ → List SessionAnswers → Type 0
AreNumbered k [] = Unit {0}
AreNumbered k (s ∷ ss) = (s.number ≡ k) × AreNumbered (k + 1) ss

pub count_none : (f lo : ℕ) (answers : List Answered) → Rise lo answers → f ≤ lo → count_before f answers ≡ 0
count_none f lo [] rise le = refl
count_none f lo (a ∷ others) rise le = by (nat_lt a.live.front f) refl (count_none f a.live.front others rise.1 (let l = rise.0 in omega (arith, l, le)))
  where
    by : (b : Bool) → nat_lt a.live.front f ≡ b → count_before f others ≡ 0 → (if b then 1 else 0) + count_before f others ≡ 0
    by true e k = absurd (let l = is_lt a.live.front f e in let r = rise.0 in omega (arith, l, le, r))
    by false e k = omega (arith, k)

-- ---- the keys of open questions

all_append : {X : Type 0} (P : X → Type 0) (xs ys : List X) → AllByRecursion P xs → AllByRecursion P ys → AllByRecursion P (xs ++ ys)
all_append P [] ys a b = b
all_append P (x ∷ xs) ys a b = (a.0, all_append P xs ys a.1 b)

all_opened : (P : ((ℕ × ℕ) × Question) → Type 0) (s n : ℕ) (q : Question) (v : Verdict) → P ((s, n), q) → AllByRecursion P (opened s n q v)
all_opened P s n q v h = by (is_open v)
  where
    by : (b : Bool) → AllByRecursion P (if b then ((s, n), q) ∷ [] else [])
    by true = (h, tt)
    by false = tt

all_either : (P : ((ℕ × ℕ) × Question) → Type 0) (b : Bool) (xs : List ((ℕ × ℕ) × Question)) → AllByRecursion P xs → AllByRecursion P (if b then xs else [])
all_either P true xs h = h
all_either P false xs h = tt

later_questions : (f s n m : ℕ) (answers : List Answered) → n < m → AllByRecursion (λ y. by_number (s, n) y.0 ≡ Less) (open_before f s m answers)
later_questions f s n m [] lt = tt
later_questions f s n m (a ∷ others) lt =
    all_append (λ y. by_number (s, n) y.0 ≡ Less) (if nat_lt a.live.front f then opened s m a.question a.live.verdict else []) (open_before f s (m + 1) others)
    (all_either (λ y. by_number (s, n) y.0 ≡ Less) (nat_lt a.live.front f) (opened s m a.question a.live.verdict)
    (all_opened (λ y. by_number (s, n) y.0 ≡ Less) s m a.question a.live.verdict (later_question s n m lt)))
    (later_questions f s n (m + 1) others (omega (arith, lt)))

session_keys : (P : ℕ → Type 0) (f s m : ℕ) (answers : List Answered) → P s → AllByRecursion (λ y. P y.0.0) (open_before f s m answers)
session_keys P f s m [] h = tt
session_keys P f s m (a ∷ others) h =
    all_append (λ y. P y.0.0) (if nat_lt a.live.front f then opened s m a.question a.live.verdict else []) (open_before f s (m + 1) others)
    (all_either (λ y. P y.0.0) (nat_lt a.live.front f) (opened s m a.question a.live.verdict) (all_opened (λ y. P y.0.0) s m a.question a.live.verdict h))
    (session_keys P f s (m + 1) others h)

later_keys : (f s k : ℕ) (ss : List SessionAnswers) → s < k → AreNumbered k ss → AllByRecursion (λ y. s < y.0.0) (all_open_before f ss)
later_keys f s k [] lt h = tt
later_keys f s k (t ∷ ss) lt h =
    all_append (λ y. s < y.0.0) (open_before f t.number 1 t.answers) (all_open_before f ss)
    (session_keys (λ x. s < x) f t.number 1 t.answers (let e = h.0 in omega (arith, lt, e))) (later_keys f s (k + 1) ss (omega (arith, lt)) h.1)

-- before a question, by session and number
abbrev IsBefore : ℕ → ℕ → ℕ × ℕ → Type 0
IsBefore s n key = (key.0 < s) ⊎ ((key.0 ≡ s) × (key.1 < n))

abbrev AreBefore : ℕ → ℕ → List ((ℕ × ℕ) × Question) → Type 0
AreBefore s n xs = AllByRecursion (λ y. IsBefore s n y.0) xs

before_greater : (s n : ℕ) (key : ℕ × ℕ) → IsBefore s n key → by_number (s, n) key ≡ Greater
before_greater s n key (inl lt) = earlier_session s n key.0 key.1 lt
before_greater s n key (inr h) = ap (λ x. ordering_then (nat_cmp s x) (nat_cmp n key.1)) h.0 ∙ earlier_question s n key.1 h.1

before_next : (s n : ℕ) (key : ℕ × ℕ) → IsBefore s n key → IsBefore s (n + 1) key
before_next s n key (inl lt) = inl lt
before_next s n key (inr h) = inr (h.0, let l = h.1 in omega (arith, l))

-- ---- the last reply

abbrev pub LastWithin : ℕ → ℕ → Option ReplyData → Type 0
LastWithin f s None = Unit {0}
LastWithin f s (Some r) = (r.front ≤ f) × (r.front ≡ f → r.session ≤ s)

-- it has its proofs, and stands no later than the session at the front
pub record IsUpTo (f s : ℕ) (rs : List ReplyData) : Type 0 where
  pub shown : IsShown (last_of rs)
  pub within : LastWithin f s (last_of rs)

in_order : (f s : ℕ) (o : Option ReplyData) → LastWithin f s o → IsInOrder s f o
in_order f s None h = tt
in_order f s (Some r) h = h.1

next_session : (f s : ℕ) (o : Option ReplyData) → LastWithin f s o → LastWithin f (s + 1) o
next_session f s None h = tt
next_session f s (Some r) h = (h.0, λ e. let l = h.1 e in omega (arith, l))

pub next_front : (f s k : ℕ) (o : Option ReplyData) → LastWithin f s o → LastWithin (f + 1) k o
next_front f s k None h = tt
next_front f s k (Some r) h = (let l = h.0 in omega (arith, l), λ e. absurd (let l = h.0 in omega (arith, e, l)))

answer_up_to : (f s : ℕ) (rs : List ReplyData) (a : Answered) → IsShort a → a.live.front ≡ f → IsUpTo f s (rs ++ live_reply s a ∷ [])
answer_up_to f s rs a fits at = record {
  shown = subst IsShown (sym (last_behind rs (live_reply s a))) fits.shown;
  within = subst (LastWithin f s) (sym (last_behind rs (live_reply s a))) (omega (arith, at), λ e. omega arith);
}

pub up_to_more : (f s : ℕ) (answers : List Answered) (rs : List ReplyData) → AllByRecursion IsShort answers → IsUpTo f s rs
    → IsUpTo f s (rs ++ flat_map (replied_at f s) answers)
up_to_more f s [] rs fits h = subst (IsUpTo f s) (sym (append-nil rs)) h
up_to_more f s (a ∷ others) rs fits h = by (a.live.front == f) refl (λ ls k. up_to_more f s others ls fits.1 k)
  where
    by : (e : Bool) → (a.live.front == f) ≡ e → ((ls : List ReplyData) → IsUpTo f s ls → IsUpTo f s (ls ++ flat_map (replied_at f s) others))
        → IsUpTo f s (rs ++ ((if e then live_reply s a ∷ [] else []) ++ flat_map (replied_at f s) others))
    by true e more =
        subst (IsUpTo f s) (append_assoc rs (live_reply s a ∷ []) (flat_map (replied_at f s) others))
        (more (rs ++ live_reply s a ∷ []) (answer_up_to f s rs a fits.0 (is_same a.live.front f e)))
    by false e more = more rs h

pub front_up_to : (f k : ℕ) (ss : List SessionAnswers) (rs : List ReplyData) → AreNumbered k ss → AllByRecursion IsSessionShort ss → IsUpTo f k rs
    → (j : ℕ) × IsUpTo f j (rs ++ replies_at ss f)
front_up_to f k [] rs numbers fits h = (k, subst (IsUpTo f k) (sym (append-nil rs)) h)
front_up_to f k (s ∷ ss) rs numbers fits h =
    let mine : List ReplyData = flat_map (replied_at f s.number) s.answers in
    let here : IsUpTo f s.number (rs ++ mine) = up_to_more f s.number s.answers rs fits.0.answers (subst (λ x. IsUpTo f x rs) (sym numbers.0) h) in
    let next : IsUpTo f (k + 1) (rs ++ mine) = record {
      shown = here.shown;
      within =
          subst (λ x. LastWithin f (x + 1) (last_of (rs ++ mine))) numbers.0 (next_session f s.number (last_of (rs ++ mine)) here.within);
    } in
    let last = front_up_to f (k + 1) ss (rs ++ mine) numbers.1 fits.1 next in
    (last.0, subst (IsUpTo f last.0) (append_assoc rs mine (replies_at ss f)) last.1)

-- ---- lines of other sessions

either_spared : (k : ℕ) (b : Bool) (ls : List Line) → AreSpared k ls → AreSpared k (if b then ls else [])
either_spared k true ls h = h
either_spared k false ls h = tt

live_spared : (k f s n : ℕ) (answers : List Answered) → k ≢ s → AreSpared k (live_from f s n answers)
live_spared k f s n [] other = tt
live_spared k f s n (a ∷ others) other =
    spared_append k (if a.live.front == f then live_lines s n a else []) (live_from f s (n + 1) others)
    (either_spared k (a.live.front == f) (live_lines s n a) (other, proofs_spared k 1 a.live.proofs)) (live_spared k f s (n + 1) others other)

front_spared : (k f j : ℕ) (ss : List SessionAnswers) → k < j → AreNumbered j ss → AreSpared k (live_at f ss)
front_spared k f j [] lt h = tt
front_spared k f j (s ∷ ss) lt h =
    spared_append k (live_from f s.number 1 s.answers) (live_at f ss) (live_spared k f s.number 1 s.answers (λ e. let n = h.0 in omega (arith, e, n, lt)))
    (front_spared k f (j + 1) ss (omega (arith, lt)) h.1)

-- ---- how many questions were answered

abbrev pub Counted : ℕ → Told → List SessionAnswers → Type 0
Counted g t ss = AllByRecursion (λ s. last_number t s.number ≡ count_before g s.answers) ss

still_counted : (g k j : ℕ) (ss : List SessionAnswers) (t u : Told) (ls : List Line) → Tell t ls u → ((x : ℕ) → k < x → AreSpared x ls) → k < j
    → AreNumbered j ss → Counted g t ss → Counted g u ss
still_counted g k j [] t u ls told spared lt h counted = tt
still_counted g k j (s ∷ ss) t u ls told spared lt h counted = (
  number_kept t u ls s.number told (spared s.number (let e = h.0 in omega (arith, e, lt))) ∙ counted.0,
  still_counted g k (j + 1) ss t u ls told spared (omega (arith, lt)) h.1 counted.1,
)

-- ---- one answer

shift : {X : Type 0} (a b x y : List X) → a ++ ((b ++ x) ++ y) ≡ (a ++ b) ++ (x ++ y)
shift a b x y = ap (λ l. a ++ l) (append_assoc b x y) ∙ sym (append_assoc a b (x ++ y))

module _ (c : Base) (none : c.end ≡ None) (f : ℕ) (is : f ≡ items_in c) where
  answer_told : (s n : ℕ) (a : Answered) (rs : List ReplyData) (before behind : List ((ℕ × ℕ) × Question)) → IsShort a → a.live.front ≡ f → IsUpTo f s rs
      → AreBefore s n before
      → AllByRecursion (λ y. by_number (s, n) y.0 ≡ Less) behind
      → Goes (λ t. Says c rs (before ++ behind) t × (last_number t s + 1 ≡ n)) (live_lines s n a)
      (λ u. Says c (rs ++ live_reply s a ∷ []) (before ++ (opened s n a.question a.live.verdict ++ behind)) u × (last_number u s ≡ n))
  answer_told s n a rs before behind fits at upto early late =
      let q : Question = a.question in
      let v : Verdict = a.live.verdict in
      let asked : List ((ℕ × ℕ) × Question) = before ++ (opened s n q v ++ behind) in
      then_more (λ t. Says c rs (before ++ behind) t × (last_number t s + 1 ≡ n)) (λ u. Says c (rs ++ started c rs s n a.live.front q v ∷ []) asked u
      × (last_number u s ≡ n))
      (λ u. Says c (rs ++ live_reply s a ∷ []) asked u × (last_number u s ≡ n)) (lines.Live s n a.live.front q v ∷ []) (proof_lines 1 a.live.proofs)
      (live_told c rs s n a.live.front q v before behind none (at ∙ is) fits.short upto.shown
      (subst (λ x. IsInOrder s x (last_of rs)) (sym at) (in_order f s (last_of rs) upto.within))
      (all_weaker before (λ y h. before_greater s n y.0 h) early) late)
      (λ t h.
      let k = proofs_told c rs (started c rs s n a.live.front q v) asked [] a.live.proofs (let e = fits.shown in omega (arith, e)) t h.0 in
      (k.0, (k.1.0, (k.1.1, number_kept t k.0 (proof_lines 1 a.live.proofs) s k.1.0 (proofs_spared s 1 a.live.proofs) ∙ h.1))))

  -- ---- one session

  module _ (s : ℕ) where
    abbrev Before : ℕ → List Answered → ℕ → List ReplyData → List ((ℕ × ℕ) × Question) → List ((ℕ × ℕ) × Question) → Told → Type 0
    Before n answers m rs before behind t = Says c rs (before ++ (open_before f s n answers ++ behind)) t × (last_number t s ≡ m + count_before f answers)

    abbrev After : ℕ → List Answered → ℕ → List ReplyData → List ((ℕ × ℕ) × Question) → List ((ℕ × ℕ) × Question) → Told → Type 0
    After n answers m rs before behind t =
        Says c (rs ++ flat_map (replied_at f s) answers) (before ++ (open_before (f + 1) s n answers ++ behind)) t
        × (last_number t s ≡ m + count_before (f + 1) answers)

    session_told : (n : ℕ) (answers : List Answered) (m lo : ℕ) (rs : List ReplyData) (before behind : List ((ℕ × ℕ) × Question))
        → AllByRecursion IsShort answers → Rise lo answers → (lo ≤ f → m + 1 ≡ n)
        → IsUpTo f s rs → AreBefore s n before → AllByRecursion (λ y. s < y.0.0) behind
        → Goes (Before n answers m rs before behind) (live_from f s n answers) (After n answers m rs before behind)
    session_told n [] m lo rs before behind fits rise number upto early late =
        λ t h. (t, (refl, (subst (λ l. Says c l (before ++ behind) t) (sym (append-nil rs)) h.0, h.1)))
    session_told n (a ∷ others) m lo rs before behind fits rise number upto early late =
        by (nat_lt a.live.front f) (a.live.front == f) (nat_lt a.live.front (f + 1)) refl refl refl
        (λ k ls asked num up first. session_told (n + 1) others k a.live.front ls asked behind fits.1 rise.1 num up first late)
      where
        one : List ((ℕ × ℕ) × Question)
        one = opened s n a.question a.live.verdict

        left : List ((ℕ × ℕ) × Question)
        left = open_before f s (n + 1) others

        passed : List ((ℕ × ℕ) × Question)
        passed = open_before (f + 1) s (n + 1) others

        all : List ReplyData
        all = flat_map (replied_at f s) others

        early_more : AreBefore s (n + 1) (before ++ one)
        early_more =
            all_append (λ y. IsBefore s (n + 1) y.0) before one (all_weaker before (λ y h. before_next s n y.0 h) early)
            (all_opened (λ y. IsBefore s (n + 1) y.0) s n a.question a.live.verdict (inr (refl, omega arith)))

        early_same : AreBefore s (n + 1) before
        early_same = all_weaker before (λ y h. before_next s n y.0 h) early

        by : (b e d : Bool) → nat_lt a.live.front f ≡ b → (a.live.front == f) ≡ e → nat_lt a.live.front (f + 1) ≡ d
            → ((k : ℕ) (ls : List ReplyData) (asked : List ((ℕ × ℕ) × Question)) → (a.live.front ≤ f → k + 1 ≡ n + 1) → IsUpTo f s ls
            → AreBefore s (n + 1) asked
            → Goes (Before (n + 1) others k ls asked behind) (live_from f s (n + 1) others) (After (n + 1) others k ls asked behind))
            → Goes (λ t. Says c rs (before ++ (((if b then one else []) ++ left) ++ behind)) t
            × (last_number t s ≡ m + ((if b then 1 else 0) + count_before f others)))
            ((if e then live_lines s n a else []) ++ live_from f s (n + 1) others)
            (λ u. Says c (rs ++ ((if e then live_reply s a ∷ [] else []) ++ all)) (before ++ (((if d then one else []) ++ passed) ++ behind)) u
            × (last_number u s ≡ m + ((if d then 1 else 0) + count_before (f + 1) others)))
        by true true d x y z again = absurd (let l = is_lt a.live.front f x in let k = is_same a.live.front f y in omega (arith, l, k))
        by true false false x y z again = absurd (let l = is_lt a.live.front f x in let k = is_ge a.live.front (f + 1) z in omega (arith, l, k))
        by false false true x y z again = absurd (let l = is_ge a.live.front f x in let k = is_lt a.live.front (f + 1) z
            in is_other a.live.front f y (omega (arith, l, k)))
        by false true false x y z again = absurd (let l = is_same a.live.front f y in let k = is_ge a.live.front (f + 1) z in omega (arith, l, k))
        by true false true x y z again =
            let low = is_lt a.live.front f x in
            read_so (λ t. Says c rs (before ++ ((one ++ left) ++ behind)) t × (last_number t s ≡ m + (1 + count_before f others)))
            (Before (n + 1) others (m + 1) rs (before ++ one) behind)
            (After (n + 1) others (m + 1) rs (before ++ one) behind) (λ u. Says c (rs ++ all) (before ++ ((one ++ passed) ++ behind)) u
            × (last_number u s ≡ m + (1 + count_before (f + 1) others)))
            (live_from f s (n + 1) others)
            (λ t h. (subst (λ o. Says c rs o t) (shift before one left behind) h.0, let k = h.1 in omega (arith, k)))
            (again (m + 1) rs (before ++ one) (λ le. let k = number (let r = rise.0 in omega (arith, r, low)) in omega (arith, k)) upto early_more)
            (λ u h. (subst (λ o. Says c (rs ++ all) o u) (sym (shift before one passed behind)) h.0, let k = h.1 in omega (arith, k)))
        by false false false x y z again =
            let high = is_ge a.live.front (f + 1) z in
            read_so (λ t. Says c rs (before ++ (left ++ behind)) t × (last_number t s ≡ m + (0 + count_before f others)))
            (Before (n + 1) others m rs before behind)
            (After (n + 1) others m rs before behind) (λ u. Says c (rs ++ all) (before ++ (passed ++ behind)) u
            × (last_number u s ≡ m + (0 + count_before (f + 1) others)))
            (live_from f s (n + 1) others)
            (λ t h. (h.0, let k = h.1 in omega (arith, k)))
            (again m rs before (λ le. absurd (omega (arith, le, high))) upto early_same)
            (λ u h. (h.0, let k = h.1 in omega (arith, k)))
        by false true true x y z again =
            let at : a.live.front ≡ f = is_same a.live.front f y in
            let zero : count_before f others ≡ 0 = count_none f a.live.front others rise.1 (omega (arith, at)) in
            let here : m + 1 ≡ n = number (let r = rise.0 in omega (arith, r, at)) in
            then_more (λ t. Says c rs (before ++ (left ++ behind)) t × (last_number t s ≡ m + (0 + count_before f others)))
            (Before (n + 1) others (m + 1) (rs ++ live_reply s a ∷ []) (before ++ one) behind)
            (λ u. Says c (rs ++ (live_reply s a ∷ all)) (before ++ ((one ++ passed) ++ behind)) u × (last_number u s ≡ m + (1 + count_before (f + 1) others)))
            (live_lines s n a) (live_from f s (n + 1) others)
            (read_so (λ t. Says c rs (before ++ (left ++ behind)) t × (last_number t s ≡ m + (0 + count_before f others)))
            (λ t. Says c rs (before ++ (left ++ behind)) t × (last_number t s + 1 ≡ n))
            (λ u. Says c (rs ++ live_reply s a ∷ []) (before ++ (one ++ (left ++ behind))) u
            × (last_number u s ≡ n)) (Before (n + 1) others (m + 1) (rs ++ live_reply s a ∷ []) (before ++ one) behind)
            (live_lines s n a)
            (λ t h. (h.0, let k = h.1 in omega (arith, k, zero, here)))
            (answer_told s n a rs before (left ++ behind) fits.0 at upto early
            (all_append (λ y. by_number (s, n) y.0 ≡ Less) left behind (later_questions f s n (n + 1) others (omega arith))
            (all_weaker behind (λ y lt. later_session s n y.0.0 y.0.1 lt) late)))
            (λ u h. (
              subst (λ o. Says c (rs ++ live_reply s a ∷ []) o u) (sym (append_assoc before one (left ++ behind))) h.0,
              let k = h.1
                  in omega (arith, k, zero, here),
            )))
            (read_so (Before (n + 1) others (m + 1) (rs ++ live_reply s a ∷ []) (before ++ one) behind)
            (Before (n + 1) others (m + 1) (rs ++ live_reply s a ∷ []) (before ++ one) behind)
            (After (n + 1) others (m + 1) (rs ++ live_reply s a ∷ []) (before ++ one) behind)
            (λ u. Says c (rs ++ (live_reply s a ∷ all)) (before ++ ((one ++ passed) ++ behind)) u × (last_number u s ≡ m + (1 + count_before (f + 1) others)))
            (live_from f s (n + 1) others)
            (λ t h. h)
            (again (m + 1) (rs ++ live_reply s a ∷ []) (before ++ one) (λ le. omega (arith, here)) (answer_up_to f s rs a fits.0 at) early_more)
            (λ u h. (
              subst (λ (x : List ReplyData × List ((ℕ × ℕ) × Question)). Says c x.0 x.1 u)
                  (λ i. (append_assoc rs (live_reply s a ∷ []) all i, sym (shift before one passed behind) i)) h.0,
              let k = h.1 in omega (arith, k),
            )))

  -- ---- all sessions

  pub front_told : (k : ℕ) (ss : List SessionAnswers) (rs : List ReplyData) (before : List ((ℕ × ℕ) × Question)) → AreNumbered k ss
      → AllByRecursion IsSessionShort ss → IsUpTo f k rs
      → AllByRecursion (λ y. y.0.0 < k) before
      → Goes (λ t. Says c rs (before ++ all_open_before f ss) t × Counted f t ss) (live_at f ss)
      (λ u. Says c (rs ++ replies_at ss f) (before ++ all_open_before (f + 1) ss) u × Counted (f + 1) u ss)
  front_told k [] rs before numbers fits upto early = λ t h. (t, (refl, (subst (λ l. Says c l (before ++ []) t) (sym (append-nil rs)) h.0, tt)))
  front_told k (s ∷ ss) rs before numbers fits upto early = λ t h.
      let at : s.number ≡ k = numbers.0 in
      let number = h.1.0 in
      let mine : List ReplyData = flat_map (replied_at f s.number) s.answers in
      let passed : List ((ℕ × ℕ) × Question) = open_before (f + 1) s.number 1 s.answers in
      let here : IsUpTo f s.number rs = subst (λ x. IsUpTo f x rs) (sym at) upto in
      let a = session_told s.number 1 s.answers 0 1 rs before (all_open_before f ss) fits.0.answers fits.0.rise (λ le. refl) here
      (all_weaker before (λ y lt. inl (omega (arith, lt, at))) early) (later_keys f s.number (k + 1) ss (omega (arith, at)) numbers.1) t
      (h.0, omega (arith, number)) in
      let behind : IsUpTo f s.number (rs ++ mine) = up_to_more f s.number s.answers rs fits.0.answers here in
      let next : IsUpTo f (k + 1) (rs ++ mine) = record {
        shown = behind.shown;
        within =
            subst (λ x. LastWithin f (x + 1) (last_of (rs ++ mine))) at (next_session f s.number (last_of (rs ++ mine)) behind.within);
      } in
      let keys : AllByRecursion (λ y. y.0.0 < k + 1) (before ++ passed) =
      all_append (λ y. y.0.0 < k + 1) before passed (all_weaker before (λ y lt. omega (arith, lt)) early)
      (session_keys (λ x. x < k + 1) (f + 1) s.number 1 s.answers (omega (arith, at))) in
      let spared : (x : ℕ) → k < x → AreSpared x (live_from f s.number 1 s.answers) =
      λ x lt. live_spared x f s.number 1 s.answers (λ e. omega (arith, e, lt, at)) in
      let counted : Counted f a.0 ss = still_counted f k (k + 1) ss t a.0 (live_from f s.number 1 s.answers) a.1.0 spared (omega arith) numbers.1 h.1.1 in
      let b = front_told (k + 1) ss (rs ++ mine) (before ++ passed) numbers.1 fits.1 next keys a.0
      (subst (λ o. Says c (rs ++ mine) o a.0) (sym (append_assoc before passed (all_open_before f ss))) a.1.1.0, counted) in
      let kept : last_number b.0 s.number ≡ last_number a.0 s.number =
      number_kept a.0 b.0 (live_at f ss) s.number b.1.0 (front_spared s.number f (k + 1) ss (omega (arith, at)) numbers.1) in
      let last = a.1.1.1 in (
        b.0,
        (
          tell_append t a.0 b.0 (live_from f s.number 1 s.answers) (live_at f ss) a.1.0 b.1.0,
          (
            subst (λ (x : List ReplyData × List ((ℕ × ℕ) × Question)). Says c x.0 x.1 b.0)
                (λ i. (append_assoc rs mine (replies_at ss f) i, append_assoc before passed (all_open_before (f + 1) ss) i)) b.1.1.0,
            (omega (arith, kept, last), b.1.1.1),
          ),
        ),
      )
