-- All lines of a report tell its history.
use Rattle.std.proofs.Common.{◌≡◌, ℕ, zero, suc, ◌+◌, ◌<◌, ◌≤◌, ◌^◌, nat_lt, Bool, true, false, if◌then◌else◌, List, [], ◌∷◌, ◌++◌, length, map, take}
use Rattle.std.proofs.Common.{slice_get, Option, Some, None, IsSome, ◌↔◌, refl, sym, ap, subst, ◌∙◌, arith}
use Rattle.std.proofs.lemmas.List.{length-map}
use Rattle.std.specs.Prelude.{Result, Ok, Err}
use Rattle.std.specs.List.{AllByRecursion, flat_map, range_with_len}
use Rattle.word_text.specs.Place.{capped}
use Rattle.presentation.specs.Presented.{Presented, IsPresented}
use Rattle.outcomes.specs.declared.ends.End.{End}
use Rattle.outcomes.specs.declared.ends.End.TheVariants.{Sealed}
use Rattle.outcomes.specs.declared.verdicts.Verdict.{Verdict}
use Rattle.outcomes.specs.declared.verdicts.Verdict.TheVariants as verdicts
use Rattle.session_text.specs.declared.question.Question.{Question}
use Rattle.basis_entry.specs.declared.recipes.Recipe.{Recipe}
use Rattle.basis_entry.specs.declared.recipes.Recipe.TheVariants.{Gen, Sum}
use Rattle.basis_entry.specs.Base.{has_negative_lead}
use Rattle.basis_entry.specs.Entries.{BasisEntry}
use Rattle.basis_entry.specs.Seals.{Seal, item_count}
use Rattle.module_vec.specs.Modules.{vector_at}
use Rattle.session_core.specs.declared.kept.Kept.{Kept}
use Rattle.session_core.specs.Sessions.{SessionState, IsSession, AreRising}
use Rattle.report_lines.specs.declared.lines.Line.TheVariants as lines
use Rattle.report_lines.specs.Lines.{IsLineOf}
use Rattle.report_lines.specs.Texts.{report_text}
use Rattle.report_reading.specs.declared.data.ReportData.{ReportData}
use Rattle.report_reading.specs.declared.fault.ReportFault.{ReportFault}
use Rattle.report_reading.specs.declared.fault.ReportFault.TheVariants as faults
use Rattle.report_reading.specs.declared.replies.ReplyData.{ReplyData}
use Rattle.report_reading.specs.Telling.{Told, nothing, IsDataOf, IsShown, is_open, proof_count, recipe_of}
use Rattle.report_reading.specs.Reading.{IsReport, IsFirstFault, Answers}
use Rattle.report_text.specs.Histories.{Reply, Answered, SessionAnswers, History, made_by, item_lines, told_from, closing_of, lines_of}
use Rattle.basis_entry.specs.Items.{seal_below}
use Rattle.report_text.specs.Answers.{to_show, IsOpen, IsClosing, IsSessionAnswered}
use Rattle.report_text.specs.Reports.{Reported, IsReportable, IsHistoryOf, IsReplied, AreFrom, text_of}
use Rattle.report_acceptance.specs.Accepting.{IsKnown}
use Rattle.report_acceptance.specs.Saying.{entry_data, replies_at, closing_replies, data_of, IsReadBack}
use Rattle.session_text.proofs.ShortImages.{none_long}
use Rattle.report_acceptance.proofs.Verdicts.{count_is}
use Rattle.report_acceptance.proofs.Sessions.{IsTold, IsSessionTold}
use Rattle.report_acceptance.proofs.Generating.{some_generator}
use Rattle.report_acceptance.proofs.Items.{get_first, length_take}
use Rattle.report_acceptance.proofs.Acceptance.{all_told, valid_lines}
use Rattle.report_acceptance.proofs.Puts.{AreLeft, none_left}
use Rattle.report_acceptance.proofs.Goes.{Goes, one_more, then_more}
use Rattle.report_acceptance.proofs.ReplyLines.{Base, items_in, last_of, questions_in, Says, items_told as told_count, may_close}
use Rattle.report_acceptance.proofs.Fronts.{open_before, all_open_before, Rise, IsShort, IsSessionShort, AreNumbered, Counted, count_none, is_lt, is_ge}
use Rattle.report_acceptance.proofs.Between.{has_seal, items_so, count_items, NameThemselves, HasLast, IsBehind, all_shown, items_told, end_told}
use Rattle.report_acceptance.proofs.Closings.{IsClosedSo, IsClosed, AreClosed, all_closed, all_closed_shown}
use Rattle.vector_text.proofs.Parts.{all_weaker}

-- ---- one answer

count_shown : (q : Question) (v : Verdict) → length (to_show q v) ≡ proof_count q v
count_shown q verdicts.Trivial = count_is q
count_shown q verdicts.NotTrivial = refl
count_shown q (verdicts.Normal v) = refl
count_shown q verdicts.Extends = count_is q
count_shown q (verdicts.Fails j) = refl
count_shown q (verdicts.Unknown j) = refl
count_shown q (verdicts.Stop j stop) = refl

left_open : (v : Verdict) → IsOpen v → is_open v ≡ true
left_open verdicts.Trivial h = absurd h
left_open verdicts.NotTrivial h = absurd h
left_open (verdicts.Normal v) h = absurd h
left_open verdicts.Extends h = absurd h
left_open (verdicts.Fails j) h = absurd h
left_open (verdicts.Unknown j) h = refl
left_open (verdicts.Stop j stop) h = refl

not_open : (v : Verdict) → (IsOpen v → ⊥) → is_open v ≡ false
not_open verdicts.Trivial h = refl
not_open verdicts.NotTrivial h = refl
not_open (verdicts.Normal v) h = refl
not_open verdicts.Extends h = refl
not_open (verdicts.Fails j) h = refl
not_open (verdicts.Unknown j) h = absurd (h tt)
not_open (verdicts.Stop j stop) h = absurd (h tt)

short_take : {X : Type 0} (k : ℕ) (xs : List X) → length (take k xs) ≤ length xs
short_take zero xs = omega arith
short_take (suc k) [] = omega arith
short_take (suc k) (x ∷ xs) = let l = short_take k xs in omega (arith, l)

front_within : (es : List BasisEntry) (seal : Option Seal) (f : ℕ) → f ≡ item_count (take f es) (seal_below es seal f) → f ≤ item_count es seal
front_within es seal f is = by (nat_lt (length es) f) refl seal is
  where
    by : (b : Bool) → nat_lt (length es) f ≡ b → (o : Option Seal) → f ≡ item_count (take f es) (if b then o else None) → f ≤ item_count es o
    by true e None at = let l = short_take f es in omega (arith, l, at)
    by true e (Some s) at = let l = short_take f es in omega (arith, l, at)
    by false e None at = is_ge (length es) f e
    by false e (Some s) at = let l = is_ge (length es) f e in omega (arith, l)

module _ (p : Presented) (es : List BasisEntry) (seal : Option Seal) (base : ℕ) where
  one_short : (a : Answered) → IsTold p es seal base a → IsShort a
  one_short a is = record { short = none_long a.question is.ask.1; shown = is.live.proofs.count ∙ count_shown a.question a.live.verdict }

  closed_so : (q : Question) (v : Verdict) (cl : Option Reply) → IsClosing p es seal q v cl → IsClosedSo (item_count es seal) q (is_open v) cl
  closed_so q v None h = not_open v h
  closed_so q v (Some r) h = (left_open v h.0, h.1.front, h.1.reply.proofs.count ∙ count_shown q r.verdict)

  -- ---- one session

  rising_from : (lo : ℕ) (ks : List Kept) → AreRising lo ks → AllByRecursion (λ k. 1 ≤ k.front) ks → AreRising 1 ks
  rising_from lo [] h first = tt
  rising_from lo (k ∷ ks) h first = (first.0, h.1)

  -- what is known of a question, its reply and the answer
  abbrev AnswersEach : List Question → List Kept → List Answered → Type 0
  AnswersEach qs ks answers =
      (i : ℕ) (q : Question) (k : Kept) (a : Answered) → slice_get qs i ≡ Some q → slice_get ks i ≡ Some k → slice_get answers i ≡ Some a
      → (a.live.front ≡ k.front) × (k.front ≤ item_count es seal)

  rise_of : (lo : ℕ) (qs : List Question) (ks : List Kept) (answers : List Answered) → length ks ≡ length qs → length answers ≡ length qs → AreRising lo ks
      → AnswersEach qs ks answers → Rise lo answers
  rise_of lo qs ks [] m n rising each = tt
  rise_of lo [] ks (a ∷ answers) m n rising each = absurd (omega (arith, n))
  rise_of lo (q ∷ qs) [] (a ∷ answers) m n rising each = absurd (omega (arith, m))
  rise_of lo (q ∷ qs) (k ∷ ks) (a ∷ answers) m n rising each =
      let at : a.live.front ≡ k.front = (each 0 q k a refl refl refl).0 in
      let l = rising.0 in (
        omega (arith, at, l),
        subst (λ x. Rise x answers) (sym at) (rise_of k.front qs ks answers (omega (arith, m)) (omega (arith, n)) rising.1
            (λ i r j b x y z. each (suc i) r j b x y z)),
      )

  closed_of : (qs : List Question) (ks : List Kept) (answers : List Answered) → length ks ≡ length qs → length answers ≡ length qs
      → AllByRecursion (IsTold p es seal base) answers
      → AnswersEach qs ks answers → AllByRecursion (IsClosed (item_count es seal)) answers
  closed_of qs ks [] m n told each = tt
  closed_of [] ks (a ∷ answers) m n told each = absurd (omega (arith, n))
  closed_of (q ∷ qs) [] (a ∷ answers) m n told each = absurd (omega (arith, m))
  closed_of (q ∷ qs) (k ∷ ks) (a ∷ answers) m n told each =
      let h = each 0 q k a refl refl refl in
      let at = h.0 in
      let l = h.1 in (
        record { within = omega (arith, at, l); closing = closed_so a.question a.live.verdict a.closing told.0.closing },
        closed_of qs ks answers (omega (arith, m)) (omega (arith, n)) told.1 (λ i r j b x y z. each (suc i) r j b x y z),
      )

  record IsFit (t : SessionAnswers) : Type 0 where
    short : IsSessionShort t
    closed : AllByRecursion (IsClosed (item_count es seal)) t.answers

  session_fits : (s : SessionState) (t : SessionAnswers) → IsSession s → AreFrom 1 s → IsReplied p es seal s → IsSessionTold p es seal base t
      → IsSessionAnswered p es seal s t → IsFit t
  session_fits s t known first replied told is =
      let each : AnswersEach s.questions s.kept t.answers = λ i q k a x y z. (
        (is.each i q k a x y z).front,
        front_within es seal k.front (replied.each i q k x y).front,
      ) in
      record {
        short = record {
          answers = all_weaker t.answers (λ a h. one_short a h) told.answers;
          rise = rise_of 1 s.questions s.kept t.answers replied.count is.count (rising_from s.base s.kept known.rising first) each;
        };
        closed = closed_of s.questions s.kept t.answers replied.count is.count told.answers each;
      }

  -- ---- all sessions

  all_fit : (ss : List SessionState) (ts : List SessionAnswers) → length ts ≡ length ss → AllByRecursion IsSession ss → AllByRecursion (AreFrom 1) ss
      → AllByRecursion (IsReplied p es seal) ss
      → AllByRecursion (IsSessionTold p es seal base) ts
      → ((j : ℕ) (s : SessionState) (t : SessionAnswers) → slice_get ss j ≡ Some s → slice_get ts j ≡ Some t → IsSessionAnswered p es seal s t)
      → AllByRecursion IsFit ts
  all_fit ss [] n known first replied told each = tt
  all_fit [] (t ∷ ts) n known first replied told each = absurd (omega (arith, n))
  all_fit (s ∷ ss) (t ∷ ts) n known first replied told each = (
    session_fits s t known.0 first.0 replied.0 told.0 (each 0 s t refl refl),
    all_fit ss ts (omega (arith, n)) known.1 first.1 replied.1 told.1 (λ j r u x y. each (suc j) r u x y),
  )

  all_numbered : (k : ℕ) (ss : List SessionState) (ts : List SessionAnswers) → length ts ≡ length ss
      → ((i : ℕ) (s : SessionState) → slice_get ss i ≡ Some s → s.number ≡ i + k)
      → ((j : ℕ) (s : SessionState) (t : SessionAnswers) → slice_get ss j ≡ Some s → slice_get ts j ≡ Some t → IsSessionAnswered p es seal s t)
      → AreNumbered k ts
  all_numbered k ss [] n numbers each = tt
  all_numbered k [] (t ∷ ts) n numbers each = absurd (omega (arith, n))
  all_numbered k (s ∷ ss) (t ∷ ts) n numbers each =
      let own = (each 0 s t refl refl).number in
      let first = numbers 0 s refl in (
        omega (arith, own, first),
        all_numbered (k + 1) ss ts (omega (arith, n)) (λ i r x. let e = numbers (suc i) r x in omega (arith, e)) (λ j r u x y. each (suc j) r u x y),
      )

-- ---- entries

named_so : (k : ℕ) (e : BasisEntry) (r : Recipe) → e.recipe ≡ r → recipe_of k (made_by r) ≡ r → recipe_of k (made_by e.recipe) ≡ e.recipe
named_so k e r is h = subst (λ x. recipe_of k (made_by x) ≡ x) (sym is) h

all_named : (k : ℕ) (es : List BasisEntry) → ((i : ℕ) (e : BasisEntry) → slice_get es i ≡ Some e → recipe_of (i + k) (made_by e.recipe) ≡ e.recipe)
    → NameThemselves k es
all_named k [] each = tt
all_named k (e ∷ es) each =
    let here : 0 + k ≡ k = omega arith in (
      subst (λ j. recipe_of j (made_by e.recipe) ≡ e.recipe) here (each 0 e refl),
      all_named (k + 1) es (λ i x h. let next : suc i + k ≡ i + (k + 1) = omega arith
          in subst (λ j. recipe_of j (made_by x.recipe) ≡ x.recipe) next (each (suc i) x h)),
    )

counted_items : (es : List BasisEntry) (seal : Option Seal) → count_items es seal ≡ item_count es seal
counted_items [] None = refl
counted_items [] (Some s) = refl
counted_items (e ∷ es) None = ap suc (counted_items es None)
counted_items (e ∷ es) (Some s) = let h : count_items es (Some s) ≡ length es + 1 = counted_items es (Some s) in omega (arith, h)

items_are : (es : List BasisEntry) (seal : Option Seal) → length es + (if has_seal seal then 1 else 0) ≡ item_count es seal
items_are es None = omega arith
items_are es (Some s) = refl

-- ---- before the first line

none_open : (f lo s n : ℕ) (answers : List Answered) → Rise lo answers → f ≤ lo → open_before f s n answers ≡ []
none_open f lo s n [] rise le = refl
none_open f lo s n (a ∷ others) rise le = by (nat_lt a.live.front f) refl (none_open f a.live.front s (n + 1) others rise.1 (let l = rise.0
    in omega (arith, l, le)))
  where
    by : (b : Bool) → nat_lt a.live.front f ≡ b → open_before f s (n + 1) others ≡ []
        → (if b then (if is_open a.live.verdict then ((s, n), a.question) ∷ [] else []) else []) ++ open_before f s (n + 1) others ≡ []
    by true e h = absurd (let l = is_lt a.live.front f e in let r = rise.0 in omega (arith, l, le, r))
    by false e h = h

all_none_open : (ts : List SessionAnswers) → AllByRecursion IsSessionShort ts → all_open_before 1 ts ≡ []
all_none_open [] h = refl
all_none_open (t ∷ ts) h = (λ i. none_open 1 1 t.number 1 t.answers h.0.rise (omega arith) i ++ all_open_before 1 ts) ∙ all_none_open ts h.1

none_counted : (ts : List SessionAnswers) → AllByRecursion IsSessionShort ts → Counted 1 nothing ts
none_counted [] h = tt
none_counted (t ∷ ts) h = (sym (count_none 1 1 t.answers h.0.rise (omega arith)), none_counted ts h.1)

none_last : HasLast 0 []
none_last = (0, record { shown = tt; within = tt })

-- ---- all lines

small_items : (k : ℕ) → k < 2 ^ 32 → k ≡ capped k
small_items k small = omega (arith, small)

module _ (es : List BasisEntry) (seal : Option Seal) (end : End) (ts : List SessionAnswers) (numbers : AreNumbered 1 ts)
    (shorts : AllByRecursion IsSessionShort ts) (closings : AreClosed (item_count es seal) ts)
    (names : NameThemselves 0 es) (few : length es + 1 < 2 ^ 32) (sealed : IsSome seal ↔ (end ≡ Sealed)) where
  abbrev told_so : History
  told_so = record { entries = es; seal = seal; end = end; sessions = ts }

  abbrev items : ℕ
  items = item_count es seal

  abbrev from : List ℕ
  from = range_with_len 0 (length es)

  abbrev live : List ReplyData
  live = flat_map (replies_at ts) (range_with_len 1 (count_items es seal))

  abbrev ended : Base
  ended = record { from = from; entries = map entry_data es; sealed = has_seal seal; end = Some end }

  begun : IsBehind ts numbers shorts 0 (items_so [] [] false) [] nothing
  begun = (
    record {
      from = refl;
      entries = refl;
      sealed = refl;
      end = refl;
      replies = refl;
      left = subst (λ o. AreLeft [] [] o) (sym (all_none_open ts shorts)) tt;
      unfinished = refl;
    },
    none_counted ts shorts,
  )

  live_shown : IsShown (last_of live)
  live_shown = all_shown ts numbers shorts (count_items es seal) 0 [] none_last

  count_is_so : items_in ended ≡ items
  count_is_so = (let e = length-map es entry_data in ap (λ k. k + (if has_seal seal then 1 else 0)) e) ∙ items_are es seal

  few_items : items_in ended < 2 ^ 32
  few_items = by seal count_is_so
    where
      by : (o : Option Seal) → items_in ended ≡ item_count es o → items_in ended < 2 ^ 32
      by None e = omega (arith, e, few)
      by (Some s) e = omega (arith, e, few)

  closings_so : AreClosed (items_in ended) ts
  closings_so = subst (λ n. AreClosed n ts) (sym count_is_so) closings

  last_shown : IsShown (last_of (live ++ closing_replies ts))
  last_shown = all_closed_shown ended refl few_items ts live closings_so live_shown

  done : Goes (Says ended (live ++ closing_replies ts) []) (lines.Done ∷ []) (λ u. IsDataOf u (data_of told_so))
  done =
      one_more (Says ended (live ++ closing_replies ts) []) (λ u. IsDataOf u (data_of told_so)) lines.Done
      (λ t h. (
        (may_close ended (live ++ closing_replies ts) [] t h refl last_shown, none_left (questions_in (live ++ closing_replies ts)) t.left_open h.left),
        record {
          finished = refl;
          version = refl;
          items = small_items items (subst (λ k. k < 2 ^ 32) count_is_so few_items)
              ∙ ap capped (sym (told_count ended (live ++ closing_replies ts) [] t h ∙ count_is_so));
          from = sym h.from;
          entries = sym h.entries;
          replies = ap (λ n. flat_map (replies_at ts) (range_with_len 1 n) ++ closing_replies ts) (sym (counted_items es seal)) ∙ sym h.replies;
          end = h.end;
        },
      ))

  item_part : Goes (IsBehind ts numbers shorts 0 (items_so [] [] false) []) (told_from ts 0 (item_lines es seal))
      (IsBehind ts numbers shorts items (items_so from (map entry_data es) (has_seal seal)) live)
  item_part = items_told ts numbers shorts seal 0 es [] [] [] items (let e = counted_items es seal in omega (arith, e)) refl names none_last

  end_part : Goes (IsBehind ts numbers shorts items (items_so from (map entry_data es) (has_seal seal)) live) (lines.End end ∷ [])
      (Says ended live (all_open_before (items_in ended + 1) ts))
  end_part =
      subst (λ n. Goes (IsBehind ts numbers shorts items (items_so from (map entry_data es) (has_seal seal)) live) (lines.End end ∷ [])
      (Says ended live (all_open_before (n + 1) ts))) (sym count_is_so)
      (end_told ts numbers shorts seal end items from (map entry_data es) live sealed live_shown)

  whole : Goes (IsBehind ts numbers shorts 0 (items_so [] [] false) []) (lines_of told_so) (λ u. IsDataOf u (data_of told_so))
  whole =
      let start : Told → Type 0 = IsBehind ts numbers shorts 0 (items_so [] [] false) [] in
      let itemed : Told → Type 0 = IsBehind ts numbers shorts items (items_so from (map entry_data es) (has_seal seal)) live in
      let closing : Told → Type 0 = Says ended live (all_open_before (items_in ended + 1) ts) in
      let closed : Told → Type 0 = Says ended (live ++ closing_replies ts) [] in
      let last : Told → Type 0 = λ u. IsDataOf u (data_of told_so) in
      then_more start itemed last (told_from ts 0 (item_lines es seal)) (lines.End end ∷ (closing_of ts ++ lines.Done ∷ [])) item_part
      (then_more itemed closing last (lines.End end ∷ []) (closing_of ts ++ lines.Done ∷ []) end_part
      (then_more closing closed last (closing_of ts) (lines.Done ∷ []) (all_closed ended refl few_items ts live closings_so live_shown) done))

  pub is_report : (p : Presented) → AllByRecursion (IsLineOf p) (lines_of told_so) → IsReport p (report_text p (lines_of told_so)) (data_of told_so)
  is_report p valid =
      let t = whole nothing begun in
      record { ls = lines_of told_so; told = t.0; begins = record { valid = valid; tells = t.1.0 }; spelled = refl; says = t.1.1 }

-- ---- reports that can be written

module _ (r : Reported) (h : History) (known : IsKnown r) (can : IsReportable r) (is : IsHistoryOf r h) where
  -- no front is before the first item
  some_base : 1 ≤ can.base
  some_base =
      let some = some_generator r.pres can.entries.begins.gens known.presented can.entries.begins.generators in
      let count = can.entries.begins.count in
      let all = length_take r.entries can.base can.entries.within in
      omega (arith, some, count, all)

  first : AllByRecursion (AreFrom 1) r.sessions
  first = all_weaker r.sessions (λ s h. all_weaker s.kept (λ k l. omega (arith, l, some_base)) h) can.fronts

  fit : AllByRecursion (IsFit r.pres r.entries r.seal can.base) h.sessions
  fit = all_fit r.pres r.entries r.seal can.base r.sessions h.sessions is.answered.count known.sessions first can.replies (all_told r h known can is)
      is.answered.each

  numbered : AreNumbered 1 h.sessions
  numbered = all_numbered r.pres r.entries r.seal can.base 1 r.sessions h.sessions is.answered.count can.numbers is.answered.each

  entry_named : (k : ℕ) (e : BasisEntry) → slice_get r.entries k ≡ Some e → recipe_of (k + 0) (made_by e.recipe) ≡ e.recipe
  entry_named k e has = subst (λ j. recipe_of j (made_by e.recipe) ≡ e.recipe) (let n : k ≡ k + 0 = omega arith in n) (by (nat_lt k can.base) refl)
    where
      by : (b : Bool) → nat_lt k can.base ≡ b → recipe_of k (made_by e.recipe) ≡ e.recipe
      by true lt = named_so k e (Gen k (has_negative_lead (vector_at can.entries.begins.gens k)))
          (can.entries.begins.each k e (get_first r.entries can.base k e (is_lt k can.base lt) has)).recipe refl
      by false ge = let sum = can.entries.later k e (is_ge k can.base ge) has in named_so k e (Sum sum.steps) sum.recipe refl

  same : h ≡ record { entries = r.entries; seal = r.seal; end = r.end; sessions = h.sessions }
  same = λ i. record { entries = is.entries i; seal = is.seal i; end = is.end i; sessions = h.sessions }

  pub says_history : IsReport r.pres (text_of r h) (data_of h)
  says_history =
      subst (λ x. IsReport r.pres (report_text r.pres (lines_of x)) (data_of x)) (sym same)
      (is_report r.entries r.seal r.end h.sessions numbered (all_weaker h.sessions (λ t x. x.short) fit) (all_weaker h.sessions (λ t x. x.closed) fit)
      (all_named 0 r.entries entry_named) can.few can.sealed r.pres (subst (λ x. AllByRecursion (IsLineOf r.pres) (lines_of x)) same
      (valid_lines r h known can is)))

-- the reader answers it
pub is_read_back : ((r : Reported) (h : History) → IsKnown r → IsReportable r → IsHistoryOf r h → IsReport r.pres (text_of r h) (data_of h))
    → ((p : Presented) (text : List ℕ) (d e : ReportData) → IsPresented p → IsReport p text d → IsReport p text e → d ≡ e)
    → ((p : Presented) (text : List ℕ) (d : ReportData) (n : ℕ) → IsPresented p → IsReport p text d → IsFirstFault p text n → ⊥)
    → (r : Reported) (h : History) → IsKnown r → IsReportable r → IsHistoryOf r h
    → (d : Result ReportData ReportFault) → Answers r.pres (text_of r h) d → IsReadBack h d
is_read_back says alike never r h known can is (Ok d) answers = alike r.pres (text_of r h) d (data_of h) known.presented answers (says r h known can is)
is_read_back says alike never r h known can is (Err (faults.Line n)) answers =
    never r.pres (text_of r h) (data_of h) n known.presented (says r h known can is) answers
is_read_back says alike never r h known can is (Err faults.NoMemory) answers = tt
