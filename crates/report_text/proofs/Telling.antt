-- One more piece of the text of all sessions, of the items, and of the answers behind the end.
use Rattle.std.proofs.Common.{◌≡◌, ◌≢◌, ◌⊎◌, inl, inr, ℕ, ◌+◌, ◌-◌, ◌<◌, ◌≤◌, Bool, true, false, nat_lt, if◌then◌else◌, List, [], ◌∷◌, ◌++◌, length, take, drop}
use Rattle.std.proofs.Common.{slice_get, Option, Some, None, Result, Ok, Err, refl, sym, ap, subst, ◌∙◌, append-nil, arith}
use Rattle.std.proofs.lemmas.List.{take_all, drop_all, length-map}
use Rattle.std.proofs.lemmas.Bool.{cases_eq}
use Rattle.std.specs.List.{AllByRecursion}
use Rattle.std.specs.Prelude.{OnOk}
use Rattle.mb_io.specs.Shelf.{TakesPrefix}
use Rattle.presentation.specs.Presented.{Presented}
use Rattle.module_vec.specs.declared.places.Term.{Term}
use Rattle.module_vec.specs.declared.steps.Step.{Step}
use Rattle.report_lines.specs.declared.lines.Line.{Line}
use Rattle.report_lines.specs.declared.lines.Line.TheVariants as lines
use Rattle.report_lines.specs.Texts.{line_text, lines_text}
use Rattle.session_text.specs.declared.question.Question.{Question}
use Rattle.basis_entry.specs.Entries.{BasisEntry, vectors_of}
use Rattle.basis_entry.specs.Seals.{Seal, item_count}
use Rattle.outcomes.specs.declared.verdicts.Verdict.{Verdict}
use Rattle.outcomes.specs.declared.verdicts.Verdict.TheVariants as verdicts
use Rattle.session_core.specs.declared.kept.Kept.{Kept}
use Rattle.session_core.specs.Replies.{IsReply, tag_of}
use Rattle.session_core.specs.Sessions.{SessionState}
use Rattle.session_core.specs.Verdicts.{IsVerdict}
use Rattle.session_core.specs.Questions.{CanBeAsked}
use Rattle.module_vec.specs.Reducers.{AreEntries}
use Rattle.vector_text.specs.Over.{VectorIsOver}
use Rattle.report_lines.specs.Lines.{VerdictIsOver}
use Rattle.hom_check.specs.Shown.{IsShown}
use Rattle.report_text.proofs.Building.{proofs_there}
use Rattle.report_text.specs.declared.faults.WriteFault.{WriteFault}
use Rattle.basis_entry.specs.Items.{seal_below}
use Rattle.report_text.specs.Answers.{AreProofsOf, to_show, IsAnswered, IsSessionAnswered, AreAnswered, IsClosing, IsClosingReply, IsOpen}
use Rattle.basis_entry.specs.Items.{vectors_below}
use Rattle.report_text.specs.Closing.{is_left_open, HasClosing}
use Rattle.report_text.specs.Histories.{Reply, Answered, SessionAnswers, proof_lines, live_lines, live_from, live_at, closing_lines, closing_from, closing_of}
use Rattle.report_text.specs.Histories.{made_by, entry_lines, seal_lines, item_lines, told_from}
use Rattle.report_text.specs.Reports.{IsReplied, EntryIsOver}
use Rattle.report_text.specs.Writing.{Stops, Puts}
use Rattle.report_text.proofs.Lists.{StandsAt, stands_at, same_item, vectors_over}
use Rattle.report_text.proofs.Orders.{line_piece, told_after, items_left, sessions_left, no_sessions_left, closing_left, no_closing_left, closings_left}
use Rattle.report_text.proofs.Orders.{no_closings_left}
use Rattle.report_text.proofs.Verdicts.{one_verdict, yes_is_shown, verdict_over}
use Rattle.report_text.proofs.Written.{Goes, goes_more, goes_all, goes_stops, then_puts, stops_before, puts_nothing}

-- ---- all sessions

module _ (p : Presented) (es : List BasisEntry) (seal : Option Seal) (ss : List SessionState) (ts : List SessionAnswers) (are : AreAnswered p es seal ss ts)
    (i : ℕ) (s : SessionState) (read : slice_get ss i ≡ Some s) (lt : i < length ss) where
  session_there : StandsAt ts i
  session_there = stands_at ts i (omega (arith, lt, are.count))

  session_is : IsSessionAnswered p es seal s session_there.item
  session_is = are.each i s session_there.item read session_there.here

  number_is : (front : ℕ) → lines_text p (live_from front session_there.item.number 1 session_there.item.answers)
      ≡ lines_text p (live_from front s.number 1 session_there.item.answers)
  number_is front = ap (λ k. lines_text p (live_from front k 1 session_there.item.answers)) session_is.number

  pub sessions_go_on : (front : ℕ) (o m n : Option (List ℕ)) → Goes o (lines_text p (live_at front ts)) (lines_text p (live_at front (drop i ts))) m
      → ((t : SessionAnswers) → IsSessionAnswered p es seal s t → TakesPrefix m (lines_text p (live_from front s.number 1 t.answers)) n)
      → Goes o (lines_text p (live_at front ts)) (lines_text p (live_at front (drop (i + 1) ts))) n
  sessions_go_on front o m n goes took =
      goes_more o m n (lines_text p (live_at front ts)) (lines_text p (live_from front session_there.item.number 1 session_there.item.answers))
      (lines_text p (live_at front (drop (i + 1) ts)))
      (subst (λ t. Goes o (lines_text p (live_at front ts)) t m) (sessions_left p front ts i session_there) goes)
      (subst (λ t. TakesPrefix m t n) (sym (number_is front)) (took session_there.item session_is))

  pub sessions_stop : (front : ℕ) (o m n : Option (List ℕ)) → Goes o (lines_text p (live_at front ts)) (lines_text p (live_at front (drop i ts))) m
      → ((t : SessionAnswers) → IsSessionAnswered p es seal s t → Stops m (lines_text p (live_from front s.number 1 t.answers)) n)
      → Stops o (lines_text p (live_at front ts)) n
  sessions_stop front o m n goes stops =
      goes_stops o m n (lines_text p (live_at front ts)) (lines_text p (live_from front session_there.item.number 1 session_there.item.answers))
      (lines_text p (live_at front (drop (i + 1) ts)))
      (subst (λ t. Goes o (lines_text p (live_at front ts)) t m) (sessions_left p front ts i session_there) goes)
      (subst (λ t. Stops m t n) (sym (number_is front)) (stops session_there.item session_is))

  closing_number : lines_text p (closing_from session_there.item.number 1 session_there.item.answers)
      ≡ lines_text p (closing_from s.number 1 session_there.item.answers)
  closing_number = ap (λ k. lines_text p (closing_from k 1 session_there.item.answers)) session_is.number

  pub closings_go_on : (o m n : Option (List ℕ)) → Goes o (lines_text p (closing_of ts)) (lines_text p (closing_of (drop i ts))) m
      → ((t : SessionAnswers) → IsSessionAnswered p es seal s t → TakesPrefix m (lines_text p (closing_from s.number 1 t.answers)) n)
      → Goes o (lines_text p (closing_of ts)) (lines_text p (closing_of (drop (i + 1) ts))) n
  closings_go_on o m n goes took =
      goes_more o m n (lines_text p (closing_of ts)) (lines_text p (closing_from session_there.item.number 1 session_there.item.answers))
      (lines_text p (closing_of (drop (i + 1) ts)))
      (subst (λ t. Goes o (lines_text p (closing_of ts)) t m) (closings_left p ts i session_there) goes)
      (subst (λ t. TakesPrefix m t n) (sym closing_number) (took session_there.item session_is))

  pub closings_stop : (o m n : Option (List ℕ)) → Goes o (lines_text p (closing_of ts)) (lines_text p (closing_of (drop i ts))) m
      → ((t : SessionAnswers) → IsSessionAnswered p es seal s t → Stops m (lines_text p (closing_from s.number 1 t.answers)) n)
      → Stops o (lines_text p (closing_of ts)) n
  closings_stop o m n goes stops =
      goes_stops o m n (lines_text p (closing_of ts)) (lines_text p (closing_from session_there.item.number 1 session_there.item.answers))
      (lines_text p (closing_of (drop (i + 1) ts)))
      (subst (λ t. Goes o (lines_text p (closing_of ts)) t m) (closings_left p ts i session_there) goes)
      (subst (λ t. Stops m t n) (sym closing_number) (stops session_there.item session_is))

module _ (p : Presented) (es : List BasisEntry) (seal : Option Seal) (ss : List SessionState) (ts : List SessionAnswers) (are : AreAnswered p es seal ss ts)
    (i : ℕ) (le : length ss ≤ i) (o m : Option (List ℕ)) where
  pub sessions_end : (front : ℕ) → Goes o (lines_text p (live_at front ts)) (lines_text p (live_at front (drop i ts))) m
      → TakesPrefix o (lines_text p (live_at front ts)) m
  sessions_end front goes = goes_all o m (lines_text p (live_at front ts)) (subst (λ t. Goes o (lines_text p (live_at front ts)) t m)
      (no_sessions_left p front ts i (omega (arith, le, are.count))) goes)

  pub closings_end : Goes o (lines_text p (closing_of ts)) (lines_text p (closing_of (drop i ts))) m → TakesPrefix o (lines_text p (closing_of ts)) m
  closings_end goes = goes_all o m (lines_text p (closing_of ts)) (subst (λ t. Goes o (lines_text p (closing_of ts)) t m)
      (no_closings_left p ts i (omega (arith, le, are.count))) goes)

-- ---- what was left open

open_tag : (v : Verdict) → is_left_open (tag_of v) ≡ true → IsOpen v
open_tag verdicts.Trivial e = absurd cc
open_tag verdicts.NotTrivial e = absurd cc
open_tag (verdicts.Normal v) e = absurd cc
open_tag verdicts.Extends e = absurd cc
open_tag (verdicts.Fails j) e = absurd cc
open_tag (verdicts.Unknown j) e = tt
open_tag (verdicts.Stop j stop) e = tt

closed_tag : (v : Verdict) → is_left_open (tag_of v) ≡ false → IsOpen v → ⊥
closed_tag verdicts.Trivial e h = h
closed_tag verdicts.NotTrivial e h = h
closed_tag (verdicts.Normal v) e h = h
closed_tag verdicts.Extends e h = h
closed_tag (verdicts.Fails j) e h = h
closed_tag (verdicts.Unknown j) e h = absurd cc
closed_tag (verdicts.Stop j stop) e h = absurd cc

-- a seal of items below all of them is there, and so are the entries
pub all_below : (es : List BasisEntry) (seal : Option Seal) → take (item_count es seal) es ≡ es
all_below es None = take_all (length es) es (omega arith)
all_below es (Some s) = take_all (length es + 1) es (omega arith)

below_by : (b : Bool) (seal : Option Seal) → b ≡ true → (if b then seal else None) ≡ seal
below_by true seal e = refl
below_by false seal e = absurd cc

either : (b : Bool) (seal : Option Seal) → (if b then seal else seal) ≡ seal
either true seal = refl
either false seal = refl

pub seal_of_all : (es : List BasisEntry) (seal : Option Seal) → seal_below es seal (item_count es seal) ≡ seal
seal_of_all es None = either (nat_lt (length es) (length es)) None
seal_of_all es (Some s) = below_by (nat_lt (length es) (length es + 1)) (Some s) (grind arith)

-- the verdict that was kept is the live one
pub live_is : (p : Presented) (es : List BasisEntry) (seal : Option Seal) (q : Question) (k : Kept) (a : Answered)
    (r : IsReply p (take k.front es) (seal_below es seal k.front) q k) → IsAnswered p es seal q k a → a.live.verdict ≡ r.verdict
live_is p es seal q k a r h =
    one_verdict p (vectors_below es k.front) (seal_below es seal k.front) q a.live.verdict r.verdict
    (subst (λ f. IsVerdict p (vectors_below es f) (seal_below es seal f) q a.live.verdict) h.front h.live.verdict) r.is

-- ---- the answers of a session behind the end

module _ (p : Presented) (es : List BasisEntry) (seal : Option Seal) (s : SessionState) (replied : IsReplied p es seal s) where
  -- the question and the reply with a number
  pub record Told (i : ℕ) : Type 0 where
    pub q : Question
    pub k : Kept
    pub question : slice_get s.questions i ≡ Some q
    pub kept : slice_get s.kept i ≡ Some k
    pub reply : IsReply p (take k.front es) (seal_below es seal k.front) q k

  pub told_at : (i : ℕ) → i < length s.questions → Told i
  told_at i lt =
      let q : StandsAt s.questions i = stands_at s.questions i lt in
      let k : StandsAt s.kept i = stands_at s.kept i (omega (arith, lt, replied.count)) in
      record { q = q.item; k = k.item; question = q.here; kept = k.here; reply = replied.each i q.item k.item q.here k.here }

  pub open_verdict : (i : ℕ) (at : Told i) → is_left_open at.k.tag ≡ true → IsOpen at.reply.verdict
  open_verdict i at e = open_tag at.reply.verdict (ap is_left_open (sym at.reply.tag) ∙ e)

  pub closed_verdict : (i : ℕ) (at : Told i) → is_left_open at.k.tag ≡ false → IsOpen at.reply.verdict → ⊥
  closed_verdict i at e = closed_tag at.reply.verdict (ap is_left_open (sym at.reply.tag) ∙ e)

  module _ (t : SessionAnswers) (are : IsSessionAnswered p es seal s t) (i : ℕ) (lt : i < length s.questions) (o m : Option (List ℕ))
      (goes : Goes o (lines_text p (closing_from s.number 1 t.answers)) (lines_text p (closing_from s.number (i + 1) (drop i t.answers))) m) where
    due : StandsAt t.answers i
    due = stands_at t.answers i (omega (arith, lt, are.count))

    due_is : IsAnswered p es seal (told_at i lt).q (told_at i lt).k due.item
    due_is = are.each i (told_at i lt).q (told_at i lt).k due.item (told_at i lt).question (told_at i lt).kept due.here

    apart : Goes o (lines_text p (closing_from s.number 1 t.answers)) (lines_text p (closing_lines s.number (i + 1) due.item.question due.item.closing)
        ++ lines_text p (closing_from s.number (i + 1 + 1) (drop (i + 1) t.answers))) m
    apart = subst (λ l. Goes o (lines_text p (closing_from s.number 1 t.answers)) l m) (closing_left p s.number (i + 1) i t.answers due) goes

    pub closing_goes_on : (n : Option (List ℕ)) → ((q : Question) (k : Kept) (a : Answered) → slice_get s.questions (i + 1 - 1) ≡ Some q
        → slice_get s.kept (i + 1 - 1) ≡ Some k → IsAnswered p es seal q k a
        → TakesPrefix m (lines_text p (closing_lines s.number (i + 1) a.question a.closing)) n)
        → Goes o (lines_text p (closing_from s.number 1 t.answers)) (lines_text p (closing_from s.number (i + 1 + 1) (drop (i + 1) t.answers))) n
    closing_goes_on n took =
        let back : i ≡ i + 1 - 1 = omega arith in
        goes_more o m n (lines_text p (closing_from s.number 1 t.answers)) (lines_text p (closing_lines s.number (i + 1) due.item.question due.item.closing))
        (lines_text p (closing_from s.number (i + 1 + 1) (drop (i + 1) t.answers))) apart
        (took (told_at i lt).q (told_at i lt).k due.item (subst (λ j. slice_get s.questions j ≡ Some (told_at i lt).q) back (told_at i lt).question)
        (subst (λ j. slice_get s.kept j ≡ Some (told_at i lt).k) back (told_at i lt).kept) due_is)

    pub closing_stops : (n : Option (List ℕ)) → ((q : Question) (k : Kept) (a : Answered) → slice_get s.questions (i + 1 - 1) ≡ Some q
        → slice_get s.kept (i + 1 - 1) ≡ Some k → IsAnswered p es seal q k a
        → Stops m (lines_text p (closing_lines s.number (i + 1) a.question a.closing)) n)
        → Stops o (lines_text p (closing_from s.number 1 t.answers)) n
    closing_stops n stops =
        let back : i ≡ i + 1 - 1 = omega arith in
        goes_stops o m n (lines_text p (closing_from s.number 1 t.answers)) (lines_text p (closing_lines s.number (i + 1) due.item.question due.item.closing))
        (lines_text p (closing_from s.number (i + 1 + 1) (drop (i + 1) t.answers))) apart
        (stops (told_at i lt).q (told_at i lt).k due.item (subst (λ j. slice_get s.questions j ≡ Some (told_at i lt).q) back (told_at i lt).question)
        (subst (λ j. slice_get s.kept j ≡ Some (told_at i lt).k) back (told_at i lt).kept) due_is)

  pub closing_ends : (t : SessionAnswers) → IsSessionAnswered p es seal s t → (i : ℕ) → length s.questions ≤ i → (o m : Option (List ℕ))
      → Goes o (lines_text p (closing_from s.number 1 t.answers)) (lines_text p (closing_from s.number (i + 1) (drop i t.answers))) m
      → TakesPrefix o (lines_text p (closing_from s.number 1 t.answers)) m
  closing_ends t are i le o m goes =
      goes_all o m (lines_text p (closing_from s.number 1 t.answers))
      (subst (λ l. Goes o (lines_text p (closing_from s.number 1 t.answers)) l m)
      (no_closing_left p s.number (i + 1) i t.answers (omega (arith, le, are.count))) goes)

-- ---- one answer

module _ (p : Presented) (es : List BasisEntry) (seal : Option Seal) (s n : ℕ) (asked q : Question) (same : asked ≡ q) (v : Verdict) (items : List ℕ) where
  module _ (k : Kept) (a : Answered) (h : IsAnswered p es seal q k a) (is : IsVerdict p (vectors_below es k.front) (seal_below es seal k.front) asked v)
      (line : items ≡ line_text p (lines.Live s n k.front asked v)) where
    live_verdict : v ≡ a.live.verdict
    live_verdict =
        one_verdict p (vectors_below es k.front) (seal_below es seal k.front) asked v a.live.verdict is
        (subst (λ x. IsVerdict p (vectors_below es k.front) (seal_below es seal k.front) x a.live.verdict) (sym same)
        (subst (λ f. IsVerdict p (vectors_below es f) (seal_below es seal f) q a.live.verdict) h.front h.live.verdict))

    live_line : items ++ 10 ∷ [] ≡ line_text p (lines.Live s n a.live.front a.question a.live.verdict) ++ 10 ∷ []
    live_line = ap (λ t. t ++ 10 ∷ [])
        (line ∙ ap (λ f. line_text p (lines.Live s n f asked v)) (sym h.front) ∙ ap (λ x. line_text p (lines.Live s n a.live.front x v)) (same ∙ sym h.question)
        ∙ ap (λ x. line_text p (lines.Live s n a.live.front a.question x)) live_verdict)

    pub live_stops : (o m : Option (List ℕ)) → Stops o (items ++ 10 ∷ []) m → Stops o (lines_text p (live_lines s n a)) m
    live_stops o m h = stops_before o m (line_text p (lines.Live s n a.live.front a.question a.live.verdict) ++ 10 ∷ [])
        (lines_text p (proof_lines 1 a.live.proofs)) (subst (λ t. Stops o t m) live_line h)

    live_proofs : AreProofsOf (vectors_below es k.front) (to_show asked v) a.live.proofs
    live_proofs =
        subst (λ x. AreProofsOf (vectors_below es k.front) (to_show asked x) a.live.proofs) (sym live_verdict)
        (subst (λ x. AreProofsOf (vectors_below es k.front) (to_show x a.live.verdict) a.live.proofs) (sym same)
        (subst (λ f. AreProofsOf (vectors_below es f) (to_show q a.live.verdict) a.live.proofs) h.front h.live.proofs))

    pub live_puts : (o m e : Option (List ℕ)) (r : Result (Unit {0}) WriteFault) → TakesPrefix o (items ++ 10 ∷ []) m
        → ((proofs : List (List Step)) → AreProofsOf (vectors_below es k.front) (to_show asked v) proofs → Puts m (lines_text p (proof_lines 1 proofs)) r e)
        → Puts o (lines_text p (live_lines s n a)) r e
    live_puts o m e r took puts =
        then_puts o m e (line_text p (lines.Live s n a.live.front a.question a.live.verdict) ++ 10 ∷ []) (lines_text p (proof_lines 1 a.live.proofs)) r
        (subst (λ t. TakesPrefix o t m) live_line took) (puts a.live.proofs live_proofs)

  module _ (reply : Reply) (h : IsClosingReply p es seal q reply) (is : IsVerdict p (vectors_of es) seal asked v) (line : items
      ≡ line_text p (lines.Close s n asked v)) where
    all_vectors : vectors_below es reply.front ≡ vectors_of es
    all_vectors = ap (λ f. vectors_below es f) h.front ∙ ap vectors_of (all_below es seal)

    all_seal : seal_below es seal reply.front ≡ seal
    all_seal = ap (λ f. seal_below es seal f) h.front ∙ seal_of_all es seal

    closing_verdict : v ≡ reply.verdict
    closing_verdict =
        one_verdict p (vectors_of es) seal asked v reply.verdict is
        (subst (λ x. IsVerdict p (vectors_of es) seal x reply.verdict) (sym same)
        (subst (λ x. IsVerdict p (vectors_of es) x q reply.verdict) all_seal
        (subst (λ b. IsVerdict p b (seal_below es seal reply.front) q reply.verdict) all_vectors h.reply.verdict)))

    closing_line : items ++ 10 ∷ [] ≡ line_text p (lines.Close s n q reply.verdict) ++ 10 ∷ []
    closing_line = ap (λ t. t ++ 10 ∷ []) (line ∙ ap (λ x. line_text p (lines.Close s n x v)) same
        ∙ ap (λ x. line_text p (lines.Close s n q x)) closing_verdict)

    pub reply_stops : (o m : Option (List ℕ)) → Stops o (items ++ 10 ∷ []) m → Stops o (lines_text p (closing_lines s n q (Some reply))) m
    reply_stops o m h = stops_before o m (line_text p (lines.Close s n q reply.verdict) ++ 10 ∷ []) (lines_text p (proof_lines 1 reply.proofs))
        (subst (λ t. Stops o t m) closing_line h)

    closing_proofs : AreProofsOf (vectors_below es (item_count es seal)) (to_show asked v) reply.proofs
    closing_proofs =
        subst (λ x. AreProofsOf (vectors_below es (item_count es seal)) (to_show asked x) reply.proofs) (sym closing_verdict)
        (subst (λ x. AreProofsOf (vectors_below es (item_count es seal)) (to_show x reply.verdict) reply.proofs) (sym same)
        (subst (λ f. AreProofsOf (vectors_below es f) (to_show q reply.verdict) reply.proofs) h.front h.reply.proofs))

    pub reply_puts : (o m e : Option (List ℕ)) (r : Result (Unit {0}) WriteFault) (front : ℕ) → front ≡ item_count es seal → TakesPrefix o (items ++ 10 ∷ []) m
        → ((proofs : List (List Step)) → AreProofsOf (vectors_below es front) (to_show asked v) proofs → Puts m (lines_text p (proof_lines 1 proofs)) r e)
        → Puts o (lines_text p (closing_lines s n q (Some reply))) r e
    reply_puts o m e r front all took puts =
        then_puts o m e (line_text p (lines.Close s n q reply.verdict) ++ 10 ∷ []) (lines_text p (proof_lines 1 reply.proofs)) r
        (subst (λ t. TakesPrefix o t m) closing_line took) (puts reply.proofs (subst (λ f. AreProofsOf (vectors_below es f) (to_show asked v) reply.proofs)
        (sym all) closing_proofs))

-- ---- the verdict by all items

module _ (p : Presented) (vs : List (List Term)) (es : List BasisEntry) (seal : Option Seal) (same : vs ≡ vectors_of es) (q : Question) (v : Verdict) where
  pub final_verdict : IsVerdict p vs seal q v → IsVerdict p (vectors_of es) seal q v
  final_verdict is = subst (λ b. IsVerdict p b seal q v) same is

  pub final_over : CanBeAsked p q → AreEntries vs → AllByRecursion (EntryIsOver (length p.names)) es → IsVerdict p vs seal q v
      → VerdictIsOver (length p.names) v
  final_over asked entries over is =
      verdict_over p (vectors_of es) seal q v asked (subst AreEntries same entries)
      (subst (λ l. AllByRecursion (VectorIsOver (length p.names)) (vectors_of l)) (take_all (length es) es (omega arith))
      (vectors_over (length p.names) (length es) es over))
      (final_verdict is)

  pub final_shown : IsVerdict p vs seal q v → (front : ℕ) → front ≡ item_count es seal → AllByRecursion (IsShown (vectors_below es front)) (to_show q v)
  final_shown is front all =
      subst (λ b. AllByRecursion (IsShown b) (to_show q v)) (sym (ap (λ f. vectors_below es f) all ∙ ap vectors_of (all_below es seal)))
      (yes_is_shown p (vectors_of es) seal q v (final_verdict is))

  -- so the question has a reply by all items
  pub closing_there : IsVerdict p vs seal q v → HasClosing p es seal q
  closing_there is =
      let shown = proofs_there (vectors_below es (item_count es seal)) (to_show q v) (final_shown is (item_count es seal) refl) in (
        record { front = item_count es seal; verdict = v; proofs = shown.0 },
        record {
          front = refl;
          reply = record {
            verdict = subst (λ x. IsVerdict p (vectors_below es (item_count es seal)) x q v) (sym (seal_of_all es seal))
                (subst (λ b. IsVerdict p b seal q v) (sym (ap vectors_of (all_below es seal))) (final_verdict is));
            proofs = shown.1;
          };
        },
      )

pub on_ok : {P : Type 0} (r : Result (Unit {0}) WriteFault) → P → OnOk r P
on_ok (Ok u) h = h
on_ok (Err e) h = tt

-- ---- items

module _ (p : Presented) (es : List BasisEntry) (seal : Option Seal) (ts : List SessionAnswers) (k : ℕ) (e : BasisEntry) (read : slice_get es k
    ≡ Some e) (lt : k < length es) (o m n : Option (List ℕ)) where
  entry_at : StandsAt es k
  entry_at = stands_at es k lt

  entry_is : entry_at.item ≡ e
  entry_is = same_item es k entry_at.item e entry_at.here read

  entry_split : Goes o (lines_text p (told_from ts 0 (item_lines es seal))) (lines_text p (told_after ts es seal k)) m
      → Goes o (lines_text p (told_from ts 0 (item_lines es seal))) (line_piece p (lines.Entry k (made_by e.recipe) e.vector)
      ++ (lines_text p (live_at (k + 1) ts) ++ lines_text p (told_after ts es seal (k + 1)))) m
  entry_split goes =
      subst (λ l. Goes o (lines_text p (told_from ts 0 (item_lines es seal))) l m)
      (items_left p ts es seal k entry_at ∙ ap (λ (x : BasisEntry). line_piece p (lines.Entry k (made_by x.recipe) x.vector)
      ++ (lines_text p (live_at (k + 1) ts) ++ lines_text p (told_after ts es seal (k + 1)))) entry_is)
      goes

  pub entry_stops : Goes o (lines_text p (told_from ts 0 (item_lines es seal))) (lines_text p (told_after ts es seal k)) m
      → Stops m (line_piece p (lines.Entry k (made_by e.recipe) e.vector)) n → Stops o (lines_text p (told_from ts 0 (item_lines es seal))) n
  entry_stops goes stops =
      goes_stops o m n (lines_text p (told_from ts 0 (item_lines es seal))) (line_piece p (lines.Entry k (made_by e.recipe) e.vector))
      (lines_text p (live_at (k + 1) ts) ++ lines_text p (told_after ts es seal (k + 1))) (entry_split goes) stops

  pub entry_goes_on : Goes o (lines_text p (told_from ts 0 (item_lines es seal))) (lines_text p (told_after ts es seal k)) m
      → TakesPrefix m (line_piece p (lines.Entry k (made_by e.recipe) e.vector)) n
      → Goes o (lines_text p (told_from ts 0 (item_lines es seal))) (lines_text p (live_at (k + 1) ts) ++ lines_text p (told_after ts es seal (k + 1))) n
  entry_goes_on goes took =
      goes_more o m n (lines_text p (told_from ts 0 (item_lines es seal))) (line_piece p (lines.Entry k (made_by e.recipe) e.vector))
      (lines_text p (live_at (k + 1) ts) ++ lines_text p (told_after ts es seal (k + 1))) (entry_split goes) took

-- behind all entries the seal is left
pub seal_is_left : (p : Presented) (es : List BasisEntry) (seal : Option Seal) (ts : List SessionAnswers) (k : ℕ) (o m : Option (List ℕ)) → length es ≡ k
    → Goes o (lines_text p (told_from ts 0 (item_lines es seal))) (lines_text p (told_after ts es seal k)) m
    → Goes o (lines_text p (told_from ts 0 (item_lines es seal))) (lines_text p (told_from ts (length es) (seal_lines seal))) m
seal_is_left p es seal ts k o m count goes =
    subst (λ j. Goes o (lines_text p (told_from ts 0 (item_lines es seal))) (lines_text p (told_from ts j (seal_lines seal))) m) (sym count)
    (subst (λ (l : List BasisEntry). Goes o (lines_text p (told_from ts 0 (item_lines es seal)))
    (lines_text p (told_from ts k (entry_lines k l ++ seal_lines seal))) m) (drop_all k es (omega (arith, count))) goes)

module _ (p : Presented) (es : List BasisEntry) (seal : Option Seal) (s : Seal) (ts : List SessionAnswers) (is : seal ≡ Some s) where
  seal_text : line_piece p lines.Seal ++ lines_text p (live_at (length es + 1) ts) ≡ lines_text p (told_from ts (length es) (seal_lines seal))
  seal_text =
      ap (λ (l : List Line). line_piece p lines.Seal ++ lines_text p l) (sym (append-nil (live_at (length es + 1) ts)))
      ∙ ap (λ (x : Option Seal). lines_text p (told_from ts (length es) (seal_lines x))) (sym is)

  pub seal_stops : (o m : Option (List ℕ)) (items : List ℕ) → items ≡ line_text p lines.Seal → Stops o (items ++ 10 ∷ []) m
      → Stops o (lines_text p (told_from ts (length es) (seal_lines seal))) m
  seal_stops o m items line h =
      subst (λ t. Stops o t m) seal_text (stops_before o m (line_piece p lines.Seal) (lines_text p (live_at (length es + 1) ts))
      (subst (λ t. Stops o (t ++ 10 ∷ []) m) line h))

  pub seal_puts : (o m e : Option (List ℕ)) (r : Result (Unit {0}) WriteFault) (items : List ℕ) → items ≡ line_text p lines.Seal → (front : ℕ)
      → front ≡ item_count es seal
      → TakesPrefix o (items ++ 10 ∷ []) m → Puts m (lines_text p (live_at front ts)) r e
      → Puts o (lines_text p (told_from ts (length es) (seal_lines seal))) r e
  seal_puts o m e r items line front all took puts =
      subst (λ t. Puts o t r e) seal_text
      (then_puts o m e (line_piece p lines.Seal) (lines_text p (live_at (length es + 1) ts)) r (subst (λ t. TakesPrefix o (t ++ 10 ∷ []) m) line took)
      (subst (λ f. Puts m (lines_text p (live_at f ts)) r e) (all ∙ ap (λ x. item_count es x) is) puts))

-- ---- a question that was left open, or not

module _ (p : Presented) (es : List BasisEntry) (seal : Option Seal) (s : SessionState) (replied : IsReplied p es seal s) (i : ℕ) (q : Question) (k : Kept)
    (a : Answered)
    (question : slice_get s.questions i ≡ Some q) (kept : slice_get s.kept i ≡ Some k) (h : IsAnswered p es seal q k a) where
  kept_reply : IsReply p (take k.front es) (seal_below es seal k.front) q k
  kept_reply = replied.each i q k question kept

  same_live : a.live.verdict ≡ kept_reply.verdict
  same_live = live_is p es seal q k a kept_reply h

  pub nothing_closes : (o : Option (List ℕ)) (n : ℕ) → is_left_open k.tag ≡ false
      → TakesPrefix o (lines_text p (closing_lines s.number n a.question a.closing)) o
  nothing_closes o n not_left = by a.closing h.closing
    where
      shut : IsOpen a.live.verdict → ⊥
      shut open_one = closed_tag kept_reply.verdict (ap is_left_open (sym kept_reply.tag) ∙ not_left) (subst IsOpen same_live open_one)

      by : (c : Option Reply) → IsClosing p es seal q a.live.verdict c → TakesPrefix o (lines_text p (closing_lines s.number n a.question c)) o
      by None g = puts_nothing o
      by (Some r) g = absurd (shut g.0)

  pub reply_closes : (o e : Option (List ℕ)) (n : ℕ) (r : Result (Unit {0}) WriteFault) → is_left_open k.tag ≡ true
      → ((x : Reply) → IsClosingReply p es seal q x → Puts o (lines_text p (closing_lines s.number n q (Some x))) r e)
      → Puts o (lines_text p (closing_lines s.number n a.question a.closing)) r e
  reply_closes o e n r left puts = by a.closing h.closing
    where
      opened : IsOpen a.live.verdict
      opened = subst IsOpen (sym same_live) (open_tag kept_reply.verdict (ap is_left_open (sym kept_reply.tag) ∙ left))

      by : (c : Option Reply) → IsClosing p es seal q a.live.verdict c → Puts o (lines_text p (closing_lines s.number n a.question c)) r e
      by None g = absurd (g opened)
      by (Some x) g = subst (λ y. Puts o (lines_text p (closing_lines s.number n y (Some x))) r e) (sym h.question) (puts x g.1)

pub on_map : {A B : Type 0} (r : Result (Unit {0}) WriteFault) → OnOk r A → (A → B) → OnOk r B
on_map (Ok u) h f = f h
on_map (Err e) h f = tt

-- the replies behind the end so far, with one more
pub told_more : (p : Presented) (es : List BasisEntry) (seal : Option Seal) (s : SessionState) (i : ℕ)
    → ((j : ℕ) (q : Question) (k : Kept) → j < i → slice_get s.questions j ≡ Some q → slice_get s.kept j ≡ Some k → is_left_open k.tag ≡ true
    → HasClosing p es seal q)
    → ((q : Question) (k : Kept) → slice_get s.questions (i + 1 - 1) ≡ Some q → slice_get s.kept (i + 1 - 1) ≡ Some k → is_left_open k.tag ≡ true
    → HasClosing p es seal q)
    → (j : ℕ) (q : Question) (k : Kept) → j < i + 1 → slice_get s.questions j ≡ Some q → slice_get s.kept j ≡ Some k → is_left_open k.tag ≡ true
    → HasClosing p es seal q
told_more p es seal s i before now j q k lt question kept left = by (cases_eq j i)
  where
    by : (j ≡ i) ⊎ (j ≢ i) → HasClosing p es seal q
    by (inl e) =
        let back : j ≡ i + 1 - 1 = omega (arith, e) in
        now q k (subst (λ x. slice_get s.questions x ≡ Some q) back question) (subst (λ x. slice_get s.kept x ≡ Some k) back kept) left
    by (inr other) = before j q k (omega (arith, lt, other)) question kept left

pub entries_count : (vs : List (List Term)) (es : List BasisEntry) → vs ≡ vectors_of es → length vs ≡ length es
entries_count vs es is = ap length is ∙ length-map es (λ e. e.vector)
