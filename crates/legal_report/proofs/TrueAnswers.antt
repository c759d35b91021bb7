-- The answers of reports by their log are true.
use Rattle.std.proofs.Common.{◌≡◌, ℕ, ◌+◌, ◌<◌, Bool, true, false, nat_lt, if◌then◌else◌, List, length, take, Option, Some, None, slice_get, sym, ap, subst}
use Rattle.std.proofs.Common.{◌∙◌, arith, refl}
use Rattle.std.specs.List.{AllByRecursion}
use Rattle.std.specs.Prelude.{IsSome, IfSome}
use Rattle.std.proofs.lemmas.List.{take_all}
use Rattle.presentation.specs.Presented.{Presented, IsPresented}
use Rattle.outcomes.specs.declared.ends.End.{End}
use Rattle.outcomes.specs.declared.ends.End.TheVariants.{Sealed, Stopped, Full, Spent}
use Rattle.outcomes.specs.declared.verdicts.Verdict.{Verdict}
use Rattle.session_text.specs.declared.question.Question.{Question}
use Rattle.session_text.specs.Questions.{HasSource}
use Rattle.basis_entry.specs.Entries.{BasisEntry, IsBasisEntry, AreOf, vectors_of}
use Rattle.basis_entry.specs.Seals.{Seal, item_count, IsStrongBasis}
use Rattle.basis_entry.proofs.Vectors.{are_entries}
use Rattle.pair_book.specs.declared.limits.Limits.{Limits}
use Rattle.completion_solo.specs.Ends.{Ends}
use Rattle.session_core.specs.Questions.{CanBeAsked}
use Rattle.session_core.specs.Sessions.{SessionState}
use Rattle.session_core.specs.Verdicts.{IsSealedFor, IsVerdict}
use Rattle.session_core.specs.Meaning.{IsExact}
use Rattle.session_core.proofs.Exactness.{trivial_verdict, extends_verdict, strong_verdict}
use Rattle.basis_entry.specs.Items.{seal_below}
use Rattle.report_text.specs.Answers.{IsReplyTo, IsClosing, IsAnswered, IsSessionAnswered}
use Rattle.report_text.specs.Histories.{Reply, Answered, SessionAnswers, History}
use Rattle.report_text.specs.Reports.{Reported, IsHistoryOf}
use Rattle.report_text.proofs.Lists.{all_first}
use Rattle.session_core.specs.declared.kept.Kept.{Kept}
use Rattle.legal_report.specs.Legal.{IsLegal, IsLegalSession, AreByAll, seal_at}
use Rattle.legal_report.proofs.Fronts.{seal_all}
use Rattle.legal_report.specs.TrueAnswers.{IsAfterSeal, IsTrueReply, IsTrueAnswer, AreTrueAnswers}
use Rattle.legal_report.proofs.Reportable.{all_from, all_at, stands}
use Rattle.legal_report.specs.Answering.{IsAnswering}

-- ---- the seal

-- where there is a seal below a front, it is that of a sealed log, and all entries stand below the front
record IsSealedBelow (p : Presented) (es : List BasisEntry) (end : End) (front : ℕ) (seal : Option Seal) : Type 0 where
  is_end : end ≡ Sealed
  is_seal : seal ≡ Some (record { source = p; entries = es })
  all : take front es ≡ es

sealed_end : (p : Presented) (es : List BasisEntry) (end : End) → IsSome (seal_at p es end) → end ≡ Sealed
sealed_end p es Sealed some = refl
sealed_end p es (Stopped t stop) some = absurd (cc)
sealed_end p es (Full m c) some = absurd (cc)
sealed_end p es (Spent c t) some = absurd (cc)

chosen_some : (b : Bool) (seal : Option Seal) → IsSome (if b then seal else None) → b ≡ true
chosen_some true seal some = refl
chosen_some false seal some = absurd (cc)

chosen_is : (b : Bool) (seal : Option Seal) → b ≡ true → (if b then seal else None) ≡ seal
chosen_is true seal e = refl
chosen_is false seal e = absurd (cc)

less_by : (m n : ℕ) → nat_lt m n ≡ true → m < n
less_by m n e = grind arith

sealed_below : (p : Presented) (es : List BasisEntry) (end : End) (front : ℕ) → IsSome (seal_below es (seal_at p es end) front)
    → IsSealedBelow p es end front (seal_below es (seal_at p es end) front)
sealed_below p es end front some =
    let more : nat_lt (length es) front ≡ true = chosen_some (nat_lt (length es) front) (seal_at p es end) some in
    let whole : seal_below es (seal_at p es end) front ≡ seal_at p es end = chosen_is (nat_lt (length es) front) (seal_at p es end) more in
    let is_end : end ≡ Sealed = sealed_end p es end (subst IsSome whole some) in
    let less : length es < front = less_by (length es) front more in
    record {
      is_end = is_end;
      is_seal = whole ∙ ap (seal_at p es) is_end;
      all = take_all front es (omega (arith, less));
    }

-- ---- one reply

module _ (p : Presented) (es : List BasisEntry) (end : End) (known : IsPresented p) (source : AreOf p es)
    (own : AllByRecursion IsBasisEntry es) (strong : end ≡ Sealed → IsStrongBasis p (vectors_of es)) where
  sealed_for : (seal : Option Seal) → seal ≡ Some (record { source = p; entries = es }) → IsSealedFor p seal
  sealed_for seal e = subst (IsSealedFor p) (sym e) refl

  exact_by : (q : Question) (v : Verdict) (front : ℕ) (seal : Option Seal) → CanBeAsked p q → HasSource q → IsSealedBelow p es end front seal
      → IsVerdict p (vectors_of (take front es)) seal q v → IsExact p q v
  exact_by q v front seal asked sourced below is =
      strong_verdict p q (vectors_of es) seal v known asked sourced (are_entries es own) (strong below.is_end) (sealed_for seal below.is_seal)
      (subst (λ (xs : List BasisEntry). IsVerdict p (vectors_of xs) seal q v) below.all is)

  true_reply : (q : Question) (a : Reply) → CanBeAsked p q → HasSource q → IsReplyTo p es (seal_at p es end) q a
      → IsTrueReply p (λ b. IsSome (seal_below es (seal_at p es end) b.front)) q a
  true_reply q a asked sourced reply =
      let below : List BasisEntry = take a.front es in
      let entries : AllByRecursion IsBasisEntry below = all_first IsBasisEntry a.front es own in
      let of : AreOf p below = all_first (λ (e : BasisEntry). e.source ≡ p) a.front es source in
      let seal : Option Seal = seal_below es (seal_at p es end) a.front in
      record {
        trivial = λ e. trivial_verdict p below (vectors_of below) seal q a.verdict known entries of asked refl reply.verdict e;
        extends = λ e. extends_verdict p below (vectors_of below) seal q a.verdict known entries of asked refl reply.verdict e;
        exact = λ some. exact_by q a.verdict a.front seal asked sourced (sealed_below p es end a.front some) reply.verdict;
      }

-- ---- the whole report

module _ (p : Presented) (questions : List (List Question)) (r : Reported) (known : IsPresented p)
    (sources : AllByRecursion (AllByRecursion HasSource) questions)
    (is : IsAnswering p questions r) (IsFinal : Reply → Type 0)
    (live_final : (a : Reply) (i j : ℕ) (s : SessionState) (k : Kept) → slice_get r.sessions i ≡ Some s → slice_get s.kept j ≡ Some k → a.front ≡ k.front
    → IsFinal a → IsAfterSeal r a)
    (closing_final : (a : Reply) → a.front ≡ item_count r.entries r.seal → IsFinal a → IsAfterSeal r a) where
  reply_is : (q : Question) (a : Reply) → CanBeAsked p q → HasSource q → IsReplyTo r.pres r.entries r.seal q a → (IsFinal a → IsAfterSeal r a)
      → IsTrueReply p IsFinal q a
  reply_is q a asked source reply final =
      let here : IsReplyTo p r.entries (seal_at p r.entries r.end) q a =
      subst (λ (z : Option Seal). IsReplyTo p r.entries z q a) is.seal (subst (λ (x : Presented). IsReplyTo x r.entries r.seal q a) is.pres reply) in
      let made : IsTrueReply p (IsAfterSeal r) q a =
      subst (λ (z : Option Seal). IsTrueReply p (λ b. IsSome (seal_below r.entries z b.front)) q a) (sym is.seal)
      (true_reply p r.entries r.end known is.source is.entries is.strong q a asked source here) in
      record { trivial = made.trivial; extends = made.extends; exact = λ h. made.exact (final h) }

  closing_is : (q : Question) (v : Verdict) (closing : Option Reply) → CanBeAsked p q → HasSource q → IsClosing r.pres r.entries r.seal q v closing
      → IfSome closing (IsTrueReply p IsFinal q)
  closing_is q v None asked source h = tt
  closing_is q v (Some a) asked source h = reply_is q a asked source h.1.reply (closing_final a h.1.front)

  answer_is : (i j : ℕ) (s : SessionState) (q : Question) (k : Kept) (a : Answered) → slice_get r.sessions i ≡ Some s → slice_get s.kept j ≡ Some k
      → CanBeAsked p q → HasSource q
      → IsAnswered r.pres r.entries r.seal q k a → IsTrueAnswer p IsFinal a
  answer_is i j s q k a here kept asked source h =
      let own : q ≡ a.question = sym h.question in
      record {
        live = subst (λ (x : Question). IsTrueReply p IsFinal x a.live) own (reply_is q a.live asked source h.live
            (live_final a.live i j s k here kept h.front));
        closing = subst (λ (x : Question). IfSome a.closing (IsTrueReply p IsFinal x)) own (closing_is q a.live.verdict a.closing asked source h.closing);
      }

  session_is : (i : ℕ) (s : SessionState) (qs : List Question) (n : ℕ) (t : SessionAnswers) → slice_get r.sessions i ≡ Some s → AllByRecursion HasSource qs
      → IsLegalSession p is.base r.entries r.seal n qs s → IsSessionAnswered r.pres r.entries r.seal s t → AllByRecursion (IsTrueAnswer p IsFinal) t.answers
  session_is i s qs n t here source legal answered = all_from (IsTrueAnswer p IsFinal) t.answers (λ j a at.
      let q = stands t.answers s.questions j a at answered.count in
      let k = stands s.questions s.kept j q.0 q.1 (sym legal.replied.count) in
      answer_is i j s q.0 k.0 a here k.1 (all_at (CanBeAsked p) s.questions j q.0 legal.replied.asked q.1)
      (all_at HasSource s.questions j q.0 (subst (AllByRecursion HasSource) (sym legal.questions) source) q.1) (answered.each j q.0 k.0 a q.1 k.1 at))

  answers_are : (h : History) → IsHistoryOf r h → AreTrueAnswers p IsFinal h
  answers_are h told = all_from (λ (t : SessionAnswers). AllByRecursion (IsTrueAnswer p IsFinal) t.answers) h.sessions (λ i t at.
      let s = stands h.sessions r.sessions i t at told.answered.count in
      let qs = stands r.sessions questions i s.0 s.1 is.count in
      session_is i s.0 qs.0 (i + 1) t s.1 (all_at (AllByRecursion HasSource) questions i qs.0 sources qs.1) (is.sessions i qs.0 s.0 qs.1 s.1)
      (told.answered.each i s.0 t s.1 at))

-- what a report answers by its log is true
pub true_answers : (p : Presented) (questions : List (List Question)) (r : Reported) (h : History) → IsPresented p
    → AllByRecursion (AllByRecursion HasSource) questions
    → IsAnswering p questions r → IsHistoryOf r h → AreTrueAnswers p (IsAfterSeal r) h
true_answers p questions r h known sources is told =
    answers_are p questions r known sources is (IsAfterSeal r) (λ a i j s k here kept front after. after) (λ a front after. after) h told

-- a reply by all items of a sealed log is one by items that end with the seal
after_seal : (p : Presented) (r : Reported) (front : ℕ) → r.seal ≡ seal_at p r.entries r.end → front ≡ item_count r.entries r.seal → r.end ≡ Sealed
    → IsSome (seal_below r.entries r.seal front)
after_seal p r front seal all e =
    let is : seal_below r.entries r.seal front ≡ Some (record { source = p; entries = r.entries }) =
    seal_all r.entries r.seal front all ∙ seal ∙ ap (seal_at p r.entries) e in
    subst IsSome (sym is) refl

-- where all replies are by all items, and a final one is of a sealed log, final replies are exact
pub solved_answers : (p : Presented) (questions : List (List Question)) (r : Reported) (h : History) (IsFinal : Reply → Type 0)
    → ((a : Reply) → IsFinal a → r.end ≡ Sealed) → IsPresented p → AllByRecursion (AllByRecursion HasSource) questions
    → IsAnswering p questions r → AllByRecursion (λ s. AreByAll r.entries r.seal s.kept) r.sessions → IsHistoryOf r h
    → AreTrueAnswers p IsFinal h
solved_answers p questions r h IsFinal end known sources is by_all told =
    answers_are p questions r known sources is IsFinal
    (λ a i j s k here kept front e. after_seal p r a.front is.seal
    (front ∙ all_at (λ (x : Kept). x.front ≡ item_count r.entries r.seal) s.kept j k
    (all_at (λ (x : SessionState). AreByAll r.entries r.seal x.kept) r.sessions i s by_all here) kept) (end a e))
    (λ a front e. after_seal p r a.front is.seal front (end a e)) h told

-- a legal report answers by its log
pub legal_answers : (p : Presented) (limits : Limits) (questions : List (List Question)) (r : Reported) → IsLegal p limits questions r
    → IsAnswering p questions r
legal_answers p limits questions r is = record {
  pres = is.pres;
  base = is.base;
  source = is.lawful.source;
  entries = is.lawful.entries;
  strong = λ e. subst (Ends p limits r.entries) e is.ends;
  seal = is.seal;
  count = is.count;
  sessions = is.sessions;
}

-- and what it answers is true
pub legal_truth : (p : Presented) (limits : Limits) (questions : List (List Question)) (r : Reported) (h : History) → IsPresented p
    → AllByRecursion (AllByRecursion HasSource) questions
    → IsLegal p limits questions r → IsHistoryOf r h → AreTrueAnswers p (IsAfterSeal r) h
legal_truth p limits questions r h known sources is told =
    true_answers p questions r h known sources (legal_answers p limits questions r is) told
