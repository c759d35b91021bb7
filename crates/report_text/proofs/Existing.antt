-- Each report that is written whole has its history.
use Rattle.std.proofs.Common.{◌≡◌, ℕ, Bool, true, false, List, length, slice_get, Option, Some, None, refl, sym, subst, ◌∙◌}
use Rattle.std.specs.List.{AllByRecursion}
use Rattle.presentation.specs.Presented.{Presented}
use Rattle.module_vec.specs.declared.steps.Step.{Step}
use Rattle.session_text.specs.declared.question.Question.{Question}
use Rattle.basis_entry.specs.Entries.{BasisEntry}
use Rattle.basis_entry.specs.Seals.{Seal}
use Rattle.session_core.specs.declared.kept.Kept.{Kept}
use Rattle.session_core.specs.Sessions.{SessionState}
use Rattle.basis_entry.specs.Items.{seal_below, vectors_below}
use Rattle.report_text.specs.Answers.{AreProofsOf, IsReplyTo, IsAnswered, IsSessionAnswered, to_show}
use Rattle.report_text.specs.Closing.{is_left_open, HasClosing, HasClosings}
use Rattle.report_text.specs.Histories.{Reply, Answered, SessionAnswers, History}
use Rattle.report_text.specs.Reports.{Reported, IsReplied, IsReportable, IsHistoryOf}
use Rattle.report_text.proofs.Lists.{stands_at, at_place}
use Rattle.report_text.proofs.Building.{Listed, listed, proofs_there}
use Rattle.report_text.proofs.Telling.{Told, told_at, open_verdict, closed_verdict}
use Rattle.report_text.proofs.Verdicts.{yes_is_shown}

-- ---- a session

module _ (p : Presented) (es : List BasisEntry) (seal : Option Seal) (s : SessionState) (replied : IsReplied p es seal s)
    (closings : HasClosings p es seal s) where
  answer : (i : ℕ) (at : Told p es seal s replied i) → (a : Answered) × IsAnswered p es seal at.q at.k a
  answer i at = by (is_left_open at.k.tag) refl
    where
      shown : (proofs : List (List Step)) × AreProofsOf (vectors_below es at.k.front) (to_show at.q at.reply.verdict) proofs
      shown = proofs_there (vectors_below es at.k.front) (to_show at.q at.reply.verdict)
          (yes_is_shown p (vectors_below es at.k.front) (seal_below es seal at.k.front) at.q at.reply.verdict at.reply.is)

      live : Reply
      live = record { front = at.k.front; verdict = at.reply.verdict; proofs = shown.0 }

      right : IsReplyTo p es seal at.q live
      right = record { verdict = at.reply.is; proofs = shown.1 }

      by : (b : Bool) → is_left_open at.k.tag ≡ b → (a : Answered) × IsAnswered p es seal at.q at.k a
      by true e =
          let closing : HasClosing p es seal at.q = closings i at.q at.k at.question at.kept e in (
            record { question = at.q; live = live; closing = Some closing.0 },
            record { question = refl; front = refl; live = right; closing = (open_verdict p es seal s replied i at e, closing.1) },
          )
      by false e = (
        record { question = at.q; live = live; closing = None },
        record { question = refl; front = refl; live = right; closing = closed_verdict p es seal s replied i at e },
      )

  session_answers : Listed (length s.questions) (λ i a. (q : Question) (k : Kept) → slice_get s.questions i ≡ Some q → slice_get s.kept i ≡ Some k
      → IsAnswered p es seal q k a)
  session_answers = listed (length s.questions) (λ i a. (q : Question) (k : Kept) → slice_get s.questions i ≡ Some q → slice_get s.kept i ≡ Some k
      → IsAnswered p es seal q k a)
      (λ i lt. let at : Told p es seal s replied i = told_at p es seal s replied i lt in
      let made = answer i at in (
        made.0,
        λ q k is kept.
            let e : at.q ≡ q = some_same at.q q (sym at.question ∙ is) in
            let f : at.k ≡ k = some_same at.k k (sym at.kept ∙ kept) in
            subst (λ x. IsAnswered p es seal x k made.0) e (subst (λ y. IsAnswered p es seal at.q y made.0) f made.1),
      ))
    where
      some_same : {A : Type 0} (x y : A) → Some x ≡ Some y → x ≡ y
      some_same x y e = cc

  pub session_answered : (t : SessionAnswers) × IsSessionAnswered p es seal s t
  session_answered = (
    record { number = s.number; answers = session_answers.items },
    record { number = refl; count = session_answers.count; each = λ i q k a is kept at. session_answers.each i a at q k is kept },
  )

-- ---- the report

pub history_there : (r : Reported) → IsReportable r → AllByRecursion (HasClosings r.pres r.entries r.seal) r.sessions → (h : History) × IsHistoryOf r h
history_there r can closings =
    let made = listed (length r.sessions) (λ i t. (s : SessionState) → slice_get r.sessions i ≡ Some s → IsSessionAnswered r.pres r.entries r.seal s t)
    (λ i lt. let at = stands_at r.sessions i lt in
    let t = session_answered r.pres r.entries r.seal at.item (at_place (IsReplied r.pres r.entries r.seal) r.sessions i at.item can.replies at.here)
    (at_place (HasClosings r.pres r.entries r.seal) r.sessions i at.item closings at.here) in
    (t.0, λ s is. let e : at.item ≡ s = some_is at.item s (sym at.here ∙ is) in subst (λ x. IsSessionAnswered r.pres r.entries r.seal x t.0) e t.1)) in (
      record { entries = r.entries; seal = r.seal; end = r.end; sessions = made.items },
      record { entries = refl; seal = refl; end = refl; answered = record { count = made.count; each = λ i s t is at. made.each i t at s is } },
    )
  where
    some_is : {A : Type 0} (x y : A) → Some x ≡ Some y → x ≡ y
    some_is x y e = cc
