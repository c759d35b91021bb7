-- From answered sessions to a report that is solved.
use Rattle.std.proofs.Common.{◌≡◌, ℕ, suc, ◌+◌, ◌<◌, ◌≤◌, ◌^◌, List, [], ◌∷◌, ◌++◌, length, slice_get, Some, sym, ap, subst, ◌∙◌, arith, refl}
use Rattle.std.specs.List.{AllByRecursion}
use Rattle.std.specs.Prelude.{Ok}
use Rattle.presentation.specs.Presented.{Presented, IsPresented}
use Rattle.session_text.specs.declared.question.Question.{Question}
use Rattle.session_text.specs.Questions.{HasSource}
use Rattle.basis_entry.specs.Seals.{item_count}
use Rattle.outcomes.specs.declared.ends.End.TheVariants.{Sealed}
use Rattle.pair_book.specs.declared.limits.Limits.{Limits}
use Rattle.pair_book.specs.Books.{Held, IsOpened}
use Rattle.session_core.specs.declared.kept.Kept.{Kept}
use Rattle.session_core.specs.Questions.{CanBeAsked}
use Rattle.session_core.specs.Sessions.{SessionState, IsSession}
use Rattle.cert_checker.specs.Texts.{TellsWhole}
use Rattle.report_text.specs.Histories.{History}
use Rattle.report_text.specs.Reports.{Reported, IsReportable, IsHistoryOf, text_of}
use Rattle.report_acceptance.specs.Accepting.{told_amount}
use Rattle.legal_report.specs.Legal.{IsLegal, AreByAll}
use Rattle.legal_report.specs.TrueAnswers.{IsAfterSeal, AreTrueAnswers}
use Rattle.legal_report.specs.Gathering.{questions_of, AreAskers, AreAnsweredOn, AreReplies}
use Rattle.legal_report.specs.Solutions.{IsNewSession, AreNewSessions, IsConclusion, IsSolution}
use Rattle.legal_report.proofs.Accepted.{holds_over}
use Rattle.legal_report.proofs.TrueAnswers.{solved_answers, legal_answers}
use Rattle.legal_report.proofs.Reportable.{all_from, stands}

-- new sessions ask the book that was opened
pub askers : (p : Presented) (limits : Limits) (h : Held) (ss : List SessionState) → IsOpened p limits h → AreNewSessions p (length h.entries) ss
    → AreAskers h ss
askers p limits h ss opened new i s at =
    let is : IsNewSession p (length h.entries) (i + 1) s = new i s at in
    let source : h.source ≡ p = ap (λ (x : Held). x.source) opened.is in
    let base : h.base ≡ length h.entries = ap (λ (x : Held). x.base) opened.is in
    record {
      number = is.number;
      base = is.base ∙ sym base;
      questions = subst (λ (x : Presented). AllByRecursion (CanBeAsked x) s.questions) (sym source) is.questions;
      replies = subst (AreReplies h.source h.entries h.seal s.questions) (sym is.kept) (λ i q k asked kept. absurd (cc));
      fronts = subst (AllByRecursion (λ k. k.front ≤ item_count h.entries h.seal)) (sym is.kept) tt;
    }

pub sourced : (ss : List SessionState) → AllByRecursion IsSession ss → AllByRecursion (AllByRecursion HasSource) (questions_of ss)
sourced [] all = tt
sourced (s ∷ ss) all = (all.0.sources, sourced ss all.1)

-- the questions over which a report is legal are those of its sessions
questions_told : (p : Presented) (limits : Limits) (questions : List (List Question)) (r : Reported) → IsLegal p limits questions r
    → questions_of r.sessions ≡ questions
questions_told p limits questions r legal = same r.sessions questions legal.count (λ i qs s here at. (legal.sessions i qs s here at).questions)
  where
    same : (ss : List SessionState) (qss : List (List Question)) → length ss ≡ length qss
        → ((i : ℕ) (qs : List Question) (s : SessionState) → slice_get qss i ≡ Some qs → slice_get ss i ≡ Some s → s.questions ≡ qs)
        → questions_of ss ≡ qss
    same [] [] count each = refl
    same [] (qs ∷ qss) count each = absurd (omega (arith, count))
    same (s ∷ ss) [] count each = absurd (omega (arith, count))
    same (s ∷ ss) (qs ∷ qss) count each =
        let first : s.questions ≡ qs = each 0 qs s refl refl in
        let rest : questions_of ss ≡ qss = same ss qss (omega (arith, count)) (λ i x t here at. each (suc i) x t here at) in
        rw (first, rest) refl

-- a legal report is a conclusion
pub conclusion : (p : Presented) (limits : Limits) (questions : List (List Question)) (r : Reported) (h : History)
    → IsPresented r.pres → AllByRecursion IsSession r.sessions
    → ((p : Presented) (limits : Limits) (questions : List (List Question)) (r : Reported) (h : History) → IsPresented p
    → AllByRecursion (AllByRecursion HasSource) questions → IsLegal p limits questions r → IsHistoryOf r h → AreTrueAnswers p (IsAfterSeal r) h)
    → IsReportable r → IsLegal p limits questions r → IsHistoryOf r h → TellsWhole r.pres (text_of r h) (Ok (told_amount r h))
    → IsConclusion p limits questions r
conclusion p limits questions r h known sources law can legal told checked = record {
  reportable = can;
  history = h;
  is_true = record {
    legal = legal;
    told = told;
    answers = law p limits questions r h (subst IsPresented legal.pres known)
        (subst (AllByRecursion (AllByRecursion HasSource)) (questions_told p limits questions r legal) (sourced r.sessions sources)) legal told;
    checked = holds_over p r h legal.pres checked;
  };
}

-- a conclusion of new sessions that were answered
pub solution : (limits : Limits) (p : Presented) (least : ℕ) (ss : List SessionState) (r : Reported)
    → IsPresented p → AllByRecursion IsSession ss → AreNewSessions p least ss
    → IsConclusion p limits (questions_of ss) r → AreAnsweredOn p r.entries r.seal ss r.sessions → IsSolution p limits (questions_of ss) r
solution limits p least ss r known sources new conclusion on =
    let by_all : AllByRecursion (λ s. AreByAll r.entries r.seal s.kept) r.sessions =
    all_from (λ (s : SessionState). AreByAll r.entries r.seal s.kept) r.sessions (λ i t at.
    let old = stands r.sessions ss i t at on.count in
    let is = on.each i old.0 t old.1 at in
    let kept : t.kept ≡ is.more = ap (λ (x : SessionState). x.kept) is.is ∙ ap (λ (ks : List Kept). ks ++ is.more) (new i old.0 old.1).kept in
    subst (AreByAll r.entries r.seal) (sym kept) is.by_all) in
    let told : IsHistoryOf r conclusion.history = conclusion.is_true.told in
    record {
      reportable = conclusion.reportable;
      history = conclusion.history;
      solved = record {
        legal = conclusion.is_true.legal;
        by_all = by_all;
        told = told;
        answers = solved_answers p (questions_of ss) r conclusion.history (λ a. r.end ≡ Sealed) (λ a e. e) known (sourced ss sources)
            (legal_answers p limits (questions_of ss) r conclusion.is_true.legal) by_all told;
        checked = conclusion.is_true.checked;
      };
    }
