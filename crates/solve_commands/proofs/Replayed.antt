-- From a machine that has played its events to the report of the replay.
use Rattle.std.proofs.Common.{◌≡◌, ℕ, suc, ◌+◌, List, [], ◌∷◌, length, Some, slice_get, ap, subst, ◌∙◌, arith, refl}
use Rattle.presentation.specs.Presented.{Presented}
use Rattle.session_text.specs.declared.question.Event.{Event}
use Rattle.session_text.specs.declared.question.Question.{Question}
use Rattle.pair_book.specs.declared.limits.Limits.{Limits}
use Rattle.pair_book.specs.Books.{Held}
use Rattle.session_core.specs.Sessions.{SessionState}
use Rattle.interleave_core.specs.Askers as machine
use Rattle.interleave_core.specs.Machine.{State}
use Rattle.interleave_core.specs.Opening.{IsOpened, IsLeft}
use Rattle.interleave_core.specs.Runs.{Run, KeepsReplies, Keeps}
use Rattle.report_text.specs.Reports.{Reported}
use Rattle.legal_report.specs.Gathering.{AreAskers, questions_of}
use Rattle.legal_report.specs.Solutions.{IsTrueReport, IsConclusion, GoesOnFrom}
use Rattle.solve_commands.specs.Replay.{IsReplay}

-- sessions that keep their replies keep their questions
questions_kept : (olds news : List SessionState) → length news ≡ length olds
    → ((n : ℕ) (s : SessionState) → slice_get olds n ≡ Some s → (t : SessionState) × (slice_get news n ≡ Some t) × KeepsReplies s t)
    → questions_of news ≡ questions_of olds
questions_kept [] [] count each = refl
questions_kept [] (t ∷ news) count each = absurd (omega (arith, count))
questions_kept (s ∷ olds) [] count each = absurd (omega (arith, count))
questions_kept (s ∷ olds) (t ∷ news) count each =
    let first = each 0 s refl in
    let same : t ≡ first.0 = cc in
    let own : t.questions ≡ s.questions = ap (λ (x : SessionState). x.questions) same ∙ ap (λ (x : SessionState). x.questions) first.2.is in
    let rest : questions_of news ≡ questions_of olds = questions_kept olds news (omega (arith, count)) (λ n x at. each (suc n) x at) in
    rw (own, rest) refl

module _ (p : Presented) (limits : Limits) (ss : List SessionState) (events : List Event) (first last : State) (book : Held) (left : List SessionState)
    (opened : IsOpened p limits ss first) (run : Run first events last) (is : IsLeft last book left)
    (keep : (old new : State) (es : List Event) → Run old es new → Keeps old new) where
  kept : Keeps first last
  kept = keep first last events run

  pub source : book.source ≡ p
  source = ap (λ (h : Held). h.source) is.rest ∙ kept.items.source ∙ ap (λ (h : Held). h.source) opened.book.is

  pub limits_are : book.limits ≡ limits
  limits_are = ap (λ (h : Held). h.limits) is.rest ∙ kept.items.limits ∙ ap (λ (h : Held). h.limits) opened.book.is

  -- the sessions that are left ask the book that is left
  pub askers : AreAskers book left
  askers i s at =
      let a : machine.IsAsker book (i + 1) s = is.askers i s at in
      record { number = a.number; base = a.base; questions = a.questions; replies = a.replies; fronts = a.fronts }

  questions : questions_of left ≡ questions_of ss
  questions = ap questions_of is.sessions ∙ questions_kept first.sessions last.sessions kept.count kept.sessions ∙ ap questions_of opened.sessions

  pub replay : (r : Reported) → IsConclusion p limits (questions_of left) r → GoesOnFrom p book.entries book.seal left r
      → IsReplay p limits (questions_of ss) events r
  replay r conclusion on =
      record {
        reportable = conclusion.reportable;
        history = conclusion.history;
        replayed = record {
          is_true = subst (λ (qss : List (List Question)). IsTrueReport p limits qss r conclusion.history) questions conclusion.is_true;
          last = last;
          played = record { sessions = ss; questions = refl; first = first; opened = opened; run = run };
          goes_on = subst (λ (ts : List SessionState). GoesOnFrom p last.book.entries last.book.seal ts r) is.sessions
              (subst (λ (h : Held). GoesOnFrom p h.entries h.seal left r) is.rest on);
        };
      }
