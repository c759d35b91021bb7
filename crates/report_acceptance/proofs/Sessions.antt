-- What is told of the questions of sessions, one after another.
use Rattle.std.proofs.Common.{◌≡◌, ℕ, suc, ◌<◌, ◌≤◌, ◌^◌, List, [], ◌∷◌, length, slice_get, Option, Some, refl, sym, subst, arith}
use Rattle.std.specs.List.{AllByRecursion}
use Rattle.spelling.specs.Spelling.{IsSmall}
use Rattle.presentation.specs.Presented.{Presented}
use Rattle.session_text.specs.declared.question.Question.{Question}
use Rattle.session_text.specs.Questions.{HasSource}
use Rattle.basis_entry.specs.Entries.{BasisEntry}
use Rattle.basis_entry.specs.Seals.{Seal}
use Rattle.session_core.specs.declared.kept.Kept.{Kept}
use Rattle.session_core.specs.Questions.{CanBeAsked}
use Rattle.session_core.specs.Sessions.{SessionState, IsSession}
use Rattle.report_text.specs.Histories.{Answered, SessionAnswers}
use Rattle.report_text.specs.Answers.{IsReplyTo, IsClosing, IsAnswered, IsSessionAnswered, AreAnswered}
use Rattle.report_text.specs.Reports.{IsReplied, AreFrom}

module _ (p : Presented) (es : List BasisEntry) (seal : Option Seal) (base : ℕ) where
  -- what is known of a question and its answers
  pub record IsTold (a : Answered) : Type 0 where
    pub ask : CanBeAsked p a.question
    pub source : HasSource a.question
    pub low : base ≤ a.live.front
    pub live : IsReplyTo p es seal a.question a.live
    pub closing : IsClosing p es seal a.question a.live.verdict a.closing

  pub record IsSessionTold (t : SessionAnswers) : Type 0 where
    pub number : IsSmall t.number
    pub few : length t.answers < 2 ^ 32
    pub answers : AllByRecursion IsTold t.answers

  one_told : (q : Question) (k : Kept) (a : Answered) → CanBeAsked p q → HasSource q → base ≤ k.front → IsAnswered p es seal q k a → IsTold a
  one_told q k a ask source low is = record {
    ask = subst (CanBeAsked p) (sym is.question) ask;
    source = subst HasSource (sym is.question) source;
    low = let e = is.front in omega (arith, e, low);
    live = subst (λ x. IsReplyTo p es seal x a.live) (sym is.question) is.live;
    closing = subst (λ x. IsClosing p es seal x a.live.verdict a.closing) (sym is.question) is.closing;
  }

  all_told : (qs : List Question) (ks : List Kept) (answers : List Answered) → length ks ≡ length qs → length answers ≡ length qs
      → AllByRecursion (CanBeAsked p) qs → AllByRecursion HasSource qs
      → AllByRecursion (λ k. base ≤ k.front) ks
      → ((i : ℕ) (q : Question) (k : Kept) (a : Answered) → slice_get qs i ≡ Some q → slice_get ks i ≡ Some k → slice_get answers i ≡ Some a
      → IsAnswered p es seal q k a) → AllByRecursion IsTold answers
  all_told qs ks [] m n ask source low each = tt
  all_told [] ks (a ∷ answers) m n ask source low each = absurd (omega (arith, n))
  all_told (q ∷ qs) [] (a ∷ answers) m n ask source low each = absurd (omega (arith, m))
  all_told (q ∷ qs) (k ∷ ks) (a ∷ answers) m n ask source low each = (
    one_told q k a ask.0 source.0 low.0 (each 0 q k a refl refl refl),
    all_told qs ks answers (omega (arith, m)) (omega (arith, n)) ask.1 source.1 low.1 (λ i r l b x y z. each (suc i) r l b x y z),
  )

  session_told : (s : SessionState) (t : SessionAnswers) → IsSession s → AreFrom base s → IsReplied p es seal s → IsSessionAnswered p es seal s t
      → IsSessionTold t
  session_told s t known from replied is = record {
    number = let e = is.number in omega (arith, e, known.number);
    few = let e = is.count in omega (arith, e, known.few);
    answers = all_told s.questions s.kept t.answers replied.count is.count replied.asked known.sources from is.each;
  }

  sessions_from : (ss : List SessionState) (ts : List SessionAnswers) → length ts ≡ length ss → AllByRecursion IsSession ss
      → AllByRecursion (AreFrom base) ss → AllByRecursion (IsReplied p es seal) ss
      → ((j : ℕ) (s : SessionState) (t : SessionAnswers) → slice_get ss j ≡ Some s → slice_get ts j ≡ Some t → IsSessionAnswered p es seal s t)
      → AllByRecursion IsSessionTold ts
  sessions_from ss [] n known from replied each = tt
  sessions_from [] (t ∷ ts) n known from replied each = absurd (omega (arith, n))
  sessions_from (s ∷ ss) (t ∷ ts) n known from replied each = (
    session_told s t known.0 from.0 replied.0 (each 0 s t refl refl),
    sessions_from ss ts (omega (arith, n)) known.1 from.1 replied.1
        (λ j r u x y. each (suc j) r u x y),
  )

  pub sessions_told : (ss : List SessionState) (ts : List SessionAnswers) → AllByRecursion IsSession ss
      → AllByRecursion (AreFrom base) ss → AllByRecursion (IsReplied p es seal) ss → AreAnswered p es seal ss ts → AllByRecursion IsSessionTold ts
  sessions_told ss ts known from replied is = sessions_from ss ts is.count known from replied is.each
