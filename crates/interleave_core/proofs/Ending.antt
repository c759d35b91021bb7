-- What is left of a machine that has played events can be ended.
use Rattle.std.proofs.Common.{ℕ, suc, ◌≡◌, refl, ap, ◌∙◌, arith, List, [], ◌∷◌, length, map, Some, slice_get}
use Rattle.presentation.specs.Presented.{Presented}
use Rattle.session_text.specs.declared.question.Event.{Event}
use Rattle.pair_book.specs.declared.limits.Limits.{Limits}
use Rattle.pair_book.specs.Books.{Held}
use Rattle.session_core.specs.Sessions.{SessionState}
use Rattle.interleave_core.specs.Runs.{KeepsReplies, Keeps, IsPlayed, CanBeEnded}
use Rattle.interleave_core.proofs.Lists.{same_some}
use Rattle.interleave_core.proofs.Running.{run_keeps}

-- sessions that keep their replies have the questions that they had
same_questions : (ss ts : List SessionState) → length ts ≡ length ss → ((n : ℕ) (s : SessionState) → slice_get ss n ≡ Some s → (t : SessionState)
    × (slice_get ts n ≡ Some t) × KeepsReplies s t) → map (λ (s : SessionState). s.questions) ts ≡ map (λ (s : SessionState). s.questions) ss
same_questions [] [] count each = refl
same_questions [] (t ∷ ts) count each = absurd (omega (arith, count))
same_questions (s ∷ ss) [] count each = absurd (omega (arith, count))
same_questions (s ∷ ss) (t ∷ ts) count each =
    let first = each 0 s refl in
    let is_t : t ≡ first.0 = same_some t first.0 first.1 in
    let one : t.questions ≡ s.questions = ap (λ (z : SessionState). z.questions) (is_t ∙ first.2.is) in
    let rest = same_questions ss ts (omega (arith, count)) (λ n a at. each (suc n) a at) in
    (λ i. one i ∷ rest i)

pub played : (p : Presented) (limits : Limits) (ss : List SessionState) (es : List Event) (book : Held) (left : List SessionState)
    → IsPlayed p limits ss es book left → CanBeEnded p limits ss book left
played p limits ss es book left h =
    let keeps : Keeps h.start h.end = run_keeps h.start h.end es h.run in
    record {
      source = ap (λ (b : Held). b.source) h.left.rest ∙ (keeps.items.source ∙ ap (λ (b : Held). b.source) h.opened.book.is);
      limits = ap (λ (b : Held). b.limits) h.left.rest ∙ (keeps.items.limits ∙ ap (λ (b : Held). b.limits) h.opened.book.is);
      askers = h.left.askers;
      questions = ap (map (λ (s : SessionState). s.questions)) h.left.sessions
          ∙ (same_questions h.start.sessions h.end.sessions keeps.count keeps.sessions
          ∙ ap (map (λ (s : SessionState). s.questions)) h.opened.sessions);
    }
