-- The lines of one answer are taken.
use Rattle.std.proofs.Common.{◌≡◌, ℕ, ◌+◌, ◌<◌, ◌≤◌, ◌^◌, List, [], ◌∷◌, length, Option, refl, sym, ap, subst, ◌∙◌, arith}
use Rattle.std.specs.List.{AllByRecursion}
use Rattle.spelling.specs.Spelling.{IsSmall}
use Rattle.presentation.specs.Presented.{Presented, IsPresented}
use Rattle.module_vec.specs.declared.places.Term.{Term}
use Rattle.module_vec.specs.declared.steps.Step.{Step}
use Rattle.module_vec.specs.Reducers.{AreEntries}
use Rattle.outcomes.specs.declared.verdicts.Verdict.{Verdict}
use Rattle.vector_text.specs.Over.{VectorIsOver}
use Rattle.session_text.specs.declared.question.Question.{Question}
use Rattle.session_text.specs.Questions.{HasSource}
use Rattle.basis_entry.specs.Seals.{Seal}
use Rattle.report_lines.specs.declared.lines.Line.TheVariants as lines
use Rattle.session_core.specs.Questions.{CanBeAsked}
use Rattle.session_core.specs.Verdicts.{IsVerdict}
use Rattle.cert_checker.specs.declared.version.Version.{Version}
use Rattle.cert_checker.specs.declared.phase.Phase.{Phase}
use Rattle.cert_checker.specs.declared.phase.Phase.TheVariants.{Closing}
use Rattle.cert_checker.specs.States.{IsOpen, IsFrontIn, seals}
use Rattle.report_text.specs.Answers.{to_show, AreProofsOf}
use Rattle.report_text.specs.Histories.{proof_lines}
use Rattle.report_text.proofs.Verdicts.{yes_is_shown}
use Rattle.report_acceptance.proofs.Taking.{Leads, one, both}
use Rattle.report_acceptance.proofs.Proving.{IsAt, IsProving, shown_by, proofs_taken}
use Rattle.report_acceptance.proofs.Verdicts.{asked_is, few_shown, shown_fit, is_answer}

module _ (p : Presented) (gens : List (List Term)) (known : IsPresented p) (b : List (List Term)) (entries : AreEntries b)
    (over : AllByRecursion (VectorIsOver (length p.names)) b) (few : length b < 2 ^ 32) where
  module _ (seal : Option Seal) (q : Question) (v : Verdict) (proofs : List (List Step)) (ask : CanBeAsked p q) (source : HasSource q)
      (is : IsVerdict p b seal q v) (are : AreProofsOf b (to_show q v) proofs) where
    shown_taken : (at : Phase) → Leads p gens (IsProving at b (to_show q v) 0) (proof_lines 1 proofs) (IsAt at b)
    shown_taken at = proofs_taken p gens known b entries over few at (to_show q v) (few_shown q v source) [] (to_show q v) proofs 0 refl refl
        (shown_fit p q v ask)
        (shown_by b (to_show q v) proofs (yes_is_shown p b seal q v is) are)

    live_line : (at : Phase) (s n front : ℕ) → IsSmall s → IsSmall n → IsSmall front → IsOpen at → length gens ≤ length b → front ≡ length b + seals at
        → Leads p gens (IsAt at b) (lines.Live s n front q v ∷ []) (IsProving at b (to_show q v) 0)
    live_line at s n front small_s small_n small_front opened low is_front =
        one p gens (IsAt at b) (IsProving at b (to_show q v) 0) (lines.Live s n front q v) (
          small_s,
          (small_n, (small_front, is_answer p known b seal q ask source entries over v is)),
        )
        (λ st h. h.whole)
        (λ st h.
        let own : length st.entries ≡ length b = ap length h.entries in (
          (
            subst IsOpen (sym h.phase) opened,
            h.settled,
            subst (λ (v : Version). IsFrontIn v gens st front) (sym h.whole)
                (omega (arith, own, low), is_front ∙ sym (λ i. length (h.entries i) + seals (h.phase i))),
            ask.1,
          ),
          (tt, record { phase = h.phase; whole = h.whole; entries = h.entries; subjects = asked_is q v; shown = refl }),
        ))

    pub live_taken : (at : Phase) (s n front : ℕ) → IsSmall s → IsSmall n → IsSmall front → IsOpen at → length gens ≤ length b → front ≡ length b + seals at
        → Leads p gens (IsAt at b) (lines.Live s n front q v ∷ proof_lines 1 proofs) (IsAt at b)
    live_taken at s n front small_s small_n small_front opened low is_front =
        both p gens (IsAt at b) (IsProving at b (to_show q v) 0) (IsAt at b) (lines.Live s n front q v ∷ []) (proof_lines 1 proofs)
        (live_line at s n front small_s small_n small_front opened low is_front) (shown_taken at)

    close_line : (s n : ℕ) → IsSmall s → IsSmall n → Leads p gens (IsAt Closing b) (lines.Close s n q v ∷ []) (IsProving Closing b (to_show q v) 0)
    close_line s n small_s small_n =
        one p gens (IsAt Closing b) (IsProving Closing b (to_show q v) 0) (lines.Close s n q v)
        (small_s, (small_n, is_answer p known b seal q ask source entries over v is)) (λ st h. h.whole)
        (λ st h. ((h.phase, h.settled, ask.1), (tt, record { phase = h.phase; whole = h.whole; entries = h.entries; subjects = asked_is q v; shown = refl })))

    pub close_taken : (s n : ℕ) → IsSmall s → IsSmall n → Leads p gens (IsAt Closing b) (lines.Close s n q v ∷ proof_lines 1 proofs) (IsAt Closing b)
    close_taken s n small_s small_n =
        both p gens (IsAt Closing b) (IsProving Closing b (to_show q v) 0) (IsAt Closing b) (lines.Close s n q v ∷ []) (proof_lines 1 proofs)
        (close_line s n small_s small_n) (shown_taken Closing)
