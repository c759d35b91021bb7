-- The proofs of an answer are taken.
use Rattle.std.proofs.Common.{◌≡◌, ℕ, suc, ◌+◌, ◌<◌, ◌^◌, List, [], ◌∷◌, ◌++◌, length, get_or, refl, sym, ap, subst, ◌∙◌, append_assoc, append-nil}
use Rattle.std.proofs.Common.{length-append, arith}
use Rattle.std.specs.List.{AllByRecursion}
use Rattle.free_words.specs.declared.letter.Letter.{Letter}
use Rattle.free_words.proofs.OverLemmas.{IsOver-more}
use Rattle.presentation.specs.Presented.{Presented, IsPresented}
use Rattle.module_vec.specs.declared.places.Term.{Term}
use Rattle.module_vec.specs.declared.steps.Step.{Step}
use Rattle.module_vec.specs.Vectors.{coefficient_at}
use Rattle.module_vec.specs.Reducers.{AreEntries}
use Rattle.step_lists.specs.declared.way.Way.TheVariants.{Take}
use Rattle.step_lists.specs.Sums.{zero_vector}
use Rattle.vector_text.specs.Over.{VectorIsOver}
use Rattle.reduce_cofactor.specs.Answers.{IsRest}
use Rattle.reduce_cofactor.proofs.Answering.{one_rest}
use Rattle.hom_check.specs.Shown.{fox_at, IsShown}
use Rattle.hom_check.proofs.Fitting.{Fits}
use Rattle.report_lines.specs.declared.lines.Line.TheVariants as lines
use Rattle.report_lines.specs.Lines.{IsLineOf}
use Rattle.cert_checker.specs.declared.version.Version.TheVariants.{Whole}
use Rattle.cert_checker.specs.declared.phase.Phase.{Phase}
use Rattle.cert_checker.specs.States.{State, IsSettled, AreNear}
use Rattle.cert_checker.specs.Checking.{StepsLead, due}
use Rattle.report_text.specs.Answers.{AreProofsOf}
use Rattle.report_text.specs.Histories.{proof_lines}
use Rattle.report_text.proofs.Chains.{steps_over}
use Rattle.report_acceptance.proofs.Placing.{IsPlaced, fox_placed}
use Rattle.report_acceptance.proofs.Stepping.{runs_lead, steps_there, runs_near, runs_read}
use Rattle.report_acceptance.proofs.Taking.{Leads, one, both}

-- these entries were taken in this phase, and no proof is due
pub record IsAt (at : Phase) (b : List (List Term)) (s : State) : Type 0 where
  pub phase : s.phase ≡ at
  pub whole : s.version ≡ Whole
  pub entries : s.entries ≡ b
  pub settled : IsSettled s

-- of these subjects so many were shown
pub record IsProving (at : Phase) (b : List (List Term)) (ws : List (List Letter)) (j : ℕ) (s : State) : Type 0 where
  pub phase : s.phase ≡ at
  pub whole : s.version ≡ Whole
  pub entries : s.entries ≡ b
  pub subjects : s.subjects ≡ ws
  pub shown : s.shown ≡ j

-- each word's chain by b has these steps, and ends at zero
abbrev pub AreShownBy : List (List Term) → List (List Letter) → List (List Step) → Type 0
AreShownBy b [] [] = Unit {0}
AreShownBy b [] (ss ∷ proofs) = ⊥
AreShownBy b (w ∷ ws) [] = ⊥
AreShownBy b (w ∷ ws) (ss ∷ proofs) = IsRest b (fox_at w) [] ss × AreShownBy b ws proofs

-- ---- the steps that show a word

shown_so : (b : List (List Term)) (w : List Letter) (rest : List Term) (ss : List Step) → IsShown b w → IsRest b (fox_at w) rest ss → IsRest b (fox_at w) [] ss
shown_so b w rest ss h is = let same = one_rest b (fox_at w) rest [] ss h.0 is h.1 in subst (λ v. IsRest b (fox_at w) v ss) same.0 is

pub shown_by : (b : List (List Term)) (ws : List (List Letter)) (proofs : List (List Step)) → AllByRecursion (IsShown b) ws → AreProofsOf b ws proofs
    → AreShownBy b ws proofs
shown_by b [] [] h are = tt
shown_by b [] (ss ∷ proofs) h are = absurd (let e = are.count in omega (arith, e))
shown_by b (w ∷ ws) [] h are = absurd (let e = are.count in omega (arith, e))
shown_by b (w ∷ ws) (ss ∷ proofs) h are =
    let first = are.each 0 w ss refl refl in
    let e = are.count in
    (shown_so b w first.0 ss h.0 first.1, shown_by b ws proofs h.1 (record { count = omega (arith, e); each = λ i v rs is has. are.each (suc i) v rs is has }))

-- ---- one proof after another

middle : (before : List (List Letter)) (w : List Letter) (others : List (List Letter)) → get_or (before ++ w ∷ others) (length before) [] ≡ w
middle [] w others = refl
middle (v ∷ before) w others = middle before w others

module _ (p : Presented) (gens : List (List Term)) (known : IsPresented p) (b : List (List Term)) (entries : AreEntries b)
    (over : AllByRecursion (VectorIsOver (length p.names)) b) (few : length b < 2 ^ 32) where
  word_placed : (w : List Letter) → Fits (length p.names) w → IsPlaced (fox_at w)
  word_placed w fits = fox_placed w (IsOver-more (length p.names) 24 w known.few_names fits.0) fits.1

  -- what a proof has to be
  pub record IsProof (w : List Letter) (ss : List Step) : Type 0 where
    pub near : AreNear b ss
    pub leads : StepsLead Take b (fox_at w) ss zero_vector

  pub is_proof : (w : List Letter) (ss : List Step) → Fits (length p.names) w → IsRest b (fox_at w) [] ss → IsProof w ss
  is_proof w ss fits is = record {
    near = runs_near b (fox_at w) (coefficient_at []) ss entries (word_placed w fits) is.runs;
    leads = (steps_there b ss is.are, runs_lead b (fox_at w) (coefficient_at []) ss is.runs);
  }

  proof_line : (j : ℕ) (w : List Letter) (ss : List Step) → j < 2 ^ 32 → Fits (length p.names) w → IsRest b (fox_at w) [] ss → IsLineOf p (lines.Proof j ss)
  proof_line j w ss small fits is = (
    small,
    runs_read (length p.names) b (fox_at w) (coefficient_at []) ss entries (word_placed w fits) few is.runs (steps_there b ss is.are)
        (steps_over (length p.names) b entries over w fits.0 fits.1 [] ss is),
  )

  module _ (phase : Phase) (ws : List (List Letter)) (count : length ws < 2 ^ 32) where
    proof_taken : (before others : List (List Letter)) (w : List Letter) (ss : List Step) (j : ℕ) → ws ≡ before ++ w ∷ others → j ≡ length before
        → Fits (length p.names) w → IsRest b (fox_at w) [] ss
        → Leads p gens (IsProving phase b ws j) (lines.Proof (j + 1) ss ∷ []) (IsProving phase b ws (j + 1))
    proof_taken before others w ss j parts at fits is =
        let long : length ws ≡ length before + suc (length others) = ap length parts ∙ length-append before (w ∷ others) in
        let proof : IsProof w ss = is_proof w ss fits is in
        let word : (s : State) → IsProving phase b ws j s → due s ≡ w = λ s h. (λ i. get_or (h.subjects i) (h.shown i) []) ∙ (λ i. get_or (parts i) (at i) [])
        ∙ middle before w others in
        one p gens (IsProving phase b ws j) (IsProving phase b ws (j + 1)) (lines.Proof (j + 1) ss)
        (proof_line (j + 1) w ss (omega (arith, long, at, count)) fits is) (λ s h. h.whole)
        (λ s h.
        let own : length s.subjects ≡ length ws = ap length h.subjects in
        let number = h.shown in (
          (omega (arith, own, number, long, at), omega (arith, number), subst (λ c. AreNear c ss) (sym h.entries) proof.near),
          (
            subst (λ c. StepsLead Take c (fox_at (due s)) ss zero_vector) (sym h.entries)
                (subst (λ v. StepsLead Take b (fox_at v) ss zero_vector) (sym (word s h)) proof.leads),
            record { phase = h.phase; whole = h.whole; entries = h.entries; subjects = h.subjects; shown = ap (λ n. n + 1) h.shown },
          ),
        ))

    all_shown : (j : ℕ) (before : List (List Letter)) → ws ≡ before → j ≡ length before → (s : State) → IsProving phase b ws j s → IsAt phase b s
    all_shown j before parts at s h =
        let own : length s.subjects ≡ length before = ap length (h.subjects ∙ parts) in
        let number = h.shown in
        record { phase = h.phase; whole = h.whole; entries = h.entries; settled = omega (arith, own, number, at) }

    pub proofs_taken : (before others : List (List Letter)) (proofs : List (List Step)) (j : ℕ) → ws ≡ before ++ others → j ≡ length before
        → AllByRecursion (Fits (length p.names)) others
        → AreShownBy b others proofs → Leads p gens (IsProving phase b ws j) (proof_lines (j + 1) proofs) (IsAt phase b)
    proofs_taken before [] [] j parts at fit h = record { hold = λ s k. tt; then_is = all_shown j before (parts ∙ append-nil before) at }
    proofs_taken before [] (ss ∷ proofs) j parts at fit h = absurd h
    proofs_taken before (w ∷ others) [] j parts at fit h = absurd h
    proofs_taken before (w ∷ others) (ss ∷ proofs) j parts at fit h =
        both p gens (IsProving phase b ws j) (IsProving phase b ws (j + 1)) (IsAt phase b) (lines.Proof (j + 1) ss ∷ []) (proof_lines (j + 1 + 1) proofs)
        (proof_taken before others w ss j parts at fit.0 h.0)
        (proofs_taken (before ++ w ∷ []) others proofs (j + 1) (parts ∙ sym (append_assoc before (w ∷ []) others)) (ap (λ n. n + 1) at
        ∙ sym (length-append before (w ∷ []))) fit.1 h.1)
