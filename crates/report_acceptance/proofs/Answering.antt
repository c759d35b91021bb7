-- The lines of all answers at a front, and of those behind the end, are taken.
use Rattle.std.proofs.Common.{◌≡◌, ℕ, ◌+◌, ◌<◌, ◌≤◌, ◌^◌, ◌==◌, Bool, true, false, if◌then◌else◌, List, [], ◌∷◌, length, Option, Some, None, refl, ap, subst}
use Rattle.std.proofs.Common.{◌∙◌, arith}
use Rattle.std.proofs.lemmas.Bool.Decides.{nat_tests}
use Rattle.std.specs.List.{AllByRecursion}
use Rattle.spelling.specs.Spelling.{IsSmall}
use Rattle.presentation.specs.Presented.{Presented, IsPresented}
use Rattle.module_vec.specs.declared.places.Term.{Term}
use Rattle.module_vec.specs.Reducers.{AreEntries}
use Rattle.vector_text.specs.Over.{VectorIsOver}
use Rattle.session_text.specs.declared.question.Question.{Question}
use Rattle.basis_entry.specs.Entries.{BasisEntry}
use Rattle.basis_entry.specs.Seals.{Seal, item_count}
use Rattle.session_core.specs.Verdicts.{IsVerdict}
use Rattle.cert_checker.specs.declared.phase.Phase.{Phase}
use Rattle.cert_checker.specs.declared.phase.Phase.TheVariants.{Closing}
use Rattle.cert_checker.specs.States.{IsOpen, seals}
use Rattle.report_text.specs.Histories.{Reply, Answered, SessionAnswers, live_lines, live_from, live_at, closing_lines, closing_from, closing_of}
use Rattle.basis_entry.specs.Items.{vectors_below, seal_below}
use Rattle.report_text.specs.Answers.{to_show, AreProofsOf, IsReplyTo, IsClosing}
use Rattle.report_acceptance.proofs.Taking.{Leads, nothing, both}
use Rattle.report_acceptance.proofs.Proving.{IsAt}
use Rattle.report_acceptance.proofs.Replying.{live_taken, close_taken}
use Rattle.report_acceptance.proofs.Sessions.{IsTold, IsSessionTold}

same_front : (a b : ℕ) → (a == b) ≡ true → a ≡ b
same_front a b e = grind (arith, nat_tests)

module _ (p : Presented) (gens : List (List Term)) (known : IsPresented p) (es : List BasisEntry) (seal : Option Seal) (base : ℕ)
    (b : List (List Term)) (entries : AreEntries b) (over : AllByRecursion (VectorIsOver (length p.names)) b) (few : length b < 2 ^ 32) where
  -- a reply by the items below its front, which are these
  verdict_by : (front : ℕ) (q : Question) (r : Reply) → r.front ≡ front → vectors_below es front ≡ b → IsReplyTo p es seal q r
      → IsVerdict p b (seal_below es seal r.front) q r.verdict
  verdict_by front q r at below is = subst (λ c. IsVerdict p c (seal_below es seal r.front) q r.verdict) (ap (vectors_below es) at ∙ below) is.verdict

  proofs_by : (front : ℕ) (q : Question) (r : Reply) → r.front ≡ front → vectors_below es front ≡ b → IsReplyTo p es seal q r
      → AreProofsOf b (to_show q r.verdict) r.proofs
  proofs_by front q r at below is = subst (λ c. AreProofsOf c (to_show q r.verdict) r.proofs) (ap (vectors_below es) at ∙ below) is.proofs

  -- ---- at a front

  module _ (stage : Phase) (front : ℕ) (below : vectors_below es front ≡ b) (small : IsSmall front) (opened : IsOpen stage) (low : base ≤ front
      → length gens ≤ length b) (count : front ≡ length b + seals stage) where
    answer_taken : (s n : ℕ) (a : Answered) → IsSmall s → IsSmall n → IsTold p es seal base a → a.live.front ≡ front
        → Leads p gens (IsAt stage b) (live_lines s n a) (IsAt stage b)
    answer_taken s n a small_s small_n is at =
        let enough = is.low in
        live_taken p gens known b entries over few (seal_below es seal a.live.front) a.question a.live.verdict a.live.proofs is.ask is.source
        (verdict_by front a.question a.live at below is.live) (proofs_by front a.question a.live at below is.live) stage s n a.live.front small_s small_n
        (omega (arith, at, small)) opened (low (omega (arith, at, enough))) (at ∙ count)

    either_taken : (s n : ℕ) (a : Answered) (t : Bool) → (a.live.front == front) ≡ t → IsSmall s → IsSmall n → IsTold p es seal base a
        → Leads p gens (IsAt stage b) (if t then live_lines s n a else []) (IsAt stage b)
    either_taken s n a true e small_s small_n is = answer_taken s n a small_s small_n is (same_front a.live.front front e)
    either_taken s n a false e small_s small_n is = nothing p gens (IsAt stage b)

    session_taken : (s n : ℕ) (answers : List Answered) → IsSmall s → n + length answers ≤ 2 ^ 32 → AllByRecursion (IsTold p es seal base) answers
        → Leads p gens (IsAt stage b) (live_from front s n answers) (IsAt stage b)
    session_taken s n [] small_s numbers told = nothing p gens (IsAt stage b)
    session_taken s n (a ∷ later) small_s numbers told =
        both p gens (IsAt stage b) (IsAt stage b) (IsAt stage b) (if a.live.front == front then live_lines s n a else []) (live_from front s (n + 1) later)
        (either_taken s n a (a.live.front == front) refl small_s (omega (arith, numbers)) told.0)
        (session_taken s (n + 1) later small_s (omega (arith, numbers)) told.1)

    pub front_taken : (ts : List SessionAnswers) → AllByRecursion (IsSessionTold p es seal base) ts
        → Leads p gens (IsAt stage b) (live_at front ts) (IsAt stage b)
    front_taken [] told = nothing p gens (IsAt stage b)
    front_taken (t ∷ ts) told =
        both p gens (IsAt stage b) (IsAt stage b) (IsAt stage b) (live_from front t.number 1 t.answers) (live_at front ts)
        (session_taken t.number 1 t.answers told.0.number (let f = told.0.few in omega (arith, f)) told.0.answers) (front_taken ts told.1)

  -- ---- behind the end

  module _ (whole : vectors_below es (item_count es seal) ≡ b) where
    closing_taken : (s n : ℕ) (a : Answered) (o : Option Reply) → IsSmall s → IsSmall n → IsTold p es seal base a
        → IsClosing p es seal a.question a.live.verdict o
        → Leads p gens (IsAt Closing b) (closing_lines s n a.question o) (IsAt Closing b)
    closing_taken s n a None small_s small_n is h = nothing p gens (IsAt Closing b)
    closing_taken s n a (Some r) small_s small_n is h =
        close_taken p gens known b entries over few (seal_below es seal r.front) a.question r.verdict r.proofs is.ask is.source
        (verdict_by (item_count es seal) a.question r h.1.front whole h.1.reply) (proofs_by (item_count es seal) a.question r h.1.front whole h.1.reply) s n
        small_s small_n

    session_closed : (s n : ℕ) (answers : List Answered) → IsSmall s → n + length answers ≤ 2 ^ 32 → AllByRecursion (IsTold p es seal base) answers
        → Leads p gens (IsAt Closing b) (closing_from s n answers) (IsAt Closing b)
    session_closed s n [] small_s numbers told = nothing p gens (IsAt Closing b)
    session_closed s n (a ∷ later) small_s numbers told =
        both p gens (IsAt Closing b) (IsAt Closing b) (IsAt Closing b) (closing_lines s n a.question a.closing) (closing_from s (n + 1) later)
        (closing_taken s n a a.closing small_s (omega (arith, numbers)) told.0 told.0.closing)
        (session_closed s (n + 1) later small_s (omega (arith, numbers)) told.1)

    pub all_closed : (ts : List SessionAnswers) → AllByRecursion (IsSessionTold p es seal base) ts
        → Leads p gens (IsAt Closing b) (closing_of ts) (IsAt Closing b)
    all_closed [] told = nothing p gens (IsAt Closing b)
    all_closed (t ∷ ts) told =
        both p gens (IsAt Closing b) (IsAt Closing b) (IsAt Closing b) (closing_from t.number 1 t.answers) (closing_of ts)
        (session_closed t.number 1 t.answers told.0.number (let f = told.0.few in omega (arith, f)) told.0.answers) (all_closed ts told.1)
