-- From two texts at hand to the summary.
use Rattle.std.proofs.Common.{◌≡◌, ℕ, zero, suc, ◌+◌, ◌≤◌, List, [], ◌∷◌, length, Some, None, slice_get, sym, ap, subst, arith, refl}
use Rattle.std.specs.List.{AllByRecursion}
use Rattle.std.specs.Prelude.{Result, Ok, Err, codes}
use Rattle.word_text.specs.declared.fault.TextFault.{TextFault}
use Rattle.presentation.specs.Presented.{Presented}
use Rattle.presentation.specs.Reading.{presentation_text}
use Rattle.session_text.specs.declared.question.Question.{Question}
use Rattle.session_text.specs.declared.fault.SessionFault.{SessionFault}
use Rattle.session_text.specs.Reading.{session_text}
use Rattle.task_table.specs.declared.order.Order.TheVariants.{ByNumber}
use Rattle.pair_book.specs.declared.limits.Limits.{Limits}
use Rattle.session_core.specs.Questions.{CanBeAsked}
use Rattle.session_core.specs.Sessions.{SessionState}
use Rattle.report_text.specs.Histories.{History}
use Rattle.report_text.specs.Reports.{Reported, IsHistoryOf}
use Rattle.solve_commands.specs.declared.limits.TheConstants.{ENTRIES}
use Rattle.command_floor.specs.declared.answer.Halt.{Halt}
use Rattle.command_floor.specs.declared.answer.Halt.TheVariants.{Says, NoMemory}
use Rattle.command_floor.specs.Answers.{Answer}
use Rattle.command_floor.specs.Files.{in_lines, ReadLeads, TextGives, CommandEnd}
use Rattle.solve_commands.specs.SessionFiles.{QuestionsGive}
use Rattle.legal_report.specs.Solutions.{IsNewSession, AreNewSessions, IsSolved, IsSolution}
use Rattle.solve_commands.specs.Limits.{limits_with}
use Rattle.solve_commands.specs.Runs.{ShowsSettled}
use Rattle.solve_commands.specs.Generate.{summary, ShowsGen, QuestionsLead, TextsLead}

-- ---- the one session

new_at : (p : Presented) (least : ℕ) (x : SessionState) → IsNewSession p least 1 x → (i : ℕ) (s : SessionState) → slice_get (x ∷ []) i ≡ Some s
    → IsNewSession p least (i + 1) s
new_at p least x new zero s at = let e : x ≡ s = cc in subst (IsNewSession p least 1) e new
new_at p least x new (suc i) s at = absurd (cc)

pub new_one : (p : Presented) (least : ℕ) (qs : List Question) (ss : List SessionState)
    → ss ≡ record { number = 1; questions = qs; base = least; kept = [] } ∷ [] → AllByRecursion (CanBeAsked p) qs
    → AreNewSessions p least ss
new_one p least qs ss is asked =
    subst (AreNewSessions p least) (sym is) (new_at p least (record { number = 1; questions = qs; base = least; kept = [] }) (record {
      number = refl;
      base = refl;
      kept = refl;
      questions = asked;
    }))

-- ---- what the texts lead to

module _ (seed : ℕ) (pres session : List ℕ) where
  abbrev next : Presented → Answer → Type 0
  next p a = QuestionsLead (codes "session") (session_text p session) (ShowsGen seed p) a

  goes_on : (p : Presented) (a : Answer) → in_lines presentation_text pres ≡ Ok p → next p a → TextsLead seed pres session a
  goes_on p a is on = subst (λ (r : Result Presented TextFault). ReadLeads (codes "presentation") r next a) (sym is) on

  pub no_presentation : (halt : Halt) → TextGives {X = Presented} (codes "presentation") (in_lines presentation_text pres) (Err halt)
      → CommandEnd (TextsLead seed pres session) (Err halt)
  no_presentation (Says a) (f, is, refuses) = subst (λ (r : Result Presented TextFault). ReadLeads (codes "presentation") r next a) (sym is) refuses
  no_presentation NoMemory gives = tt

  pub no_questions : (p : Presented) (halt : Halt) → in_lines presentation_text pres ≡ Ok p
      → QuestionsGive (codes "session") (session_text p session) (Err halt)
      → CommandEnd (TextsLead seed pres session) (Err halt)
  no_questions p (Says a) is (f, read, refuses) =
      goes_on p a is (subst (λ (r : Result (List Question) SessionFault). QuestionsLead (codes "session") r (ShowsGen seed p) a) (sym read) refuses)
  no_questions p NoMemory is gives = tt

  pub summed : (p : Presented) (questions : List (List Question)) (qs : List Question) (r : Reported) (a : Answer) → in_lines presentation_text pres ≡ Ok p
      → session_text p session ≡ Ok qs
      → questions ≡ qs ∷ [] → IsSolution p (limits_with ENTRIES None ByNumber) questions r
      → ((h : History) → IsHistoryOf r h → (a.text ≡ summary seed h) × ShowsSettled h a.status) → TextsLead seed pres session a
  summed p questions qs r a is read one solution shown =
      let told = shown solution.history solution.solved.told in
      let shows : ShowsGen seed p qs a =
      record {
        report = r;
        history = solution.history;
        solved = subst (λ (all : List (List Question)). IsSolved p (limits_with ENTRIES None ByNumber) all r solution.history) one solution.solved;
        text = told.0;
        status = told.1;
      } in
      goes_on p a is (subst (λ (found : Result (List Question) SessionFault). QuestionsLead (codes "session") found (ShowsGen seed p) a) (sym read) shows)
