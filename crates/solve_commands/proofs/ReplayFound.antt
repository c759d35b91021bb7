-- From what is read to the report that `replay` finds.
use Rattle.std.proofs.Common.{◌≡◌, ◌≤◌, inl, inr, ℕ, suc, ◌+◌, List, [], ◌∷◌, Option, length, ap, subst, ◌∙◌, refl}
use Rattle.std.specs.Prelude.{IfSome, Result, Ok, Err, Vec}
use Rattle.std.proofs.lemmas.List.{length-map}
use Rattle.std.specs.declared.alloc.Global.{Global}
use Rattle.word_text.specs.declared.fault.TextFault.{TextFault}
use Rattle.presentation.specs.Presented.{Presented}
use Rattle.presentation.specs.Reading.{presentation_text}
use Rattle.session_text.specs.declared.question.Event.{Event}
use Rattle.session_text.specs.declared.question.Question.{Question}
use Rattle.session_text.specs.Schedule.{schedule_text}
use Rattle.basis_entry.specs.Base.{AreBase}
use Rattle.basis_entry.specs.Entries.{BasisEntry}
use Rattle.session_core.specs.Sessions.{SessionState}
use Rattle.interleave_core.specs.Opening as machine
use Rattle.report_text.specs.Reports.{reported}
use Rattle.command_floor.specs.declared.TheConstants.{PRESENTATION_BYTES}
use Rattle.command_floor.specs.declared.answer.Halt.{Halt}
use Rattle.command_floor.specs.declared.answer.Halt.TheVariants.{Says, NoMemory}
use Rattle.command_floor.specs.Answers.{Answer}
use Rattle.command_floor.specs.Files.{in_lines, FileFails, FileGives, HasCause}
use Rattle.legal_report.specs.declared.solving.Solved.{Solved}
use Rattle.legal_report.specs.Gathering.{questions_of}
use Rattle.legal_report.specs.Last.{AreLastKinds}
use Rattle.legal_report.specs.Solutions.{IsNewSession, AreNewSessions}
use Rattle.solve_commands.specs.declared.schedules.TheConstants.{SCHEDULE_BYTES}
use Rattle.solve_commands.specs.Presentations.{IsPresentedIn}
use Rattle.solve_commands.specs.Replay.{ReplayAsked, IsReplay, IsScheduledIn, ReplayLeads}
use Rattle.solve_commands.specs.Runs.{IsDue, GivesReport}
use Rattle.solve_commands.specs.SessionFiles.{AreQuestionsUnder, SessionsGive}
use Rattle.solve_commands.proofs.SessionFiles.{fail_same}

-- the texts have these values, and this is the report of their replay
pub due : (counted : Type 0) (under : List ℕ → Option (List ℕ)) (q : ReplayAsked) (p : Presented) (events : List Event) (ss : List SessionState) (s : Solved)
    → IsPresentedIn under q.presentation p → IsScheduledIn under q.schedule (length q.sessions) events
    → AreQuestionsUnder under p q.sessions (questions_of ss)
    → IsReplay p q.limits (questions_of ss) events (reported s.report) → AreLastKinds (reported s.report) s.last.items → IsDue (ReplayLeads counted under q) s
due counted under q p events ss s presented scheduled asked replay last =
    record {
      reportable = replay.reportable;
      last = last;
      history = replay.history;
      told = replay.replayed.is_true.told;
      shows = λ status settled. inl (record {
        report = reported s.report;
        history = replay.history;
        found = record {
          p = p;
          presented = presented;
          events = events;
          scheduled = scheduled;
          questions = questions_of ss;
          asked = asked;
          replayed = replay.replayed;
        };
        text = refl;
        status = settled;
      });
    }

-- what `replay` finds where the presentation's text has no value
pub not_presented : (counted : Type 0) (under : List ℕ → Option (List ℕ)) (q : ReplayAsked) (halt : Halt) → HasCause counted halt
    → FileGives (λ (p : Presented). p) counted PRESENTATION_BYTES q.presentation (under q.presentation) (in_lines presentation_text) (Err halt)
    → GivesReport (ReplayLeads counted under q) (Err halt)
not_presented counted under q (Says a) cause fails = inr (cause.0, cause.1, inl fails)
not_presented counted under q NoMemory cause fails = tt

-- a text fails for the same reason where more was counted
fails_later : {X : Type 0} (counted later : Type 0) → (counted → later) → (limit : ℕ) (name : List ℕ) (told : Option (List ℕ))
    (read : List ℕ → Result X TextFault) (a : Answer) → FileFails counted limit name told read a → FileFails later limit name told read a
fails_later counted later on limit name told read a (inl h) = inl (on h.0, h.1)
fails_later counted later on limit name told read a (inr h) = inr h

-- a schedule that was read from a shelf which tells the same
pub scheduled : (u v : List ℕ → Option (List ℕ)) → ((n : List ℕ) → u n ≡ v n) → (name : List ℕ) (n m : ℕ) → n ≡ m → (events : List Event)
    → IsScheduledIn u name n events → IsScheduledIn v name m events
scheduled u v same name n m e events is =
    subst (λ (told : Option (List ℕ)). IfSome told (λ bytes. (length bytes ≤ SCHEDULE_BYTES) × (in_lines (schedule_text m) bytes ≡ Ok events))) (same name)
    (subst (λ (k : ℕ). IsScheduledIn u name k events) e is)

module _ (counted later : Type 0) (on : counted → later) (u v : List ℕ → Option (List ℕ)) (same : (n : List ℕ) → u n ≡ v n) (q : ReplayAsked) (p : Presented)
    (presented : IsPresentedIn v q.presentation p) where
  -- where the schedule's has none
  pub no_schedule : (n : ℕ) → n ≡ length q.sessions → (halt : Halt) → HasCause counted halt
      → FileGives {Y = Vec Event Global} (λ events. events.items) counted SCHEDULE_BYTES q.schedule (u q.schedule) (in_lines (schedule_text n)) (Err halt)
      → GivesReport (ReplayLeads later v q) (Err halt)
  no_schedule n many (Says a) cause fails =
      let here : FileFails counted SCHEDULE_BYTES q.schedule (u q.schedule) (in_lines (schedule_text (length q.sessions))) a =
      subst (λ (k : ℕ). FileFails counted SCHEDULE_BYTES q.schedule (u q.schedule) (in_lines (schedule_text k)) a) many fails in
      inr (
        cause.0,
        cause.1,
        inr (
          p,
          presented,
          inl (subst (λ (told : Option (List ℕ)). FileFails later SCHEDULE_BYTES q.schedule told
              (in_lines (schedule_text (length q.sessions))) a) (same q.schedule)
              (fails_later counted later on SCHEDULE_BYTES q.schedule (u q.schedule) (in_lines (schedule_text (length q.sessions))) a here)),
        ),
      )
  no_schedule n many NoMemory cause fails = tt

  -- and where a session's has none
  pub halted : (events : List Event) → IsScheduledIn v q.schedule (length q.sessions) events → (halt : Halt) → HasCause counted halt
      → SessionsGive counted u p q.sessions (Err halt) → GivesReport (ReplayLeads later v q) (Err halt)
  halted events told (Says a) cause fail =
      inr (cause.0, cause.1, inr (p, presented, inr (events, told, fail_same u v same counted later on p q.sessions a fail)))
  halted events told NoMemory cause fail = tt

-- ---- what the machine is handed

-- sessions before their first reply, whose base is the number of generator entries
pub new_sessions : (p : Presented) (n : ℕ) (ss : List SessionState) → ((es : List BasisEntry) → AreBase p es → n ≡ length es) → AreNewSessions p n ss
    → machine.AreNewSessions p ss
new_sessions p n ss count new i s at =
    let is : IsNewSession p n (i + 1) s = new i s at in
    record { number = is.number; base = λ es base. is.base ∙ count es base; questions = is.questions; kept = is.kept }

as_many : (under : List ℕ → Option (List ℕ)) (p : Presented) (names : List (List ℕ)) (qss : List (List Question)) → AreQuestionsUnder under p names qss
    → length names ≡ length qss
as_many under p [] [] are = refl
as_many under p [] (qs ∷ qss) are = absurd are
as_many under p (name ∷ names) [] are = absurd are
as_many under p (name ∷ names) (qs ∷ qss) are = ap suc (as_many under p names qss are.1)

-- there are as many sessions as names
pub count_of : (under : List ℕ → Option (List ℕ)) (p : Presented) (names : List (List ℕ)) (ss : List SessionState)
    → AreQuestionsUnder under p names (questions_of ss) → length names ≡ length ss
count_of under p names ss are = as_many under p names (questions_of ss) are ∙ length-map ss (λ (s : SessionState). s.questions)
