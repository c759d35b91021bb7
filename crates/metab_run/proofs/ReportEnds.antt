-- How a run ends that has a report.
use Rattle.std.proofs.Common.{◌≡◌, ℕ, inl, inr, List, [], ◌∷◌, ◌++◌, length, take, Option, Some, sym, ap, subst, ◌∙◌, refl}
use Rattle.mb_io.specs.Shelf.{TakesPrefix}
use Rattle.report_text.specs.Reports.{Reported, reported, text_of}
use Rattle.report_text.specs.Writing.{Stops}
use Rattle.command_floor.specs.declared.status.Status.{Status}
use Rattle.command_floor.specs.declared.status.Status.TheVariants.{Done, Open, WriteFault, ReadFault}
use Rattle.command_floor.specs.Answers.{Answer}
use Rattle.command_floor.specs.Ends.{Ends}
use Rattle.basis_entry.specs.Seals.{Seal}
use Rattle.legal_report.specs.declared.solving.Solved.{Solved}
use Rattle.solve_commands.specs.Runs.{ShowsSettled, WritesReport, DeliversReport, IsDue}
use Rattle.solve_commands.specs.Solo.{SoloAsked, SoloLeads}
use Rattle.solve_commands.specs.Replay.{ReplayAsked, ReplayLeads}
use Rattle.solve_commands.specs.Save.{SaveAsked, SaveLeads, IsDueBasis}
use Rattle.solve_commands.specs.Load.{LoadAsked, LoadLeads, AskedStrong}
use Rattle.solve_commands.proofs.Settled as settled
use Rattle.metab_run.specs.Words.{Request, Solo, Replay, Save, Load}
use Rattle.metab_run.specs.Owed.{Owed, owed}
use Rattle.metab_run.specs.Top.{IsDueReport, IsDueFile, EndsOwed}

-- what `solo` finds is due to it
pub solo_due : (counted : Type 0) (under : List ℕ → Option (List ℕ)) (asked : Option Request) (q : SoloAsked) (s : Solved)
    → asked ≡ Some (Solo q) → IsDue (SoloLeads counted under q) s → IsDueReport (owed counted under asked) s
solo_due counted under asked q s is due =
    subst (λ (c : Option Request). IsDueReport (owed counted under c) s) (sym is) (record { reports = tt; promises = tt; due = due })

-- and what `replay` finds to it
pub replay_due : (counted : Type 0) (under : List ℕ → Option (List ℕ)) (asked : Option Request) (q : ReplayAsked) (s : Solved)
    → asked ≡ Some (Replay q) → IsDue (ReplayLeads counted under q) s → IsDueReport (owed counted under asked) s
replay_due counted under asked q s is due =
    subst (λ (c : Option Request). IsDueReport (owed counted under c) s) (sym is) (record { reports = tt; promises = tt; due = due })

-- what `save` finds to it: the report of a completion that isn't sealed, or the basis file of one that is
pub save_due : (counted : Type 0) (under : List ℕ → Option (List ℕ)) (asked : Option Request) (q : SaveAsked) (s : Solved)
    → asked ≡ Some (Save q) → IsDue (SaveLeads counted under q) s → IsDueReport (owed counted under asked) s
save_due counted under asked q s is due =
    subst (λ (c : Option Request). IsDueReport (owed counted under c) s) (sym is) (record { reports = tt; promises = tt; due = due })

pub file_due : (counted : Type 0) (under : List ℕ → Option (List ℕ)) (asked : Option Request) (q : SaveAsked) (s : Seal)
    → asked ≡ Some (Save q) → IsDueBasis (SaveLeads counted under q) s → IsDueFile (owed counted under asked) s
file_due counted under asked q s is due =
    subst (λ (c : Option Request). IsDueFile (owed counted under c) s) (sym is) (record { reports = tt; promises = tt; due = due })

-- and what `load` finds to it
pub load_due : (counted : Type 0) (under : List ℕ → Option (List ℕ)) (asked : Option Request) (q : LoadAsked) (s : Solved)
    → asked ≡ Some (Load q) → AskedStrong under q → IsDue (LoadLeads counted under q) s → IsDueReport (owed counted under asked) s
load_due counted under asked q s is strong due =
    subst (λ (c : Option Request). IsDueReport (owed counted under c) s) (sym is) (record { reports = tt; promises = strong; due = due })

pub ruleset reports_due = (solo_due, replay_due, save_due, file_due, load_due)

pub take_front : (xs ys : List ℕ) → take (length xs) (xs ++ ys) ≡ xs
take_front [] ys = refl
take_front (x ∷ xs) ys = ap (λ (zs : List ℕ). x ∷ zs) (take_front xs ys)

module _ (o : Owed) (s : Solved) (is : IsDueReport o s) (failed : Type 0) (old new : Option (List ℕ)) where
  abbrev r : Reported
  r = reported s.report

  abbrev due : IsDue o.leads s
  due = is.due

  abbrev text : List ℕ
  text = text_of r due.history

  abbrev told_answer : Status → Answer
  told_answer status = record { status = status; text = text }

  part : Stops old text new → (a : Answer) × (n : ℕ) × o.leads a × TakesPrefix old (take n a.text) new
  part stops =
      let status = settled.some_status due.history in
      let front : take (length stops.front) text ≡ stops.front = ap (take (length stops.front)) stops.is ∙ take_front stops.front stops.rest in (
        told_answer status.0,
        length stops.front,
        due.shows status.0 status.1,
        subst (λ (bs : List ℕ). TakesPrefix old bs new) (sym front) stops.took,
      )

  abbrev goes : Status → Type 0
  goes status = EndsOwed o failed old new status

  whole : (status : Status) → ShowsSettled due.history status → TakesPrefix old text new → goes status
  whole status (inl shows) took = subst goes (sym shows.0) (told_answer Done, due.shows Done (inl (refl, shows.1)), refl, took)
  whole status (inr shows) took = subst goes (sym shows.0) (told_answer Open, due.shows Open (inr (refl, shows.1)), refl, took)

  ends_by : (status : Status) → WritesReport failed old new r due.history status → goes status
  ends_by status (inl d) = whole status d.0 d.1
  ends_by status (inr (inl d)) = subst goes (sym d.0) (d.1, part d.2)
  ends_by status (inr (inr d)) = subst goes (sym d.0) (inr (is.reports, part d.1))

  pub report_ends : (status : Status) → DeliversReport failed old new r status → EndsOwed o failed old new status
  report_ends status d = ends_by status (d due.history due.told)

  pub report_unread : (status : Status) → DeliversReport failed old new r status → status ≡ ReadFault → ⊥
  report_unread status d e = settled.never_read failed old new r status due.history due.told d e

  pub report_failed : (status : Status) → DeliversReport failed old new r status → status ≡ WriteFault → failed
  report_failed status d e = settled.write_failed failed old new r status due.history due.told d e

pub ruleset reports_end = (report_ends, report_unread, report_failed)
