-- How a run ends that has a basis file to write.
use Rattle.std.proofs.Common.{◌≡◌, ℕ, inl, inr, List, [], ◌∷◌, ◌++◌, length, take, Option, sym, ap, subst, ◌∙◌, refl}
use Rattle.mb_io.specs.Shelf.{TakesPrefix}
use Rattle.basis_entry.specs.Seals.{Seal}
use Rattle.report_text.specs.Writing.{Stops}
use Rattle.saved_basis.specs.Files.{basis_text}
use Rattle.command_floor.specs.declared.status.Status.{Status}
use Rattle.command_floor.specs.declared.status.Status.TheVariants.{Done, WriteFault, NoMemory, ReadFault}
use Rattle.command_floor.specs.Answers.{Answer}
use Rattle.solve_commands.specs.Save.{DeliversBasis}
use Rattle.metab_run.specs.Owed.{Owed}
use Rattle.metab_run.specs.Top.{IsDueFile, EndsOwed}
use Rattle.metab_run.proofs.ReportEnds.{take_front}

module _ (o : Owed) (s : Seal) (is : IsDueFile o s) (failed : Type 0) (old new : Option (List ℕ)) where
  abbrev text : List ℕ
  text = basis_text s.source s.entries

  abbrev file : Answer
  file = record { status = Done; text = text }

  part : Stops old text new → (a : Answer) × (n : ℕ) × o.leads a × TakesPrefix old (take n a.text) new
  part stops =
      let front : take (length stops.front) text ≡ stops.front = ap (take (length stops.front)) stops.is ∙ take_front stops.front stops.rest in
      (file, length stops.front, is.due.shows, subst (λ (bs : List ℕ). TakesPrefix old bs new) (sym front) stops.took)

  abbrev goes : Status → Type 0
  goes status = EndsOwed o failed old new status

  pub file_ends : (status : Status) → DeliversBasis failed old new s status → EndsOwed o failed old new status
  file_ends status (inl d) = subst goes (sym d.0) (file, is.due.shows, refl, d.1)
  file_ends status (inr (inl d)) = subst goes (sym d.0) (d.1, part d.2)
  file_ends status (inr (inr d)) = subst goes (sym d.0) (inr (is.reports, part d.1))

  pub file_unread : (status : Status) → DeliversBasis failed old new s status → status ≡ ReadFault → ⊥
  file_unread status (inl d) e = absurd (let x : Done ≡ ReadFault = sym d.0 ∙ e in cc)
  file_unread status (inr (inl d)) e = absurd (let x : WriteFault ≡ ReadFault = sym d.0 ∙ e in cc)
  file_unread status (inr (inr d)) e = absurd (let x : NoMemory ≡ ReadFault = sym d.0 ∙ e in cc)

  pub file_failed : (status : Status) → DeliversBasis failed old new s status → status ≡ WriteFault → failed
  file_failed status (inl d) e = absurd (let x : Done ≡ WriteFault = sym d.0 ∙ e in cc)
  file_failed status (inr (inl d)) e = d.1
  file_failed status (inr (inr d)) e = absurd (let x : NoMemory ≡ WriteFault = sym d.0 ∙ e in cc)

pub ruleset files_end = (file_ends, file_unread, file_failed)
