-- Whether a report is settled, and what its delivery isn't.
use Rattle.std.proofs.Common.{◌≡◌, ◌⊎◌, ℕ, zero, suc, inl, inr, List, Option, sym, ◌∙◌, arith, refl}
use Rattle.outcomes.specs.declared.ends.End.{End}
use Rattle.outcomes.specs.declared.ends.End.TheVariants as ends
use Rattle.report_text.specs.Histories.{History}
use Rattle.report_text.specs.Reports.{Reported, IsHistoryOf}
use Rattle.command_floor.specs.declared.status.Status.{Status}
use Rattle.command_floor.specs.declared.status.Status.TheVariants.{Done, Open, WriteFault, NoMemory, ReadFault}
use Rattle.legal_report.specs.declared.last.Kind.TheVariants.{Stop}
use Rattle.legal_report.specs.Last.{how_many, last_kinds}
use Rattle.solve_commands.specs.Runs.{ShowsSettled, WritesReport, DeliversReport}

sealed_or : (e : End) → (e ≡ ends.Sealed) ⊎ (e ≡ ends.Sealed → ⊥)
sealed_or ends.Sealed = inl refl
sealed_or (ends.Stopped t stop) = inr (λ e. absurd cc)
sealed_or (ends.Full m c) = inr (λ e. absurd cc)
sealed_or (ends.Spent c t) = inr (λ e. absurd cc)

none_or : (n : ℕ) → (n ≡ 0) ⊎ (n ≡ 0 → ⊥)
none_or zero = inl refl
none_or (suc n) = inr (λ e. absurd (omega (arith, e)))

settled_by : (h : History) → (h.end ≡ ends.Sealed) ⊎ (h.end ≡ ends.Sealed → ⊥)
    → (how_many Stop (last_kinds h) ≡ 0) ⊎ (how_many Stop (last_kinds h) ≡ 0 → ⊥) → (status : Status) × ShowsSettled h status
settled_by h (inl e) (inl none) = (Done, inl (refl, (e, none)))
settled_by h (inl e) (inr some) = (Open, inr (refl, λ is. some is.1))
settled_by h (inr not) other = (Open, inr (refl, λ is. not is.0))

-- a status that shows whether the report is settled
pub some_status : (h : History) → (status : Status) × ShowsSettled h status
some_status h = settled_by h (sealed_or h.end) (none_or (how_many Stop (last_kinds h)))

-- a report that was delivered is no read fault, and a write fault only where the sink has counted one
module _ (failed : Type 0) (old new : Option (List ℕ)) (r : Reported) (status : Status) where
  no_read : (h : History) → WritesReport failed old new r h status → status ≡ ReadFault → ⊥
  no_read h (inl (inl s, took)) e = absurd (let x : Done ≡ ReadFault = sym s.0 ∙ e in cc)
  no_read h (inl (inr s, took)) e = absurd (let x : Open ≡ ReadFault = sym s.0 ∙ e in cc)
  no_read h (inr (inl d)) e = absurd (let x : WriteFault ≡ ReadFault = sym d.0 ∙ e in cc)
  no_read h (inr (inr d)) e = absurd (let x : NoMemory ≡ ReadFault = sym d.0 ∙ e in cc)

  has_failed : (h : History) → WritesReport failed old new r h status → status ≡ WriteFault → failed
  has_failed h (inl (inl s, took)) e = absurd (let x : Done ≡ WriteFault = sym s.0 ∙ e in cc)
  has_failed h (inl (inr s, took)) e = absurd (let x : Open ≡ WriteFault = sym s.0 ∙ e in cc)
  has_failed h (inr (inl d)) e = d.1
  has_failed h (inr (inr d)) e = absurd (let x : NoMemory ≡ WriteFault = sym d.0 ∙ e in cc)

  pub never_read : (h : History) → IsHistoryOf r h → DeliversReport failed old new r status → status ≡ ReadFault → ⊥
  never_read h told d e = no_read h (d h told) e

  pub write_failed : (h : History) → IsHistoryOf r h → DeliversReport failed old new r status → status ≡ WriteFault → failed
  write_failed h told d e = has_failed h (d h told) e
