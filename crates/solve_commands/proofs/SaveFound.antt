-- From a completion without sessions to what `save` finds.
use Rattle.std.proofs.Common.{◌≡◌, ◌≢◌, ◌≤◌, ◌⊎◌, ◌+◌, ◌<◌, ◌^◌, inl, inr, ℕ, List, [], Option, Some, None, length, sym, ap, subst, ◌∙◌, refl, arith}
use Rattle.std.specs.Prelude.{Err, Result, option_map}
use Rattle.std.specs.List.{AllByRecursion}
use Rattle.presentation.specs.Presented.{Presented, IsPresented}
use Rattle.presentation.specs.Reading.{presentation_text}
use Rattle.outcomes.specs.declared.ends.End.{End}
use Rattle.outcomes.specs.declared.ends.End.TheVariants.{Sealed, Stopped, Full, Spent}
use Rattle.basis_entry.specs.Entries.{BasisEntry}
use Rattle.basis_entry.specs.Seals.{Seal, IsSeal}
use Rattle.pair_book.specs.declared.limits.Limits.{Limits}
use Rattle.report_text.specs.Histories.{History}
use Rattle.report_text.specs.Reports.{Reported, IsRecord, IsHistoryOf, reported}
use Rattle.saved_basis.specs.declared.faults.BasisFault.{BasisFault}
use Rattle.saved_basis.specs.Files.{AreWithin, basis_text}
use Rattle.saved_basis.specs.Reading.{ReadsBasis, IsReadBack}
use Rattle.command_floor.specs.declared.status.Status.{Status}
use Rattle.command_floor.specs.declared.status.Status.TheVariants.{Done, Open}
use Rattle.command_floor.specs.declared.TheConstants.{PRESENTATION_BYTES}
use Rattle.command_floor.specs.declared.answer.Halt.{Halt}
use Rattle.command_floor.specs.declared.answer.Halt.TheVariants.{Says, NoMemory}
use Rattle.command_floor.specs.Files.{in_lines, FileGives, HasCause}
use Rattle.legal_report.specs.declared.solving.Solved.{Solved}
use Rattle.legal_report.specs.Last.{AreLastKinds}
use Rattle.legal_report.specs.Legal.{IsLegal, seal_at}
use Rattle.legal_report.specs.Solutions.{IsSolution}
use Rattle.solve_commands.specs.Limits.{AreInTable}
use Rattle.solve_commands.specs.Presentations.{IsPresentedIn}
use Rattle.solve_commands.specs.Runs.{ShowsSettled, IsDue}
use Rattle.solve_commands.specs.Save.{SaveAsked, SaveLeads, IsDueBasis, GivesSaved}

-- ---- ends and seals

-- where there is a seal, the end is sealed, and it is that of the entries
sealed_is : (p : Presented) (es : List BasisEntry) (end : End) (s : Seal) → seal_at p es end ≡ Some s
    → (end ≡ Sealed) × (s ≡ record { source = p; entries = es })
sealed_is p es Sealed s e = (refl, cc)
sealed_is p es (Stopped t stop) s e = absurd (cc)
sealed_is p es (Full m c) s e = absurd (cc)
sealed_is p es (Spent c t) s e = absurd (cc)

-- where there is none, it isn't
unsealed_is : (p : Presented) (es : List BasisEntry) (end : End) → seal_at p es end ≡ None → end ≢ Sealed
unsealed_is p es Sealed none e = absurd (cc)
unsealed_is p es (Stopped t stop) none e = cc
unsealed_is p es (Full m c) none e = cc
unsealed_is p es (Spent c t) none e = cc

-- no value was there
pub none_of : {A B : Type 0} (f : A → B) (x : Option A) → ((y : A) → x ≡ Some y → ⊥) → option_map f x ≡ None
none_of f None none = refl
none_of f (Some y) none = absurd (none y refl)

-- a value was there
pub some_of : {A B : Type 0} (f : A → B) (x : Option A) (y : A) (b : B) → x ≡ Some y → f y ≡ b → option_map f x ≡ Some b
some_of f x y b is same = ap (option_map f) is ∙ ap Some same

module _ (counted : Type 0) (under : List ℕ → Option (List ℕ)) (q : SaveAsked) (p : Presented) (s : Solved) (presented : IsPresentedIn under q.presentation p)
    (solution : IsSolution p q.limits [] (reported s.report)) where
  abbrev r : Reported
  r = reported s.report

  legal : IsLegal p q.limits [] r
  legal = solution.solved.legal

  -- the report of a completion that isn't sealed is due
  pub open_due : AreLastKinds r s.last.items → r.seal ≡ None → IsDue (SaveLeads counted under q) s
  open_due last none =
      let unsealed : r.end ≢ Sealed = unsealed_is p r.entries r.end (sym legal.seal ∙ none) in
      record {
        reportable = solution.reportable;
        last = last;
        history = solution.history;
        told = solution.solved.told;
        shows = λ status settled. inr (inl (record {
          p = p;
          presented = presented;
          report = r;
          history = solution.history;
          solved = solution.solved;
          unsealed = unsealed;
          text = refl;
          status = left_open status settled (λ e. unsealed (sym solution.solved.told.end ∙ e));
        }));
      }
    where
      left_open : (status : Status) → ShowsSettled solution.history status → (solution.history.end ≡ Sealed → ⊥) → status ≡ Open
      left_open status (inl h) not = absurd (not h.1.0)
      left_open status (inr h) not = h.0

  -- the basis file of a sealed one is due
  module _ (table : AreInTable q.limits) (known : IsPresented p) (seal : Seal) (some : r.seal ≡ Some seal) (of_seal : IsSeal seal)
      (law : (x : Seal) (base : ℕ) → IsPresented x.source → IsSeal x → IsRecord x.source base x.entries → AreWithin x.entries
      → (read : Result Seal BasisFault) → ReadsBasis x.source (basis_text x.source x.entries) read → IsReadBack x read) where
    is : (r.end ≡ Sealed) × (seal ≡ record { source = p; entries = r.entries })
    is = sealed_is p r.entries r.end seal (sym legal.seal ∙ some)

    abbrev made : Seal
    made = record { source = p; entries = r.entries }

    log : IsRecord p solution.reportable.base r.entries
    log = subst (λ (x : Presented). IsRecord x solution.reportable.base r.entries) legal.pres solution.reportable.entries

    within : AreWithin r.entries
    within =
        let entries = legal.within.entries in
        let terms = legal.within.terms in
        let steps = legal.within.steps in
        let most = table.most in
        let most_terms = table.terms in
        let most_steps = table.steps in
        record {
          entries = omega (arith, entries, most);
          terms = omega (arith, terms, most_terms);
          steps = omega (arith, steps, most_steps);
        }

    of_made : IsSeal made
    of_made = subst IsSeal is.1 of_seal

    made_due : IsDueBasis (SaveLeads counted under q) made
    made_due = record {
      base = solution.reportable.base;
      log = log;
      shows = inl (record {
        p = p;
        presented = presented;
        entries = r.entries;
        complete = record { base = legal.base; lawful = legal.lawful; within = legal.within; strong = of_made.strong };
        text = refl;
        reads_back = λ read reads. law made solution.reportable.base known of_made log within read reads;
        status = refl;
      });
    }

    pub basis_due : IsDueBasis (SaveLeads counted under q) seal
    basis_due = subst (IsDueBasis (SaveLeads counted under q)) (sym is.1) made_due

-- what `save` finds where the presentation's text has no value
pub not_presented : (counted : Type 0) (under : List ℕ → Option (List ℕ)) (q : SaveAsked) (halt : Halt) → HasCause counted halt
    → FileGives (λ (p : Presented). p) counted PRESENTATION_BYTES q.presentation (under q.presentation) (in_lines presentation_text) (Err halt)
    → GivesSaved (SaveLeads counted under q) (Err halt)
not_presented counted under q (Says a) cause fails = inr (inr (cause.0, cause.1, fails))
not_presented counted under q NoMemory cause fails = tt
