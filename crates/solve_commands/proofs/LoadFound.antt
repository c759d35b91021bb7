-- From what is read to the report that `load` finds.
use Rattle.std.proofs.Common.{◌≡◌, ◌≢◌, ◌≤◌, ◌⊎◌, inl, inr, ℕ, List, Option, Some, None, length, sym, subst, ◌∙◌, refl}
use Rattle.std.specs.Prelude.{Ok, Err, IfSome}
use Rattle.presentation.specs.Presented.{Presented}
use Rattle.presentation.specs.Reading.{presentation_text}
use Rattle.basis_entry.specs.Base.{AreBase}
use Rattle.basis_entry.specs.Entries.{BasisEntry, vectors_of}
use Rattle.basis_entry.specs.Seals.{Seal, IsStrongBasis}
use Rattle.session_core.specs.Sessions.{SessionState}
use Rattle.report_text.specs.Reports.{reported}
use Rattle.command_floor.specs.declared.TheConstants.{PRESENTATION_BYTES}
use Rattle.command_floor.specs.declared.answer.Halt.{Halt}
use Rattle.command_floor.specs.declared.answer.Halt.TheVariants.{Says, NoMemory}
use Rattle.command_floor.specs.Answers.{Answer}
use Rattle.command_floor.specs.Files.{in_lines, FileGives, HasCause}
use Rattle.legal_report.specs.declared.solving.Solved.{Solved}
use Rattle.legal_report.specs.Gathering.{questions_of}
use Rattle.legal_report.specs.Last.{AreLastKinds}
use Rattle.legal_report.specs.Solutions.{AreNewSessions}
use Rattle.loaded_report.specs.Loaded.{AreUnasked, IsLoadedSolution}
use Rattle.saved_basis.specs.declared.faults.BasisFault.{BasisFault}
use Rattle.saved_basis.specs.Reading.{IsBasisFile, ReadsBasis}
use Rattle.solve_commands.specs.declared.bases.TheConstants.{BASIS_BYTES}
use Rattle.solve_commands.specs.Bases.{IsBasisIn, BasisFails, BasisGives, SaysFault, RefusesBasis}
use Rattle.solve_commands.specs.Load.{LoadAsked, LoadLeads, AskedStrong}
use Rattle.solve_commands.specs.Presentations.{IsPresentedIn}
use Rattle.solve_commands.specs.Runs.{IsDue, GivesReport}
use Rattle.solve_commands.specs.SessionFiles.{AreQuestionsUnder, SessionsGive}
use Rattle.solve_commands.proofs.SessionFiles.{fail_same}

-- the texts have these values, and this is the report of the answers by the basis
pub due : (counted : Type 0) (under : List ℕ → Option (List ℕ)) (q : LoadAsked) (p : Presented) (es : List BasisEntry) (ss : List SessionState) (s : Solved)
    → IsPresentedIn under q.presentation p → IsBasisIn under q.basis p es → AreQuestionsUnder under p q.sessions (questions_of ss)
    → IsLoadedSolution p es (questions_of ss) (reported s.report) → AreLastKinds (reported s.report) s.last.items → IsDue (LoadLeads counted under q) s
due counted under q p es ss s presented basis asked solution last =
    record {
      reportable = solution.reportable;
      last = last;
      history = solution.history;
      told = solution.answered.told;
      shows = λ status settled. inl (record {
        report = reported s.report;
        history = solution.history;
        found = record {
          p = p;
          presented = presented;
          entries = es;
          basis = basis;
          questions = questions_of ss;
          asked = asked;
          answered = solution.answered;
        };
        text = refl;
        status = settled;
      });
    }

-- a basis of this presentation
strong_in : (under : List ℕ → Option (List ℕ)) (q : LoadAsked) (p : Presented) (es : List BasisEntry) (one two : Option (List ℕ))
    → IfSome one (λ bytes. (length bytes ≤ PRESENTATION_BYTES) × (in_lines presentation_text bytes ≡ Ok p))
    → IfSome two (λ bytes. (length bytes ≤ BASIS_BYTES) × IsBasisFile p bytes es) → IsStrongBasis p (vectors_of es)
    → IfSome one (λ bytes. IfSome two (λ file. (x : Presented) × (xs : List BasisEntry) × (in_lines presentation_text bytes ≡ Ok x) × IsBasisFile x file xs
    × IsStrongBasis x (vectors_of xs)))
strong_in under q p es None two presented basis strong = tt
strong_in under q p es (Some bytes) None presented basis strong = tt
strong_in under q p es (Some bytes) (Some file) presented basis strong = (p, es, presented.1, basis.1, strong)

pub asked_strong : (under : List ℕ → Option (List ℕ)) (q : LoadAsked) (p : Presented) (es : List BasisEntry)
    → IsPresentedIn under q.presentation p → IsBasisIn under q.basis p es → IsStrongBasis p (vectors_of es) → AskedStrong under q
asked_strong under q p es presented basis strong = strong_in under q p es (under q.presentation) (under q.basis) presented basis strong

-- what `load` finds where the presentation's text has no value
pub not_presented : (counted : Type 0) (under : List ℕ → Option (List ℕ)) (q : LoadAsked) (halt : Halt) → HasCause counted halt
    → FileGives (λ (p : Presented). p) counted PRESENTATION_BYTES q.presentation (under q.presentation) (in_lines presentation_text) (Err halt)
    → GivesReport (LoadLeads counted under q) (Err halt)
not_presented counted under q (Says a) cause fails = inr (cause.0, cause.1, inl fails)
not_presented counted under q NoMemory cause fails = tt

fails_later : (counted later : Type 0) → (counted → later) → (p : Presented) (name : List ℕ) (told : Option (List ℕ)) (a : Answer)
    → BasisFails counted p name told a → BasisFails later p name told a
fails_later counted later on p name told a (inl h) = inl (on h.0, h.1)
fails_later counted later on p name told a (inr h) = inr h

-- what its bytes are refused for
pub basis_refused : (counted : Type 0) (p : Presented) (name : List ℕ) (told : Option (List ℕ)) (v : List ℕ) (fault : BasisFault) (halt : Halt)
    → length v ≤ BASIS_BYTES → IfSome told (λ bytes. v ≡ bytes) → ReadsBasis p v (Err fault) → RefusesBasis p fault halt
    → BasisGives counted p name told (Err halt)
basis_refused counted p name None v fault (Says a) few same reads refuses = inr tt
basis_refused counted p name (Some bytes) v fault (Says a) few same reads refuses =
    inr (inr (subst (λ (x : List ℕ). (length x ≤ BASIS_BYTES) × ((f : BasisFault) × ReadsBasis p x (Err f) × SaysFault p f a)) same
    (few, (fault, reads, refuses))))
basis_refused counted p name told v fault NoMemory few same reads refuses = tt

-- a basis that was read from a shelf which tells the same
pub basis_in : (u v : List ℕ → Option (List ℕ)) → ((n : List ℕ) → u n ≡ v n) → (counted : Type 0) (p : Presented) (name : List ℕ) (s : Seal)
    → BasisGives counted p name (u name) (Ok s) → IsBasisIn v name p s.entries
basis_in u v same counted p name s gives =
    subst (λ (told : Option (List ℕ)). IfSome told (λ bytes. (length bytes ≤ BASIS_BYTES) × IsBasisFile p bytes s.entries)) (same name) gives

module _ (counted later : Type 0) (on : counted → later) (u v : List ℕ → Option (List ℕ)) (same : (n : List ℕ) → u n ≡ v n) (q : LoadAsked) (p : Presented)
    (presented : IsPresentedIn v q.presentation p) where
  -- where the text is no basis
  pub no_basis : (halt : Halt) → HasCause counted halt → BasisGives counted p q.basis (u q.basis) (Err halt) → GivesReport (LoadLeads later v q) (Err halt)
  no_basis (Says a) cause fails =
      inr (
        cause.0,
        cause.1,
        inr (
          p,
          presented,
          inl (fails_later counted later on p q.basis (v q.basis) a (subst (λ (told : Option (List ℕ)). BasisFails counted p q.basis told a)
              (same q.basis) fails)),
        ),
      )
  no_basis NoMemory cause fails = tt

  -- and where a session's text has no value
  pub halted : (es : List BasisEntry) → IsBasisIn v q.basis p es → (halt : Halt) → HasCause counted halt
      → SessionsGive counted u p q.sessions (Err halt) → GivesReport (LoadLeads later v q) (Err halt)
  halted es basis (Says a) cause fail =
      inr (cause.0, cause.1, inr (p, presented, inr (es, basis, fail_same u v same counted later on p q.sessions a fail)))
  halted es basis NoMemory cause fail = tt

-- sessions that were read, whose base is the number of generator entries
pub unasked : (p : Presented) (n : ℕ) (ss : List SessionState) → ((es : List BasisEntry) → AreBase p es → n ≡ length es) → AreNewSessions p n ss
    → AreUnasked p ss
unasked p n ss count new = record { least = n; count = λ es base. sym (count es base); new = new }
