-- What the command `check` answers.
use Rattle.std.specs.Prelude.{◌≡◌, ℕ, List, [], ◌∷◌, ◌++◌, Option, Some, None, IfSome, Result, Ok, Err, codes}
use Rattle.std.specs.Prelude.{decimal}
use Rattle.presentation.specs.Presented.{Presented}
use Rattle.presentation.specs.Reading.{presentation_text}
use Rattle.vector_text.specs.Spelling.{place_text}
use Rattle.cert_checker.specs.declared.checked.Checked.{Checked}
use Rattle.cert_checker.specs.declared.faults.CertKind.{CertKind}
use Rattle.cert_checker.specs.declared.faults.CertKind.TheVariants.{Text, NoEntry, NotEqual, NotZero, Wide, Long}
use Rattle.cert_checker.specs.declared.faults.CertFault.{CertFault}
use Rattle.cert_checker.specs.declared.faults.CertFault.TheVariants as faults
use Rattle.cert_checker.specs.Texts.{Answers}
use Rattle.cert_checker.specs.Truth.{IsTrueReport}
use Rattle.command_floor.specs.declared.status.Status.TheVariants.{Done, Fails}
use Rattle.command_floor.specs.declared.TheConstants.{PRESENTATION_BYTES}
use Rattle.check_commands.specs.declared.TheConstants.{REPORT_BYTES}
use Rattle.command_floor.specs.Answers.{Answer}
use Rattle.command_floor.specs.Parsing.{GivenWords}
use Rattle.check_commands.specs.declared.check.CheckWords.{CheckWords}
use Rattle.command_floor.specs.Files.{in_lines, FileLeads, BytesLead}

-- what `check` is asked: the names of a presentation and of a report
pub record CheckAsked : Type 0 where
  pub presentation : List ℕ
  pub report : List ℕ

abbrev pub two_names : List (List ℕ) → Option CheckAsked
two_names (p ∷ r ∷ []) = Some (record { presentation = p; report = r })
two_names _ = None

-- what it is asked by what is given behind its name: two words
abbrev pub check_in : GivenWords → Option CheckAsked
check_in g = two_names g.words

-- what the code holds of it
abbrev pub check_asked : CheckWords → CheckAsked
check_asked w = record { presentation = w.presentation.now; report = w.report.now }

-- the name that a kind of fault has in an answer
abbrev pub cert_text : List (List ℕ) → CertKind → List ℕ
cert_text names Text = codes "text"
cert_text names NoEntry = codes "no-entry"
cert_text names (NotEqual at) = codes "not-equal " ++ place_text names at
cert_text names (NotZero at) = codes "not-zero " ++ place_text names at
cert_text names Wide = codes "wide"
cert_text names Long = codes "long"

-- the report holds
abbrev pub holds : Checked → Answer
holds c = record {
  status = Done;
  text = codes "holds entries "
      ++ (decimal c.entries ++ (codes " proofs " ++ (decimal c.proofs ++ codes "\n")));
}

-- this line is the first that fails
abbrev pub fails : List (List ℕ) → ℕ → CertKind → Answer
fails names line kind = record {
  status = Fails;
  text =
      (codes "fails line " ++ decimal line ++ codes " ") ++ (cert_text names kind ++ codes "\n");
}

-- the answer to what the checker found
abbrev pub ShowsCheck : Presented → Result Checked CertFault → Answer → Type 0
ShowsCheck p (Ok c) a = a ≡ holds c
ShowsCheck p (Err (faults.Line line kind)) a = a ≡ fails p.names line kind
ShowsCheck p (Err faults.NoMemory) a = ⊥

-- the report is checked, and the answer says what came of it
abbrev pub ReportLeads : Presented → List ℕ → Answer → Type 0
ReportLeads p bytes a = (found : Result Checked CertFault) × Answers p bytes found × ShowsCheck p found a

-- the answer that is due to `check` over these texts; `counted` says that the shelf has counted a failure
abbrev pub CheckLeads : Type 0 → (List ℕ → Option (List ℕ)) → CheckAsked → Answer → Type 0
CheckLeads counted under q a =
    FileLeads counted PRESENTATION_BYTES q.presentation (under q.presentation) (in_lines presentation_text)
    (λ p. BytesLead counted REPORT_BYTES q.report (under q.report) (ReportLeads p)) a

-- the report that `check` was asked about is true over the presentation that the file spells: its entries lie in the
-- module, its trivial words are trivial, and its maps extend
abbrev pub AskedTrue : (List ℕ → Option (List ℕ)) → CheckAsked → Type 0
AskedTrue under q =
    IfSome (under q.presentation) (λ bytes. IfSome (under q.report) (λ report.
    (p : Presented) × (in_lines presentation_text bytes ≡ Ok p) × IsTrueReport p report))
