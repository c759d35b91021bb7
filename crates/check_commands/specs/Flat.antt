-- What the command `flat` answers.
use Rattle.std.specs.Prelude.{◌≡◌, ℕ, List, [], ◌∷◌, ◌++◌, Option, Some, None, option_map, Result, Ok, Err, Vec, codes}
use Rattle.std.specs.Prelude.{decimal}
use Rattle.std.specs.declared.alloc.Global.{Global}
use Rattle.free_words.specs.declared.letter.Letter.{Letter}
use Rattle.presentation.specs.Presented.{Presented}
use Rattle.formal_sums.specs.FormalSum.{Same}
use Rattle.module_vec.specs.declared.steps.Step.{Step}
use Rattle.module_vec.specs.Places.{same_place}
use Rattle.fox_calculus.specs.Fox.{fox}
use Rattle.flat_cert.specs.declared.faults.FlatFault.{FlatFault}
use Rattle.flat_cert.specs.declared.faults.FlatFault.TheVariants.{Beyond, NoMemory}
use Rattle.flat_cert.specs.declared.lines.Flat.{Flat}
use Rattle.flat_cert.specs.Images.{flat_image}
use Rattle.flat_cert.specs.Certificates.{certificate_sum}
use Rattle.flat_cert.specs.Texts.{IsCertificate, certificate_text}
use Rattle.report_reading.specs.declared.data.ReportData.{ReportData}
use Rattle.report_reading.specs.declared.entry.EntryData.{EntryData}
use Rattle.flat_making.specs.Making.{Answers}
use Rattle.command_floor.specs.declared.status.Status.TheVariants.{Done, Fails}
use Rattle.command_floor.specs.Answers.{Answer}
use Rattle.command_floor.specs.Numbers.{number_between}
use Rattle.command_floor.specs.Parsing.{GivenWords}
use Rattle.check_commands.specs.declared.flat.TheConstants.{MOST_NUMBER}
use Rattle.check_commands.specs.declared.flat.FlatWords.{FlatWords}
use Rattle.check_commands.specs.declared.flat.ProofNumber.{ProofNumber}
use Rattle.check_commands.specs.Check.{CheckAsked}
use Rattle.check_commands.specs.Faults.{beyond}
use Rattle.check_commands.specs.Replies.{proof_in}
use Rattle.check_commands.specs.Reports.{ReportCommandLeads}

-- what `flat` is asked: the names of a presentation and of a report, and which proof
pub record FlatAsked : Type 0 where
  pub presentation : List ℕ
  pub report : List ℕ
  pub proof : ProofNumber

-- a number of a session, a question or a subject
abbrev pub number : List ℕ → Option ℕ
number text = number_between 0 MOST_NUMBER text

abbrev pub of_numbers : Option ℕ → Option ℕ → Option ℕ → Option ProofNumber
of_numbers (Some s) (Some q) (Some j) = Some (record { session = s; question = q; subject = j })
of_numbers (Some s) (Some q) None = None
of_numbers (Some s) None j = None
of_numbers None q j = None

abbrev pub proof_number : List ℕ → List ℕ → List ℕ → Option ProofNumber
proof_number s q j = of_numbers (number s) (number q) (number j)

abbrev pub five : List (List ℕ) → Option FlatAsked
five (p ∷ r ∷ s ∷ q ∷ j ∷ []) =
    option_map (λ at. record { presentation = p; report = r; proof = at }) (proof_number s q j)
five _ = None

-- what it is asked by what is given behind its name: two names and three numbers
abbrev pub flat_in : GivenWords → Option FlatAsked
flat_in g = five g.words

-- what the code holds of it
abbrev pub flat_asked : FlatWords → FlatAsked
flat_asked w = record { presentation = w.presentation.now; report = w.report.now; proof = w.proof }

-- the report that it goes by
abbrev pub report_asked : FlatAsked → CheckAsked
report_asked q = record { presentation = q.presentation; report = q.report }

-- there is no such proof
abbrev pub no_proof : ProofNumber → Answer
no_proof at = record {
  status = Fails;
  text = codes "no proof " ++ decimal at.session ++ codes " " ++ decimal at.question ++ codes " "
      ++ decimal at.subject ++ codes "\n";
}

-- the text of a certificate whose sum is the flat image of the Fox vector of w
pub record ShowsFlat (p : Presented) (w : List Letter) (list : List Flat) (a : Answer) : Type 0 where
  pub is : a ≡ record { status = Done; text = certificate_text p.names list }
  pub certificate : IsCertificate p list
  pub sum : Same same_place (flat_image (certificate_sum p list)) (flat_image (fox w))

-- what was made of the proof
abbrev pub ShowsMade : Presented → List Letter → Result (Vec Flat Global) FlatFault → Answer → Type 0
ShowsMade p w (Ok list) a = ShowsFlat p w list.items a
ShowsMade p w (Err Beyond) a = a ≡ beyond
ShowsMade p w (Err NoMemory) a = ⊥

-- the flat certificate of a proof of w by these entries is made, and the answer says what came of it
abbrev pub CertificateLeads : Presented → List EntryData → List Letter → List Step → Answer → Type 0
CertificateLeads p es w proof a = (made : Result (Vec Flat Global) FlatFault) × Answers p es proof made
    × ShowsMade p w made a

abbrev pub FoundLeads : Presented → ProofNumber → List EntryData → Option (List Letter × List Step) → Answer → Type 0
FoundLeads p at es None a = a ≡ no_proof at
FoundLeads p at es (Some found) a = CertificateLeads p es found.0 found.1 a

-- the subject that is asked for has its certificate, or no proof
abbrev pub ProofLeads : Presented → ProofNumber → ReportData → Answer → Type 0
ProofLeads p at d a = FoundLeads p at d.entries (proof_in at d.replies) a

-- the answer that is due to `flat` over these texts; `counted` says that the shelf has counted a failure
abbrev pub FlatLeads : Type 0 → (List ℕ → Option (List ℕ)) → FlatAsked → Answer → Type 0
FlatLeads counted under q a =
    ReportCommandLeads counted under q.presentation q.report (λ p. ProofLeads p q.proof) a
