-- From what was made of a proof to the answer that is due.
use Rattle.std.proofs.Common.{◌≡◌, ℕ, List, Vec, Global, sym, subst}
use Rattle.std.specs.Prelude.{Some, Result, Ok, Err, IfOk}
use Rattle.free_words.specs.declared.letter.Letter.{Letter}
use Rattle.presentation.specs.Presented.{Presented}
use Rattle.formal_sums.specs.FormalSum.{Same}
use Rattle.module_vec.specs.declared.steps.Step.{Step}
use Rattle.module_vec.specs.Modules.{sum_of_steps}
use Rattle.module_vec.specs.Places.{same_place}
use Rattle.flat_cert.specs.declared.lines.Flat.{Flat}
use Rattle.flat_cert.specs.Images.{flat_image}
use Rattle.flat_cert.specs.Certificates.{certificate_sum}
use Rattle.flat_cert.specs.Texts.{IsCertificate, certificate_text}
use Rattle.report_reading.specs.declared.data.ReportData.{ReportData}
use Rattle.report_reading.specs.declared.entry.EntryData.{EntryData}
use Rattle.flat_making.specs.Checked.{IsShownBy, IsChecked}
use Rattle.flat_making.specs.Making.{Answers, vectors_of}
use Rattle.flat_making.proofs.Accepted.{is_image}
use Rattle.command_floor.specs.declared.status.Status.TheVariants.{Done}
use Rattle.command_floor.specs.Answers.{Answer}
use Rattle.check_commands.specs.declared.flat.ProofNumber.{ProofNumber}
use Rattle.check_commands.specs.Flat.{CertificateLeads, FoundLeads, ProofLeads}
use Rattle.check_commands.specs.Replies.{proof_in}
use Rattle.check_commands.proofs.Answering.{found_shown}

-- the certificate of a proof of w was written
pub made_leads : (p : Presented) (es : List EntryData) (w : List Letter) (proof : List Step) (list : Vec Flat Global) (text : List ℕ) (a : Answer)
    → Answers p es proof (Ok list) → IsCertificate p list.items
    → Same same_place (flat_image (certificate_sum p list.items)) (flat_image (sum_of_steps (vectors_of es) proof)) → IsShownBy p es w proof
    → a ≡ record { status = Done; text = text } → text ≡ certificate_text p.names list.items → CertificateLeads p es w proof a
made_leads p es w proof list text a made certificate sum shown is written = (
  Ok list,
  made,
  record {
    is = subst (λ (t : List ℕ). a ≡ record { status = Done; text = t }) written is;
    certificate = certificate;
    sum = is_image p es w proof list.items shown sum;
  },
)

module _ (p : Presented) (at : ProofNumber) (d : ReportData) (checked : IsChecked p d) where
  -- what a caller holds of the proof that is asked for
  pub record Asked (es : List EntryData) (steps : List Step) : Type 0 where
    pub word : List Letter
    pub found : proof_in at d.replies ≡ Some (word, steps)
    pub entries : es ≡ d.entries

  pub asked_shown : (es : List EntryData) (steps : List Step) (a : Asked es steps) → IsShownBy p es a.word steps
  asked_shown es steps a =
      subst (λ (xs : List EntryData). IsShownBy p xs a.word steps) (sym a.entries) (found_shown p d at a.word steps checked a.found)

  pub asked_leads : {E : Type 0} (es : List EntryData) (steps : List Step) → Asked es steps → (r : Result Answer E)
      → IfOk r (λ a. (w : List Letter) → IsShownBy p es w steps → CertificateLeads p es w steps a) → IfOk r (ProofLeads p at d)
  asked_leads es steps asked (Ok a) leads =
      subst (λ f. FoundLeads p at d.entries f a) (sym asked.found)
      (subst (λ (xs : List EntryData). CertificateLeads p xs asked.word steps a) asked.entries (leads asked.word (asked_shown es steps asked)))
  asked_leads es steps asked (Err e) leads = tt
