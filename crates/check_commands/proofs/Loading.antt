-- From a text that was loaded to the answer that is due.
use Rattle.std.proofs.Common.{◌≡◌, inl, inr, ℕ, ◌≤◌, List, length, codes, sym, subst, Vec, Global}
use Rattle.std.specs.Prelude.{Option, Some, None, IfSome, Result, Ok, Err}
use Rattle.free_words.specs.declared.letter.Letter.{Letter}
use Rattle.word_text.specs.declared.fault.TextFault.{TextFault}
use Rattle.presentation.specs.Presented.{Presented}
use Rattle.presentation.specs.Reading.{presentation_text}
use Rattle.cert_checker.specs.declared.faults.CertFault.TheVariants as checking
use Rattle.report_reading.specs.declared.data.ReportData.{ReportData}
use Rattle.report_reading.specs.declared.fault.ReportFault.TheVariants as reading
use Rattle.flat_cert.specs.declared.lines.Flat.{Flat}
use Rattle.flat_cert.specs.declared.faults.FlatTextFault.TheVariants as texts
use Rattle.flat_cert.specs.Texts.{ReadsText}
use Rattle.command_floor.specs.declared.answer.Halt.{Halt}
use Rattle.command_floor.specs.declared.answer.Halt.TheVariants.{Says, NoMemory}
use Rattle.command_floor.specs.declared.TheConstants.{PRESENTATION_BYTES}
use Rattle.command_floor.specs.Answers.{Answer}
use Rattle.command_floor.specs.Files.{in_lines, read_word, ReadLeads, BytesLead, CommandEnd}
use Rattle.command_floor.proofs.Leading.{gives_lead}
use Rattle.check_commands.specs.declared.TheConstants.{REPORT_BYTES, CERTIFICATE_BYTES}
use Rattle.check_commands.specs.Reports.{CheckedReportLeads, ReportCommandLeads, SaysAndHolds, ReportFails, LoadsReport}
use Rattle.check_commands.specs.Sum.{SumAsked, CertificateLeads, CertificateFails, LoadsCertificate, CheckLeads, WordLeads, SumLeads}

-- what goes wrong with bytes leads to its answer, whatever would come next
pub wrong_leads : (counted later : Type 0) → (counted → later) → (limit : ℕ) (name : List ℕ) (told told' : Option (List ℕ))
    → told ≡ told' → (fails next : List ℕ → Answer → Type 0) (a : Answer) → ((bytes : List ℕ) → fails bytes a → next bytes a)
    → BytesLead counted limit name told fails a → BytesLead later limit name told' next a
wrong_leads counted later on limit name told told' same fails next a goes h =
    subst (λ (t : Option (List ℕ)). BytesLead later limit name t next a) same (by told h)
  where
    by : (told : Option (List ℕ)) → BytesLead counted limit name told fails a → BytesLead later limit name told next a
    by told (inl h) = inl (on h.0, h.1)
    by None (inr h) = inr tt
    by (Some bytes) (inr (inl h)) = inr (inl h)
    by (Some bytes) (inr (inr h)) = inr (inr (h.0, goes bytes h.1))

-- bytes that give something lead to what comes next
pub right_leads : (later : Type 0) (limit : ℕ) (name : List ℕ) (told told' : Option (List ℕ)) → told ≡ told'
    → (Gives : List ℕ → Type 0) (next : List ℕ → Answer → Type 0) (a : Answer) → ((bytes : List ℕ) → Gives bytes → next bytes a)
    → IfSome told (λ bytes. (length bytes ≤ limit) × Gives bytes) → BytesLead later limit name told' next a
right_leads later limit name told told' same Gives next a goes h =
    subst (λ (t : Option (List ℕ)). BytesLead later limit name t next a) same (by told h)
  where
    by : (told : Option (List ℕ)) → IfSome told (λ bytes. (length bytes ≤ limit) × Gives bytes) → BytesLead later limit name told next a
    by None h = inr tt
    by (Some bytes) h = inr (inr (h.0, goes bytes h.1))

-- ---- reports

module _ (p : Presented) (name : List ℕ) (next : ReportData → Answer → Type 0) (bytes : List ℕ) (a : Answer) where
  pub report_fails : ReportFails p name bytes a → CheckedReportLeads p name next bytes a
  report_fails (inl h) = (Err (reading.Line h.0), h.1, h.2)
  report_fails (inr h) = (Ok h.0, h.1, (Err (checking.Line h.2.0 h.2.1), h.2.2, h.2.3))

  pub report_says : (d : ReportData) → next d a → SaysAndHolds p d bytes → CheckedReportLeads p name next bytes a
  report_says d on h = (Ok d, h.0, (Ok h.1.0, h.1.1, on))

-- ---- certificates

module _ (p : Presented) (name : List ℕ) (next : List Flat → Answer → Type 0) (bytes : List ℕ) (a : Answer) where
  pub certificate_fails : CertificateFails p name bytes a → CertificateLeads p name next bytes a
  certificate_fails h = (Err (texts.Line h.0), h.1, h.2)

  pub certificate_says : (list : Vec Flat Global) → next list.items a → ReadsText p bytes (Ok list) → CertificateLeads p name next bytes a
  certificate_says list on h = (Ok list, h, on)

-- ---- commands

module _ (counted later : Type 0) (on : counted → later) (under : List ℕ → Option (List ℕ)) (told : Option (List ℕ)) (presentation report : List ℕ)
    (same : told ≡ under report) (next : Presented → ReportData → Answer → Type 0) (p : Presented)
    (presented : IfSome (under presentation) (λ bytes. (length bytes ≤ PRESENTATION_BYTES) × (in_lines presentation_text bytes ≡ Ok p))) where
  abbrev BehindPresentation : Presented → Answer → Type 0
  BehindPresentation q a = BytesLead later REPORT_BYTES report (under report) (CheckedReportLeads q report (next q)) a

  abbrev Leads : Answer → Type 0
  Leads a = ReportCommandLeads later under presentation report next a

  reading_leads : (a : Answer) → BehindPresentation p a → Leads a
  reading_leads a h = gives_lead later PRESENTATION_BYTES presentation (under presentation) (in_lines presentation_text) BehindPresentation p a presented h

  pub report_halts : (h : Halt) → LoadsReport p counted report told (Err h) → CommandEnd Leads (Err h)
  report_halts (Says a) loads =
      reading_leads a (wrong_leads counted later on REPORT_BYTES report told (under report) same (ReportFails p report) (CheckedReportLeads p report (next p)) a
      (λ bytes fails. report_fails p report (next p) bytes a fails) loads)
  report_halts NoMemory loads = tt

  pub report_goes : (d : ReportData) (a : Answer) → LoadsReport p counted report told (Ok d) → next p d a → Leads a
  report_goes d a loads goes =
      reading_leads a (right_leads later REPORT_BYTES report told (under report) same (SaysAndHolds p d) (CheckedReportLeads p report (next p)) a
      (λ bytes says. report_says p report (next p) bytes a d goes says) loads)

module _ (counted later : Type 0) (on : counted → later) (under : List ℕ → Option (List ℕ)) (told : Option (List ℕ)) (q : SumAsked)
    (same : told ≡ under q.certificate) (p : Presented)
    (presented : IfSome (under q.presentation) (λ bytes. (length bytes ≤ PRESENTATION_BYTES) × (in_lines presentation_text bytes ≡ Ok p)))
    (w : List Letter) (word : read_word p q.word ≡ Ok w) where
  abbrev BehindWord : List Letter → Answer → Type 0
  BehindWord v a = BytesLead later CERTIFICATE_BYTES q.certificate (under q.certificate) (CertificateLeads p q.certificate (CheckLeads p v)) a

  sum_leads : (a : Answer) → BehindWord w a → SumLeads later under q a
  sum_leads a h =
      gives_lead later PRESENTATION_BYTES q.presentation (under q.presentation) (in_lines presentation_text) (WordLeads later under q) p a presented
      (subst (λ (r : Result (List Letter) TextFault). ReadLeads (codes "word") r BehindWord a) (sym word) h)

  pub sum_halts : (h : Halt) → LoadsCertificate p counted q.certificate told (Err h) → CommandEnd (SumLeads later under q) (Err h)
  sum_halts (Says a) loads =
      sum_leads a (wrong_leads counted later on CERTIFICATE_BYTES q.certificate told (under q.certificate) same (CertificateFails p q.certificate)
      (CertificateLeads p q.certificate (CheckLeads p w)) a
      (λ bytes fails. certificate_fails p q.certificate (CheckLeads p w) bytes a fails) loads)
  sum_halts NoMemory loads = tt

  pub sum_goes : (list : Vec Flat Global) (a : Answer) → LoadsCertificate p counted q.certificate told (Ok list) → CheckLeads p w list.items a
      → SumLeads later under q a
  sum_goes list a loads goes =
      sum_leads a (right_leads later CERTIFICATE_BYTES q.certificate told (under q.certificate) same (λ bytes. ReadsText p bytes (Ok list))
      (CertificateLeads p q.certificate (CheckLeads p w)) a (λ bytes reads. certificate_says p q.certificate (CheckLeads p w) bytes a list goes reads) loads)
