-- The text of the trimming of a legal report is told to hold, and nothing else is told of it.
use Rattle.std.proofs.Common.{◌≡◌, ℕ, ◌==◌, if◌then◌else◌, List, length, IsSome, refl, sym, ap, subst, ◌∙◌}
use Rattle.std.proofs.lemmas.List.{length-map}
use Rattle.std.specs.Prelude.{Result, Ok, Err}
use Rattle.word_text.specs.Place.{capped}
use Rattle.report_text.specs.Histories.{History}
use Rattle.report_text.specs.Reports.{Reported, IsReportable, IsHistoryOf}
use Rattle.report_reading.specs.declared.entry.EntryData.{EntryData}
use Rattle.report_reading.specs.declared.data.ReportData.{ReportData}
use Rattle.report_reading.specs.declared.form.Form.{Form}
use Rattle.report_reading.specs.declared.form.Form.TheVariants as forms
use Rattle.report_reading.specs.Forms.{form_of}
use Rattle.report_reading.specs.Reading.{IsReport, IsReportIn}
use Rattle.report_trimming.specs.Trimming.{IsTrimming}
use Rattle.cert_checker.specs.declared.checked.Checked.{Checked}
use Rattle.cert_checker.specs.declared.version.Version.TheVariants.{Trimmed}
use Rattle.cert_checker.specs.declared.faults.CertFault.{CertFault}
use Rattle.cert_checker.specs.declared.faults.CertFault.TheVariants as faults
use Rattle.cert_checker.specs.declared.phase.Phase.TheVariants.{Entries}
use Rattle.cert_checker.specs.States.{start}
use Rattle.cert_checker.specs.Texts.{counts, Tells, TellsWhole, Answers}
use Rattle.cert_checker.specs.Truth.{report_text}
use Rattle.report_acceptance.specs.Accepting.{IsKnown, IsTrimmedAccepted, proofs_in, data_amount}
use Rattle.report_acceptance.specs.Saying.{data_of}
use Rattle.report_acceptance.proofs.Generating.{one_generating}
use Rattle.report_acceptance.proofs.Taking.{after}
use Rattle.report_acceptance.proofs.Told.{told_in}
use Rattle.report_acceptance.proofs.Alone.{alone}
use Rattle.report_acceptance.proofs.Acceptance.{are_known, all_told}
use Rattle.report_acceptance.proofs.TrimmedTaking.{AreRight, AllTaken, all_taken}
use Rattle.report_acceptance.proofs.TrimmedRight.{trimming_right}

trimmed_form : (d : ReportData) → d.version ≡ 2 → form_of d ≡ forms.Trimmed d.items
trimmed_form d e = ap (λ v. if v == 1 then forms.Whole else forms.Trimmed d.items) e

module _ (r : Reported) (h : History) (known : IsKnown r) (can : IsReportable r) (is : IsHistoryOf r h) (t : ReportData) (trims : IsTrimming (data_of h) t)
    (text : List ℕ) (says : IsReport r.pres text t) where
  right : AreRight can.entries.begins.gens t.from t.entries t.replies
  right = trimming_right r.pres can.entries.begins.gens known.presented r.entries r.seal can.base (are_known r h known can is) h.sessions
      (all_told r h known can is) h is.entries refl t trims

  read : IsReportIn (forms.Trimmed t.items) r.pres text t
  read = subst (λ (f : Form). IsReportIn f r.pres text t) (trimmed_form t trims.version) says

  taken : AllTaken r.pres can.entries.begins.gens t.items read.told
      (subst (λ ks. AreRight can.entries.begins.gens ks read.told.entries read.told.replies) read.says.0.from
      (subst (λ es. AreRight can.entries.begins.gens t.from es read.told.replies) read.says.0.entries
      (subst (λ rs. AreRight can.entries.begins.gens t.from t.entries rs) read.says.0.replies right))) read.ls
  taken = all_taken r.pres can.entries.begins.gens t.items read.told
      (subst (λ ks. AreRight can.entries.begins.gens ks read.told.entries read.told.replies) read.says.0.from
      (subst (λ es. AreRight can.entries.begins.gens t.from es read.told.replies) read.says.0.entries
      (subst (λ rs. AreRight can.entries.begins.gens t.from t.entries rs) read.says.0.replies right)))
      read.ls read.begins.valid read.begins.tells read.says.0.finished (subst IsSome (sym read.says.0.end) refl)

  amount : counts (after (record start { phase = Entries; version = Trimmed t.items }) read.ls) ≡ data_amount t
  amount =
      let entries : length (after (record start { phase = Entries; version = Trimmed t.items }) read.ls).entries ≡ length t.entries =
      ap length taken.entries ∙ length-map read.told.entries (λ (e : EntryData). e.vector) ∙ sym (ap length read.says.0.entries) in
      let proofs : (after (record start { phase = Entries; version = Trimmed t.items }) read.ls).proofs ≡ capped (proofs_in t.replies) =
      taken.proofs ∙ sym (ap (λ rs. capped (proofs_in rs)) read.says.0.replies) in
      λ i. record { entries = capped (entries i); proofs = proofs i }

  tells : Tells r.pres can.entries.begins.gens 1 start text (Ok (data_amount t))
  tells = subst (λ bytes. Tells r.pres can.entries.begins.gens 1 start bytes (Ok (data_amount t))) (sym read.spelled)
      (subst (λ c. Tells r.pres can.entries.begins.gens 1 start (report_text (Trimmed t.items) r.pres read.ls) (Ok c)) amount
      (told_in r.pres can.entries.begins.gens known.presented (Trimmed t.items) read.ls read.says.1 taken.hold
      (record { finished = taken.finished; settled = taken.settled; nothing = refl })))

  pub trimming_holds : TellsWhole r.pres text (Ok (data_amount t))
  trimming_holds = record { generators = can.entries.begins.gens; are = can.entries.begins.generators; tells = tells }

  told_so : (c : Result Checked CertFault) → TellsWhole r.pres text c → c ≡ Ok (data_amount t)
  told_so c other =
      let same = one_generating r.pres other.generators can.entries.begins.gens other.are can.entries.begins.generators in
      alone r.pres known.presented can.entries.begins.gens 1 start text (Ok (data_amount t)) c (data_amount t) tells refl
      (subst (λ g. Tells r.pres g 1 start text c) same other.tells)

  pub trimming_accepted : (c : Result Checked CertFault) → Answers r.pres text c → IsTrimmedAccepted t c
  trimming_accepted (Ok c) answers = let e : Ok c ≡ Ok (data_amount t) = told_so (Ok c) answers in cc
  trimming_accepted (Err (faults.Line n k)) answers =
      let e : Err (faults.Line n k) ≡ Ok (data_amount t) = told_so (Err (faults.Line n k)) answers in absurd cc
  trimming_accepted (Err faults.NoMemory) answers = tt
