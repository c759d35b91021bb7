-- The text of a history is told to hold, and nothing else is told of it.
use Rattle.std.proofs.Common.{◌≡◌, ℕ, ◌+◌, List, [], ◌∷◌, ◌++◌, length, take, Option, Some, None, refl, sym, ap, subst, ◌∙◌, arith}
use Rattle.std.proofs.lemmas.List.{length-map, take_all}
use Rattle.std.specs.Prelude.{Result, Ok, Err}
use Rattle.std.specs.List.{AllByRecursion}
use Rattle.word_text.specs.Place.{capped}
use Rattle.presentation.specs.Presented.{Presented, IsPresented}
use Rattle.module_vec.specs.declared.places.Term.{Term}
use Rattle.basis_entry.specs.Entries.{BasisEntry, vectors_of}
use Rattle.basis_entry.specs.Seals.{Seal, item_count}
use Rattle.basis_entry.proofs.Vectors.{are_entries}
use Rattle.outcomes.specs.declared.ends.End.{End}
use Rattle.report_lines.specs.declared.lines.Line.TheVariants as lines
use Rattle.report_lines.specs.Lines.{IsEndOf, IsLineOf}
use Rattle.report_lines.specs.Texts.{title, pres_line}
use Rattle.cert_checker.specs.declared.checked.Checked.{Checked}
use Rattle.cert_checker.specs.declared.faults.CertFault.{CertFault}
use Rattle.cert_checker.specs.declared.faults.CertFault.TheVariants as faults
use Rattle.cert_checker.specs.declared.phase.Phase.TheVariants.{Entries, Closing, Finished}
use Rattle.cert_checker.specs.declared.version.Version.{Version}
use Rattle.cert_checker.specs.declared.version.Version.TheVariants.{Whole}
use Rattle.cert_checker.specs.States.{start, IsOpen, HasGeneratorsIn}
use Rattle.cert_checker.specs.Truth.{report_text}
use Rattle.cert_checker.specs.Texts.{IsComplete, counts, Tells, TellsWhole, Answers}
use Rattle.report_text.specs.Histories.{SessionAnswers, History, item_lines, told_from, closing_of, lines_of}
use Rattle.report_text.specs.Reports.{Reported, IsReportable, IsHistoryOf, text_of}
use Rattle.report_acceptance.specs.Accepting.{IsKnown, IsAccepted, told_amount, proof_count}
use Rattle.report_acceptance.proofs.Generating.{one_generating}
use Rattle.report_acceptance.proofs.Taking.{after, whole, Leads, one, both, proofs_after, all_valid}
use Rattle.report_acceptance.proofs.Told.{whole_text, told_in}
use Rattle.report_acceptance.proofs.Alone.{alone}
use Rattle.report_acceptance.proofs.Proving.{IsAt}
use Rattle.report_acceptance.proofs.Sessions.{IsSessionTold, sessions_told}
use Rattle.report_acceptance.proofs.Answering.{all_closed}
use Rattle.report_acceptance.proofs.Items.{AreKnown, phase_of, get_first, length_take, vectors_over, items_taken}

-- ---- the lines of a history

is_open : (o : Option Seal) → IsOpen (phase_of o)
is_open None = tt
is_open (Some s) = tt

all_below : (es : List BasisEntry) (o : Option Seal) → take (item_count es o) es ≡ es
all_below es None = take_all (length es) es (omega arith)
all_below es (Some s) = take_all (length es + 1) es (omega arith)

module _ (p : Presented) (gens : List (List Term)) (pres : IsPresented p) (es : List BasisEntry) (seal : Option Seal) (base : ℕ)
    (known : AreKnown p gens base es)
    (ts : List SessionAnswers) (told : AllByRecursion (IsSessionTold p es seal base) ts) (end : End) (valid : IsEndOf (length p.names) end) where
  -- all items, with the answers between them
  body_taken : Leads p gens (IsAt Entries []) (told_from ts 0 (item_lines es seal)) (IsAt (phase_of seal) (vectors_of es))
  body_taken = items_taken p gens pres es seal base known ts told 0 es (omega arith) refl

  ending : Leads p gens (IsAt (phase_of seal) (vectors_of es)) (lines.End end ∷ []) (IsAt Closing (vectors_of es))
  ending =
      let number = length-map es (λ (e : BasisEntry). e.vector) in
      let all = known.generators in
      let within = known.within in
      one p gens (IsAt (phase_of seal) (vectors_of es)) (IsAt Closing (vectors_of es)) (lines.End end) valid (λ s h. h.whole)
      (λ s h. let same : length s.entries ≡ length (vectors_of es) = ap length h.entries in (
        (
          subst IsOpen (sym h.phase) (is_open seal),
          h.settled,
          subst (λ (v : Version). HasGeneratorsIn v gens s.entries) (sym h.whole) (omega (arith, same, number, all, within)),
        ),
        (tt, record { phase = refl; whole = h.whole; entries = h.entries; settled = h.settled }),
      ))

  closed : Leads p gens (IsAt Closing (vectors_of es)) (closing_of ts) (IsAt Closing (vectors_of es))
  closed =
      let number = length-map es (λ (e : BasisEntry). e.vector) in
      let few = known.few in
      all_closed p gens pres es seal base (vectors_of es) (are_entries es known.entries) (vectors_over (length p.names) es known.over)
      (omega (arith, number, few)) (ap vectors_of (all_below es seal)) ts told

  done : Leads p gens (IsAt Closing (vectors_of es)) (lines.Done ∷ []) (IsAt Finished (vectors_of es))
  done = one p gens (IsAt Closing (vectors_of es)) (IsAt Finished (vectors_of es)) lines.Done tt (λ s h. h.whole)
      (λ s h. ((h.phase, h.settled), (tt, record { phase = refl; whole = h.whole; entries = h.entries; settled = h.settled })))

  all_taken : Leads p gens (IsAt Entries []) (told_from ts 0 (item_lines es seal) ++ (lines.End end ∷ (closing_of ts ++ lines.Done ∷ [])))
      (IsAt Finished (vectors_of es))
  all_taken =
      both p gens (IsAt Entries []) (IsAt (phase_of seal) (vectors_of es)) (IsAt Finished (vectors_of es)) (told_from ts 0 (item_lines es seal))
      (lines.End end ∷ (closing_of ts ++ lines.Done ∷ [])) body_taken
      (both p gens (IsAt (phase_of seal) (vectors_of es)) (IsAt Closing (vectors_of es)) (IsAt Finished (vectors_of es)) (lines.End end ∷ [])
      (closing_of ts ++ lines.Done ∷ []) ending
      (both p gens (IsAt Closing (vectors_of es)) (IsAt Closing (vectors_of es)) (IsAt Finished (vectors_of es)) (closing_of ts) (lines.Done ∷ []) closed done))

-- ---- reports that can be written

module _ (r : Reported) (h : History) (known : IsKnown r) (can : IsReportable r) (is : IsHistoryOf r h) where
  pub are_known : AreKnown r.pres can.entries.begins.gens can.base r.entries
  are_known = record {
    entries = known.entries;
    over = can.over;
    few = can.few;
    within = can.entries.within;
    generators = sym can.entries.begins.count ∙ length_take r.entries can.base can.entries.within;
    begins = λ k e lt has. can.entries.begins.each k e (get_first r.entries can.base k e lt has);
    later = can.entries.later;
  }

  pub all_told : AllByRecursion (IsSessionTold r.pres r.entries r.seal can.base) h.sessions
  all_told = sessions_told r.pres r.entries r.seal can.base r.sessions h.sessions known.sessions can.fronts can.replies is.answered

  history_taken : Leads r.pres can.entries.begins.gens (IsAt Entries []) (lines_of h) (IsAt Finished (vectors_of r.entries))
  history_taken =
      subst (λ (x : List BasisEntry × Option Seal × End). Leads r.pres can.entries.begins.gens (IsAt Entries []) (told_from h.sessions 0 (item_lines x.0 x.1)
      ++ (lines.End x.2 ∷ (closing_of h.sessions ++ lines.Done ∷ []))) (IsAt Finished (vectors_of r.entries)))
      (λ i. (sym is.entries i, sym is.seal i, sym is.end i))
      (all_taken r.pres can.entries.begins.gens known.presented r.entries r.seal can.base are_known h.sessions all_told r.end known.end)

  begun : IsAt Entries [] (record start { phase = Entries })
  begun = record { phase = refl; whole = refl; entries = refl; settled = omega arith }

  -- each of the lines is one of a report
  pub valid_lines : AllByRecursion (IsLineOf r.pres) (lines_of h)
  valid_lines = all_valid r.pres can.entries.begins.gens (record start { phase = Entries }) (lines_of h)
      (history_taken.hold (record start { phase = Entries }) begun)

  last : IsAt Finished (vectors_of r.entries) (after (record start { phase = Entries }) (whole (lines_of h)))
  last = history_taken.then_is (record start { phase = Entries }) begun

  all_read : IsComplete (after (record start { phase = Entries }) (whole (lines_of h))) []
  all_read = record { finished = last.phase; settled = last.settled; nothing = refl }

  amount : counts (after (record start { phase = Entries }) (whole (lines_of h))) ≡ told_amount r h
  amount =
      let entries : length (after (record start { phase = Entries }) (whole (lines_of h))).entries ≡ length r.entries =
      ap length last.entries ∙ length-map r.entries (λ (e : BasisEntry). e.vector) in
      let proofs : (after (record start { phase = Entries }) (whole (lines_of h))).proofs ≡ capped (proof_count (lines_of h)) =
      proofs_after (record start { phase = Entries }) (lines_of h) 0 refl ∙ ap capped (omega arith) in
      λ i. record { entries = capped (entries i); proofs = proofs i }

  written : report_text Whole r.pres (whole (lines_of h)) ≡ text_of r h
  written = sym (ap (λ text. title ++ 10 ∷ (pres_line r.pres ++ 10 ∷ text)) (whole_text r.pres (lines_of h)))

  tells : Tells r.pres can.entries.begins.gens 1 start (text_of r h) (Ok (told_amount r h))
  tells =
      subst (λ text. Tells r.pres can.entries.begins.gens 1 start text (Ok (told_amount r h))) written
      (subst (λ c. Tells r.pres can.entries.begins.gens 1 start (report_text Whole r.pres (whole (lines_of h))) (Ok c)) amount
      (told_in r.pres can.entries.begins.gens known.presented Whole (whole (lines_of h)) tt (history_taken.hold (record start { phase = Entries }) begun)
      all_read))

  pub is_told : TellsWhole r.pres (text_of r h) (Ok (told_amount r h))
  is_told = record { generators = can.entries.begins.gens; are = can.entries.begins.generators; tells = tells }

  told_so : (c : Result Checked CertFault) → TellsWhole r.pres (text_of r h) c → c ≡ Ok (told_amount r h)
  told_so c t =
      let same : t.generators ≡ can.entries.begins.gens = one_generating r.pres t.generators can.entries.begins.gens t.are can.entries.begins.generators in
      alone r.pres known.presented can.entries.begins.gens 1 start (text_of r h) (Ok (told_amount r h)) c (told_amount r h) tells refl
      (subst (λ g. Tells r.pres g 1 start (text_of r h) c) same t.tells)

  pub is_accepted : (c : Result Checked CertFault) → Answers r.pres (text_of r h) c → IsAccepted r h c
  is_accepted (Ok c) answers = let e : Ok c ≡ Ok (told_amount r h) = told_so (Ok c) answers in cc
  is_accepted (Err (faults.Line n k)) answers = let e : Err (faults.Line n k) ≡ Ok (told_amount r h) = told_so (Err (faults.Line n k)) answers in absurd cc
  is_accepted (Err faults.NoMemory) answers = tt
