-- What is told of the text of lines that are taken.
use Rattle.std.proofs.Common.{◌≡◌, ℕ, ◌+◌, List, [], ◌∷◌, ◌++◌, inl, inr, refl, ap, ◌∙◌, append_assoc}
use Rattle.std.specs.Prelude.{Some, Result, Ok}
use Rattle.spelling.specs.Spelling.{cut}
use Rattle.spelling.proofs.Cuts.{cut_here}
use Rattle.word_text.specs.Place.{capped}
use Rattle.presentation.specs.Presented.{Presented, IsPresented}
use Rattle.module_vec.specs.declared.places.Term.{Term}
use Rattle.report_lines.specs.declared.lines.Line.{Line}
use Rattle.report_lines.specs.declared.lines.Line.TheVariants as lines
use Rattle.report_lines.specs.declared.trimmed.TrimmedLine.{TrimmedLine}
use Rattle.report_lines.specs.declared.trimmed.TrimmedLine.TheVariants.{Entry, Other}
use Rattle.report_lines.specs.Texts.{title, pres_line, line_text, lines_text}
use Rattle.report_lines.specs.Trimmed.{trimmed_title, items_line, trimmed_line_text, trimmed_lines_text}
use Rattle.report_lines.proofs.Pairs.{literal}
use Rattle.cert_checker.specs.declared.checked.Checked.{Checked}
use Rattle.cert_checker.specs.declared.version.Version.{Version}
use Rattle.cert_checker.specs.declared.version.Version.TheVariants as versions
use Rattle.cert_checker.specs.declared.phase.Phase.{Phase}
use Rattle.cert_checker.specs.declared.phase.Phase.TheVariants.{Title, Presentation, Items, Entries, Sealed, Closing, Finished}
use Rattle.cert_checker.specs.declared.faults.CertFault.{CertFault}
use Rattle.cert_checker.specs.States.{State, start, LineFollows, next, with_line}
use Rattle.cert_checker.specs.Checking.{LineAgrees}
use Rattle.cert_checker.specs.Texts.{IsLineIn, BodyHolds, HoldsIn, BytesHold, IsComplete, counts, Tells}
use Rattle.cert_checker.specs.Truth.{report_text, IsVersion}
use Rattle.report_reading.specs.declared.form.Form.TheVariants as forms
use Rattle.report_reading.proofs.WordBytes.{IsOneLine}
use Rattle.report_reading.proofs.LineBytes.{whole_line, whole_line_in, head_line, items_whole}
use Rattle.report_acceptance.proofs.Taking.{after, AllHold, whole}

-- the lines of the head were taken
abbrev pub IsBehindHead : Phase → Type 0
IsBehindHead Title = ⊥
IsBehindHead Presentation = ⊥
IsBehindHead Items = ⊥
IsBehindHead Entries = Unit {0}
IsBehindHead Sealed = Unit {0}
IsBehindHead Closing = Unit {0}
IsBehindHead Finished = Unit {0}

next_behind : (s : State) (l : Line) → IsBehindHead s.phase → IsBehindHead (next s l).phase
next_behind s (lines.Entry number made vector) h = h
next_behind s lines.Seal h = tt
next_behind s (lines.Live session number front question verdict) h = h
next_behind s (lines.Proof subject steps) h = h
next_behind s (lines.End end) h = tt
next_behind s (lines.Close session number question verdict) h = h
next_behind s lines.Done h = tt

stays_behind : (s : State) (l : TrimmedLine) → IsBehindHead s.phase → IsBehindHead (with_line s l).phase
stays_behind s (Entry number from made vector) h = h
stays_behind s (Other l) h = next_behind s l h

module _ (p : Presented) (gens : List (List Term)) where
  from_body : (f : Phase) (s taken : State) (bytes : List ℕ) → IsBehindHead f → BodyHolds p gens s bytes taken → HoldsIn f p gens s bytes taken
  from_body Title s taken bytes h b = absurd h
  from_body Presentation s taken bytes h b = absurd h
  from_body Items s taken bytes h b = absurd h
  from_body Entries s taken bytes h b = b
  from_body Sealed s taken bytes h b = b
  from_body Closing s taken bytes h b = b
  from_body Finished s taken bytes h b = b

-- the lines of a whole report have the same text either way
pub whole_text : (p : Presented) (ls : List Line) → lines_text p ls ≡ trimmed_lines_text p (whole ls)
whole_text p [] = refl
whole_text p (l ∷ ls) = ap (λ text. (line_text p l ++ 10 ∷ []) ++ text) (whole_text p ls)

module _ (p : Presented) (gens : List (List Term)) (known : IsPresented p) where
  one_line_in : (v : Version) (l : TrimmedLine) → IsLineIn v p l → IsOneLine (trimmed_line_text p l)
  one_line_in versions.Whole (Entry number from made vector) h = absurd h
  one_line_in versions.Whole (Other l) h = whole_line p known l h
  one_line_in (versions.Trimmed items) l h = whole_line_in p known (forms.Trimmed items) l h

  line_cut : (v : Version) (l : TrimmedLine) (ls : List TrimmedLine) → IsLineIn v p l
      → cut 10 (trimmed_lines_text p (l ∷ ls)) ≡ Some (trimmed_line_text p l, trimmed_lines_text p ls)
  line_cut v l ls h = ap (cut 10) (append_assoc (trimmed_line_text p l) (10 ∷ []) (trimmed_lines_text p ls))
      ∙ cut_here 10 (trimmed_line_text p l) (trimmed_lines_text p ls) (one_line_in v l h)

  line_held : (s : State) (l : TrimmedLine) → IsBehindHead s.phase → IsLineIn s.version p l → LineFollows gens s l → LineAgrees gens s l
      → BytesHold p gens s (trimmed_line_text p l) (with_line s l)
  line_held s l behind valid follows agrees =
      from_body p gens s.phase s (with_line s l) (trimmed_line_text p l) behind
      (record { line = l; valid = valid; spelled = refl; holds = record { follows = follows; agrees = agrees; is = refl } })

  -- ---- the lines are taken

  pub told : (n : ℕ) (s : State) (ls : List TrimmedLine) → IsBehindHead s.phase → AllHold p gens s ls → IsComplete (after s ls) []
      → Tells p gens n s (trimmed_lines_text p ls) (Ok (counts (after s ls)))
  told n s [] behind h all = Tells.complete n s [] refl all
  told n s (l ∷ ls) behind h all =
      Tells.goes_on n s (with_line s l) (trimmed_lines_text p (l ∷ ls)) (trimmed_line_text p l) (trimmed_lines_text p ls) (Ok (counts (after s (l ∷ ls))))
      (line_cut s.version l ls h.0)
      (line_held s l behind h.0 h.1.0 h.1.1.0)
      (told (capped (n + 1)) (with_line s l) ls (stays_behind s l behind) h.1.1.1 all)

  -- ---- whole texts

  pres_cut : (rest : List ℕ) → cut 10 (pres_line p ++ 10 ∷ rest) ≡ Some (pres_line p, rest)
  pres_cut rest = cut_here 10 (pres_line p) rest (head_line p known)

  -- a report of either version, from behind its head on
  pub told_in : (v : Version) (ls : List TrimmedLine) → IsVersion v → AllHold p gens (record start { phase = Entries; version = v }) ls
      → IsComplete (after (record start { phase = Entries; version = v }) ls) []
      → Tells p gens 1 start (report_text v p ls) (Ok (counts (after (record start { phase = Entries; version = v }) ls)))
  told_in versions.Whole ls small h all =
      let r : Result Checked CertFault = Ok (counts (after (record start { phase = Entries }) ls)) in
      let rest = trimmed_lines_text p ls in
      Tells.goes_on 1 start (record start { phase = Presentation }) (title ++ 10 ∷ (pres_line p ++ 10 ∷ rest)) title (pres_line p ++ 10 ∷ rest) r
      (cut_here 10 title (pres_line p ++ 10 ∷ rest) (literal 10 title refl)) (inl (refl, refl))
      (Tells.goes_on (capped (1 + 1)) (record start { phase = Presentation }) (record start { phase = Entries }) (pres_line p ++ 10 ∷ rest)
      (pres_line p) rest r (pres_cut rest) (refl, refl)
      (told (capped (capped (1 + 1) + 1)) (record start { phase = Entries }) ls tt h all))
  told_in (versions.Trimmed items) ls small h all =
      let begun : State = record start { phase = Entries; version = versions.Trimmed items } in
      let r : Result Checked CertFault = Ok (counts (after begun ls)) in
      let rest = trimmed_lines_text p ls in
      let counted = items_line items ++ 10 ∷ rest in
      let first : State = record start { phase = Presentation; version = versions.Trimmed 0 } in
      let second : State = record start { phase = Items; version = versions.Trimmed 0 } in
      Tells.goes_on 1 start first (trimmed_title ++ 10 ∷ (pres_line p ++ 10 ∷ counted)) trimmed_title (pres_line p ++ 10 ∷ counted) r
      (cut_here 10 trimmed_title (pres_line p ++ 10 ∷ counted) (literal 10 trimmed_title refl)) (inr (refl, refl))
      (Tells.goes_on (capped (1 + 1)) first second (pres_line p ++ 10 ∷ counted) (pres_line p) counted r (pres_cut counted) (refl, refl)
      (Tells.goes_on (capped (capped (1 + 1) + 1)) second begun counted (items_line items) rest r
      (cut_here 10 (items_line items) rest (items_whole items small)) (record { items = items; small = small; spelled = refl; is = refl })
      (told (capped (capped (capped (1 + 1) + 1) + 1)) begun ls tt h all)))
