-- What is read of a report that the checker accepts.
use Rattle.std.proofs.Common.{◌≡◌, ◌∙◌, ◌⊎◌, inl, inr, ℕ, ◌+◌, ◌<◌, ◌≤◌, ◌+ℤ◌, List, [], ◌∷◌, ◌++◌}
use Rattle.std.proofs.Common.{refl, sym, ap, subst, arith, append_assoc, append-nil}
use Rattle.std.specs.Prelude.{Some, None, slice_get, Result, Ok}
use Rattle.std.specs.List.{AllByRecursion}
use Rattle.spelling.specs.Spelling.{cut}
use Rattle.spelling.proofs.Cuts.{cut_here}
use Rattle.word_text.specs.Place.{capped}
use Rattle.presentation.specs.Presented.{Presented, IsPresented}
use Rattle.module_vec.specs.declared.places.Term.{Term}
use Rattle.module_vec.specs.Vectors.{coefficient_at}
use Rattle.report_lines.specs.declared.lines.Line.{Line}
use Rattle.report_lines.specs.declared.lines.Line.TheVariants as lines
use Rattle.report_lines.specs.declared.trimmed.TrimmedLine.{TrimmedLine}
use Rattle.report_lines.specs.declared.trimmed.TrimmedLine.TheVariants.{Entry, Other}
use Rattle.report_lines.specs.Texts.{title, pres_line}
use Rattle.report_lines.specs.Trimmed.{trimmed_title, items_line, trimmed_line_text}
use Rattle.report_lines.proofs.Pairs.{clash, literal}
use Rattle.report_lines.proofs.ReadingBack.{one_line}
use Rattle.report_lines.proofs.TrimmedTexts.{one_trimmed_line, one_items_line}
use Rattle.report_reading.specs.declared.data.ReportData.{ReportData}
use Rattle.report_reading.specs.declared.entry.EntryData.{EntryData}
use Rattle.report_reading.specs.declared.form.Form.{Form}
use Rattle.report_reading.specs.declared.form.Form.TheVariants as forms
use Rattle.report_reading.specs.declared.replies.ReplyData.{ReplyData}
use Rattle.report_reading.specs.Telling.{Told, nothing, tell}
use Rattle.report_reading.specs.Forms.{IsForm, form_of, LineIn, IsLineIn, text_in, lines_in, title_in, counted_in, headed_in, tell_in, TellIn, SaysIn}
use Rattle.report_reading.specs.Reading.{IsReportIn, Answers as IsRead}
use Rattle.report_reading.proofs.LineBytes.{whole_line_in, head_line, items_whole}
use Rattle.cert_checker.specs.declared.checked.Checked.{Checked}
use Rattle.cert_checker.specs.declared.version.Version.{Version}
use Rattle.cert_checker.specs.declared.version.Version.TheVariants.{Whole, Trimmed}
use Rattle.cert_checker.specs.declared.phase.Phase.{Phase}
use Rattle.cert_checker.specs.declared.phase.Phase.TheVariants.{Title, Presentation, Items, Entries, Sealed, Closing, Finished}
use Rattle.cert_checker.specs.declared.faults.CertFault.{CertFault}
use Rattle.cert_checker.specs.States.{State, start, IsSettled, LineFollows, next, with_line}
use Rattle.cert_checker.specs.Checking.{LineAgrees}
use Rattle.cert_checker.specs.Texts.{TitleHolds, PresentationHolds, ItemsHold, BodyHolds, HoldsIn, BytesHold, Tells, Answers}
use Rattle.cert_checker.specs.Texts as checked
use Rattle.cert_checker.proofs.Versions.{same_version}
use Rattle.flat_making.specs.Checked.{ShowsSubjects, HasProofs, IsChecked}
use Rattle.flat_making.specs.Making.{vectors_of, IsValueOf}
use Rattle.flat_making.proofs.Linking.{as_line, Linked, linked_in, all_full}

-- ---- the first line of a text

some_same : {X : Type 0} {x y : X} → Some x ≡ Some y → x ≡ y
some_same e = cc

none_some : {X : Type 0} {x : X} → None ≡ Some x → ⊥
none_some e = cc

first_cut : (f : Form) (p : Presented) → IsPresented p → (text : List ℕ) (l : LineIn f) (ls : List (LineIn f)) (rest : List ℕ) → IsLineIn f p l
    → text ≡ lines_in f p (l ∷ ls) ++ rest → cut 10 text ≡ Some (text_in f p l, lines_in f p ls ++ rest)
first_cut f p known text l ls rest valid is =
    ap (cut 10) (is
    ∙ (append_assoc (text_in f p l ++ 10 ∷ []) (lines_in f p ls) rest
    ∙ append_assoc (text_in f p l) (10 ∷ []) (lines_in f p ls ++ rest)))
    ∙ cut_here 10 (text_in f p l) (lines_in f p ls ++ rest) (whole_line_in p known f l valid)

append_nothing : (xs : List ℕ) → xs ≡ xs ++ []
append_nothing xs = sym (append-nil xs)

title_cut : (f : Form) (text others : List ℕ) → text ≡ title_in f ++ 10 ∷ others → cut 10 text ≡ Some (title_in f, others)
title_cut forms.Whole text others is = ap (cut 10) is ∙ cut_here 10 title others (literal 10 title refl)
title_cut (forms.Trimmed n) text others is = ap (cut 10) is ∙ cut_here 10 trimmed_title others (literal 10 trimmed_title refl)

titles_differ : title ≡ trimmed_title → ⊥
titles_differ e = clash 14 title trimmed_title e refl

-- ---- the two versions

-- the checker's word for the form, and for it before the number of items is told
abbrev version_of : Form → Version
version_of forms.Whole = Whole
version_of (forms.Trimmed n) = Trimmed n

abbrev title_version : Form → Version
title_version forms.Whole = Whole
title_version (forms.Trimmed n) = Trimmed 0

-- the text of a line is that of no other
line_is : (f : Form) (p : Presented) → IsPresented p → (k : TrimmedLine) (l : LineIn f) → checked.IsLineIn (version_of f) p k → IsLineIn f p l
    → trimmed_line_text p k ≡ text_in f p l → k ≡ as_line f l
line_is forms.Whole p known (Entry number from made vector) l h v e = absurd h
line_is forms.Whole p known (Other m) l h v e = ap (λ (x : Line). Other x) (one_line p m l known h v e)
line_is (forms.Trimmed n) p known k l h v e = one_trimmed_line p k l known h v e

module _ (p : Presented) (known : IsPresented p) (gens : List (List Term)) where
  -- ---- all lines

  abbrev IsBehindHead : Phase → Type 0
  IsBehindHead Title = ⊥
  IsBehindHead Presentation = ⊥
  IsBehindHead Items = ⊥
  IsBehindHead Entries = Unit {0}
  IsBehindHead Sealed = Unit {0}
  IsBehindHead Closing = Unit {0}
  IsBehindHead Finished = Unit {0}

  next_behind : (s : State) (l : Line) → IsBehindHead s.phase → IsBehindHead (next s l).phase
  next_behind s (lines.Entry number made vector) h = h
  next_behind s lines.Seal h = tt
  next_behind s (lines.Live session number front question verdict) h = h
  next_behind s (lines.Proof subject steps) h = h
  next_behind s (lines.End end) h = tt
  next_behind s (lines.Close session number question verdict) h = h
  next_behind s lines.Done h = tt

  stays_behind : (s : State) (l : TrimmedLine) → IsBehindHead s.phase → IsBehindHead (with_line s l).phase
  stays_behind s (Entry number from made vector) h = h
  stays_behind s (Other l) h = next_behind s l h

  as_body : (f : Phase) (s taken : State) (bytes : List ℕ) → IsBehindHead f → HoldsIn f p gens s bytes taken → BodyHolds p gens s bytes taken
  as_body Title s taken bytes h b = absurd h
  as_body Presentation s taken bytes h b = absurd h
  as_body Items s taken bytes h b = absurd h
  as_body Entries s taken bytes h b = b
  as_body Sealed s taken bytes h b = b
  as_body Closing s taken bytes h b = b
  as_body Finished s taken bytes h b = b

  -- what comes of lines that tell u
  abbrev Ending : Told → Type 0
  Ending u = (last : State) × Linked p gens last u × IsSettled last

  body_linked : (f : Form) (s taken : State) (line : List ℕ) (t : Told) (l : LineIn f) → s.version ≡ version_of f → IsLineIn f p l → line ≡ text_in f p l
      → Linked p gens s t → BodyHolds p gens s line taken → Linked p gens taken (tell_in f t l)
  body_linked f s taken line t l is valid spelled linked b =
      let one : b.line ≡ as_line f l =
      line_is f p known b.line l (subst (λ v. checked.IsLineIn v p b.line) is b.valid) valid (sym b.spelled ∙ spelled) in
      subst (λ v. Linked p gens v (tell_in f t l)) (sym (b.holds.is ∙ ap (with_line s) one))
      (linked_in p gens f s t l linked valid (subst (LineFollows gens s) one b.holds.follows) (subst (LineAgrees gens s) one b.holds.agrees))

  all_linked : (f : Form) (n : ℕ) (s : State) (text : List ℕ) (r : Result Checked CertFault) (c : Checked) → Tells p gens n s text r → r ≡ Ok c
      → s.version ≡ version_of f → IsBehindHead s.phase → (t u : Told) (ls : List (LineIn f)) → AllByRecursion (IsLineIn f p) ls → TellIn f t ls u
      → text ≡ lines_in f p ls ++ [] → Linked p gens s t → Ending u
  all_linked f n s text _ c (Tells.complete _ _ _ none whole) e is behind t u [] valid tells spelled linked =
      (s, subst (Linked p gens s) tells linked, whole.settled)
  all_linked f n s text _ c (Tells.complete _ _ _ none whole) e is behind t u (l ∷ ls) valid tells spelled linked =
      absurd (none_some (sym none ∙ first_cut f p known text l ls [] valid.0 spelled))
  all_linked f n s text _ c (Tells.missing _ _ _ none not) e is behind t u ls valid tells spelled linked = absurd cc
  all_linked f n s text _ c (Tells.fails _ _ _ line others k cuts fault) e is behind t u ls valid tells spelled linked = absurd cc
  all_linked f n s text r c (Tells.goes_on _ _ taken _ line others _ cuts holds later) e is behind t u [] valid tells spelled linked =
      absurd (none_some (ap (cut 10) (sym spelled) ∙ cuts))
  all_linked f n s text r c (Tells.goes_on _ _ taken _ line others _ cuts holds later) e is behind t u (l ∷ ls) valid tells spelled linked =
      let b : BodyHolds p gens s line taken = as_body s.phase s taken line behind holds in
      let on : IsBehindHead taken.phase = subst (λ (v : State). IsBehindHead v.phase) (sym b.holds.is) (stays_behind s b.line behind) in
      let stays : taken.version ≡ version_of f = ap (λ (v : State). v.version) b.holds.is ∙ same_version s b.line ∙ is in
      let same = some_same (sym cuts ∙ first_cut f p known text l ls [] valid.0 spelled) in
      all_linked f (capped (n + 1)) taken others r c later e stays on (tell_in f t l) u ls valid.1 tells.1 (ap (λ x. x.1) same)
      (body_linked f s taken line t l is valid.0 (ap (λ x. x.0) same) linked b)

  -- ---- the head

  abbrev begun : Phase → Version → State
  begun phase version = record start { phase = phase; version = version }

  lines_linked : (f : Form) (n : ℕ) (s : State) (text : List ℕ) (r : Result Checked CertFault) (c : Checked) → Tells p gens n s text r → r ≡ Ok c
      → s ≡ begun Entries (version_of f) → (u : Told) (ls : List (LineIn f)) → AllByRecursion (IsLineIn f p) ls → TellIn f nothing ls u
      → text ≡ lines_in f p ls → Ending u
  lines_linked f n s text r c tells e is u ls valid told spelled =
      all_linked f n (begun Entries (version_of f)) text r c (subst (λ (t : State). Tells p gens n t text r) is tells) e refl tt nothing u ls valid told
      (spelled ∙ append_nothing (lines_in f p ls))
      (record { entries = refl; values = λ i d is. absurd cc; proofs = tt; last = refl; most = omega arith; full = tt })

  -- the third line of a trimmed report
  items_linked : (items n : ℕ) (s : State) (text : List ℕ) (r : Result Checked CertFault) (c : Checked) → Tells p gens n s text r → r ≡ Ok c
      → s ≡ begun Items (Trimmed 0) → IsForm (forms.Trimmed items) → (u : Told) (ls : List TrimmedLine)
      → AllByRecursion (IsLineIn (forms.Trimmed items) p) ls → TellIn (forms.Trimmed items) nothing ls u
      → text ≡ items_line items ++ 10 ∷ lines_in (forms.Trimmed items) p ls → Ending u
  items_linked items n s text _ c (Tells.complete _ _ _ none whole) e is small u ls valid told spelled = let wrong : Items ≡ Finished =
      ap (λ (t : State). t.phase) (sym is) ∙ whole.finished in absurd cc
  items_linked items n s text _ c (Tells.missing _ _ _ none not) e is small u ls valid told spelled = absurd cc
  items_linked items n s text _ c (Tells.fails _ _ _ line others k cuts fault) e is small u ls valid told spelled = absurd cc
  items_linked items n s text r c (Tells.goes_on _ _ taken _ line others _ cuts holds later) e is small u ls valid told spelled =
      let h : ItemsHold (begun Items (Trimmed 0)) line taken = subst (λ (t : State). BytesHold p gens t line taken) is holds in
      let same = some_same (sym cuts ∙ ap (cut 10) spelled
      ∙ cut_here 10 (items_line items) (lines_in (forms.Trimmed items) p ls) (items_whole items small)) in
      let count : h.items ≡ items = one_items_line h.items items h.small small (sym h.spelled ∙ ap (λ x. x.0) same) in
      lines_linked (forms.Trimmed items) (capped (n + 1)) taken others r c later e
      (h.is ∙ ap (λ k. begun Entries (Trimmed k)) count) u ls valid told (ap (λ x. x.1) same)

  behind_linked : (f : Form) (n : ℕ) (taken : State) (line others : List ℕ) (r : Result Checked CertFault) (c : Checked)
      → PresentationHolds p (begun Presentation (title_version f)) line taken → Tells p gens n taken others r → r ≡ Ok c → IsForm f
      → (u : Told) (ls : List (LineIn f)) → AllByRecursion (IsLineIn f p) ls → TellIn f nothing ls u → others ≡ counted_in f (lines_in f p ls) → Ending u
  behind_linked forms.Whole n taken line others r c h later e small u ls valid told spelled =
      lines_linked forms.Whole n taken others r c later e h.1 u ls valid told spelled
  behind_linked (forms.Trimmed items) n taken line others r c h later e small u ls valid told spelled =
      items_linked items n taken others r c later e h.1 small u ls valid told spelled

  second_linked : (f : Form) (n : ℕ) (s : State) (text : List ℕ) (r : Result Checked CertFault) (c : Checked) → Tells p gens n s text r → r ≡ Ok c
      → s ≡ begun Presentation (title_version f) → IsForm f → (u : Told) (ls : List (LineIn f)) → AllByRecursion (IsLineIn f p) ls → TellIn f nothing ls u
      → text ≡ pres_line p ++ 10 ∷ counted_in f (lines_in f p ls) → Ending u
  second_linked f n s text _ c (Tells.complete _ _ _ none whole) e is small u ls valid told spelled = let wrong : Presentation ≡ Finished =
      ap (λ (t : State). t.phase) (sym is) ∙ whole.finished in absurd cc
  second_linked f n s text _ c (Tells.missing _ _ _ none not) e is small u ls valid told spelled = absurd cc
  second_linked f n s text _ c (Tells.fails _ _ _ line others k cuts fault) e is small u ls valid told spelled = absurd cc
  second_linked f n s text r c (Tells.goes_on _ _ taken _ line others _ cuts holds later) e is small u ls valid told spelled =
      let h : PresentationHolds p (begun Presentation (title_version f)) line taken = subst (λ (t : State). BytesHold p gens t line taken) is holds in
      let same = some_same (sym cuts ∙ ap (cut 10) spelled ∙ cut_here 10 (pres_line p) (counted_in f (lines_in f p ls)) (head_line p known)) in
      behind_linked f (capped (n + 1)) taken line others r c h later e small u ls valid told (ap (λ x. x.1) same)

  -- the version that the title tells
  titled : (f : Form) (taken : State) (line : List ℕ) → line ≡ title_in f → TitleHolds start line taken → taken ≡ begun Presentation (title_version f)
  titled forms.Whole taken line is (inl h) = h.1
  titled forms.Whole taken line is (inr h) = absurd (titles_differ (sym is ∙ h.0))
  titled (forms.Trimmed n) taken line is (inl h) = absurd (titles_differ (sym h.0 ∙ is))
  titled (forms.Trimmed n) taken line is (inr h) = h.1

  first_linked : (f : Form) (n : ℕ) (s : State) (text : List ℕ) (r : Result Checked CertFault) (c : Checked) → Tells p gens n s text r → r ≡ Ok c
      → s ≡ start → IsForm f → (u : Told) (ls : List (LineIn f)) → AllByRecursion (IsLineIn f p) ls → TellIn f nothing ls u
      → text ≡ headed_in f p (lines_in f p ls) → Ending u
  first_linked f n s text _ c (Tells.complete _ _ _ none whole) e is small u ls valid told spelled = let wrong : Title ≡ Finished =
      ap (λ (t : State). t.phase) (sym is) ∙ whole.finished in absurd cc
  first_linked f n s text _ c (Tells.missing _ _ _ none not) e is small u ls valid told spelled = absurd cc
  first_linked f n s text _ c (Tells.fails _ _ _ line others k cuts fault) e is small u ls valid told spelled = absurd cc
  first_linked f n s text r c (Tells.goes_on _ _ taken _ line others _ cuts holds later) e is small u ls valid told spelled =
      let h : TitleHolds start line taken = subst (λ (t : State). BytesHold p gens t line taken) is holds in
      let same = some_same (sym cuts ∙ title_cut f text (pres_line p ++ 10 ∷ counted_in f (lines_in f p ls)) spelled) in
      second_linked f (capped (n + 1)) taken others r c later e (titled f taken line (ap (λ x. x.0) same) h) small u ls valid told (ap (λ x. x.1) same)

-- ---- what is read

said_entries : (f : Form) (t : Told) (d : ReportData) → SaysIn f t d → d.entries ≡ t.entries
said_entries forms.Whole t d h = h.entries
said_entries (forms.Trimmed n) t d h = h.0.entries

said_replies : (f : Form) (t : Told) (d : ReportData) → SaysIn f t d → d.replies ≡ t.replies
said_replies forms.Whole t d h = h.replies
said_replies (forms.Trimmed n) t d h = h.0.replies

small_form : (f : Form) (t : Told) (d : ReportData) → SaysIn f t d → IsForm f
small_form forms.Whole t d h = tt
small_form (forms.Trimmed n) t d h = h.1

checked_in : (f : Form) (p : Presented) (text : List ℕ) (c : Checked) (d : ReportData) → IsPresented p → Answers p text (Ok c) → IsReportIn f p text d
    → IsChecked p d
checked_in f p text c d known told report =
    let (last, linked, settled) = first_linked p known told.generators f 1 start text (Ok c) c told.tells refl refl
    (small_form f report.told d report.says) report.told report.ls report.begins.valid report.begins.tells report.spelled in
    let entries : d.entries ≡ report.told.entries = said_entries f report.told d report.says in
    let replies : d.replies ≡ report.told.replies = said_replies f report.told d report.says in
    record {
      log = record {
        gens = told.generators;
        generators = told.are;
        values = subst (λ (es : List EntryData). (i : ℕ) (e : EntryData) → slice_get es i ≡ Some e
            → IsValueOf p told.generators (vectors_of es) i e.recipe (coefficient_at e.vector)) (sym entries) linked.values;
      };
      proofs = subst (λ (es : List EntryData). AllByRecursion (ShowsSubjects p es) d.replies) (sym entries)
          (subst (λ (rs : List ReplyData). AllByRecursion (ShowsSubjects p report.told.entries) rs) (sym replies) linked.proofs);
      complete = subst (AllByRecursion HasProofs) (sym replies)
          (all_full last.subjects last.shown report.told.replies linked.last (omega (arith, linked.most, settled)) linked.full);
    }

-- WHAT IS READ HOLDS
pub is_checked : (p : Presented) (text : List ℕ) (c : Checked) (d : ReportData) → IsPresented p → Answers p text (Ok c) → IsRead p text (Ok d) → IsChecked p d
is_checked p text c d known told report = checked_in (form_of d) p text c d known told report
