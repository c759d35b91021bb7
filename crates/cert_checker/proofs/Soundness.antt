-- What the checker's yes says. It goes backwards through the lines: a yes is true because the lines behind it show its
-- subjects.
use Rattle.std.proofs.Common.{◌≡◌, ℕ, ◌+◌, ◌≤◌, List, [], ◌∷◌, ◌++◌, length, drop, map, inl, inr, refl, sym, ap, ◌∙◌, subst, append_assoc}
use Rattle.std.specs.Prelude.{Some, Result, Ok, Err, IfOk}
use Rattle.std.specs.List.{AllByRecursion}
use Rattle.std.proofs.lemmas.List.{drop_all, drop_more}
use Rattle.std.proofs.lemmas.List.Elements.{All-from_recursion, All-contains}
use Rattle.word_text.specs.Place.{capped}
use Rattle.spelling.specs.Spelling.{cut, IsSmall}
use Rattle.spelling.proofs.Cuts.{cut_joins}
use Rattle.free_words.specs.declared.letter.Letter.{Letter}
use Rattle.free_words.specs.Words.{IsOver, word_image}
use Rattle.presentation.specs.Presented.{Presented, IsPresented}
use Rattle.derivation.specs.Moves.{Trivial}
use Rattle.module_vec.specs.declared.places.Term.{Term}
use Rattle.fox_calculus.specs.Generators.{AreGenerators}
use Rattle.magnus_laws.proofs.Homomorphisms.{kept_relators_suffice}
use Rattle.outcomes.specs.declared.verdicts.Verdict.{Verdict}
use Rattle.outcomes.specs.declared.verdicts.Verdict.TheVariants as verdicts
use Rattle.session_text.specs.declared.question.Question.{Question}
use Rattle.session_text.specs.declared.question.Question.TheVariants as questions
use Rattle.session_text.specs.Questions.{subjects, IsWritable}
use Rattle.report_lines.specs.declared.lines.Line.{Line}
use Rattle.report_lines.specs.declared.lines.Line.TheVariants as lines
use Rattle.report_lines.specs.declared.trimmed.TrimmedLine.{TrimmedLine}
use Rattle.report_lines.specs.declared.trimmed.TrimmedLine.TheVariants.{Entry, Other}
use Rattle.report_lines.specs.Lines.{IsLineOf}
use Rattle.report_lines.specs.Texts.{title, pres_line}
use Rattle.report_lines.specs.Trimmed.{trimmed_title, items_line, trimmed_line_text, trimmed_lines_text}
use Rattle.cert_checker.specs.declared.version.Version.{Version}
use Rattle.cert_checker.specs.declared.version.Version.TheVariants.{Whole, Trimmed}
use Rattle.cert_checker.specs.declared.phase.Phase.TheVariants as phases
use Rattle.cert_checker.specs.declared.checked.Checked.{Checked}
use Rattle.cert_checker.specs.declared.phase.Phase.{Phase}
use Rattle.cert_checker.specs.declared.phase.Phase.TheVariants.{Title, Presentation, Entries, Sealed, Closing, Finished}
use Rattle.cert_checker.specs.declared.faults.CertFault.{CertFault}
use Rattle.cert_checker.specs.States.{State, start, IsSettled, MayFollow, LineFollows, asked, next, with_line, AreWords}
use Rattle.cert_checker.specs.Checking.{Agrees, LineAgrees, due}
use Rattle.cert_checker.specs.Texts.{IsLineIn, TitleHolds, PresentationHolds, ItemsHold, BodyHolds, HoldsIn, BytesHold, Tells, TellsWhole, Answers}
use Rattle.cert_checker.specs.Truth.{IsYes, IsTrueVerdict, IsTrueLine, IsTrue, IsTrueReport}
use Rattle.cert_checker.proofs.Lists.{all_at}
use Rattle.cert_checker.proofs.Members.{Lies, entry_lies, proven_trivial}
use Rattle.cert_checker.proofs.ShortWords.{all_over}
use Rattle.cert_checker.proofs.Versions.{other_valid, kept_valid, same_version}
use Rattle.cert_checker.proofs.Telling.{taken_words}
use Rattle.module_vec.proofs.FallingTerms.{all_join}

-- the subjects whose proofs are due are trivial
abbrev pub DueHold : Presented → State → Type 0
DueHold p s = AllByRecursion (Trivial p) (drop s.shown s.subjects)

settled_holds : (p : Presented) (s : State) → IsSettled s → DueHold p s
settled_holds p s h = subst (AllByRecursion (Trivial p)) (sym (drop_all s.shown s.subjects h)) tt

-- ---- answers

image_trivial : (p : Presented) (images rs : List (List Letter)) → AllByRecursion (Trivial p) (map (word_image images) rs)
    → AllByRecursion (λ r. Trivial p (word_image images r)) rs
image_trivial p images [] h = tt
image_trivial p images (r ∷ rs) h = (h.0, image_trivial p images rs h.1)

subjects_suffice : (p : Presented) (q : Question) → IsWritable p q → AllByRecursion (Trivial p) (subjects q) → IsYes p q
subjects_suffice p (questions.Trivial w) valid h = h.0
subjects_suffice p (questions.Equal u v) valid h = h.0
subjects_suffice p (questions.Normal w) valid h = h.0
subjects_suffice p (questions.Hom source images) valid h =
    kept_relators_suffice source p images valid.0.0.1 (record { one_each = valid.0.0.0; over = all_over (length p.names) images valid.0.1 })
    (λ r has. All-contains (λ (r : List Letter). Trivial p (word_image images r)) source.relators r
    (All-from_recursion _ source.relators (image_trivial p images source.relators h)) has)

verdict_holds : (p : Presented) (q : Question) (v : Verdict) → IsWritable p q → AllByRecursion (Trivial p) (asked q v) → IsTrueVerdict p q v
verdict_holds p q verdicts.Trivial valid h = subjects_suffice p q valid h
verdict_holds p q verdicts.NotTrivial valid h = tt
verdict_holds p q (verdicts.Normal v) valid h = tt
verdict_holds p q verdicts.Extends valid h = subjects_suffice p q valid h
verdict_holds p q (verdicts.Fails subject) valid h = tt
verdict_holds p q (verdicts.Unknown subject) valid h = tt
verdict_holds p q (verdicts.Stop subject stop) valid h = tt

-- ---- lines

module _ (p : Presented) (ok : IsPresented p) (gens : List (List Term)) (are : AreGenerators p gens) where
  -- The entries lie in the module after the line. Where what is due after it holds, so does what was due before, and what
  -- the line says.
  record Sound (s : State) (l : Line) (s' : State) : Type 0 where
    entries : AllByRecursion (Lies p) s'.entries
    due : DueHold p s' → DueHold p s × IsTrueLine p l

  line_sound : (s : State) (l : Line) → AllByRecursion (Lies p) s.entries → AreWords p s.subjects → IsLineOf p l → MayFollow gens s l → Agrees gens s l
      → Sound s l (next s l)
  line_sound s (lines.Entry number made vector) all words valid follows agrees =
      let own : Lies p vector = entry_lies p gens s.entries (length s.entries) made (length p.names) vector are all valid.1.0 follows.3 agrees in record {
        entries = all_join (Lies p) s.entries (vector ∷ []) all (own, tt);
        due = λ h. (h, own);
      }
  line_sound s lines.Seal all words valid follows agrees = record { entries = all; due = λ h. (h, tt) }
  line_sound s (lines.Live session number front question verdict) all words valid follows agrees =
      record { entries = all; due = λ h. (settled_holds p s follows.1, verdict_holds p question verdict valid.1.1.1.question h) }
  line_sound s (lines.Proof subject steps) all words valid follows agrees =
      let word = all_at (λ w. IsOver (length p.names) w × (length w ≤ 32768)) s.subjects s.shown [] words follows.0 in
      let trivial : Trivial p (due s) = proven_trivial p s.entries (length p.names) (due s) steps ok word.0 all valid.1 agrees in record {
        entries = all;
        due = λ h. (subst (AllByRecursion (Trivial p)) (sym (drop_more s.subjects s.shown [] follows.0)) (trivial, h), tt);
      }
  line_sound s (lines.End end) all words valid follows agrees = record { entries = all; due = λ h. (h, tt) }
  line_sound s (lines.Close session number question verdict) all words valid follows agrees =
      record { entries = all; due = λ h. (settled_holds p s follows.1, verdict_holds p question verdict valid.1.1.question h) }
  line_sound s lines.Done all words valid follows agrees = record { entries = all; due = λ h. (h, tt) }

  -- the same of the line of a report of either version
  record SoundIn (s : State) (l : TrimmedLine) (s' : State) : Type 0 where
    entries : AllByRecursion (Lies p) s'.entries
    due : DueHold p s' → DueHold p s × IsTrue p l

  sound_in : (v : Version) (s : State) (l : TrimmedLine) → AllByRecursion (Lies p) s.entries → AreWords p s.subjects → IsLineIn v p l → LineFollows gens s l
      → LineAgrees gens s l → SoundIn s l (with_line s l)
  sound_in v s (Entry number from made vector) all words valid follows agrees =
      let own : Lies p vector = entry_lies p gens s.entries from made (length p.names) vector are all
      (kept_valid v p number from made vector valid).1.1.0 follows.4 agrees in record {
        entries = all_join (Lies p) s.entries (vector ∷ []) all (own, tt);
        due = λ h. (h, own);
      }
  sound_in v s (Other l) all words valid follows agrees =
      let sound = line_sound s l all words (other_valid v p l valid) follows agrees in record { entries = sound.entries; due = sound.due }

  -- ---- texts

  -- the text is that of true lines of this version, and what is due before them holds
  record Body (v : Version) (s : State) (text : List ℕ) : Type 0 where
    ls : List TrimmedLine
    valid : AllByRecursion (IsLineIn v p) ls
    spelled : text ≡ trimmed_lines_text p ls
    true_lines : AllByRecursion (IsTrue p) ls
    due : DueHold p s

  -- the head was taken
  abbrev IsBehindHead : Phase → Type 0
  IsBehindHead Title = ⊥
  IsBehindHead Presentation = ⊥
  IsBehindHead phases.Items = ⊥
  IsBehindHead Entries = Unit {0}
  IsBehindHead Sealed = Unit {0}
  IsBehindHead Closing = Unit {0}
  IsBehindHead Finished = Unit {0}

  next_behind : (s : State) (l : Line) → IsBehindHead s.phase → IsBehindHead (next s l).phase
  next_behind s (lines.Entry number made vector) h = h
  next_behind s lines.Seal h = tt
  next_behind s (lines.Live session number front question verdict) h = h
  next_behind s (lines.Proof subject steps) h = h
  next_behind s (lines.End end) h = tt
  next_behind s (lines.Close session number question verdict) h = h
  next_behind s lines.Done h = tt

  stays_behind : (s : State) (l : TrimmedLine) → IsBehindHead s.phase → IsBehindHead (with_line s l).phase
  stays_behind s (Entry number from made vector) h = h
  stays_behind s (Other l) h = next_behind s l h

  as_body : (f : Phase) (s taken : State) (bytes : List ℕ) → IsBehindHead f → HoldsIn f p gens s bytes taken → BodyHolds p gens s bytes taken
  as_body Title s taken bytes h b = absurd h
  as_body Presentation s taken bytes h b = absurd h
  as_body phases.Items s taken bytes h b = absurd h
  as_body Entries s taken bytes h b = b
  as_body Sealed s taken bytes h b = b
  as_body Closing s taken bytes h b = b
  as_body Finished s taken bytes h b = b

  line_body : (v : Version) (s taken : State) (line others : List ℕ) → s.version ≡ v → AllByRecursion (Lies p) s.entries → AreWords p s.subjects
      → BodyHolds p gens s line taken → (AllByRecursion (Lies p) taken.entries → Body v taken others) → Body v s (line ++ 10 ∷ others)
  line_body v s taken line others is all words b rest =
      let sound : SoundIn s b.line taken = subst (SoundIn s b.line) (sym b.holds.is)
      (sound_in s.version s b.line all words b.valid b.holds.follows b.holds.agrees) in
      let body : Body v taken others = rest sound.entries in
      let held = sound.due body.due in record {
        ls = b.line ∷ body.ls;
        valid = (subst (λ (w : Version). IsLineIn w p b.line) is b.valid, body.valid);
        spelled = (λ i. b.spelled i ++ 10 ∷ body.spelled i) ∙ sym (append_assoc (trimmed_line_text p b.line) (10 ∷ []) (trimmed_lines_text p body.ls));
        true_lines = (held.1, body.true_lines);
        due = held.0;
      }

  told_body : (v : Version) (n : ℕ) (s : State) (text : List ℕ) (r : Result Checked CertFault) (c : Checked) → Tells p gens n s text r → r ≡ Ok c
      → s.version ≡ v → IsBehindHead s.phase → AllByRecursion (Lies p) s.entries → AreWords p s.subjects → Body v s text
  told_body v n s text _ c (Tells.complete _ _ _ none whole) e is behind all words = record {
    ls = [];
    valid = tt;
    spelled = whole.nothing;
    true_lines = tt;
    due = settled_holds p s whole.settled;
  }
  told_body v n s text _ c (Tells.missing _ _ _ none not) e is behind all words = absurd cc
  told_body v n s text _ c (Tells.fails _ _ _ line others k cuts f) e is behind all words = absurd cc
  told_body v n s text r c (Tells.goes_on _ _ taken _ line others _ cuts holds later) e is behind all words =
      let b : BodyHolds p gens s line taken = as_body s.phase s taken line behind holds in
      let on : IsBehindHead taken.phase = subst (λ (t : State). IsBehindHead t.phase) (sym b.holds.is) (stays_behind s b.line behind) in
      let same : taken.version ≡ v = ap (λ (t : State). t.version) b.holds.is ∙ same_version s b.line ∙ is in
      subst (Body v s) (sym (cut_joins 10 text line others cuts))
      (line_body v s taken line others is all words b (λ more. told_body v (capped (n + 1)) taken others r c later e same on more
      (taken_words p gens s taken line holds words)))

  -- ---- the head

  -- the text is that of true lines of this version
  record Behind (v : Version) (text : List ℕ) : Type 0 where
    ls : List TrimmedLine
    valid : AllByRecursion (IsLineIn v p) ls
    spelled : text ≡ trimmed_lines_text p ls
    true_lines : AllByRecursion (IsTrue p) ls

  abbrev begun : Phase → Version → State
  begun f v = record start { phase = f; version = v }

  told_lines : (v : Version) (n : ℕ) (s : State) (text : List ℕ) (r : Result Checked CertFault) (c : Checked) → Tells p gens n s text r → r ≡ Ok c
      → s ≡ begun Entries v → Behind v text
  told_lines v n s text r c tells e is =
      let told : Tells p gens n (begun Entries v) text r = subst (λ (t : State). Tells p gens n t text r) is tells in
      let body : Body v (begun Entries v) text = told_body v n (begun Entries v) text r c told e refl tt tt tt
      in record { ls = body.ls; valid = body.valid; spelled = body.spelled; true_lines = body.true_lines }

  -- the third line of a trimmed report
  record BehindItems (text : List ℕ) : Type 0 where
    items : ℕ
    small : IsSmall items
    rest : List ℕ
    parts : text ≡ items_line items ++ 10 ∷ rest
    behind : Behind (Trimmed items) rest

  told_items : (v : Version) (n : ℕ) (s : State) (text : List ℕ) (r : Result Checked CertFault) (c : Checked) → Tells p gens n s text r → r ≡ Ok c
      → s ≡ begun phases.Items v → BehindItems text
  told_items v n s text _ c (Tells.complete _ _ _ none whole) e is = let wrong : phases.Items ≡ Finished =
      ap (λ (t : State). t.phase) (sym is) ∙ whole.finished in absurd cc
  told_items v n s text _ c (Tells.missing _ _ _ none not) e is = absurd cc
  told_items v n s text _ c (Tells.fails _ _ _ line others k cuts f) e is = absurd cc
  told_items v n s text r c (Tells.goes_on _ _ taken _ line others _ cuts holds later) e is =
      let h : ItemsHold (begun phases.Items v) line taken = subst (λ (t : State). BytesHold p gens t line taken) is holds in record {
        items = h.items;
        small = h.small;
        rest = others;
        parts = cut_joins 10 text line others cuts ∙ (λ i. h.spelled i ++ 10 ∷ others);
        behind = told_lines (Trimmed h.items) (capped (n + 1)) taken others r c later e h.is;
      }

  -- the second line, by the version that the first one tells
  abbrev IsHeaded : Version → List ℕ → Type 0
  IsHeaded Whole text = (rest : List ℕ) × (text ≡ pres_line p ++ 10 ∷ rest) × Behind Whole rest
  IsHeaded (Trimmed items) text = (rest : List ℕ) × (text ≡ pres_line p ++ 10 ∷ rest) × BehindItems rest

  told_behind : (v : Version) (n : ℕ) (taken : State) (text line others : List ℕ) (r : Result Checked CertFault) (c : Checked)
      → cut 10 text ≡ Some (line, others)
      → PresentationHolds p (begun Presentation v) line taken → Tells p gens n taken others r → r ≡ Ok c → IsHeaded v text
  told_behind Whole n taken text line others r c cuts h later e =
      (others, cut_joins 10 text line others cuts ∙ (λ i. h.0 i ++ 10 ∷ others), told_lines Whole n taken others r c later e h.1)
  told_behind (Trimmed items) n taken text line others r c cuts h later e =
      (others, cut_joins 10 text line others cuts ∙ (λ i. h.0 i ++ 10 ∷ others), told_items (Trimmed items) n taken others r c later e h.1)

  told_second : (v : Version) (n : ℕ) (s : State) (text : List ℕ) (r : Result Checked CertFault) (c : Checked) → Tells p gens n s text r → r ≡ Ok c
      → s ≡ begun Presentation v → IsHeaded v text
  told_second v n s text _ c (Tells.complete _ _ _ none whole) e is = let wrong : Presentation ≡ Finished =
      ap (λ (t : State). t.phase) (sym is) ∙ whole.finished in absurd cc
  told_second v n s text _ c (Tells.missing _ _ _ none not) e is = absurd cc
  told_second v n s text _ c (Tells.fails _ _ _ line others k cuts f) e is = absurd cc
  told_second v n s text r c (Tells.goes_on _ _ taken _ line others _ cuts holds later) e is =
      told_behind v (capped (n + 1)) taken text line others r c cuts (subst (λ (t : State). BytesHold p gens t line taken) is holds) later e

  told_title : (n : ℕ) (taken : State) (text line others : List ℕ) (r : Result Checked CertFault) (c : Checked) → cut 10 text ≡ Some (line, others)
      → TitleHolds start line taken → Tells p gens n taken others r → r ≡ Ok c → IsTrueReport p text
  told_title n taken text line others r c cuts (inl h) later e =
      let second = told_second Whole n taken others r c later e h.1 in
      let behind = second.2 in record {
        version = Whole;
        head = tt;
        lines = behind.ls;
        valid = behind.valid;
        spelled = cut_joins 10 text line others cuts
            ∙ (λ i. h.0 i ++ 10 ∷ second.1 i)
            ∙ (λ i. title ++ 10 ∷ (pres_line p ++ 10 ∷ behind.spelled i));
        true_lines = behind.true_lines;
      }
  told_title n taken text line others r c cuts (inr h) later e =
      let second = told_second (Trimmed 0) n taken others r c later e h.1 in
      let third = second.2 in
      let behind = third.behind in record {
        version = Trimmed third.items;
        head = third.small;
        lines = behind.ls;
        valid = behind.valid;
        spelled = cut_joins 10 text line others cuts
            ∙ (λ i. h.0 i ++ 10 ∷ second.1 i)
            ∙ (λ i. trimmed_title ++ 10 ∷ (pres_line p ++ 10 ∷ third.parts i))
            ∙ (λ i. trimmed_title ++ 10 ∷ (pres_line p ++ 10 ∷ (items_line third.items ++ 10 ∷ behind.spelled i)));
        true_lines = behind.true_lines;
      }

  told_first : (n : ℕ) (s : State) (text : List ℕ) (r : Result Checked CertFault) (c : Checked) → Tells p gens n s text r → r ≡ Ok c → s ≡ start
      → IsTrueReport p text
  told_first n s text _ c (Tells.complete _ _ _ none whole) e is = let wrong : Title ≡ Finished =
      ap (λ (t : State). t.phase) (sym is) ∙ whole.finished in absurd cc
  told_first n s text _ c (Tells.missing _ _ _ none not) e is = absurd cc
  told_first n s text _ c (Tells.fails _ _ _ line others k cuts f) e is = absurd cc
  told_first n s text r c (Tells.goes_on _ _ taken _ line others _ cuts holds later) e is =
      told_title (capped (n + 1)) taken text line others r c cuts (subst (λ (t : State). BytesHold p gens t line taken) is holds) later e

pub is_true : (p : Presented) (text : List ℕ) (c : Checked) → IsPresented p → TellsWhole p text (Ok c) → IsTrueReport p text
is_true p text c ok t = told_first p ok t.generators t.are 1 start text (Ok c) c t.tells refl refl

pub sound : (p : Presented) (text : List ℕ) (r : Result Checked CertFault) → IsPresented p → Answers p text r → IfOk r (λ _. IsTrueReport p text)
sound p text (Ok c) ok answers = is_true p text c ok answers
sound p text (Err e) ok answers = tt
