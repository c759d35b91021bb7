-- The state of the checker beside what is told of a report, line by line.
use Rattle.std.proofs.Common.{◌≡◌, ◌∙◌, ◌⊎◌, inl, inr, ℕ, zero, suc, ◌+◌, ◌<◌, ◌≤◌, ℤ, pos, ◌+ℤ◌, List, [], ◌∷◌, ◌++◌, length}
use Rattle.std.proofs.Common.{refl, sym, ap, subst, arith}
use Rattle.std.specs.Prelude.{Some, slice_get, slice_index_or}
use Rattle.std.specs.List.{AllByRecursion}
use Rattle.std.proofs.lemmas.List.{map-append, length-append, get_or_append_left}
use borrow.Author.Differences.{ints}
use Rattle.word_text.specs.Place.{capped}
use Rattle.free_words.specs.declared.letter.Letter.{Letter}
use Rattle.presentation.specs.Presented.{Presented}
use Rattle.module_vec.specs.declared.places.Place.{Place}
use Rattle.module_vec.specs.declared.places.Term.{Term}
use Rattle.module_vec.specs.declared.steps.Step.{Step}
use Rattle.module_vec.specs.Modules.{sum_of_steps, steps_at}
use Rattle.module_vec.specs.Places.{same_place}
use Rattle.module_vec.specs.Vectors.{coefficient_at, multiple}
use Rattle.module_vec.proofs.FallingTerms.{all_join}
use Rattle.step_lists.specs.Sums.{zero_vector}
use Rattle.step_lists.proofs.AddingUp.{adding_adds_up, proven_vectors_are_sums}
use Rattle.outcomes.specs.declared.verdicts.Verdict.{Verdict}
use Rattle.outcomes.specs.declared.verdicts.Verdict.TheVariants as verdicts
use Rattle.session_text.specs.declared.question.Question.{Question}
use Rattle.session_text.specs.Questions.{subjects}
use Rattle.basis_entry.specs.declared.recipes.Recipe.{Recipe}
use Rattle.basis_entry.specs.declared.recipes.Recipe.TheVariants as recipes
use Rattle.report_lines.specs.declared.lines.Made.{Made}
use Rattle.report_lines.specs.declared.lines.Made.TheVariants.{Gen, Sum}
use Rattle.report_lines.specs.declared.lines.Line.{Line}
use Rattle.report_lines.specs.declared.lines.Line.TheVariants as lines
use Rattle.report_lines.specs.declared.trimmed.TrimmedLine.{TrimmedLine}
use Rattle.report_lines.specs.declared.trimmed.TrimmedLine.TheVariants.{Entry, Other}
use Rattle.report_lines.specs.Lines.{IsLineOf, IsMadeOf as IsMadeLine}
use Rattle.report_reading.specs.declared.entry.EntryData.{EntryData}
use Rattle.report_reading.specs.declared.form.Form.{Form}
use Rattle.report_reading.specs.declared.form.Form.TheVariants as forms
use Rattle.report_reading.specs.declared.replies.ReplyData.{ReplyData}
use Rattle.report_reading.specs.Telling.{Told, item_count, recipe_of, with_proof, tell_entry, tell_closing, tell}
use Rattle.report_reading.specs.Trimmed.{tell_other}
use Rattle.report_reading.specs.Forms.{LineIn, IsLineIn, tell_in}
use Rattle.cert_checker.specs.States.{State, IsSettled, MayFollow, LineFollows, IsInTurnAt, asked, next, with_line}
use Rattle.cert_checker.specs.Checking.{Agrees, LineAgrees, IsMadeAt, due, fox_at}
use Rattle.flat_making.specs.Checked.{IsShownBy, ShowsSubjects, HasProofs}
use Rattle.flat_making.specs.Making.{vectors_of, NameBelow, IsValueOf}

-- a line as the checker sees it
abbrev pub as_line : (f : Form) → LineIn f → TrimmedLine
as_line forms.Whole l = Other l
as_line (forms.Trimmed n) l = l

-- ---- lists with one more item

at_end : {A : Type 0} (xs : List A) (x : A) (i : ℕ) (y : A) → slice_get (xs ++ x ∷ []) i ≡ Some y
    → (slice_get xs i ≡ Some y) ⊎ ((i ≡ length xs) × (x ≡ y))
at_end [] x zero y e = inr (refl, cc)
at_end [] x (suc i) y e = absurd cc
at_end (z ∷ xs) x zero y e = inl e
at_end (z ∷ xs) x (suc i) y e = by (at_end xs x i y e)
  where
    by : (slice_get xs i ≡ Some y) ⊎ ((i ≡ length xs) × (x ≡ y)) → (slice_get (z ∷ xs) (suc i) ≡ Some y) ⊎ ((suc i ≡ length (z ∷ xs)) × (x ≡ y))
    by (inl f) = inl f
    by (inr f) = inr (omega (arith, f.0), f.1)

below_length : {A : Type 0} (xs : List A) (i : ℕ) (y : A) → slice_get xs i ≡ Some y → i < length xs
below_length [] i y e = absurd cc
below_length (x ∷ xs) zero y e = omega arith
below_length (x ∷ xs) (suc i) y e = omega (arith, below_length xs i y e)

length-vectors : (es : List EntryData) → length (vectors_of es) ≡ length es
length-vectors [] = refl
length-vectors (e ∷ es) = omega (arith, length-vectors es)

vectors-more : (es : List EntryData) (e : EntryData) → vectors_of (es ++ e ∷ []) ≡ vectors_of es ++ e.vector ∷ []
vectors-more es e = map-append (λ (d : EntryData). d.vector) es (e ∷ [])

names_rise : (n k : ℕ) (ss : List Step) → n ≤ k → NameBelow n ss → NameBelow k ss
names_rise n k [] le below = tt
names_rise n k (s ∷ ss) le below = (omega (arith, le, below.0), names_rise n k ss le below.1)

-- steps don't see later vectors
sum_longer : (b : List (List Term)) (v : List Term) (ss : List Step) → NameBelow (length b) ss → sum_of_steps (b ++ v ∷ []) ss ≡ sum_of_steps b ss
sum_longer b v [] below = refl
sum_longer b v (s ∷ ss) below =
    λ i. multiple s.q s.t (get_or_append_left b (v ∷ []) [] s.by below.0 i) ++ sum_longer b v ss below.1 i

-- ---- the checker's state, and what was told

-- the last reply is the one whose subjects are shown
abbrev LastIs : List (List Letter) → ℕ → List ReplyData → Type 0
LastIs subjects shown [] = subjects ≡ []
LastIs subjects shown (r ∷ []) = (subjects ≡ asked r.question r.verdict) × (shown ≡ length r.proofs)
LastIs subjects shown (r ∷ q ∷ rs) = LastIs subjects shown (q ∷ rs)

last_new : (rs : List ReplyData) (r : ReplyData) → r.proofs ≡ [] → LastIs (asked r.question r.verdict) 0 (rs ++ r ∷ [])
last_new [] r none = (refl, sym (ap length none))
last_new (q ∷ []) r none = (refl, sym (ap length none))
last_new (q ∷ s ∷ rs) r none = last_new (s ∷ rs) r none

-- each reply but the last has all its proofs
abbrev FullButLast : List ReplyData → Type 0
FullButLast [] = Unit {0}
FullButLast (r ∷ []) = Unit {0}
FullButLast (r ∷ q ∷ rs) = HasProofs r × FullButLast (q ∷ rs)

full_more : (words : List (List Letter)) (shown : ℕ) (rs : List ReplyData) (r : ReplyData) → LastIs words shown rs → shown ≡ length words → FullButLast rs
    → FullButLast (rs ++ r ∷ [])
full_more words shown [] r last all full = tt
full_more words shown (q ∷ []) r last all full = (sym last.1 ∙ all ∙ ap length last.0, tt)
full_more words shown (q ∷ s ∷ rs) r last all full = (full.0, full_more words shown (s ∷ rs) r last all full.1)

full_proof : (steps : List Step) (rs : List ReplyData) → FullButLast rs → FullButLast (with_proof steps rs)
full_proof steps [] full = tt
full_proof steps (r ∷ []) full = tt
full_proof steps (r ∷ q ∷ rs) full = by rs (full_proof steps (q ∷ rs) full.1)
  where
    by : (rs : List ReplyData) → FullButLast (with_proof steps (q ∷ rs)) → FullButLast (r ∷ with_proof steps (q ∷ rs))
    by [] rest = (full.0, rest)
    by (s ∷ ss) rest = (full.0, rest)

pub all_full : (words : List (List Letter)) (shown : ℕ) (rs : List ReplyData) → LastIs words shown rs → shown ≡ length words → FullButLast rs
    → AllByRecursion HasProofs rs
all_full words shown [] last all full = tt
all_full words shown (r ∷ []) last all full = (sym last.1 ∙ all ∙ ap length last.0, tt)
all_full words shown (r ∷ q ∷ rs) last all full = (full.0, all_full words shown (q ∷ rs) last all full.1)

subjects_of : (q : Question) (v : Verdict) → 0 < length (asked q v) → asked q v ≡ subjects q
subjects_of q verdicts.Trivial some = refl
subjects_of q verdicts.NotTrivial some = absurd (omega (arith, some))
subjects_of q (verdicts.Normal v) some = absurd (omega (arith, some))
subjects_of q verdicts.Extends some = refl
subjects_of q (verdicts.Fails subject) some = absurd (omega (arith, some))
subjects_of q (verdicts.Unknown subject) some = absurd (omega (arith, some))
subjects_of q (verdicts.Stop subject stop) some = absurd (omega (arith, some))

module _ (p : Presented) (gens : List (List Term)) where
  pub record Linked (s : State) (t : Told) : Type 0 where
    pub entries : s.entries ≡ vectors_of t.entries
    pub values : (i : ℕ) (e : EntryData) → slice_get t.entries i ≡ Some e
        → IsValueOf p gens (vectors_of t.entries) i e.recipe (coefficient_at e.vector)
    pub proofs : AllByRecursion (ShowsSubjects p t.entries) t.replies
    pub last : LastIs s.subjects s.shown t.replies
    pub most : s.shown ≤ length s.subjects
    pub full : FullButLast t.replies

  -- ---- an entry

  value_stays : (es : List EntryData) (e : EntryData) (i : ℕ) (r : Recipe) (f : Place → ℤ) → i < length es → IsValueOf p gens (vectors_of es) i r f
      → IsValueOf p gens (vectors_of (es ++ e ∷ [])) i r f
  value_stays es e i (recipes.Gen number negated) f lt is = is
  value_stays es e i (recipes.Sum steps) f lt is =
      let below : NameBelow (length (vectors_of es)) steps = names_rise i (length (vectors_of es)) steps (omega (arith, lt, length-vectors es)) is.1 in
      let longer : sum_of_steps (vectors_of (es ++ e ∷ [])) steps ≡ sum_of_steps (vectors_of es) steps =
      ap (λ b. sum_of_steps b steps) (vectors-more es e) ∙ sum_longer (vectors_of es) e.vector steps below in
      (is.0, is.1, λ x. is.2 x ∙ ap (λ v. Rattle.formal_sums.specs.FormalSum.coefficient same_place v x) (sym longer))

  -- `from` is its number in the history
  value_new : (es : List EntryData) (from : ℕ) (made : Made) (vector : List Term) (b : List (List Term)) → b ≡ vectors_of es
      → IsMadeLine (length p.names) made → IsInTurnAt gens b from made → IsMadeAt gens b from made (coefficient_at vector)
      → IsValueOf p gens (vectors_of (es ++ record { recipe = recipe_of from made; vector = vector } ∷ [])) (length es) (recipe_of from made)
      (coefficient_at vector)
  value_new es from (Gen negated) vector b same line turn is = (turn, is)
  value_new es from (Sum steps) vector b same line turn is =
      let e : EntryData = record { recipe = recipes.Sum steps; vector = vector } in
      let below : NameBelow (length (vectors_of es)) steps = subst (λ a. NameBelow (length a) steps) same is.0 in
      let longer : sum_of_steps (vectors_of (es ++ e ∷ [])) steps ≡ sum_of_steps (vectors_of es) steps =
      ap (λ a. sum_of_steps a steps) (vectors-more es e) ∙ sum_longer (vectors_of es) e.vector steps below in (
        line,
        names_rise (length (vectors_of es)) (length es) steps (omega (arith, length-vectors es)) below,
        λ x. (let sum : coefficient_at vector x ≡ pos 0 +ℤ steps_at b steps x = adding_adds_up b zero_vector (coefficient_at vector) steps is.1 x in
            let end : coefficient_at vector x ≡ steps_at b steps x = omega (arith, ints, sum) in end)
            ∙ ap (λ a. steps_at a steps x) same ∙ ap (λ v. Rattle.formal_sums.specs.FormalSum.coefficient same_place v x) (sym longer),
      )

  shown_stays : (es : List EntryData) (e : EntryData) (w : List Letter) (steps : List Step) → IsShownBy p es w steps → IsShownBy p (es ++ e ∷ []) w steps
  shown_stays es e w steps shown =
      let below : NameBelow (length (vectors_of es)) steps =
      names_rise (length es) (length (vectors_of es)) steps (omega (arith, length-vectors es)) shown.proof.named in
      let longer : sum_of_steps (vectors_of (es ++ e ∷ [])) steps ≡ sum_of_steps (vectors_of es) steps =
      ap (λ b. sum_of_steps b steps) (vectors-more es e) ∙ sum_longer (vectors_of es) e.vector steps below in
      record {
        proof = record {
          steps = shown.proof.steps;
          named = names_rise (length es) (length (es ++ e ∷ [])) steps (omega (arith, length-append es (e ∷ []))) shown.proof.named;
        };
        sum = λ x. ap (λ v. Rattle.formal_sums.specs.FormalSum.coefficient same_place v x) longer ∙ shown.sum x;
      }

  all_shown_stay : (es : List EntryData) (e : EntryData) (rs : List ReplyData) → AllByRecursion (ShowsSubjects p es) rs
      → AllByRecursion (ShowsSubjects p (es ++ e ∷ [])) rs
  all_shown_stay es e [] all = tt
  all_shown_stay es e (r ∷ rs) all = (
    (λ j steps is. let h = all.0 j steps is in (h.0, shown_stays es e (slice_index_or (subjects r.question) j []) steps h.1)),
    all_shown_stay es e rs all.1,
  )

  -- ---- a proof

  shows_more : (es : List EntryData) (r : ReplyData) (steps : List Step) → ShowsSubjects p es r
      → (length r.proofs < length (subjects r.question)) × IsShownBy p es (slice_index_or (subjects r.question) (length r.proofs) []) steps
      → ShowsSubjects p es (record r { proofs = r.proofs ++ steps ∷ [] })
  shows_more es r steps old new j ss is = by (at_end r.proofs steps j ss is)
    where
      by : (slice_get r.proofs j ≡ Some ss) ⊎ ((j ≡ length r.proofs) × (steps ≡ ss))
          → (j < length (subjects r.question)) × IsShownBy p es (slice_index_or (subjects r.question) j []) ss
      by (inl f) = old j ss f
      by (inr f) =
          subst (λ k. (k < length (subjects r.question)) × IsShownBy p es (slice_index_or (subjects r.question) k []) ss) (sym f.0)
          (subst (λ tt. (length r.proofs < length (subjects r.question)) × IsShownBy p es (slice_index_or (subjects r.question) (length r.proofs) []) tt)
          f.1 new)

  -- what a proof line shows of a subject
  abbrev NextShown : List EntryData → List (List Letter) → ℕ → List Step → Type 0
  NextShown es words shown steps = (shown < length words) × IsShownBy p es (slice_index_or words shown []) steps

  proof_taken : (es : List EntryData) (words : List (List Letter)) (shown : ℕ) (steps : List Step) (rs : List ReplyData) → LastIs words shown rs
      → NextShown es words shown steps → AllByRecursion (ShowsSubjects p es) rs
      → AllByRecursion (ShowsSubjects p es) (with_proof steps rs) × LastIs words (shown + 1) (with_proof steps rs)
  proof_taken es words shown steps [] last new all = (tt, last)
  proof_taken es words shown steps (r ∷ []) last new all =
      let some : 0 < length (asked r.question r.verdict) = omega (arith, new.0, ap length last.0) in
      let are : words ≡ subjects r.question = last.0 ∙ subjects_of r.question r.verdict some in (
        (
          shows_more es r steps all.0 (subst (λ k. NextShown es (subjects r.question) k steps) last.1 (subst (λ ws. NextShown es ws shown steps) are new)),
          tt,
        ),
        (last.0, omega (arith, last.1, length-append r.proofs (steps ∷ []))),
      )
  proof_taken es words shown steps (r ∷ q ∷ rs) last new all =
      let rest = proof_taken es words shown steps (q ∷ rs) last new all.1 in
      ((all.0, rest.0), later rest.1)
    where
      -- the reply with the proof stands behind r
      later : LastIs words (shown + 1) (with_proof steps (q ∷ rs)) → LastIs words (shown + 1) (r ∷ with_proof steps (q ∷ rs))
      later = by rs
        where
          by : (rs : List ReplyData) → LastIs words (shown + 1) (with_proof steps (q ∷ rs)) → LastIs words (shown + 1) (r ∷ with_proof steps (q ∷ rs))
          by [] h = h
          by (s ∷ ss) h = h

  -- ---- one line

  -- one more entry, whatever was passed
  entry_linked : (s : State) (t : Told) (from passed : ℕ) (made : Made) (vector : List Term) → Linked s t → IsMadeLine (length p.names) made
      → IsInTurnAt gens s.entries from made → IsMadeAt gens s.entries from made (coefficient_at vector)
      → Linked (record s { passed = passed; entries = s.entries ++ vector ∷ [] }) (tell_entry t from made vector)
  entry_linked s t from passed made vector linked line turn is =
      let e : EntryData = record { recipe = recipe_of from made; vector = vector } in record {
        entries = ap (λ b. b ++ vector ∷ []) linked.entries ∙ sym (vectors-more t.entries e);
        values = λ i d is. by i d (at_end t.entries e i d is);
        proofs = all_shown_stay t.entries e t.replies linked.proofs;
        last = linked.last;
        most = linked.most;
        full = linked.full;
      }
    where
      new : IsValueOf p gens (vectors_of (t.entries ++ record { recipe = recipe_of from made; vector = vector } ∷ [])) (length t.entries)
          (recipe_of from made) (coefficient_at vector)
      new = value_new t.entries from made vector s.entries linked.entries line turn is

      by : (i : ℕ) (d : EntryData)
          → (slice_get t.entries i ≡ Some d) ⊎ ((i ≡ length t.entries) × (Path EntryData (record { recipe = recipe_of from made; vector = vector }) d))
          → IsValueOf p gens (vectors_of (t.entries ++ record { recipe = recipe_of from made; vector = vector } ∷ [])) i d.recipe (coefficient_at d.vector)
      by i d (inl f) =
          value_stays t.entries (record { recipe = recipe_of from made; vector = vector }) i d.recipe (coefficient_at d.vector)
          (below_length t.entries i d f) (linked.values i d f)
      by i d (inr f) =
          subst (λ k. IsValueOf p gens (vectors_of (t.entries ++ record { recipe = recipe_of from made; vector = vector } ∷ [])) k d.recipe
          (coefficient_at d.vector)) (sym f.0)
          (subst (λ (c : EntryData). IsValueOf p gens (vectors_of (t.entries ++ record { recipe = recipe_of from made; vector = vector } ∷ []))
          (length t.entries) c.recipe (coefficient_at c.vector)) f.1 new)

  -- an answer behind the end, by so many items
  closing_linked : (s : State) (t : Told) (session number front : ℕ) (question : Question) (verdict : Verdict) → Linked s t → IsSettled s
      → Linked (next s (lines.Close session number question verdict)) (tell_closing t session front question verdict)
  closing_linked s t session number front question verdict linked settled = record {
    entries = linked.entries;
    values = linked.values;
    proofs = all_join (ShowsSubjects p t.entries) t.replies _ linked.proofs ((λ j steps is. absurd cc), tt);
    last = last_new t.replies _ refl;
    most = omega arith;
    full = full_more s.subjects s.shown t.replies _ linked.last (omega (arith, linked.most, settled)) linked.full;
  }

  line_linked : (s : State) (t : Told) (l : Line) → Linked s t → IsLineOf p l → MayFollow gens s l → Agrees gens s l → Linked (next s l) (tell t l)
  line_linked s t (lines.Entry number made vector) linked valid follows agrees =
      entry_linked s t number s.passed made vector linked valid.1.0 (subst (λ i. IsInTurnAt gens s.entries i made) (sym follows.2) follows.3)
      (subst (λ i. IsMadeAt gens s.entries i made (coefficient_at vector)) (sym follows.2) agrees)
  line_linked s t lines.Seal linked valid follows agrees =
      record {
        entries = linked.entries;
        values = linked.values;
        proofs = linked.proofs;
        last = linked.last;
        most = linked.most;
        full = linked.full;
      }
  line_linked s t (lines.Live session number front question verdict) linked valid follows agrees = record {
    entries = linked.entries;
    values = linked.values;
    proofs = all_join (ShowsSubjects p t.entries) t.replies _ linked.proofs ((λ j steps is. absurd cc), tt);
    last = last_new t.replies _ refl;
    most = omega arith;
    full = full_more s.subjects s.shown t.replies _ linked.last (omega (arith, linked.most, follows.1)) linked.full;
  }
  line_linked s t (lines.Proof subject steps) linked valid follows agrees =
      let taken = proof_taken t.entries s.subjects s.shown steps t.replies linked.last new linked.proofs in
      record {
        entries = linked.entries;
        values = linked.values;
        proofs = taken.0;
        last = taken.1;
        most = omega (arith, follows.0);
        full = full_proof steps t.replies linked.full;
      }
    where
      new : NextShown t.entries s.subjects s.shown steps
      new = (
        follows.0,
        record {
          proof = record {
            steps = valid.1;
            named = names_rise (length s.entries) (length t.entries) steps (omega (arith, ap length linked.entries, length-vectors t.entries)) agrees.0;
          };
          sum = λ x. ap (λ b. steps_at b steps x) (sym linked.entries)
              ∙ sym (proven_vectors_are_sums s.entries (fox_at (due s)) steps agrees.1 x);
        },
      )
  line_linked s t (lines.End end) linked valid follows agrees =
      record {
        entries = linked.entries;
        values = linked.values;
        proofs = linked.proofs;
        last = linked.last;
        most = linked.most;
        full = linked.full;
      }
  line_linked s t (lines.Close session number question verdict) linked valid follows agrees =
      closing_linked s t session number (capped (item_count t)) question verdict linked follows.1
  line_linked s t lines.Done linked valid follows agrees =
      record {
        entries = linked.entries;
        values = linked.values;
        proofs = linked.proofs;
        last = linked.last;
        most = linked.most;
        full = linked.full;
      }

  other_linked : (n : ℕ) (s : State) (t : Told) (l : Line) → Linked s t → IsLineOf p l → MayFollow gens s l → Agrees gens s l
      → Linked (next s l) (tell_other n t l)
  other_linked n s t (lines.Entry number made vector) linked valid follows agrees =
      line_linked s t (lines.Entry number made vector) linked valid follows agrees
  other_linked n s t lines.Seal linked valid follows agrees = line_linked s t lines.Seal linked valid follows agrees
  other_linked n s t (lines.Live session number front question verdict) linked valid follows agrees =
      line_linked s t (lines.Live session number front question verdict) linked valid follows agrees
  other_linked n s t (lines.Proof subject steps) linked valid follows agrees = line_linked s t (lines.Proof subject steps) linked valid follows agrees
  other_linked n s t (lines.End end) linked valid follows agrees = line_linked s t (lines.End end) linked valid follows agrees
  other_linked n s t (lines.Close session number question verdict) linked valid follows agrees =
      closing_linked s t session number n question verdict linked follows.1
  other_linked n s t lines.Done linked valid follows agrees = line_linked s t lines.Done linked valid follows agrees

  -- a line of a report of either version
  pub linked_in : (f : Form) (s : State) (t : Told) (l : LineIn f) → Linked s t → IsLineIn f p l → LineFollows gens s (as_line f l)
      → LineAgrees gens s (as_line f l) → Linked (with_line s (as_line f l)) (tell_in f t l)
  linked_in forms.Whole s t l linked valid follows agrees = line_linked s t l linked valid follows agrees
  linked_in (forms.Trimmed n) s t (Entry number from made vector) linked valid follows agrees =
      entry_linked s t from (from + 1) made vector linked valid.1.1.0 follows.4 agrees
  linked_in (forms.Trimmed n) s t (Other l) linked valid follows agrees = other_linked n s t l linked valid.1 follows agrees
