-- The places that faults name are over the presentation's generators.
use Rattle.std.proofs.Common.{◌≡◌, ◌≢◌, ℕ, zero, suc, ◌+◌, ◌*◌, ◌<◌, ◌≤◌, ℤ, pos, negsuc, neg_ℤ, ◌+ℤ◌, Bool, true, false, List, [], ◌∷◌, length, Contains, refl}
use Rattle.std.proofs.Common.{sym, ap, ◌∙◌, subst, arith, ◌⊎◌, inl, inr}
use Rattle.std.specs.Prelude.{Result, Ok, Err, IfErr}
use Rattle.std.specs.List.{AllByRecursion}
use Rattle.std.proofs.lemmas.List.Elements.{All-from_recursion, All-contains}
use borrow.Author.Differences.{ints}
use Rattle.free_words.specs.declared.letter.Letter.{Letter}
use Rattle.free_words.specs.Words.{IsOver}
use Rattle.presentation.specs.Presented.{Presented, IsPresented, IsWritten as IsWrittenWord}
use Rattle.formal_sums.specs.FormalSum.{FormalSum, coefficient}
use Rattle.module_vec.specs.declared.places.Place.{Place}
use Rattle.module_vec.specs.declared.places.Term.{Term}
use Rattle.module_vec.specs.declared.steps.Step.{Step}
use Rattle.module_vec.specs.Places.{same_place}
use Rattle.module_vec.specs.Vectors.{sum_of, coefficient_at, multiple}
use Rattle.module_vec.specs.Modules.{vector_at, sum_of_steps, steps_at}
use Rattle.module_vec.proofs.Order.{test}
use Rattle.module_vec.proofs.FallingTerms.{all_join}
use Rattle.step_lists.specs.Sums.{zero_vector}
use Rattle.step_lists.proofs.AddingUp.{adding_adds_up, taking_takes_away}
use Rattle.step_text.specs.Over.{AreStepsOf}
use Rattle.vector_text.specs.Over.{MonoIsOver, PlaceIsOver, VectorIsOver}
use Rattle.vector_text.proofs.Over.{one_over, variable_over, product_over}
use Rattle.fox_calculus.specs.Fox.{fox}
use Rattle.fox_calculus.specs.Generators.{AreGenerators, candidates}
use Rattle.fox_calculus.specs.Module.{IsGenerator}
use Rattle.fox_calculus.proofs.Listed.{Origin, origin, candidates_are}
use Rattle.fox_calculus.proofs.Over.{image_over, fox_over}
use Rattle.report_lines.specs.declared.lines.Made.{Made}
use Rattle.report_lines.specs.declared.lines.Made.TheVariants.{Gen, Sum}
use Rattle.report_lines.specs.declared.lines.Line.{Line}
use Rattle.report_lines.specs.declared.lines.Line.TheVariants as lines
use Rattle.report_lines.specs.declared.trimmed.TrimmedLine.{TrimmedLine}
use Rattle.report_lines.specs.declared.trimmed.TrimmedLine.TheVariants.{Entry, Other}
use Rattle.report_lines.specs.Lines.{IsLineOf, IsMadeOf as IsMadeOver}
use Rattle.word_text.specs.Place.{capped}
use Rattle.cert_checker.specs.declared.checked.Checked.{Checked}
use Rattle.cert_checker.specs.declared.version.Version.{Version}
use Rattle.cert_checker.specs.declared.phase.Phase.{Phase}
use Rattle.cert_checker.specs.declared.phase.Phase.TheVariants as phases
use Rattle.cert_checker.specs.declared.phase.Phase.TheVariants.{Title, Presentation, Entries, Sealed, Closing, Finished}
use Rattle.cert_checker.specs.declared.faults.CertKind.{CertKind}
use Rattle.cert_checker.specs.declared.faults.CertKind.TheVariants.{Text, NoEntry, NotEqual, NotZero, Wide, Long}
use Rattle.cert_checker.specs.declared.faults.CertFault.{CertFault}
use Rattle.cert_checker.specs.declared.faults.CertFault.TheVariants as texts
use Rattle.cert_checker.specs.Faults.{KindIsOver, FaultIsOver}
use Rattle.cert_checker.specs.States.{State, start, MayFollow, LineFollows, IsInTurnAt, next, with_line, AreWords}
use Rattle.cert_checker.specs.Checking.{AreThere, IsMadeAt, EntryFailsAt, ProofFails, signed, fox_at, due, Disagrees, LineDisagrees, LineFails}
use Rattle.cert_checker.specs.Texts.{IsLineIn, TitleHolds, FailsIn, HoldsIn, BodyHolds, BodyFails, Tells, Answers}
use Rattle.cert_checker.proofs.Lists.{all_at}
use Rattle.cert_checker.proofs.Versions.{other_valid, kept_valid}
use Rattle.cert_checker.proofs.Telling.{taken_words}

-- ---- sums

-- a place with a coefficient stands in the sum
stands : (P : Place → Type 0) (f : FormalSum Place) (x : Place) → AllByRecursion (λ t. P t.1) f → coefficient same_place f x ≢ pos 0 → P x
stands P [] x h some = absurd (some refl)
stands P (t ∷ f) x h some = by (same_place t.1 x) refl (stands P f x h.1)
  where
    skipped : (z : ℤ) → pos 0 +ℤ z ≡ z
    skipped z = omega (arith, ints)

    by : (b : Bool) → same_place t.1 x ≡ b → (coefficient same_place f x ≢ pos 0 → P x) → P x
    by true e again = subst P (test.sound t.1 x e) h.0
    by false e again = again (λ z. some (rw e (skipped (coefficient same_place f x) ∙ z)))

vector_sum : (n : ℕ) (v : List Term) → VectorIsOver n v → AllByRecursion (λ t. PlaceIsOver n t.1) (sum_of v)
vector_sum n [] h = tt
vector_sum n (t ∷ v) h = (h.0, vector_sum n v h.1)

stands_in : (n : ℕ) (v : List Term) (x : Place) → VectorIsOver n v → coefficient_at v x ≢ pos 0 → PlaceIsOver n x
stands_in n v x h some = stands (PlaceIsOver n) (sum_of v) x (vector_sum n v h) some

multiple_over : (n : ℕ) (q : ℤ) (t : List ℕ) (v : List Term) → MonoIsOver n t → VectorIsOver n v → AllByRecursion (λ s. PlaceIsOver n s.1) (multiple q t v)
multiple_over n q t [] mono h = tt
multiple_over n q t (u ∷ v) mono h = (record { mono = product_over n t u.at.m mono h.0.mono; component = h.0.component }, multiple_over n q t v mono h.1)

steps_over : (n : ℕ) (entries : List (List Term)) (steps : List Step) → AllByRecursion (VectorIsOver n) entries → AreThere entries steps → AreStepsOf n steps
    → AllByRecursion (λ s. PlaceIsOver n s.1) (sum_of_steps entries steps)
steps_over n entries [] all there are = tt
steps_over n entries (s ∷ ss) all there are =
    all_join (λ (t : ℤ × Place). PlaceIsOver n t.1) (multiple s.q s.t (vector_at entries s.by)) (sum_of_steps entries ss)
    (multiple_over n s.q s.t (vector_at entries s.by) are.0.mono.over (all_at (VectorIsOver n) entries s.by [] all there.0))
    (steps_over n entries ss all there.1 are.1)

-- ---- generators

generator_over : (p : Presented) (f : FormalSum Place) → IsPresented p → IsGenerator p f → AllByRecursion (λ t. PlaceIsOver (length p.names) t.1) f
generator_over p _ ok (IsGenerator.relator_vector r has) = fox_over (length p.names) [] r tt (relator_over p r ok has)
  where
    relator_over : (p : Presented) (r : List Letter) → IsPresented p → Contains p.relators r → IsOver (length p.names) r
    relator_over p r ok has = (All-contains (IsWrittenWord (length p.names)) p.relators r (All-from_recursion _ p.relators ok.relators) has).0
generator_over p _ ok (IsGenerator.relator_binomial r c has lt) = (
  record {
    mono = image_over (length p.names) r (All-contains (IsWrittenWord (length p.names)) p.relators r (All-from_recursion _ p.relators ok.relators)
        has).0;
    component = lt;
  },
  (record { mono = one_over (length p.names); component = lt }, tt),
)
generator_over p _ ok (IsGenerator.unit_binomial g c here lt) = (
  record {
    mono = product_over (length p.names) _ _ (variable_over (length p.names) (2 * g) (omega (arith, here)))
        (variable_over (length p.names) (2 * g + 1) (omega (arith, here)));
    component = lt;
  },
  (record { mono = one_over (length p.names); component = lt }, tt),
)
generator_over p _ ok (IsGenerator.modulus_vector c some lt) = (record { mono = one_over (length p.names); component = lt }, tt)

listed_over : (p : Presented) (gens : List (List Term)) (i : ℕ) (x : Place) → IsPresented p → AreGenerators p gens → i < length gens
    → coefficient_at (vector_at gens i) x ≢ pos 0 → PlaceIsOver (length p.names) x
listed_over p gens i x ok are lt some =
    let from : Origin (IsGenerator p) (vector_at gens i) = origin (IsGenerator p) (candidates p) gens are (candidates_are p) i lt in
    stands (PlaceIsOver (length p.names)) from.from x (generator_over p from.from ok from.has) (λ z. some (from.is.same x ∙ z))

-- ---- where two vectors differ

apart : (a b : ℤ) → a ≢ b → (a ≢ pos 0) ⊎ (b ≢ pos 0)
apart a (pos zero) h = inl h
apart a (pos (suc n)) h = inr (λ e. absurd (omega (arith, ints, e)))
apart a (negsuc n) h = inr (λ e. absurd (omega (arith, ints, e)))

unsigned : (negated : Bool) (g : List Term) (x : Place) → signed negated g x ≢ pos 0 → coefficient_at g x ≢ pos 0
unsigned false g x h = h
unsigned true g x h = λ e. h (ap neg_ℤ e)

module _ (p : Presented) (ok : IsPresented p) (gens : List (List Term)) (are : AreGenerators p gens) where
  abbrev n : ℕ
  n = length p.names

  made_over : (entries : List (List Term)) (i : ℕ) (made : Made) (f : Place → ℤ) (x : Place) → AllByRecursion (VectorIsOver n) entries
      → IsInTurnAt gens entries i made → IsMadeOver n made → IsMadeAt gens entries i made f → f x ≢ pos 0 → PlaceIsOver n x
  made_over entries i (Gen negated) f x all turn valid is some =
      listed_over p gens i x ok are turn (unsigned negated (vector_at gens i) x (λ e. some (is x ∙ e)))
  made_over entries i (Sum steps) f x all turn valid is some =
      stands (PlaceIsOver n) (sum_of_steps entries steps) x (steps_over n entries steps all is.0 valid)
      (λ z. some (sums (adding_adds_up entries zero_vector f steps is.1 x) z))
    where
      sums : f x ≡ zero_vector x +ℤ steps_at entries steps x → steps_at entries steps x ≡ pos 0 → f x ≡ pos 0
      sums e z = omega (arith, ints, e, z)

  pub entry_over : (entries : List (List Term)) (i : ℕ) (made : Made) (v : List Term) (k : CertKind) → AllByRecursion (VectorIsOver n) entries
      → IsInTurnAt gens entries i made → IsMadeOver n made → VectorIsOver n v
      → EntryFailsAt gens entries i made v k → KindIsOver n k
  entry_over entries i made v Text all turn valid over h = tt
  entry_over entries i made v NoEntry all turn valid over h = tt
  entry_over entries i made v (NotEqual at) all turn valid over h = by (apart (h.0 at) (coefficient_at v at) h.2.here)
    where
      by : (h.0 at ≢ pos 0) ⊎ (coefficient_at v at ≢ pos 0) → PlaceIsOver n at
      by (inl some) = made_over entries i made h.0 at all turn valid h.1 some
      by (inr some) = stands_in n v at over some
  entry_over entries i made v (NotZero at) all turn valid over h = absurd h
  entry_over entries i made v Wide all turn valid over h = tt
  entry_over entries i made v Long all turn valid over h = tt

  proof_over : (entries : List (List Term)) (w : List Letter) (steps : List Step) (k : CertKind) → AllByRecursion (VectorIsOver n) entries → IsOver n w
      → AreStepsOf n steps → ProofFails entries w steps k → KindIsOver n k
  proof_over entries w steps Text all over valid h = tt
  proof_over entries w steps NoEntry all over valid h = tt
  proof_over entries w steps (NotEqual at) all over valid h = absurd h
  proof_over entries w steps (NotZero at) all over valid h =
      by (apart (fox_at w at) (steps_at entries steps at) (λ e. h.2.here (left (taking_takes_away entries (fox_at w) h.0 steps h.1.1 at) e)))
    where
      left : fox_at w at ≡ steps_at entries steps at +ℤ h.0 at → fox_at w at ≡ steps_at entries steps at → h.0 at ≡ pos 0
      left e f = omega (arith, ints, e, f)

      by : (fox_at w at ≢ pos 0) ⊎ (steps_at entries steps at ≢ pos 0) → PlaceIsOver n at
      by (inl some) = stands (PlaceIsOver n) (fox w) at (fox_over n [] w tt over) some
      by (inr some) = stands (PlaceIsOver n) (sum_of_steps entries steps) at (steps_over n entries steps all h.1.0 valid) some
  proof_over entries w steps Wide all over valid h = tt
  proof_over entries w steps Long all over valid h = tt

  -- ---- lines

  disagrees_over : (s : State) (l : Line) (k : CertKind) → AllByRecursion (VectorIsOver n) s.entries → AreWords p s.subjects → IsLineOf p l → MayFollow gens s l
      → Disagrees gens s l k → KindIsOver n k
  disagrees_over s (lines.Entry number made v) k all words valid follows h =
      entry_over s.entries (length s.entries) made v k all follows.3 valid.1.0 valid.1.1.over h
  disagrees_over s lines.Seal k all words valid follows h = absurd h
  disagrees_over s (lines.Live session number front question verdict) k all words valid follows h = absurd h
  disagrees_over s (lines.Proof subject steps) k all words valid follows h =
      proof_over s.entries (due s) steps k all (all_at (λ w. IsOver n w × (length w ≤ 32768)) s.subjects s.shown [] words follows.0).0 valid.1 h
  disagrees_over s (lines.End end) k all words valid follows h = absurd h
  disagrees_over s (lines.Close session number question verdict) k all words valid follows h = absurd h
  disagrees_over s lines.Done k all words valid follows h = absurd h

  so_over : (v : Version) (s : State) (l : TrimmedLine) (k : CertKind) → AllByRecursion (VectorIsOver n) s.entries → AreWords p s.subjects → IsLineIn v p l
      → LineFollows gens s l → LineDisagrees gens s l k → KindIsOver n k
  so_over v s (Entry number from made vector) k all words valid follows h =
      let known = kept_valid v p number from made vector valid in
      entry_over s.entries from made vector k all follows.4 known.1.1.0 known.1.1.1.over h
  so_over v s (Other l) k all words valid follows h = disagrees_over s l k all words (other_valid v p l valid) follows h

  line_over : (v : Version) (s : State) (l : TrimmedLine) (k : CertKind) → AllByRecursion (VectorIsOver n) s.entries → AreWords p s.subjects → IsLineIn v p l
      → LineFails gens s l k → KindIsOver n k
  line_over v s l Text all words valid h = tt
  line_over v s l NoEntry all words valid h = tt
  line_over v s l (NotEqual at) all words valid h = so_over v s l (NotEqual at) all words valid h.0 h.1
  line_over v s l (NotZero at) all words valid h = so_over v s l (NotZero at) all words valid h.0 h.1
  line_over v s l Wide all words valid h = tt
  line_over v s l Long all words valid h = tt

  text_over : (k : CertKind) → k ≡ Text → KindIsOver n k
  text_over k e = subst (KindIsOver n) (sym e) tt

  body_over : (s : State) (bytes : List ℕ) (k : CertKind) → AllByRecursion (VectorIsOver n) s.entries → AreWords p s.subjects → BodyFails p gens s bytes k
      → KindIsOver n k
  body_over s bytes k all words (inl h) = line_over s.version s h.line k all words h.valid h.fails
  body_over s bytes k all words (inr h) = text_over k h.1

  bytes_over : (f : Phase) (s : State) (bytes : List ℕ) (k : CertKind) → AllByRecursion (VectorIsOver n) s.entries → AreWords p s.subjects
      → FailsIn f p gens s bytes k → KindIsOver n k
  bytes_over Title s bytes k all words h = text_over k h.2
  bytes_over Presentation s bytes k all words h = text_over k h.1
  bytes_over phases.Items s bytes k all words h = text_over k h.1
  bytes_over Entries s bytes k all words h = body_over s bytes k all words h
  bytes_over Sealed s bytes k all words h = body_over s bytes k all words h
  bytes_over Closing s bytes k all words h = body_over s bytes k all words h
  bytes_over Finished s bytes k all words h = body_over s bytes k all words h

  -- ---- texts

  next_over : (s : State) (l : Line) → IsLineOf p l → AllByRecursion (VectorIsOver n) s.entries → AllByRecursion (VectorIsOver n) (next s l).entries
  next_over s (lines.Entry number made v) valid all = all_join (VectorIsOver n) s.entries (v ∷ []) all (valid.1.1.over, tt)
  next_over s lines.Seal valid all = all
  next_over s (lines.Live session number front question verdict) valid all = all
  next_over s (lines.Proof subject steps) valid all = all
  next_over s (lines.End end) valid all = all
  next_over s (lines.Close session number question verdict) valid all = all
  next_over s lines.Done valid all = all

  with_over : (v : Version) (s : State) (l : TrimmedLine) → IsLineIn v p l → AllByRecursion (VectorIsOver n) s.entries
      → AllByRecursion (VectorIsOver n) (with_line s l).entries
  with_over v s (Entry number from made vector) valid all =
      all_join (VectorIsOver n) s.entries (vector ∷ []) all ((kept_valid v p number from made vector valid).1.1.1.over, tt)
  with_over v s (Other l) valid all = next_over s l (other_valid v p l valid) all

  kept_title : (s taken : State) (bytes : List ℕ) → AllByRecursion (VectorIsOver n) s.entries → TitleHolds s bytes taken
      → AllByRecursion (VectorIsOver n) taken.entries
  kept_title s taken bytes all (inl h) = subst (λ (t : State). AllByRecursion (VectorIsOver n) t.entries) (sym h.1) all
  kept_title s taken bytes all (inr h) = subst (λ (t : State). AllByRecursion (VectorIsOver n) t.entries) (sym h.1) all

  kept : (s taken : State) (bytes : List ℕ) → AllByRecursion (VectorIsOver n) s.entries → BodyHolds p gens s bytes taken
      → AllByRecursion (VectorIsOver n) taken.entries
  kept s taken bytes all b = subst (λ (t : State). AllByRecursion (VectorIsOver n) t.entries) (sym b.holds.is)
      (with_over s.version s b.line b.valid all)

  kept_in : (f : Phase) (s taken : State) (bytes : List ℕ) → AllByRecursion (VectorIsOver n) s.entries → HoldsIn f p gens s bytes taken
      → AllByRecursion (VectorIsOver n) taken.entries
  kept_in Title s taken bytes all h = kept_title s taken bytes all h
  kept_in Presentation s taken bytes all h = subst (λ (t : State). AllByRecursion (VectorIsOver n) t.entries) (sym h.1) all
  kept_in phases.Items s taken bytes all h = subst (λ (t : State). AllByRecursion (VectorIsOver n) t.entries) (sym h.is) all
  kept_in Entries s taken bytes all h = kept s taken bytes all h
  kept_in Sealed s taken bytes all h = kept s taken bytes all h
  kept_in Closing s taken bytes all h = kept s taken bytes all h
  kept_in Finished s taken bytes all h = kept s taken bytes all h

  told_over : (m : ℕ) (s : State) (text : List ℕ) (r : Result Checked CertFault) → Tells p gens m s text r → AllByRecursion (VectorIsOver n) s.entries
      → AreWords p s.subjects → IfErr r (FaultIsOver n)
  told_over m s text _ (Tells.complete _ _ _ none whole) all words = tt
  told_over m s text _ (Tells.missing _ _ _ none not) all words = tt
  told_over m s text _ (Tells.fails _ _ _ line others k cuts f) all words = bytes_over s.phase s line k all words f
  told_over m s text r (Tells.goes_on _ _ taken _ line others _ cuts holds later) all words =
      told_over (capped (m + 1)) taken others r later (kept_in s.phase s taken line all holds) (taken_words p gens s taken line holds words)

pub named_over : (p : Presented) (text : List ℕ) (r : Result Checked CertFault) → IsPresented p → Answers p text r → IfErr r (FaultIsOver (length p.names))
named_over p text (Ok c) ok answers = tt
named_over p text (Err (texts.Line m k)) ok answers = told_over p ok answers.generators answers.are 1 start text (Err (texts.Line m k)) answers.tells tt tt
named_over p text (Err texts.NoMemory) ok answers = tt
