-- Lines that aren't those of a next entry.
use Rattle.std.proofs.Common.{◌≡◌, ℕ, ◌<◌, ◌≤◌, List, [], ◌∷◌, ◌++◌, length, None, refl, sym, subst, ◌∙◌, arith}
use Rattle.std.proofs.Common.{Bool, true, false, not, inl, inr}
use Rattle.std.proofs.lemmas.List.{length-map}
use Rattle.std.specs.Prelude.{Result, Err, ◌↔◌, IsTrue}
use Rattle.spelling.specs.Spelling.{IsRead}
use Rattle.presentation.specs.Presented.{IsPresented}
use Rattle.module_vec.specs.declared.places.Term.{Term}
use Rattle.module_vec.specs.declared.steps.Step.{Step}
use Rattle.module_vec.specs.Vectors.{coefficient_at}
use Rattle.step_lists.specs.declared.way.Way.TheVariants.{Add}
use Rattle.step_lists.specs.Sums.{zero_vector}
use Rattle.cert_checker.specs.Checking.{StepsLead}
use Rattle.report_lines.specs.declared.lines.Made.{Made}
use Rattle.report_lines.specs.declared.lines.Made.TheVariants.{Gen, Sum}
use Rattle.cert_checker.specs.States.{AreNear, IsInTurn}
use Rattle.report_lines.specs.declared.lines.Line.{Line}
use Rattle.report_lines.specs.declared.lines.Line.TheVariants as lines
use Rattle.report_lines.specs.Lines.{IsLineOf}
use Rattle.report_lines.specs.Texts.{line_text}
use Rattle.report_lines.proofs.ReadingBack.{one_line}
use Rattle.fox_calculus.specs.Generators.{AreGenerators}
use Rattle.basis_entry.specs.Entries.{BasisEntry, vectors_of}
use Rattle.saved_basis.specs.declared.TheConstants.{ENTRIES}
use Rattle.saved_basis.specs.declared.faults.LineKind.{LineKind}
use Rattle.saved_basis.specs.declared.faults.LineKind.TheVariants.{Text, NoEntry, NotEqual, Wide, Long}
use Rattle.saved_basis.specs.declared.faults.LineFault.{LineFault}
use Rattle.saved_basis.specs.declared.faults.LineFault.TheVariants as faults
use Rattle.saved_basis.specs.Lines.{MayStand, IsEntryLine, IsLastLine, MadeFails, LineFails, Outcome}
use Rattle.saved_basis.specs.Readers.{ReadSoFar, IsReading, IsEnd, IsTextFault, CanBeNext, IsNextEntry, FitsIn, TakesEntry}
use Rattle.saved_basis.proofs.Beginning.{one_more}
use Rattle.saved_basis.proofs.Making.{same_count}
use Rattle.saved_basis.proofs.Ranges.{le_or_less}

module _ (r : ReadSoFar) (gens : List (List Term)) (bytes : List ℕ) (unended : IsEnd r bytes → ⊥) (same : length r.generators ≡ length gens) where
  not_last : IsLastLine gens r.entries bytes → ⊥
  not_last h = unended (h.1, omega (arith, same, h.0))

  pub full : ENTRIES ≤ length r.entries → IsTextFault r.source gens r.entries bytes Text
  full le = (refl, (λ made v l. absurd (let m = l.may.entries in omega (arith, m, le)), not_last))

  pub unread : IsRead (line_text r.source) (IsLineOf r.source) bytes None → IsTextFault r.source gens r.entries bytes Text
  unread none = (refl, (λ made v l. none (lines.Entry (length r.entries) made v) l.valid l.spelled, not_last))

  -- another line than that of an entry which may be the next one
  pub other_line : (l : Line) → IsPresented r.source → IsLineOf r.source l → bytes ≡ line_text r.source l
      → ((made : Made) (v : List Term) → l ≡ lines.Entry (length r.entries) made v → MayStand gens r.entries made v → ⊥)
      → IsTextFault r.source gens r.entries bytes Text
  other_line l known valid spelled none = (
    refl,
    (
      λ made v x. none made v (one_line r.source l (lines.Entry (length r.entries) made v) known valid x.valid (sym spelled ∙ x.spelled)) x.may,
      not_last,
    ),
  )

-- the fault of a line that isn't one of a next entry
pub text_fails : (r : ReadSoFar) (gens : List (List Term)) (bytes : List ℕ) (taken : ReadSoFar → Type 0) (e : LineFault)
    → Outcome {X = Unit {0}} (λ _. Unit {0}) (IsTextFault r.source gens r.entries bytes) (Err e)
    → Outcome taken (LineFails r.source gens r.entries bytes) (Err e)
text_fails r gens bytes taken (faults.Fails k) h = subst (LineFails r.source gens r.entries bytes) (sym h.0) h.1
text_fails r gens bytes taken faults.NoMemory h = tt

-- the fault of an entry that isn't what it is made to be
pub made_fails : (r : ReadSoFar) (gens : List (List Term)) (bytes : List ℕ) (taken : ReadSoFar → Type 0) (made : Made) (v : List Term) (e : LineFault)
    → IsEntryLine r.source gens r.entries bytes made v
    → Outcome {X = Unit {0}} (λ _. Unit {0}) (MadeFails gens r.entries made v) (Err e)
    → Outcome taken (LineFails r.source gens r.entries bytes) (Err e)
made_fails r gens bytes taken made v (faults.Fails Text) line h = absurd h
made_fails r gens bytes taken made v (faults.Fails NoEntry) line h = (made, v, line, h)
made_fails r gens bytes taken made v (faults.Fails (NotEqual at)) line h = (made, v, line, h)
made_fails r gens bytes taken made v (faults.Fails Wide) line h = (made, v, line, h)
made_fails r gens bytes taken made v (faults.Fails Long) line h = (made, v, line, h)
made_fails r gens bytes taken made v faults.NoMemory line h = tt

-- what kind of result it was doesn't matter to its faults
pub only_fault : {X Y : Type 0} (A : X → Type 0) (B : Y → Type 0) (F : LineKind → Type 0) (e : LineFault) → Outcome A F (Err e) → Outcome B F (Err e)
only_fault A B F (faults.Fails k) h = h
only_fault A B F faults.NoMemory h = tt

-- the same, where it is told of an equal fault
pub fault_goes : {X Y : Type 0} (r : Result X LineFault) (A : X → Type 0) (B : Y → Type 0) (F : LineKind → Type 0) (e f : LineFault) → r ≡ Err e → e ≡ f
    → Outcome B F (Err f) → Outcome A F r
fault_goes r A B F e f is same h = subst (Outcome A F) (sym is) (only_fault B A F e (subst (λ (x : LineFault). Outcome B F (Err x)) (sym same) h))

pub sum_fails : {X : Type 0} (result : Result X LineFault) (A : X → Type 0) (r : ReadSoFar) (gens : List (List Term)) (steps ss : List Step)
    (es : List BasisEntry) (v : List Term) (e f : LineFault) → result ≡ Err e → e ≡ f → es ≡ r.entries → ss ≡ steps
    → Outcome {X = Unit {0}} (λ _. StepsLead Add (vectors_of es) zero_vector ss (coefficient_at v)) (MadeFails gens es (Sum ss) v) (Err f)
    → Outcome A (MadeFails gens r.entries (Sum steps) v) result
sum_fails result A r gens steps ss es v e f is same list all h =
    subst (λ (ts : List Step). Outcome A (MadeFails gens r.entries (Sum ts) v) result) all
    (subst (λ (xs : List BasisEntry). Outcome A (MadeFails gens xs (Sum ss) v) result) list
    (fault_goes result A (λ (u : Unit {0}). StepsLead Add (vectors_of es) zero_vector ss (coefficient_at v)) (MadeFails gens es (Sum ss) v) e f is same h))

pub entry_fails : {X : Type 0} (result : Result ReadSoFar LineFault) (r : ReadSoFar) (gens : List (List Term)) (bytes : List ℕ) (made : Made)
    (v : List Term) (B : X → Type 0) (e f : LineFault) → result ≡ Err e → e ≡ f → IsEntryLine r.source gens r.entries bytes made v
    → Outcome B (MadeFails gens r.entries made v) (Err f) → Outcome (TakesEntry r bytes) (LineFails r.source gens r.entries bytes) result
entry_fails result r gens bytes made v B e f is same line h =
    subst (Outcome (TakesEntry r bytes) (LineFails r.source gens r.entries bytes)) (sym is)
    (made_fails r gens bytes (TakesEntry r bytes) made v e line
    (only_fault B (λ (u : Unit {0}). Unit {0}) (MadeFails gens r.entries made v) e
    (subst (λ (x : LineFault). Outcome B (MadeFails gens r.entries made v) (Err x)) (sym same) h)))

pub can_be_next : (r : ReadSoFar) (reading : IsReading r) (bytes : List ℕ) (made : Made) (v : List Term)
    → IsEntryLine r.source reading.base.gens r.entries bytes made v → CanBeNext r made v
can_be_next r reading bytes made v line = record {
  written = line.valid.1.0;
  gens = reading.base.gens;
  generators = reading.base.generators;
  may = line.may;
}

pub fits_in : (r : ReadSoFar) (reading : IsReading r) (made : Made) (v : List Term) (e : BasisEntry)
    → MayStand reading.base.gens r.entries made v → IsNextEntry r reading.base.gens made v e → FitsIn r e
fits_in r reading made v e may next = (
  reading.base.gens,
  reading.base.generators,
  one_more r reading.base.gens made v e reading.beginning next may,
)

pub taken : (r : ReadSoFar) (gens : List (List Term)) (bytes : List ℕ) (made : Made) (v : List Term) (e : BasisEntry) (t : ReadSoFar)
    → IsEntryLine r.source gens r.entries bytes made v → IsNextEntry r gens made v e → t ≡ record r { entries = r.entries ++ e ∷ [] } → TakesEntry r bytes t
taken r gens bytes made v e t line next is = record {
  entry = e;
  is = is;
  spelled = line.spelled
      ∙ (λ i. line_text r.source (lines.Entry (length r.entries) (sym next.recipe i) (sym next.vector i)));
}

-- ---- whose turn it is

not_both : (g e : ℕ) → g ≤ e → e < g → ⊥
not_both g e le lt = omega (arith, le, lt)

pub gen_turn : (r : ReadSoFar) → IsReading r → (h : Bool) (made : Made) (n : Bool) → made ≡ Gen n → IsTrue h ↔ (length r.generators ≤ length r.entries)
    → (gens : List (List Term)) → AreGenerators r.source gens → IsTrue (not h) ↔ IsInTurn gens (vectors_of r.entries) made
gen_turn r reading h made n is has gens are =
    let long = length-map r.entries (λ (e : BasisEntry). e.vector) in
    let same = same_count r.source r.generators reading.base gens are in
    subst (λ (m : Made). IsTrue (not h) ↔ IsInTurn gens (vectors_of r.entries) m) (sym is) (by h has)
  where
    by : (h : Bool) → IsTrue h ↔ (length r.generators ≤ length r.entries) → IsTrue (not h) ↔ IsInTurn gens (vectors_of r.entries) (Gen n)
    by true has = (
      λ no. absurd (let wrong : false ≡ true = no in cc),
      λ turn. absurd (let le = has.0 refl in
          omega (arith, le, turn, length-map r.entries (λ (e : BasisEntry). e.vector), same_count r.source r.generators reading.base gens are)),
    )
    by false has = (
      λ yes. elim (le_or_less (length r.generators) (length r.entries)) [
        | inl le ↦ absurd (let wrong : false ≡ true = has.1 le in cc)
        | inr lt ↦ omega (arith, lt, length-map r.entries (λ (e : BasisEntry). e.vector), same_count r.source r.generators reading.base gens are)
      ],
      λ turn. refl,
    )

pub sum_turn : (r : ReadSoFar) → IsReading r → (a : Bool) (made : Made) (steps : List Step) → made ≡ Sum steps → length r.generators ≤ length r.entries
    → IsTrue a ↔ AreNear (vectors_of r.entries) steps
    → (gens : List (List Term)) → AreGenerators r.source gens → IsTrue a ↔ IsInTurn gens (vectors_of r.entries) made
sum_turn r reading a made steps is le near gens are =
    let long = length-map r.entries (λ (e : BasisEntry). e.vector) in
    let same = same_count r.source r.generators reading.base gens are in
    subst (λ (m : Made). IsTrue a ↔ IsInTurn gens (vectors_of r.entries) m) (sym is)
    ((λ yes. (omega (arith, le, long, same), near.0 yes)), λ turn. near.1 turn.1)

pub no_turn : (r : ReadSoFar) → IsReading r → (h : Bool) (made : Made) (steps : List Step) → made ≡ Sum steps → h ≡ false
    → IsTrue h ↔ (length r.generators ≤ length r.entries)
    → (gens : List (List Term)) → AreGenerators r.source gens → IsTrue h ↔ IsInTurn gens (vectors_of r.entries) made
no_turn r reading h made steps is off has gens are =
    let long = length-map r.entries (λ (e : BasisEntry). e.vector) in
    let same = same_count r.source r.generators reading.base gens are in
    subst (λ (m : Made). IsTrue h ↔ IsInTurn gens (vectors_of r.entries) m) (sym is)
    ((λ yes. absurd (let wrong : false ≡ true = sym off ∙ yes in cc)), λ turn. let t = turn.0 in has.1 (omega (arith, t, long, same)))

-- an entry that isn't the next one
pub cant_stand : (gens : List (List Term)) (es : List BasisEntry) (number : ℕ) (made : Made) (v : List Term) (l : Line) → l ≡ lines.Entry number made v
    → (b : Bool) → IsTrue b ↔ ((number ≡ length es) × MayStand gens es made v) → b ≡ false
    → (m : Made) (w : List Term) → l ≡ lines.Entry (length es) m w → MayStand gens es m w → ⊥
cant_stand gens es number made v l is b test off m w other may =
    let parts = same_parts number (length es) made m v w (sym is ∙ other) in
    let yes = test.1 (parts.0, subst (λ (x : Made). MayStand gens es x v) (sym parts.1) (subst (λ (x : List Term). MayStand gens es m x) (sym parts.2) may)) in
    let wrong : false ≡ true = sym off ∙ yes in cc
  where
    same_parts : (i j : ℕ) (m n : Made) (v w : List Term) → lines.Entry i m v ≡ lines.Entry j n w → (i ≡ j) × (m ≡ n) × (v ≡ w)
    same_parts i j m n v w e = (cc, cc, cc)
