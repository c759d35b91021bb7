-- How the lines of a file are read, one after another.
use Rattle.std.proofs.Common.{◌≡◌, ◌≢◌, ℕ, ◌+◌, ◌≤◌, List, [], ◌++◌, length, Some, None, refl, sym, ap, subst, ◌∙◌, arith}
use Rattle.std.specs.Prelude.{Result, Ok, Err, MatchResult, IfErr}
use Rattle.spelling.specs.Spelling.{cut}
use Rattle.presentation.specs.Presented.{Presented, IsPresented}
use Rattle.module_vec.specs.declared.places.Term.{Term}
use Rattle.fox_calculus.specs.Generators.{AreGenerators}
use Rattle.basis_entry.specs.Entries.{BasisEntry, vectors_of}
use Rattle.saved_basis.specs.declared.faults.LineKind.TheVariants.{Text}
use Rattle.saved_basis.specs.declared.faults.LineFault.{LineFault}
use Rattle.saved_basis.specs.declared.faults.LineFault.TheVariants as faults
use Rattle.saved_basis.specs.declared.faults.BasisFault.{BasisFault}
use Rattle.saved_basis.specs.declared.faults.BasisFault.TheVariants.{Line, Open, Stopped, NoMemory}
use Rattle.saved_basis.specs.Faults.{of_line}
use Rattle.saved_basis.specs.Files.{begun_text}
use Rattle.saved_basis.specs.Lines.{LineFails, Outcome}
use Rattle.saved_basis.specs.Readers.{ReadSoFar, IsReading, IsEnd, TakesEntry}
use Rattle.saved_basis.specs.Reading.{IsFileOf, ReadsBasis, TellsLine, HeadFails}
use Rattle.saved_basis.specs.Tasks.{IsAny, TellsFirst}
use Rattle.saved_basis.proofs.Beginning.{saved}
use Rattle.saved_basis.proofs.Making.{same_count}
use Rattle.saved_basis.proofs.Texts.{missing, fails, longer, whole, goes_on}

-- a fault that is passed on
pub of_fault : {X E : Type 0} (r : Result X E) (A : X → Type 0) (F : E → Type 0) (e f : E) → r ≡ Err e → e ≡ f → F f → MatchResult r A F
of_fault r A F e f is same h = subst (λ x. MatchResult x A F) (sym is) (subst F (sym same) h)

pub if_fault : {X E : Type 0} (r : Result X E) (F : E → Type 0) (e f : E) → r ≡ Err e → e ≡ f → F f → IfErr r F
if_fault r F e f is same h = subst (λ x. IfErr x F) (sym is) (subst F (sym same) h)

pub head_tells : (p : Presented) (text : List ℕ) (gens : List (List Term)) (fault : BasisFault) → AreGenerators p gens → HeadFails p text fault
    → TellsLine p text fault
head_tells p text gens (Line n k) are h = record { generators = gens; are = are; fault = h gens }
head_tells p text gens (Open i j kind) are h = h
head_tells p text gens (Stopped i j kind stop) are h = h
head_tells p text gens NoMemory are h = tt

module _ (r : ReadSoFar) (reading : IsReading r) (text rest : List ℕ) (is : text ≡ begun_text r.source r.entries ++ rest) where
  pub none_left : (fault : BasisFault) → fault ≡ Line (length r.entries + 3) Text → cut 10 rest ≡ None → TellsLine r.source text fault
  none_left fault e none =
      subst (TellsLine r.source text) (sym e) (missing r.source reading.base.gens text reading.base.generators r.entries rest reading.beginning is
      (length r.entries + 3) refl none)

  module _ (line others : List ℕ) (parts : cut 10 rest ≡ Some (line, others)) where
    pub line_tells : (e : LineFault) (n : ℕ) (fault : BasisFault) → n ≡ length r.entries + 3 → fault ≡ of_line n e
        → Outcome {X = ReadSoFar} (TakesEntry r line) (LineFails r.source reading.base.gens r.entries line) (Err e) → TellsLine r.source text fault
    line_tells (faults.Fails k) n fault number at h =
        subst (TellsLine r.source text) (sym at) (fails r.source reading.base.gens text reading.base.generators r.entries rest reading.beginning is line others
        parts n k number h)
    line_tells faults.NoMemory n fault number at h = subst (TellsLine r.source text) (sym at) tt

    pub taken_text : (t : ReadSoFar) → TakesEntry r line t → (t.source ≡ r.source) × (text ≡ begun_text t.source t.entries ++ others)
    taken_text t h = (
      ap (λ (x : ReadSoFar). x.source) h.is,
      longer r.source reading.base.gens text reading.base.generators r.entries rest reading.beginning is line others parts h.entry h.spelled
          ∙ (λ i. begun_text (sym h.is i).source (sym h.is i).entries ++ others),
    )

    all_there : IsEnd r line → length reading.base.gens ≤ length r.entries
    all_there end = let le = end.1 in omega (arith, le, same_count r.source r.generators reading.base reading.base.gens reading.base.generators)

    -- the last line, and what stands behind it
    pub ended_result : {V : Type 0} (result : Result V BasisFault) (list : V → List BasisEntry) → IsPresented r.source → IsEnd r line
        → MatchResult result (λ v. (others ≡ []) × (list v ≡ r.entries)) (λ fault. (others ≢ []) × (fault ≡ Line (length r.entries + 4) Text))
        → MatchResult result (λ v. IsFileOf r.source text (list v)) (TellsLine r.source text)
    ended_result (Ok v) list known end h = subst (IsFileOf r.source text) (sym h.1) (record {
      saved = saved r.source reading.base.gens r.entries known reading.base.generators reading.beginning (all_there end);
      spelled = whole r.source reading.base.gens text reading.base.generators r.entries rest reading.beginning is line others parts end.0 h.0;
    })
    ended_result (Err e) list known end h =
        subst (TellsLine r.source text) (sym h.1) (goes_on r.source reading.base.gens text reading.base.generators r.entries rest reading.beginning is
        line others parts (length r.entries + 4) refl (all_there end) end.0 h.0)

-- the fault of a task, where all lines stand
pub tells_reads : (p : Presented) (text : List ℕ) (es : List BasisEntry) → IsFileOf p text es → (fault : BasisFault)
    → TellsFirst IsAny (vectors_of es) fault → ReadsBasis p text (Err fault)
tells_reads p text es file (Line n k) h = absurd h
tells_reads p text es file (Open i j kind) h = (es, file, h)
tells_reads p text es file (Stopped i j kind stop) h = (es, file, h)
tells_reads p text es file NoMemory h = tt
