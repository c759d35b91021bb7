-- The places that faults name are over the presentation's generators.
use Rattle.std.proofs.Common.{ℕ, List, [], ◌∷◌, length, Some, None, sym, subst}
use Rattle.std.specs.Prelude.{Option}
use Rattle.spelling.specs.Spelling.{cut}
use Rattle.std.specs.List.{AllByRecursion}
use Rattle.presentation.specs.Presented.{Presented, IsPresented}
use Rattle.module_vec.specs.declared.places.Term.{Term}
use Rattle.module_vec.specs.declared.faults.Stop.{Stop}
use Rattle.module_vec.specs.declared.faults.Stop.TheVariants as stops
use Rattle.outcomes.specs.declared.tasks.Task.{Task}
use Rattle.vector_text.specs.Over.{VectorIsOver}
use Rattle.report_lines.specs.Lines.{StopIsOver}
use Rattle.fox_calculus.specs.Generators.{AreGenerators}
use Rattle.cert_checker.specs.declared.faults.CertKind.TheVariants as checked
use Rattle.cert_checker.proofs.Named.{entry_over}
use Rattle.basis_entry.specs.Entries.{BasisEntry, IsBasisEntry, AreOf, vectors_of}
use Rattle.pair_work.specs.Works.{Stops}
use Rattle.pair_work.proofs.OverStops.{stop_over}
use Rattle.report_text.specs.Reports.{EntryIsOver}
use Rattle.saved_basis.specs.declared.faults.LineKind.{LineKind}
use Rattle.saved_basis.specs.declared.faults.LineKind.TheVariants.{Text, NoEntry, NotEqual, Wide, Long}
use Rattle.saved_basis.specs.declared.faults.BasisFault.{BasisFault}
use Rattle.saved_basis.specs.declared.faults.BasisFault.TheVariants.{Line, Open, Stopped, NoMemory}
use Rattle.saved_basis.specs.Lines.{LineFails, CantFollow, IsFirstFault}
use Rattle.saved_basis.specs.Tasks.{IsAny, TellsFirst}
use Rattle.saved_basis.specs.Reading.{TellsLine, KindIsOver, FaultIsOver}

vectors_over : (n : ℕ) (es : List BasisEntry) → AllByRecursion (EntryIsOver n) es → AllByRecursion (VectorIsOver n) (vectors_of es)
vectors_over n [] h = tt
vectors_over n (e ∷ es) h = (h.0.vector, vectors_over n es h.1)

module _ (p : Presented) (known : IsPresented p) (gens : List (List Term)) (are : AreGenerators p gens) where
  line_over : (es : List BasisEntry) (bytes : List ℕ) (k : LineKind) → AllByRecursion (EntryIsOver (length p.names)) es → LineFails p gens es bytes k
      → KindIsOver (length p.names) k
  line_over es bytes Text over h = tt
  line_over es bytes NoEntry over h = tt
  line_over es bytes (NotEqual at) over h =
      entry_over p known gens are (vectors_of es) (length (vectors_of es)) h.0 h.1 (checked.NotEqual at)
      (vectors_over (length p.names) es over) h.2.may.turn h.2.valid.1.0 h.2.valid.1.1.over h.3
  line_over es bytes Wide over h = tt
  line_over es bytes Long over h = tt

  follow_over : (es : List BasisEntry) (parts : Option (List ℕ × List ℕ)) (k : LineKind) → AllByRecursion (EntryIsOver (length p.names)) es
      → CantFollow p gens es parts k → KindIsOver (length p.names) k
  follow_over es None k over h = subst (KindIsOver (length p.names)) (sym h) tt
  follow_over es (Some parts) k over h = line_over es parts.0 k over h

  fault_over : (text : List ℕ) (n : ℕ) (k : LineKind) → IsFirstFault p gens text n k → KindIsOver (length p.names) k
  fault_over text _ _ (IsFirstFault.at_title other) = tt
  fault_over text _ _ (IsFirstFault.at_presentation rest begins other) = tt
  fault_over text _ k (IsFirstFault.behind es rest _ b begins cant) = follow_over es (cut 10 rest) k b.over cant
  fault_over text _ _ (IsFirstFault.after_last es rest b most begins some) = tt

pub lines_over : (p : Presented) (text : List ℕ) (fault : BasisFault) → IsPresented p → TellsLine p text fault → FaultIsOver (length p.names) fault
lines_over p text (Line n k) known h = fault_over p known h.generators h.are text n k h.fault
lines_over p text (Open i j kind) known h = absurd h
lines_over p text (Stopped i j kind stop) known h = absurd h
lines_over p text NoMemory known h = tt

stopped_over : (p : Presented) (es : List BasisEntry) (t : Task) (stop : Stop) → AllByRecursion IsBasisEntry es → AreOf p es → Stops (vectors_of es) t stop
    → StopIsOver (length p.names) stop
stopped_over p es t (stops.Wide at step) all of h = stop_over p es t at step all of h
stopped_over p es t (stops.Long terms step) all of h = tt
stopped_over p es t stops.Deep all of h = tt
stopped_over p es t (stops.Steep degree) all of h = tt

pub tasks_over : (p : Presented) (es : List BasisEntry) (fault : BasisFault) → AllByRecursion IsBasisEntry es → AreOf p es
    → TellsFirst IsAny (vectors_of es) fault → FaultIsOver (length p.names) fault
tasks_over p es (Line n k) all of h = absurd h
tasks_over p es (Open i j kind) all of h = tt
tasks_over p es (Stopped i j kind stop) all of h = stopped_over p es (record { i = i; j = j; kind = kind }) stop all of h.1
tasks_over p es NoMemory all of h = tt
