-- What was read of a file behind its head, and what may be read next.
use Rattle.std.specs.Prelude.{◌≡◌, ◌<◌, ◌≤◌, ℕ, List, ◌++◌, ◌∷◌, [], length}
use Rattle.presentation.specs.Presented.{Presented}
use Rattle.module_vec.specs.declared.places.Term.{Term}
use Rattle.module_vec.specs.Modules.{vector_at}
use Rattle.fox_calculus.specs.Generators.{AreGenerators}
use Rattle.report_lines.specs.declared.lines.Made.{Made}
use Rattle.report_lines.specs.declared.lines.Line.{Line}
use Rattle.report_lines.specs.declared.lines.Line.TheVariants as lines
use Rattle.report_lines.specs.Lines.{IsMadeOf}
use Rattle.report_lines.specs.Texts.{line_text}
use Rattle.basis_entry.specs.Base.{IsOfGenerator, AreBase}
use Rattle.basis_entry.specs.Entries.{BasisEntry, IsBasisEntry, vectors_of}
use Rattle.report_text.specs.Histories.{made_by}
use Rattle.report_text.specs.Reports.{IsSumOver, EntryIsOver}
use Rattle.saved_basis.specs.declared.faults.LineKind.{LineKind}
use Rattle.saved_basis.specs.declared.faults.LineKind.TheVariants.{Text}
use Rattle.saved_basis.specs.Files.{IsBeginning, last_line}
use Rattle.saved_basis.specs.Lines.{MayStand, LineFails}

-- the entries so far, beside those of the generators of the presentation's module
pub record ReadSoFar : Type 0 where
  pub source : Presented
  pub generators : List BasisEntry
  pub entries : List BasisEntry

pub record IsReading (r : ReadSoFar) : Type 0 where
  pub base : AreBase r.source r.generators
  pub beginning : IsBeginning r.source base.gens r.entries

-- the bytes are the last line, and every generator has its entry
abbrev pub IsEnd : ReadSoFar → List ℕ → Type 0
IsEnd r bytes = (bytes ≡ last_line) × (length r.generators ≤ length r.entries)

-- the line isn't that of an entry
abbrev pub IsNoEntry : Line → Type 0
IsNoEntry l = (number : ℕ) (made : Made) (v : List Term) → l ≡ lines.Entry number made v → ⊥

-- the bytes are no line that may stand behind these entries
abbrev pub IsTextFault : Presented → List (List Term) → List BasisEntry → List ℕ → LineKind → Type 0
IsTextFault p gens es bytes k = (k ≡ Text) × LineFails p gens es bytes Text

-- an entry of this making may be the next one
pub record CanBeNext (r : ReadSoFar) (made : Made) (v : List Term) : Type 0 where
  pub written : IsMadeOf (length r.source.names) made
  pub gens : List (List Term)
  pub generators : AreGenerators r.source gens
  pub may : MayStand gens r.entries made v

-- e is the next entry: it has this vector, and is what it is made to be
pub record IsNextEntry (r : ReadSoFar) (gens : List (List Term)) (made : Made) (v : List Term)
    (e : BasisEntry) : Type 0 where
  pub source : e.source ≡ r.source
  pub vector : e.vector ≡ v
  pub recipe : made_by e.recipe ≡ made
  pub entry : IsBasisEntry e
  pub over : EntryIsOver (length r.source.names) e
  pub begins : length r.entries < length gens
      → IsOfGenerator r.source (length r.entries) (vector_at gens (length r.entries)) e
  pub later : length gens ≤ length r.entries → IsSumOver (vectors_of r.entries) e

-- with e a list still begins a file
abbrev pub FitsIn : ReadSoFar → BasisEntry → Type 0
FitsIn r e = (gens : List (List Term)) × AreGenerators r.source gens
    × IsBeginning r.source gens (r.entries ++ e ∷ [])

-- the bytes are the line of one more entry
pub record TakesEntry (r : ReadSoFar) (bytes : List ℕ) (taken : ReadSoFar) : Type 0 where
  pub entry : BasisEntry
  pub is : taken ≡ record r { entries = r.entries ++ entry ∷ [] }
  pub spelled : bytes ≡ line_text r.source (lines.Entry (length r.entries) (made_by entry.recipe) entry.vector)
