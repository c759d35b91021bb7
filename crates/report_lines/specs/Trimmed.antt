-- The lines of a trimmed report: it holds some of the entries, each with its number among the items of the whole
-- history, and tells in its head how many items these are.
use Rattle.std.specs.List.{flat_map}
use Rattle.std.specs.Prelude.{◌≡◌, ℕ, codes, decimal, List, [], ◌∷◌, ◌++◌, length, Option, Some}
use Rattle.spelling.specs.Spelling.{IsRead, IsSmall}
use Rattle.presentation.specs.Presented.{Presented}
use Rattle.module_vec.specs.declared.places.Term.{Term}
use Rattle.vector_text.specs.Spelling.{vector_text}
use Rattle.vector_text.specs.Over.{VectorIsOver, IsVectorOf}
use Rattle.report_lines.specs.declared.lines.Made.{Made}
use Rattle.report_lines.specs.declared.lines.Line.{Line}
use Rattle.report_lines.specs.declared.lines.Line.TheVariants as lines
use Rattle.report_lines.specs.declared.trimmed.TrimmedLine.{TrimmedLine}
use Rattle.report_lines.specs.declared.trimmed.TrimmedLine.TheVariants.{Entry, Other}
use Rattle.report_lines.specs.Texts.{pres_line, spaced, coloned, made_text, line_text}
use Rattle.report_lines.specs.Lines.{MadeIsOver, LineIsOver, IsMadeOf, IsLineOf}

-- ---- texts

-- the first line; the second is that of a whole report
abbrev pub trimmed_title : List ℕ
trimmed_title = codes "metab report 2"

-- the third line: how many items the whole history has
abbrev pub items_line : ℕ → List ℕ
items_line n = codes "items " ++ decimal n

-- how an entry was made, and its vector
abbrev pub recipe_text : Presented → Made → List Term → List ℕ
recipe_text p made vector = coloned (made_text p.names made) (vector_text p.names vector)

abbrev pub trimmed_line_text : Presented → TrimmedLine → List ℕ
trimmed_line_text p (Entry number from made vector) =
    codes "entry " ++ spaced (decimal number) (codes "from " ++ spaced (decimal from) (recipe_text p made vector))
trimmed_line_text p (Other l) = line_text p l

-- each of these lines, with its end
abbrev pub trimmed_lines_text : Presented → List TrimmedLine → List ℕ
trimmed_lines_text p ls = flat_map (λ l. trimmed_line_text p l ++ 10 ∷ []) ls

-- a whole trimmed report: the three lines at the head, and these lines
abbrev pub trimmed_text : Presented → ℕ → List TrimmedLine → List ℕ
trimmed_text p n ls = trimmed_title ++ 10 ∷ (pres_line p ++ 10 ∷ (items_line n ++ 10 ∷ trimmed_lines_text p ls))

-- ---- which lines there are

-- the line is not that of an entry
abbrev pub IsNoEntry : Line → Type 0
IsNoEntry (lines.Entry number made vector) = ⊥
IsNoEntry lines.Seal = Unit {0}
IsNoEntry (lines.Live session number front question verdict) = Unit {0}
IsNoEntry (lines.Proof subject steps) = Unit {0}
IsNoEntry (lines.End end) = Unit {0}
IsNoEntry (lines.Close session number question verdict) = Unit {0}
IsNoEntry lines.Done = Unit {0}

-- each part of the line is over the presentation's generators, so that the line can be written
abbrev pub TrimmedIsOver : Presented → TrimmedLine → Type 0
TrimmedIsOver p (Entry number from made vector) =
    MadeIsOver (length p.names) made × VectorIsOver (length p.names) vector
TrimmedIsOver p (Other l) = LineIsOver p l

abbrev pub IsRecipeOf : Presented → Made → List Term → Type 0
IsRecipeOf p made vector = IsMadeOf (length p.names) made × IsVectorOf (length p.names) vector

-- a line of a trimmed report over p
abbrev pub IsTrimmedLineOf : Presented → TrimmedLine → Type 0
IsTrimmedLineOf p (Entry number from made vector) = IsSmall number × (IsSmall from × IsRecipeOf p made vector)
IsTrimmedLineOf p (Other l) = IsNoEntry l × IsLineOf p l

-- a reader of this text answers the line
abbrev pub IsTrimmedReadBack : Presented → TrimmedLine → List ℕ → Type 0
IsTrimmedReadBack p line text = (read : Option TrimmedLine)
    → IsRead (trimmed_line_text p) (IsTrimmedLineOf p) text read → read ≡ Some line
