-- What the reader of lines answers of what is written.
use Rattle.std.specs.Prelude.{◌≡◌, ℕ, List, Option, Some}
use Rattle.spelling.specs.Spelling.{IsRead}
use Rattle.presentation.specs.Presented.{Presented}
use Rattle.report_lines.specs.declared.lines.Line.{Line}
use Rattle.report_lines.specs.Texts.{line_text}
use Rattle.report_lines.specs.Lines.{IsLineOf}

-- a reader of this text answers the line
abbrev pub IsLineReadBack : Presented → Line → List ℕ → Type 0
IsLineReadBack p line text = (read : Option Line) → IsRead (line_text p) (IsLineOf p) text read → read ≡ Some line
