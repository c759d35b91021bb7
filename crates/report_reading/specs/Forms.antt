-- The two versions of a report, and for each: its lines, which of them may follow, and what they tell.
use Rattle.std.specs.List.{flat_map}
use Rattle.std.specs.Prelude.{ℕ, ◌==◌, if◌then◌else◌, List, [], ◌∷◌, ◌++◌}
use Rattle.spelling.specs.Spelling.{IsSmall}
use Rattle.presentation.specs.Presented.{Presented}
use Rattle.report_lines.specs.declared.lines.Line.{Line}
use Rattle.report_lines.specs.declared.trimmed.TrimmedLine.{TrimmedLine}
use Rattle.report_lines.specs.Lines.{IsLineOf}
use Rattle.report_lines.specs.Texts.{title, pres_line, line_text}
use Rattle.report_lines.specs.Trimmed.{trimmed_title, items_line, trimmed_line_text, IsTrimmedLineOf}
use Rattle.report_reading.specs.declared.data.ReportData.{ReportData}
use Rattle.report_reading.specs.declared.form.Form.{Form}
use Rattle.report_reading.specs.declared.form.Form.TheVariants.{Whole, Trimmed}
use Rattle.report_reading.specs.Telling.{Told, MayFollow, tell, TellBy, IsDataOf}
use Rattle.report_reading.specs.Trimmed.{TrimmedMayFollow, tell_trimmed, IsTrimmedDataOf}

-- the number of items in a head has 32 bits
abbrev pub IsForm : Form → Type 0
IsForm Whole = Unit {0}
IsForm (Trimmed n) = IsSmall n

-- the form that the data names
abbrev pub form_of : ReportData → Form
form_of d = if d.version == 1 then Whole else Trimmed d.items

-- ---- lines

abbrev pub LineIn : Form → Type 0
LineIn Whole = Line
LineIn (Trimmed n) = TrimmedLine

-- a line over the presentation
abbrev pub IsLineIn : (f : Form) → Presented → LineIn f → Type 0
IsLineIn Whole p l = IsLineOf p l
IsLineIn (Trimmed n) p l = IsTrimmedLineOf p l

abbrev pub text_in : (f : Form) → Presented → LineIn f → List ℕ
text_in Whole p l = line_text p l
text_in (Trimmed n) p l = trimmed_line_text p l

-- each of these lines, with its end
abbrev pub lines_in : (f : Form) → Presented → List (LineIn f) → List ℕ
lines_in f p ls = flat_map (λ l. text_in f p l ++ 10 ∷ []) ls

abbrev pub title_in : Form → List ℕ
title_in Whole = title
title_in (Trimmed n) = trimmed_title

-- behind the line of the presentation: that of the number of items, in a trimmed report, and this text
abbrev pub counted_in : Form → List ℕ → List ℕ
counted_in Whole body = body
counted_in (Trimmed n) body = items_line n ++ 10 ∷ body

-- the lines at the head, and this text behind them
abbrev pub headed_in : Form → Presented → List ℕ → List ℕ
headed_in f p body = title_in f ++ 10 ∷ (pres_line p ++ 10 ∷ counted_in f body)

-- the number of the first line behind the head
abbrev pub first_line : Form → ℕ
first_line Whole = 3
first_line (Trimmed n) = 4

-- ---- what they tell

-- the line may follow
abbrev pub FollowsIn : (f : Form) → Told → LineIn f → Type 0
FollowsIn Whole t l = MayFollow t l
FollowsIn (Trimmed n) t l = TrimmedMayFollow n t l

-- what is told with it
abbrev pub tell_in : (f : Form) → Told → LineIn f → Told
tell_in Whole t l = tell t l
tell_in (Trimmed n) t l = tell_trimmed n t l

-- each of the lines may follow those before it, and from the first on they tell this
abbrev pub TellIn : (f : Form) → Told → List (LineIn f) → Told → Type 0
TellIn f s ls t = TellBy (FollowsIn f) (tell_in f) s ls t

-- the last line was told, and this is what was told
abbrev pub SaysIn : Form → Told → ReportData → Type 0
SaysIn Whole t d = IsDataOf t d
SaysIn (Trimmed n) t d = IsTrimmedDataOf n t d
