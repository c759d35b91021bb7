-- Which text is a report, what it says, and which of its lines is the first that can't stand.
use Rattle.std.specs.List.{AllByRecursion}
use Rattle.std.specs.Prelude.{◌≡◌, ◌≢◌, ◌⊎◌, ℕ, ◌+◌, List, [], ◌∷◌, ◌++◌, length, Option, Some, None, Result, Ok, Err}
use Rattle.spelling.specs.Spelling.{cut, IsSmall}
use Rattle.word_text.specs.Place.{capped}
use Rattle.presentation.specs.Presented.{Presented}
use Rattle.report_lines.specs.declared.lines.Line.{Line}
use Rattle.report_lines.specs.declared.trimmed.TrimmedLine.{TrimmedLine}
use Rattle.report_lines.specs.Texts.{title, pres_line}
use Rattle.report_lines.specs.Trimmed.{trimmed_title, items_line}
use Rattle.report_reading.specs.declared.data.ReportData.{ReportData}
use Rattle.report_reading.specs.declared.form.Form.{Form}
use Rattle.report_reading.specs.declared.fault.ReportFault.{ReportFault}
use Rattle.report_reading.specs.declared.fault.ReportFault.TheVariants.{Line as AtLine, NoMemory}
use Rattle.report_reading.specs.Telling.{Told, nothing, MayFollow, tell}
use Rattle.report_reading.specs.Trimmed.{TrimmedMayFollow, tell_trimmed}
use Rattle.report_reading.specs.Forms.{IsForm, form_of, LineIn, IsLineIn, text_in, lines_in, headed_in, first_line, FollowsIn, tell_in, TellIn, SaysIn}

-- ---- one line

-- the line was taken, or may not follow
abbrev pub Takes : {L : Type 0} → (Told → L → Type 0) → (Told → L → Told) → Told → L → Option Told → Type 0
Takes May told t l None = May t l → ⊥
Takes May told t l (Some taken) = May t l × (taken ≡ told t l)

abbrev pub TakesLine : Told → Line → Option Told → Type 0
TakesLine t l taken = Takes MayFollow tell t l taken

abbrev pub TakesTrimmed : ℕ → Told → TrimmedLine → Option Told → Type 0
TakesTrimmed n t l taken = Takes (TrimmedMayFollow n) (tell_trimmed n) t l taken

-- the bytes are those of a line that may follow
pub record IsTaken (f : Form) (p : Presented) (t : Told) (bytes : List ℕ) (taken : Told) : Type 0 where
  pub line : LineIn f
  pub valid : IsLineIn f p line
  pub spelled : bytes ≡ text_in f p line
  pub follows : FollowsIn f t line
  pub is : taken ≡ tell_in f t line

-- or those of no such line
abbrev pub NoneFollows : Form → Presented → Told → List ℕ → Type 0
NoneFollows f p t bytes = (l : LineIn f) → IsLineIn f p l → FollowsIn f t l → bytes ≡ text_in f p l → ⊥

abbrev pub TakesBytes : Form → Presented → Told → List ℕ → Option Told → Type 0
TakesBytes f p t bytes None = NoneFollows f p t bytes
TakesBytes f p t bytes (Some taken) = IsTaken f p t bytes taken

-- ---- a whole text

-- lines over the presentation that may stand in this order behind the head of a report, and what they tell
pub record Begins (f : Form) (p : Presented) (ls : List (LineIn f)) (t : Told) : Type 0 where
  pub valid : AllByRecursion (IsLineIn f p) ls
  pub tells : TellIn f nothing ls t

-- these bytes behind the head are lines that tell all of a report
pub record IsBody (f : Form) (p : Presented) (text : List ℕ) (d : ReportData) : Type 0 where
  pub ls : List (LineIn f)
  pub told : Told
  pub begins : Begins f p ls told
  pub spelled : text ≡ lines_in f p ls
  pub says : SaysIn f told d

-- the text is that of a report of this form over the presentation, which says this
pub record IsReportIn (f : Form) (p : Presented) (text : List ℕ) (d : ReportData) : Type 0 where
  pub ls : List (LineIn f)
  pub told : Told
  pub begins : Begins f p ls told
  pub spelled : text ≡ headed_in f p (lines_in f p ls)
  pub says : SaysIn f told d

-- the text is that of a report over the presentation, which says this
abbrev pub IsReport : Presented → List ℕ → ReportData → Type 0
IsReport p text d = IsReportIn (form_of d) p text d

-- ---- the first line that can't stand

-- this line isn't the one that is due, or is missing
abbrev pub IsOther : List ℕ → Option (List ℕ × List ℕ) → Type 0
IsOther wanted None = Unit {0}
IsOther wanted (Some parts) = parts.0 ≢ wanted

-- this line tells no number of items, or is missing
abbrev pub IsUncounted : Option (List ℕ × List ℕ) → Type 0
IsUncounted None = Unit {0}
IsUncounted (Some parts) = (n : ℕ) → IsSmall n → parts.0 ≢ items_line n

-- what is left of the text can't stand behind what was told: its first line may not follow; or no whole line is left,
-- and either something was to follow or some bytes do
abbrev pub CantStand : Form → Presented → Told → List ℕ → Option (List ℕ × List ℕ) → Type 0
CantStand f p t rest None = (d : ReportData) → rest ≡ [] → SaysIn f t d → ⊥
CantStand f p t rest (Some parts) = NoneFollows f p t parts.0

-- behind the head, n lines stand and the next one can't
pub record StandsUpTo (f : Form) (p : Presented) (text : List ℕ) (n : ℕ) : Type 0 where
  pub ls : List (LineIn f)
  pub told : Told
  pub rest : List ℕ
  pub begins : Begins f p ls told
  pub spelled : text ≡ lines_in f p ls ++ rest
  pub fails : CantStand f p told rest (cut 10 rest)
  pub number : n ≡ capped (first_line f + length ls)

-- the line is the first of a report
abbrev pub IsTitle : List ℕ → Type 0
IsTitle line = (line ≡ title) ⊎ (line ≡ trimmed_title)

-- the line with this number is the first that can't stand
pub data IsFirstFault (p : Presented) (text : List ℕ) : ℕ → Type 0 where
  at_title : IsOther title (cut 10 text) → IsOther trimmed_title (cut 10 text) → IsFirstFault p text 1
  at_presentation : (first others : List ℕ) → IsTitle first → text ≡ first ++ 10 ∷ others
      → IsOther (pres_line p) (cut 10 others) → IsFirstFault p text 2
  at_items : (others : List ℕ) → text ≡ trimmed_title ++ 10 ∷ (pres_line p ++ 10 ∷ others)
      → IsUncounted (cut 10 others) → IsFirstFault p text 3
  behind : (f : Form) (n : ℕ) (body : List ℕ) → IsForm f → text ≡ headed_in f p body → StandsUpTo f p body n
      → IsFirstFault p text n

-- what is answered to a text, unless memory runs out
abbrev pub Answers : Presented → List ℕ → Result ReportData ReportFault → Type 0
Answers p text (Ok d) = IsReport p text d
Answers p text (Err (AtLine n)) = IsFirstFault p text n
Answers p text (Err NoMemory) = Unit {0}

-- ---- the parts of the text

-- a fault of a line of the head
abbrev pub FaultIs : (ℕ → Type 0) → ReportFault → Type 0
FaultIs IsAt (AtLine n) = IsAt n
FaultIs IsAt NoMemory = Unit {0}

-- a line of the head can't stand
abbrev pub HeadFails : Presented → List ℕ → ReportFault → Type 0
HeadFails p text fault = FaultIs (IsFirstFault p text) fault

-- the second line can't
pub record IsAtSecond (p : Presented) (text : List ℕ) (n : ℕ) : Type 0 where
  pub number : n ≡ 2
  pub other : IsOther (pres_line p) (cut 10 text)

-- the third can't
pub record IsAtThird (text : List ℕ) (n : ℕ) : Type 0 where
  pub number : n ≡ 3
  pub uncounted : IsUncounted (cut 10 text)

-- what is answered to the text behind the head
abbrev pub AnswersBody : Form → Presented → List ℕ → Result ReportData ReportFault → Type 0
AnswersBody f p text (Ok d) = IsBody f p text d
AnswersBody f p text (Err (AtLine n)) = StandsUpTo f p text n
AnswersBody f p text (Err NoMemory) = Unit {0}
