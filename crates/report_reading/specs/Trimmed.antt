-- What the lines of a trimmed report tell, and which line may follow them. The items are those of the whole history,
-- and each entry that is kept has its number among them; the number of the seal is that of the items less 1.
use Rattle.std.specs.Prelude.{◌≡◌, ℕ, ◌+◌, ◌-◌, ◌<◌, ◌≤◌, true, false, length, slice_get, Option, Some, None}
use Rattle.spelling.specs.Spelling.{IsSmall}
use Rattle.session_text.specs.Questions.{first_long_image}
use Rattle.report_lines.specs.declared.lines.Line.{Line}
use Rattle.report_lines.specs.declared.lines.Line.TheVariants as lines
use Rattle.report_lines.specs.declared.trimmed.TrimmedLine.{TrimmedLine}
use Rattle.report_lines.specs.declared.trimmed.TrimmedLine.TheVariants.{Entry, Other}
use Rattle.report_reading.specs.declared.replies.ReplyData.{ReplyData}
use Rattle.report_reading.specs.declared.data.ReportData.{ReportData}
use Rattle.report_reading.specs.Telling.{Told, last_reply, last_number, IsInOrder, MayGoOn, MayFollow, tell_entry, tell_closing, tell}
use Rattle.report_reading.specs.Telling.{IsDataAs}

-- ---- where in the history the lines so far stand

-- the number of the last entry, if there is one
abbrev pub last_from : Told → Option ℕ
last_from t = slice_get t.from (length t.from - 1)

-- the entries so far have numbers below k
abbrev pub AreBelow : Option ℕ → ℕ → Type 0
AreBelow None k = Unit {0}
AreBelow (Some from) k = from < k

-- no answer so far was made at a front above k
abbrev pub IsReached : Option ReplyData → ℕ → Type 0
IsReached None k = Unit {0}
IsReached (Some r) k = r.front ≤ k

-- item number k of a history of n items may stand here: items rise, none follows the seal, and an answer that was made
-- by this item stands behind it
abbrev pub IsNextItem : ℕ → Told → ℕ → Type 0
IsNextItem n t k = (t.sealed ≡ false) × (k < n) × AreBelow (last_from t) k × IsReached (last_reply t) k

-- an answer at this front may stand here: behind the items with numbers below the front, of which the seal is the last,
-- and before the others; fronts don't fall
abbrev pub IsFrontHere : ℕ → Told → ℕ → Type 0
IsFrontHere n t front = (front ≤ n) × AreBelow (last_from t) front × IsReached (last_reply t) front
    × (t.sealed ≡ true → front ≡ n)

-- ---- which line may follow

-- What stands in a whole report too, as there; but the seal and the answers stand where the history has come to them
abbrev pub OtherMayFollow : ℕ → Told → Line → Type 0
OtherMayFollow n t (lines.Entry number made vector) = ⊥
OtherMayFollow n t lines.Seal = MayGoOn t × IsNextItem n t (n - 1)
OtherMayFollow n t (lines.Live session number front q v) =
    MayGoOn t × IsFrontHere n t front × (number ≡ last_number t session + 1) × IsInOrder session front (last_reply t)
    × (first_long_image q ≡ None)
OtherMayFollow n t (lines.Proof subject steps) = MayFollow t (lines.Proof subject steps)
OtherMayFollow n t (lines.End end) = MayFollow t (lines.End end)
OtherMayFollow n t (lines.Close session number q v) = MayFollow t (lines.Close session number q v)
OtherMayFollow n t lines.Done = MayFollow t lines.Done

-- the line may follow in a trimmed report of n items: the entries that are kept are numbered in order
abbrev pub TrimmedMayFollow : ℕ → Told → TrimmedLine → Type 0
TrimmedMayFollow n t (Entry number from made vector) = MayGoOn t × (number ≡ length t.entries) × IsNextItem n t from
TrimmedMayFollow n t (Other l) = OtherMayFollow n t l

-- ---- what is told with one more line

-- behind the end, answers are made by all items
abbrev pub tell_other : ℕ → Told → Line → Told
tell_other n t (lines.Entry number made vector) = tell t (lines.Entry number made vector)
tell_other n t lines.Seal = tell t lines.Seal
tell_other n t (lines.Live session number front q v) = tell t (lines.Live session number front q v)
tell_other n t (lines.Proof subject steps) = tell t (lines.Proof subject steps)
tell_other n t (lines.End end) = tell t (lines.End end)
tell_other n t (lines.Close session number q v) = tell_closing t session n q v
tell_other n t lines.Done = tell t lines.Done

abbrev pub tell_trimmed : ℕ → Told → TrimmedLine → Told
tell_trimmed n t (Entry number from made vector) = tell_entry t from made vector
tell_trimmed n t (Other l) = tell_other n t l

-- the last line was told, and this is what was told
abbrev pub IsTrimmedDataOf : ℕ → Told → ReportData → Type 0
IsTrimmedDataOf n t d = IsDataAs 2 n t d × IsSmall n
