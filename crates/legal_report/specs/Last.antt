-- The last verdicts of a report.
use Rattle.std.specs.List.{AllByRecursion}
use Rattle.std.specs.Prelude.{◌≡◌, ℕ, Bool, true, false, List, [], ◌∷◌, ◌++◌, map, count_by, slice_get}
use Rattle.std.specs.Prelude.{◌==◌, ◌||◌, not, if◌then◌else◌, Option, Some, None, unwrap_or}
use Rattle.presentation.specs.Presented.{Presented}
use Rattle.session_text.specs.declared.question.Question.{Question}
use Rattle.basis_entry.specs.Entries.{BasisEntry}
use Rattle.basis_entry.specs.Seals.{Seal}
use Rattle.session_core.specs.declared.kept.Kept.{Kept}
use Rattle.session_core.specs.declared.kept.Tag.{Tag}
use Rattle.session_core.specs.declared.kept.Tag.TheVariants as tags
use Rattle.session_core.specs.Replies.{tag_of}
use Rattle.session_core.specs.Sessions.{SessionState}
use Rattle.report_text.specs.Answers.{IsAnswered, IsSessionAnswered, AreAnswered}
use Rattle.report_text.specs.Closing.{is_left_open, HasClosing, HasClosings}
use Rattle.report_text.specs.Histories.{Reply, Answered, SessionAnswers, History}
use Rattle.report_text.specs.Reports.{Reported, IsHistoryOf}
use Rattle.legal_report.specs.declared.last.Kind.{Kind}
use Rattle.legal_report.specs.declared.last.Kind.TheVariants.{Trivial, NotTrivial, Normal, Extends, Fails, Unknown, Stop}

-- the kind of a verdict, by its tag
abbrev pub kind_of : Tag → Kind
kind_of tags.Trivial = Trivial
kind_of tags.NotTrivial = NotTrivial
kind_of tags.Normal = Normal
kind_of tags.Extends = Extends
kind_of (tags.Fails j) = Fails
kind_of (tags.Unknown j) = Unknown
kind_of (tags.Stop j stop) = Stop

-- what was answered to a question last: behind the end, where that was answered once more
abbrev pub last_reply : Answered → Reply
last_reply a = unwrap_or a.closing a.live

abbrev pub last_kind : Answered → Kind
last_kind a = kind_of (tag_of (last_reply a).verdict)

-- the kinds of the last verdicts, by session and question
abbrev pub last_kinds_in : List SessionAnswers → List Kind
last_kinds_in [] = []
last_kinds_in (t ∷ ts) = map last_kind t.answers ++ last_kinds_in ts

abbrev pub last_kinds : History → List Kind
last_kinds h = last_kinds_in h.sessions

-- the kinds are the same
abbrev pub is_same : Kind → Kind → Bool
is_same Trivial Trivial = true
is_same NotTrivial NotTrivial = true
is_same Normal Normal = true
is_same Extends Extends = true
is_same Fails Fails = true
is_same Unknown Unknown = true
is_same Stop Stop = true
is_same a b = false

-- how many of the kinds are this one
abbrev pub how_many : Kind → List Kind → ℕ
how_many kind kinds = count_by (is_same kind) kinds

-- these are the kinds of the last verdicts of the report
abbrev pub AreLastKinds : Reported → List Kind → Type 0
AreLastKinds r kinds = (h : History) → IsHistoryOf r h → kinds ≡ last_kinds h

-- ---- what is found of the questions of a session

-- the kind of a reply that decides its question, or is by all items, of which there are so many
abbrev pub kind_kept : ℕ → Option Kept → Option Kind
kind_kept all None = None
kind_kept all (Some k) = if not (is_left_open k.tag) || (k.front == all) then Some (kind_of k.tag) else None

-- The question at a place of the session has a last verdict of this kind: where it was left open it has a reply by all
-- items, and however it is answered, the last verdict is of this kind
pub record IsLastKind (p : Presented) (es : List BasisEntry) (seal : Option Seal) (s : SessionState) (i : ℕ)
    (kind : Kind) : Type 0 where
  pub closing : (q : Question) (k : Kept) → slice_get s.questions i ≡ Some q → slice_get s.kept i ≡ Some k
      → is_left_open k.tag ≡ true → HasClosing p es seal q
  pub is : (q : Question) (k : Kept) (a : Answered) → slice_get s.questions i ≡ Some q → slice_get s.kept i ≡ Some k
      → IsAnswered p es seal q k a → kind ≡ last_kind a

-- the kinds of the session's last verdicts are put behind others, and each question that was left open has a reply by
-- all items
pub record ArePut (p : Presented) (es : List BasisEntry) (seal : Option Seal) (s : SessionState)
    (old new : List Kind) : Type 0 where
  pub closings : HasClosings p es seal s
  pub are : (t : SessionAnswers) → IsSessionAnswered p es seal s t → new ≡ old ++ map last_kind t.answers

-- so it is with all sessions
pub record AreFound (p : Presented) (es : List BasisEntry) (seal : Option Seal) (ss : List SessionState)
    (kinds : List Kind) : Type 0 where
  pub closings : AllByRecursion (HasClosings p es seal) ss
  pub are : (ts : List SessionAnswers) → AreAnswered p es seal ss ts → kinds ≡ last_kinds_in ts
