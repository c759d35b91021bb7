-- What the lines of a whole report tell, and which line may follow them.
use Rattle.std.specs.Prelude.{◌≡◌, ◌↔◌, ℕ, ◌+◌, ◌-◌, ◌<◌, ◌≤◌, Bool, true, false, if◌then◌else◌, List, [], ◌∷◌, ◌++◌}
use Rattle.std.specs.Prelude.{length, drop, slice_get, Option, Some, None, IsSome}
use Rattle.std.specs.Option.{unwrap_or}
use Rattle.std.specs.declared.cmp.Ordering.{Ordering}
use Rattle.std.specs.Ordering.{nat_cmp, ordering_then}
use Rattle.std.specs.BTreeMap.{insert_entry, is_at}
use Rattle.std.specs.Map.{lookup}
use Rattle.word_text.specs.Place.{capped}
use Rattle.module_vec.specs.declared.places.Term.{Term}
use Rattle.module_vec.specs.declared.steps.Step.{Step}
use Rattle.outcomes.specs.declared.ends.End.{End}
use Rattle.outcomes.specs.declared.ends.End.TheVariants as ends
use Rattle.outcomes.specs.declared.verdicts.Verdict.{Verdict}
use Rattle.outcomes.specs.declared.verdicts.Verdict.TheVariants as verdicts
use Rattle.session_text.specs.declared.question.Question.{Question}
use Rattle.session_text.specs.Questions.{first_long_image}
use Rattle.basis_entry.specs.declared.recipes.Recipe.{Recipe}
use Rattle.basis_entry.specs.declared.recipes.Recipe.TheVariants as recipes
use Rattle.report_lines.specs.declared.lines.Made.{Made}
use Rattle.report_lines.specs.declared.lines.Made.TheVariants as made
use Rattle.report_lines.specs.declared.lines.Line.{Line}
use Rattle.report_lines.specs.declared.lines.Line.TheVariants as lines
use Rattle.report_lines.specs.Lines.{subject_count}
use Rattle.report_reading.specs.declared.entry.EntryData.{EntryData}
use Rattle.report_reading.specs.declared.replies.ReplyData.{ReplyData}
use Rattle.report_reading.specs.declared.data.ReportData.{ReportData}

-- what some lines behind the head tell
pub record Told : Type 0 where
  -- the number of each entry among the items
  pub from : List ℕ
  pub entries : List EntryData
  pub sealed : Bool
  pub replies : List ReplyData
  -- the number of each session's last question
  pub numbers : List (ℕ × ℕ)
  -- where among the replies those stand that leave their question open and have no closing one yet, by the numbers of
  -- session and question
  pub left_open : List ((ℕ × ℕ) × ℕ)
  pub end : Option End
  pub finished : Bool

-- no lines tell this
abbrev pub nothing : Told
nothing = record {
  from = [];
  entries = [];
  sealed = false;
  replies = [];
  numbers = [];
  left_open = [];
  end = None;
  finished = false;
}

-- ---- what is told so far

-- a seal is an item, as each entry is
abbrev pub item_count : Told → ℕ
item_count t = length t.entries + (if t.sealed then 1 else 0)

abbrev pub last_reply : Told → Option ReplyData
last_reply t = slice_get t.replies (length t.replies - 1)

-- the number of the session's last question, 0 before the first
abbrev pub last_number : Told → ℕ → ℕ
last_number t session = unwrap_or (lookup (is_at (nat_cmp session)) t.numbers) 0

-- ---- answers

-- a yes has a proof for each subject
abbrev pub proof_count : Question → Verdict → ℕ
proof_count q verdicts.Trivial = subject_count q
proof_count q verdicts.NotTrivial = 0
proof_count q (verdicts.Normal v) = 0
proof_count q verdicts.Extends = subject_count q
proof_count q (verdicts.Fails j) = 0
proof_count q (verdicts.Unknown j) = 0
proof_count q (verdicts.Stop j stop) = 0

-- the verdict leaves its question open
abbrev pub is_open : Verdict → Bool
is_open verdicts.Trivial = false
is_open verdicts.NotTrivial = false
is_open (verdicts.Normal v) = false
is_open verdicts.Extends = false
is_open (verdicts.Fails j) = false
is_open (verdicts.Unknown j) = true
is_open (verdicts.Stop j stop) = true

-- the reply, if there is one, has all its proofs
abbrev pub IsShown : Option ReplyData → Type 0
IsShown None = Unit {0}
IsShown (Some r) = length r.proofs ≡ proof_count r.question r.verdict

-- the proof of subject j is due to the reply
abbrev pub IsDue : ℕ → Option ReplyData → Type 0
IsDue j None = ⊥
IsDue j (Some r) = (length r.proofs < proof_count r.question r.verdict) × (j ≡ length r.proofs + 1)

-- at one front sessions stand in order
abbrev pub IsInOrder : ℕ → ℕ → Option ReplyData → Type 0
IsInOrder session front None = Unit {0}
IsInOrder session front (Some r) = r.front ≡ front → r.session ≤ session

-- the question is the first that is open
pub record IsNextOpen (t : Told) (session number : ℕ) (q : Question) : Type 0 where
  pub place : ℕ
  pub reply : ReplyData
  pub first : slice_get t.left_open 0 ≡ Some ((session, number), place)
  pub is : slice_get t.replies place ≡ Some reply
  pub repeats : reply.question ≡ q

-- ---- which line may follow

-- the end isn't told yet, and no proof is due
abbrev pub MayGoOn : Told → Type 0
MayGoOn t = (t.end ≡ None) × IsShown (last_reply t)

-- the end was told, the last line wasn't, and no proof is due
abbrev pub IsClosing : Told → Type 0
IsClosing t = IsSome t.end × (t.finished ≡ false) × IsShown (last_reply t)

-- The line may follow. Items are numbered in order, and none follows the seal; an answer stands behind the item that
-- completes its front, by session and question, and no image in it is past its limit; a proof stands behind its answer;
-- the seal stands exactly where the end is `sealed`; behind the end, by session and question, exactly the questions
-- that are left open are answered once more
abbrev pub MayFollow : Told → Line → Type 0
MayFollow t (lines.Entry number made vector) = MayGoOn t × (t.sealed ≡ false) × (number ≡ length t.entries)
MayFollow t lines.Seal = MayGoOn t × (t.sealed ≡ false)
MayFollow t (lines.Live session number front q v) =
    MayGoOn t × (front ≡ item_count t) × (number ≡ last_number t session + 1) × IsInOrder session front (last_reply t)
    × (first_long_image q ≡ None)
MayFollow t (lines.Proof subject steps) = IsDue subject (last_reply t)
MayFollow t (lines.End end) = MayGoOn t × ((t.sealed ≡ true) ↔ (end ≡ ends.Sealed))
MayFollow t (lines.Close session number q v) = IsClosing t × IsNextOpen t session number q
MayFollow t lines.Done = IsClosing t × (t.left_open ≡ [])

-- ---- what is told with one more line

abbrev pub recipe_of : ℕ → Made → Recipe
recipe_of number (made.Gen negated) = recipes.Gen number negated
recipe_of number (made.Sum steps) = recipes.Sum steps

-- by session, then by question
abbrev pub by_number : ℕ × ℕ → ℕ × ℕ → Ordering
by_number x y = ordering_then (nat_cmp x.0 y.0) (nat_cmp x.1 y.1)

-- one more proof of the last reply
abbrev pub with_proof : List Step → List ReplyData → List ReplyData
with_proof steps [] = []
with_proof steps (r ∷ []) = record r { proofs = r.proofs ++ steps ∷ [] } ∷ []
with_proof steps (r ∷ s ∷ rs) = r ∷ with_proof steps (s ∷ rs)

-- one more entry, whose number among the items is `from`
abbrev pub tell_entry : Told → ℕ → Made → List Term → Told
tell_entry t from made vector =
    record t {
      from = t.from ++ from ∷ [];
      entries = t.entries ++ record {
        recipe = recipe_of from made;
        vector = vector;
      } ∷ [];
    }

-- what is answered behind the end to the first question that is open
abbrev pub tell_closing : Told → ℕ → ℕ → Question → Verdict → Told
tell_closing t session front q v = record t {
  replies = t.replies ++ record {
    session = session;
    question = q;
    live = false;
    front = front;
    verdict = v;
    proofs = [];
  } ∷ [];
  left_open = drop 1 t.left_open;
}

abbrev pub tell : Told → Line → Told
tell t (lines.Entry number made vector) = tell_entry t number made vector
tell t lines.Seal = record t { sealed = true }
tell t (lines.Live session number front q v) = record t {
  replies = t.replies ++ record {
    session = session;
    question = q;
    live = true;
    front = front;
    verdict = v;
    proofs = [];
  } ∷ [];
  numbers = insert_entry nat_cmp t.numbers session number;
  left_open = if is_open v then insert_entry by_number t.left_open (session, number) (length t.replies)
      else t.left_open;
}
tell t (lines.Proof subject steps) = record t { replies = with_proof steps t.replies }
tell t (lines.End end) = record t { end = Some end }
tell t (lines.Close session number q v) = tell_closing t session (capped (item_count t)) q v
tell t lines.Done = record t { finished = true }

-- ---- all lines

-- each of the lines may follow those before it, and from the first on they tell this
abbrev pub TellBy : {L : Type 0} → (Told → L → Type 0) → (Told → L → Told) → Told → List L → Told → Type 0
TellBy May told s [] t = s ≡ t
TellBy May told s (l ∷ ls) t = May s l × TellBy May told (told s l) ls t

abbrev pub Tell : Told → List Line → Told → Type 0
Tell s ls t = TellBy MayFollow tell s ls t

-- the last line was told, and this is what was told, of version v with n items
pub record IsDataAs (v n : ℕ) (t : Told) (d : ReportData) : Type 0 where
  pub finished : t.finished ≡ true
  pub version : d.version ≡ v
  pub items : d.items ≡ n
  pub from : d.from ≡ t.from
  pub entries : d.entries ≡ t.entries
  pub replies : d.replies ≡ t.replies
  pub end : t.end ≡ Some d.end

abbrev pub IsDataOf : Told → ReportData → Type 0
IsDataOf t d = IsDataAs 1 (capped (item_count t)) t d
