-- What `gather` is handed, and what it answers.
use Rattle.std.specs.List.{AllByRecursion}
use Rattle.std.specs.Prelude.{◌≡◌, ◌≢◌, ◌≤◌, ℕ, ◌+◌, List, ◌++◌, length, map, take, slice_get, Option, Some, None}
use Rattle.presentation.specs.Presented.{Presented}
use Rattle.outcomes.specs.declared.ends.End.{End}
use Rattle.session_text.specs.declared.question.Question.{Question}
use Rattle.basis_entry.specs.Entries.{BasisEntry}
use Rattle.basis_entry.specs.Seals.{Seal, item_count}
use Rattle.pair_book.specs.Books.{Held}
use Rattle.session_core.specs.declared.kept.Kept.{Kept}
use Rattle.session_core.specs.Questions.{CanBeAsked}
use Rattle.session_core.specs.Replies.{IsReply}
use Rattle.session_core.specs.Sessions.{SessionState, IsSession, last_front}
use Rattle.completion_solo.specs.Ends.{Ends}
use Rattle.basis_entry.specs.Items.{seal_below}
use Rattle.pair_book.specs.declared.limits.Limits.{Limits}
use Rattle.legal_report.specs.Legal.{seal_at, AreByAll}

abbrev pub questions_of : List SessionState → List (List Question)
questions_of ss = map (λ s. s.questions) ss

-- the replies that are kept are by the items below their fronts
abbrev pub AreReplies : Presented → List BasisEntry → Option Seal → List Question → List Kept → Type 0
AreReplies p es seal qs ks = (i : ℕ) (q : Question) (k : Kept) → slice_get qs i ≡ Some q → slice_get ks i ≡ Some k
    → IsReply p (take k.front es) (seal_below es seal k.front) q k

-- A session that has asked over these items: its questions can be asked, each of its replies is by the items below its
-- front, and no front passes them
pub record HasAsked (p : Presented) (least : ℕ) (es : List BasisEntry) (seal : Option Seal) (n : ℕ)
    (s : SessionState) : Type 0 where
  pub number : s.number ≡ n
  pub base : s.base ≡ least
  pub questions : AllByRecursion (CanBeAsked p) s.questions
  pub replies : AreReplies p es seal s.questions s.kept
  pub fronts : AllByRecursion (λ k. k.front ≤ item_count es seal) s.kept

-- a session that asks the book: its replies are by items of the book
abbrev pub IsAsker : Held → ℕ → SessionState → Type 0
IsAsker h n s = HasAsked h.source h.base h.entries h.seal n s

abbrev pub AreAskers : Held → List SessionState → Type 0
AreAskers h ss = (i : ℕ) (s : SessionState) → slice_get ss i ≡ Some s → IsAsker h (i + 1) s

-- The session keeps its replies. Each question that had none is answered by all items, and then no question is left
pub record IsAnsweredOn (p : Presented) (es : List BasisEntry) (seal : Option Seal)
    (old new : SessionState) : Type 0 where
  pub more : List Kept
  pub is : new ≡ record old { kept = old.kept ++ more }
  pub count : length old.kept + length more ≡ length old.questions
  pub by_all : AreByAll es seal more
  pub replies : (i : ℕ) (q : Question) (k : Kept) → slice_get old.questions (length old.kept + i) ≡ Some q
      → slice_get more i ≡ Some k → IsReply p es seal q k
  pub session : IsSession new

-- so far: some of these questions are answered by all items
pub record IsAskedOn (p : Presented) (es : List BasisEntry) (seal : Option Seal) (old now : SessionState) : Type 0 where
  pub more : List Kept
  pub is : now ≡ record old { kept = old.kept ++ more }
  pub by_all : AreByAll es seal more
  pub replies : (i : ℕ) (q : Question) (k : Kept) → slice_get old.questions (length old.kept + i) ≡ Some q
      → slice_get more i ≡ Some k → IsReply p es seal q k
  pub front : last_front now ≤ item_count es seal

-- each session in order is answered so
pub record AreAnsweredOn (p : Presented) (es : List BasisEntry) (seal : Option Seal)
    (olds news : List SessionState) : Type 0 where
  pub count : length news ≡ length olds
  pub each : (i : ℕ) (old new : SessionState) → slice_get olds i ≡ Some old → slice_get news i ≡ Some new
      → IsAnsweredOn p es seal old new

-- the sessions can go on by all items of a list
abbrev pub CanGoOn : Presented → List BasisEntry → Option Seal → SessionState → Type 0
CanGoOn p es seal s = AllByRecursion (CanBeAsked p) s.questions × (last_front s ≤ item_count es seal)

-- items that begin with others: the entries go on, but behind a seal nothing is added
pub record GoesOn (es : List BasisEntry) (seal : Option Seal) (es2 : List BasisEntry)
    (seal2 : Option Seal) : Type 0 where
  pub more : List BasisEntry
  pub entries : es2 ≡ es ++ more
  pub sealed : seal ≢ None → (es2 ≡ es) × (seal2 ≡ seal)

-- the log is completed: the old one begins it, and it ends so. A sealed one stays as it is
pub record IsCompleted (p : Presented) (old : Held) (end : End) (new : Held) : Type 0 where
  pub source : new.source ≡ old.source
  pub limits : new.limits ≡ old.limits
  pub base : new.base ≡ old.base
  pub more : List BasisEntry
  pub entries : new.entries ≡ old.entries ++ more
  pub ends : Ends p new.limits new.entries end
  pub seal : new.seal ≡ seal_at p new.entries end
  pub sealed : old.seal ≢ None → (new.entries ≡ old.entries) × (new.seal ≡ old.seal)

-- a book of the presentation and of these limits whose completion has ended so
pub record IsEnded (p : Presented) (limits : Limits) (end : End) (h : Held) : Type 0 where
  pub source : h.source ≡ p
  pub limited : h.limits ≡ limits
  pub ends : Ends p limits h.entries end
  pub seal : h.seal ≡ seal_at p h.entries end
