-- Sessions that ask the items of a book.
use Rattle.std.specs.List.{AllByRecursion}
use Rattle.std.specs.Prelude.{◌≡◌, ℕ, ◌+◌, ◌≤◌, List, Option, Some, slice_get, take}
use Rattle.presentation.specs.Presented.{Presented}
use Rattle.session_text.specs.declared.question.Question.{Question}
use Rattle.basis_entry.specs.Entries.{BasisEntry}
use Rattle.basis_entry.specs.Items.{seal_below}
use Rattle.basis_entry.specs.Seals.{Seal, item_count}
use Rattle.pair_book.specs.Books.{Held}
use Rattle.session_core.specs.declared.kept.Kept.{Kept}
use Rattle.session_core.specs.Questions.{CanBeAsked}
use Rattle.session_core.specs.Replies.{IsReply}
use Rattle.session_core.specs.Sessions.{SessionState, AreRising}

-- each reply is the verdict by the items below its front
abbrev pub AreReplies : Presented → List BasisEntry → Option Seal → List Question → List Kept → Type 0
AreReplies p es seal qs ks = (i : ℕ) (q : Question) (k : Kept) → slice_get qs i ≡ Some q → slice_get ks i ≡ Some k
    → IsReply p (take k.front es) (seal_below es seal k.front) q k

-- session number n of those that ask the book: its questions can be asked, its replies are by items of the book, and
-- their fronts don't fall
pub record IsAsker (h : Held) (n : ℕ) (s : SessionState) : Type 0 where
  pub number : s.number ≡ n
  pub base : s.base ≡ h.base
  pub questions : AllByRecursion (CanBeAsked h.source) s.questions
  pub replies : AreReplies h.source h.entries h.seal s.questions s.kept
  pub fronts : AllByRecursion (λ k. k.front ≤ item_count h.entries h.seal) s.kept
  pub rising : AreRising s.base s.kept

-- the sessions are numbered from 1
abbrev pub AreAskers : Held → List SessionState → Type 0
AreAskers h ss = (i : ℕ) (s : SessionState) → slice_get ss i ≡ Some s → IsAsker h (i + 1) s
