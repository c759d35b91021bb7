-- What the writer finds out of the answers behind the end.
use Rattle.std.specs.Prelude.{◌≡◌, ℕ, Bool, true, false, List, slice_get, Option, Some}
use Rattle.presentation.specs.Presented.{Presented}
use Rattle.session_text.specs.declared.question.Question.{Question}
use Rattle.basis_entry.specs.Entries.{BasisEntry}
use Rattle.basis_entry.specs.Seals.{Seal}
use Rattle.session_core.specs.declared.kept.Kept.{Kept}
use Rattle.session_core.specs.declared.kept.Tag.{Tag}
use Rattle.session_core.specs.declared.kept.Tag.TheVariants.{Trivial, NotTrivial, Normal, Extends, Fails, Unknown, Stop}
use Rattle.session_core.specs.Sessions.{SessionState}
use Rattle.report_text.specs.Histories.{Reply}
use Rattle.report_text.specs.Answers.{IsClosingReply}

-- the reply leaves the question open
abbrev pub is_left_open : Tag → Bool
is_left_open Trivial = false
is_left_open NotTrivial = false
is_left_open Normal = false
is_left_open Extends = false
is_left_open (Fails j) = false
is_left_open (Unknown j) = true
is_left_open (Stop j stop) = true

-- the question has a reply by all items
abbrev pub HasClosing : Presented → List BasisEntry → Option Seal → Question → Type 0
HasClosing p es seal q = (r : Reply) × IsClosingReply p es seal q r

-- so has each question that was left open
abbrev pub HasClosings : Presented → List BasisEntry → Option Seal → SessionState → Type 0
HasClosings p es seal s = (i : ℕ) (q : Question) (k : Kept) → slice_get s.questions i ≡ Some q
    → slice_get s.kept i ≡ Some k → is_left_open k.tag ≡ true → HasClosing p es seal q
