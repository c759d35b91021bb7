-- Replies to questions.
use Rattle.std.specs.Prelude.{◌≡◌, List, Option}
use Rattle.presentation.specs.Presented.{Presented}
use Rattle.session_text.specs.declared.question.Question.{Question}
use Rattle.basis_entry.specs.Entries.{BasisEntry, vectors_of}
use Rattle.basis_entry.specs.Seals.{Seal, item_count}
use Rattle.outcomes.specs.declared.verdicts.Verdict.{Verdict}
use Rattle.outcomes.specs.declared.verdicts.Verdict.TheVariants as verdicts
use Rattle.session_core.specs.declared.kept.Tag.{Tag}
use Rattle.session_core.specs.declared.kept.Tag.TheVariants as tags
use Rattle.session_core.specs.declared.kept.Kept.{Kept}
use Rattle.session_core.specs.Verdicts.{IsVerdict}

-- the tag of a verdict: the vector of a normal form is left out
abbrev pub tag_of : Verdict → Tag
tag_of verdicts.Trivial = tags.Trivial
tag_of verdicts.NotTrivial = tags.NotTrivial
tag_of (verdicts.Normal v) = tags.Normal
tag_of verdicts.Extends = tags.Extends
tag_of (verdicts.Fails j) = tags.Fails j
tag_of (verdicts.Unknown j) = tags.Unknown j
tag_of (verdicts.Stop j stop) = tags.Stop j stop

-- a reply to the question by all items of a list: by its entries, and its seal if there is one
pub record IsReply (p : Presented) (es : List BasisEntry) (seal : Option Seal) (q : Question) (k : Kept) : Type 0 where
  pub front : k.front ≡ item_count es seal
  pub verdict : Verdict
  pub is : IsVerdict p (vectors_of es) seal q verdict
  pub tag : k.tag ≡ tag_of verdict
