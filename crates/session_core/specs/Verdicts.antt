-- The rule of verdicts: what a verdict says of the chains of the subjects' Fox vectors by a list, and of its seal.
use Rattle.std.specs.List.{AllByRecursion}
use Rattle.std.specs.Prelude.{◌≡◌, ◌⊎◌, List, Option, Some, None}
use Rattle.free_words.specs.declared.letter.Letter.{Letter}
use Rattle.presentation.specs.Presented.{Presented}
use Rattle.module_vec.specs.declared.places.Term.{Term}
use Rattle.session_text.specs.declared.question.Question.{Question}
use Rattle.session_text.specs.Questions.{subjects}
use Rattle.hom_check.specs.Shown.{IsShown, LeavesRest, StopsAt, IsFirstUnshown}
use Rattle.basis_entry.specs.Seals.{Seal}
use Rattle.outcomes.specs.declared.verdicts.Verdict.{Verdict}
use Rattle.outcomes.specs.declared.verdicts.Verdict.TheVariants.{Trivial, NotTrivial, Normal, Extends, Fails, Unknown}
use Rattle.outcomes.specs.declared.verdicts.Verdict.TheVariants.{Stop}
use Rattle.session_core.specs.Questions.{AsksWhetherTrivial, AsksForNormal, AsksWhetherExtends}

-- there is a seal, and it is of this presentation
abbrev pub IsSealedFor : Presented → Option Seal → Type 0
IsSealedFor p None = ⊥
IsSealedFor p (Some s) = s.source ≡ p

-- the chain of each subject's Fox vector ends in the empty vector
abbrev pub AllAreShown : List (List Term) → Question → Type 0
AllAreShown b q = AllByRecursion (IsShown b) (subjects q)

-- the chain ends in some vector that isn't empty
abbrev pub LeavesSome : List (List Term) → List Letter → Type 0
LeavesSome b w = (rest : List Term) × LeavesRest b rest w

-- the verdict on a question by the vectors of a list, with its seal if there is one
abbrev pub IsVerdict : Presented → List (List Term) → Option Seal → Question → Verdict → Type 0
IsVerdict p b seal q Trivial = (AsksWhetherTrivial q ⊎ AsksForNormal q) × AllAreShown b q
IsVerdict p b seal q Extends = AsksWhetherExtends q × AllAreShown b q
IsVerdict p b seal q (Stop j stop) = IsFirstUnshown b q j (StopsAt b stop)
IsVerdict p b seal q (Unknown j) = (IsSealedFor p seal → ⊥) × IsFirstUnshown b q j (LeavesSome b)
IsVerdict p b seal q NotTrivial = IsSealedFor p seal × AsksWhetherTrivial q × IsFirstUnshown b q 1 (LeavesSome b)
IsVerdict p b seal q (Normal rest) = IsSealedFor p seal × AsksForNormal q × IsFirstUnshown b q 1 (LeavesRest b rest)
IsVerdict p b seal q (Fails j) = IsSealedFor p seal × AsksWhetherExtends q × IsFirstUnshown b q j (LeavesSome b)
