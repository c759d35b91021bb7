-- Verdicts by their tags.
use Rattle.std.proofs.Common.{◌≡◌, List, Option, refl, ap, subst, ◌∙◌}
use Rattle.presentation.specs.Presented.{Presented}
use Rattle.module_vec.specs.declared.places.Term.{Term}
use Rattle.session_text.specs.declared.question.Question.{Question}
use Rattle.basis_entry.specs.Seals.{Seal}
use Rattle.outcomes.specs.declared.verdicts.Verdict.{Verdict}
use Rattle.outcomes.specs.declared.verdicts.Verdict.TheVariants as verdicts
use Rattle.session_core.specs.Replies.{tag_of}
use Rattle.session_core.specs.Verdicts.{IsVerdict}

-- the verdict isn't a normal form, which its tag doesn't tell
abbrev pub IsTold : Verdict → Type 0
IsTold verdicts.Trivial = Unit {0}
IsTold verdicts.NotTrivial = Unit {0}
IsTold (verdicts.Normal v) = ⊥
IsTold verdicts.Extends = Unit {0}
IsTold (verdicts.Fails j) = Unit {0}
IsTold (verdicts.Unknown j) = Unit {0}
IsTold (verdicts.Stop j stop) = Unit {0}

same_verdict : (v w : Verdict) → IsTold w → tag_of v ≡ tag_of w → v ≡ w
same_verdict verdicts.Trivial verdicts.Trivial told e = refl
same_verdict verdicts.Trivial verdicts.NotTrivial told e = absurd cc
same_verdict verdicts.Trivial (verdicts.Normal v') told e = absurd told
same_verdict verdicts.Trivial verdicts.Extends told e = absurd cc
same_verdict verdicts.Trivial (verdicts.Fails j') told e = absurd cc
same_verdict verdicts.Trivial (verdicts.Unknown j') told e = absurd cc
same_verdict verdicts.Trivial (verdicts.Stop j' stop') told e = absurd cc
same_verdict verdicts.NotTrivial verdicts.Trivial told e = absurd cc
same_verdict verdicts.NotTrivial verdicts.NotTrivial told e = refl
same_verdict verdicts.NotTrivial (verdicts.Normal v') told e = absurd told
same_verdict verdicts.NotTrivial verdicts.Extends told e = absurd cc
same_verdict verdicts.NotTrivial (verdicts.Fails j') told e = absurd cc
same_verdict verdicts.NotTrivial (verdicts.Unknown j') told e = absurd cc
same_verdict verdicts.NotTrivial (verdicts.Stop j' stop') told e = absurd cc
same_verdict (verdicts.Normal v) verdicts.Trivial told e = absurd cc
same_verdict (verdicts.Normal v) verdicts.NotTrivial told e = absurd cc
same_verdict (verdicts.Normal v) (verdicts.Normal v') told e = absurd told
same_verdict (verdicts.Normal v) verdicts.Extends told e = absurd cc
same_verdict (verdicts.Normal v) (verdicts.Fails j') told e = absurd cc
same_verdict (verdicts.Normal v) (verdicts.Unknown j') told e = absurd cc
same_verdict (verdicts.Normal v) (verdicts.Stop j' stop') told e = absurd cc
same_verdict verdicts.Extends verdicts.Trivial told e = absurd cc
same_verdict verdicts.Extends verdicts.NotTrivial told e = absurd cc
same_verdict verdicts.Extends (verdicts.Normal v') told e = absurd told
same_verdict verdicts.Extends verdicts.Extends told e = refl
same_verdict verdicts.Extends (verdicts.Fails j') told e = absurd cc
same_verdict verdicts.Extends (verdicts.Unknown j') told e = absurd cc
same_verdict verdicts.Extends (verdicts.Stop j' stop') told e = absurd cc
same_verdict (verdicts.Fails j) verdicts.Trivial told e = absurd cc
same_verdict (verdicts.Fails j) verdicts.NotTrivial told e = absurd cc
same_verdict (verdicts.Fails j) (verdicts.Normal v') told e = absurd told
same_verdict (verdicts.Fails j) verdicts.Extends told e = absurd cc
same_verdict (verdicts.Fails j) (verdicts.Fails j') told e = let d : j ≡ j' = cc in ap (λ x. verdicts.Fails x) d
same_verdict (verdicts.Fails j) (verdicts.Unknown j') told e = absurd cc
same_verdict (verdicts.Fails j) (verdicts.Stop j' stop') told e = absurd cc
same_verdict (verdicts.Unknown j) verdicts.Trivial told e = absurd cc
same_verdict (verdicts.Unknown j) verdicts.NotTrivial told e = absurd cc
same_verdict (verdicts.Unknown j) (verdicts.Normal v') told e = absurd told
same_verdict (verdicts.Unknown j) verdicts.Extends told e = absurd cc
same_verdict (verdicts.Unknown j) (verdicts.Fails j') told e = absurd cc
same_verdict (verdicts.Unknown j) (verdicts.Unknown j') told e = let d : j ≡ j' = cc in ap (λ x. verdicts.Unknown x) d
same_verdict (verdicts.Unknown j) (verdicts.Stop j' stop') told e = absurd cc
same_verdict (verdicts.Stop j stop) verdicts.Trivial told e = absurd cc
same_verdict (verdicts.Stop j stop) verdicts.NotTrivial told e = absurd cc
same_verdict (verdicts.Stop j stop) (verdicts.Normal v') told e = absurd told
same_verdict (verdicts.Stop j stop) verdicts.Extends told e = absurd cc
same_verdict (verdicts.Stop j stop) (verdicts.Fails j') told e = absurd cc
same_verdict (verdicts.Stop j stop) (verdicts.Unknown j') told e = absurd cc
same_verdict (verdicts.Stop j stop) (verdicts.Stop j' stop') told e = let d : j ≡ j' = cc in let f : stop ≡ stop' = cc
    in ap (λ x. verdicts.Stop x stop) d ∙ ap (λ x. verdicts.Stop j' x) f

-- the verdict that a tag tells is that of which it is the tag
pub told_verdict : (p : Presented) (b : List (List Term)) (seal : Option Seal) (q : Question) (v w : Verdict) → IsVerdict p b seal q v → tag_of v ≡ tag_of w
    → IsTold w → IsVerdict p b seal q w
told_verdict p b seal q v w is same told = subst (IsVerdict p b seal q) (same_verdict v w told same) is
