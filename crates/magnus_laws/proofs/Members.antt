-- What the module of a presentation is closed under.
use Rattle.std.proofs.Common.{ℕ, ℤ, List, [], ◌++◌, sym}
use Rattle.presentation.specs.Presented.{Presented}
use Rattle.formal_sums.specs.FormalSum.{FormalSum, Same, scale}
use Rattle.formal_sums.specs.Span.{multiple}
use Rattle.formal_sums.proofs.Spans.{spanned_same, spanned_nothing, spanned-append, spanned_multiple, spanned-scale, spanned-multiple, spanned_zero_difference}
use Rattle.formal_sums.proofs.Spans.{spanned_difference_back, spanned_difference_on, spanned_difference-append, spanned_by_difference}
use Rattle.laurent_terms.specs.declared.TheConstants.{VARIABLES}
use Rattle.laurent_terms.specs.Monomials.{product}
use Rattle.laurent_terms.proofs.Division.{product_assoc}
use Rattle.module_vec.specs.declared.places.Place.{Place}
use Rattle.module_vec.specs.Places.{same_place, moved}
use Rattle.module_vec.proofs.Order.{test}
use Rattle.fox_calculus.specs.Module.{IsGenerator, HasVariables, IsMember}
use Rattle.magnus_laws.specs.Congruence.{AreCongruent}
use Rattle.magnus_laws.proofs.Monomials.{length-product}

module _ (p : Presented) where
  pub member_same : (v w : FormalSum Place) → Same same_place v w → IsMember p w → IsMember p v
  member_same v w e h = spanned_same same_place moved HasVariables (IsGenerator p) v w e h

  pub member_nothing : IsMember p []
  member_nothing = spanned_nothing same_place moved HasVariables (IsGenerator p)

  pub member_sum : (v w : FormalSum Place) → IsMember p v → IsMember p w → IsMember p (v ++ w)
  member_sum v w h k = spanned-append same_place moved HasVariables (IsGenerator p) v w h k

  pub member_scale : (q : ℤ) (v : FormalSum Place) → IsMember p v → IsMember p (scale q v)
  member_scale q v h = spanned-scale same_place moved HasVariables (IsGenerator p) q v h

  -- the multiple q·t·g of a generator
  pub member_of_generator : (q : ℤ) (t : List ℕ) (g : FormalSum Place) → HasVariables t → IsGenerator p g → IsMember p (multiple moved q t g)
  member_of_generator q t g long is = spanned_multiple same_place moved HasVariables (IsGenerator p) q t g long is

  -- the multiple q·t·v of a member
  pub member_multiple : (q : ℤ) (t : List ℕ) (v : FormalSum Place) → HasVariables t → IsMember p v → IsMember p (multiple moved q t v)
  member_multiple q t v long h =
      spanned-multiple same_place moved HasVariables (IsGenerator p) test product (λ s r e f. length-product VARIABLES s r e f)
      (λ s r k i. record { m = sym (product_assoc s r k.m) i; c = k.c }) q t v long h

  -- ---- congruent vectors
  pub congruent_same : (v w : FormalSum Place) → Same same_place v w → AreCongruent p v w
  congruent_same v w e = spanned_zero_difference same_place moved HasVariables (IsGenerator p) v w e

  pub congruent_back : (v w : FormalSum Place) → AreCongruent p v w → AreCongruent p w v
  congruent_back v w h = spanned_difference_back same_place moved HasVariables (IsGenerator p) v w h

  pub congruent_on : (u v w : FormalSum Place) → AreCongruent p u v → AreCongruent p v w → AreCongruent p u w
  congruent_on u v w h k = spanned_difference_on same_place moved HasVariables (IsGenerator p) u v w h k

  pub congruent_member : (v w : FormalSum Place) → AreCongruent p v w → IsMember p w → IsMember p v
  congruent_member v w h k = spanned_by_difference same_place moved HasVariables (IsGenerator p) v w h k

  pub congruent_sum : (v v' w w' : FormalSum Place) → AreCongruent p v v' → AreCongruent p w w' → AreCongruent p (v ++ w) (v' ++ w')
  congruent_sum v v' w w' h k = spanned_difference-append same_place moved HasVariables (IsGenerator p) v v' w w' h k

pub ruleset member_sums = (member_nothing, member_sum, member_same)
