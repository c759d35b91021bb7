-- The list of generators of a presentation is determined, and has some element.
use Rattle.std.proofs.Common.{◌≡◌, ◌≢◌, ◌⊎◌, inl, inr, ◌≤◌, pos, negsuc, List, [], ◌∷◌, length, refl, sym, ◌∙◌, arith}
use Rattle.presentation.specs.Presented.{Presented, IsPresented}
use Rattle.formal_sums.specs.FormalSum.{FormalSum}
use Rattle.module_vec.specs.declared.places.Place.{Place}
use Rattle.module_vec.specs.declared.places.Term.{Term}
use Rattle.module_vec.proofs.Determined.{same_vector}
use Rattle.fox_calculus.specs.Generators.{binomial, unit_monomial, candidates, IsZero, IsWritten, AreWritten, AreGenerators}
use Rattle.fox_calculus.specs.Module.{IsGenerator}
use Rattle.fox_calculus.proofs.Listed.{Written, is_candidate, written}
use Rattle.laurent_terms.specs.Monomials.{one}

no_zero : (f : FormalSum Place) (g : List Term) → g ≢ [] → IsWritten f g → IsZero f → ⊥
no_zero f g some w z = some (same_vector g [] w.sparse (record { falling = tt; terms = tt }) (λ x. w.same x ∙ z x))

one_list : (fs : List (FormalSum Place)) (gs hs : List (List Term)) → AreWritten fs gs → AreWritten fs hs → gs ≡ hs
one_list _ _ _ AreWritten.nothing AreWritten.nothing = refl
one_list _ _ _ (AreWritten.left_out f fs gs z r) (AreWritten.left_out _ _ hs y s) = one_list fs gs hs r s
one_list _ _ _ (AreWritten.left_out f fs gs z r) (AreWritten.written _ h _ hs n w s) = absurd (no_zero f h n w z)
one_list _ _ _ (AreWritten.written f g fs gs n w r) (AreWritten.left_out _ _ hs y s) = absurd (no_zero f g n w y)
one_list _ _ _ (AreWritten.written f g fs gs n w r) (AreWritten.written _ h _ hs m v s) =
    let first : g ≡ h = same_vector g h w.sparse v.sparse (λ x. w.same x ∙ sym (v.same x)) in
    let rest : gs ≡ hs = one_list fs gs hs r s in
    λ i. first i ∷ rest i

pub one_generating : (p : Presented) (gs hs : List (List Term)) → AreGenerators p gs → AreGenerators p hs → gs ≡ hs
one_generating p gs hs r s = one_list (candidates p) gs hs r s

-- ---- it isn't empty

not_zero : IsZero (binomial (unit_monomial 0) 0) → ⊥
not_zero z = let e : negsuc 0 ≡ pos 0 = z (record { m = one; c = 0 }) in cc

pub some_generator : (p : Presented) (gens : List (List Term)) → IsPresented p → AreGenerators p gens → 1 ≤ length gens
some_generator p gens known are = by (written (candidates p) gens are (binomial (unit_monomial 0) 0)
    (is_candidate p (binomial (unit_monomial 0) 0) (IsGenerator.unit_binomial 0 0 known.some_name known.some_name)))
  where
    by : IsZero (binomial (unit_monomial 0) 0) ⊎ Written (binomial (unit_monomial 0) 0) gens → 1 ≤ length gens
    by (inl z) = absurd (not_zero z)
    by (inr w) = let l = w.below in omega (arith, l)
