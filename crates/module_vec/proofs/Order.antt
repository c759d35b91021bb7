-- The order of places: strict and total, exact, and kept by multiples.
use Rattle.std.proofs.Common.{◌≡◌, ℕ, ◌≤◌, List, length, refl, sym, ap, ◌∙◌, arith, rules}
use Rattle.std.specs.declared.cmp.Ordering.{Ordering}
use Rattle.std.specs.declared.cmp.Ordering.TheVariants.{Less, Equal, Greater}
use Rattle.std.specs.Ordering.{nat_cmp, ordering_then, on, then_cmp}
use Rattle.std.specs.Cmp.{IsTotalOrder}
use Rattle.std.specs.Cmp.Rules.{comparing}
use Rattle.std.proofs.lemmas.Map.Lookups.{exact_unsigned}
use Rattle.formal_sums.specs.Keys.{IsEqualityTest, IsStrictOrder}
use Rattle.std.proofs.lemmas.Cmp.{tied_itself}
use Rattle.formal_sums.proofs.Keys.{cmp_test, cmp_order}
use Rattle.laurent_terms.specs.Monomials.{mono_cmp, degree}
use Rattle.laurent_terms.proofs.Ranks.{mono_cmp_total, mono_cmp_exact, mono_cmp-product}
use Rattle.module_vec.specs.declared.places.Place.{Place}
use Rattle.module_vec.specs.Places.{place_cmp, IsBelow, same_place, moved}

by_parts : IsTotalOrder (then_cmp (on (λ (p : Place). p.m) mono_cmp) (on (λ (p : Place). p.c) nat_cmp))
by_parts = search (comparing, rules, mono_cmp_total)

pub place_total : IsTotalOrder place_cmp
place_total = by_parts

then_equal : (a b : Ordering) → ordering_then a b ≡ Equal → (a ≡ Equal) × (b ≡ Equal)
then_equal Less b e = absurd cc
then_equal Equal b e = (refl, e)
then_equal Greater b e = absurd cc

pub place_exact : (p q : Place) → place_cmp p q ≡ Equal → p ≡ q
place_exact p q e =
    let h : (mono_cmp p.m q.m ≡ Equal) × (nat_cmp p.c q.c ≡ Equal) = then_equal (mono_cmp p.m q.m) (nat_cmp p.c q.c) e in
    let m : p.m ≡ q.m = (mono_cmp_exact p.m q.m).0 h.0 in
    let c : p.c ≡ q.c = exact_unsigned p.c q.c h.1 in
    λ i. record { m = m i; c = c i }

pub test : IsEqualityTest same_place
test = cmp_test place_total place_exact

pub order : IsStrictOrder IsBelow
order = cmp_order place_total place_exact

-- ---- multiples

pub moved_cmp : (t : List ℕ) (p q : Place) → length p.m ≡ length t → length q.m ≡ length t → place_cmp (moved t p) (moved t q) ≡ place_cmp p q
moved_cmp t p q e f = rw (mono_cmp-product t p.m q.m e f) refl

pub moved_below : (t : List ℕ) (p q : Place) → length p.m ≡ length t → length q.m ≡ length t → IsBelow p q → IsBelow (moved t p) (moved t q)
moved_below t p q e f h = moved_cmp t p q e f ∙ h

-- the greater place has no smaller degree
pub below_degree : (p q : Place) → IsBelow p q → degree p.m ≤ degree q.m
below_degree p q h = by (nat_cmp (degree p.m) (degree q.m)) refl
  where
    by : (r : Ordering) → nat_cmp (degree p.m) (degree q.m) ≡ r → degree p.m ≤ degree q.m
    by Less e = grind arith
    by Equal e = grind arith
    by Greater e = let wrong : Greater ≡ Less = sym (rw e refl) ∙ h in cc

pub place_itself : (p q : Place) → p ≡ q → Equal ≡ place_cmp p q
place_itself p q e = sym (ap (place_cmp p) (sym e) ∙ tied_itself place_total p)
