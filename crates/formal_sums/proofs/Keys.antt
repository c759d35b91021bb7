-- Keys: tests for equality, and orders that a comparison gives.
use Rattle.std.proofs.Common.{◌≡◌, Bool, true, false, ◌&&◌, nat_eq, ◌⊎◌, inl, inr, refl, sym, ap, subst, ◌∙◌, arith, IsTrue}
use Rattle.std.specs.Bool.{Decides}
use Rattle.std.specs.Cmp.{IsTotalOrder}
use Rattle.std.specs.Ordering.{eq_by_cmp, int_eq, is_eq, ordering_reverse}
use Rattle.std.specs.declared.cmp.Ordering.{Ordering}
use Rattle.std.specs.declared.cmp.Ordering.TheVariants.{Less, Equal, Greater}
use Rattle.std.proofs.lemmas.Bool.Decides.{Decides-int_eq}
use Rattle.std.proofs.lemmas.Cmp.{tied_itself}
use Rattle.std.proofs.lemmas.Map.Lookups.{CmpEqualImpliesEq}
use Rattle.std.proofs.lemmas.Map.Views.{tells_apart}
use Rattle.formal_sums.specs.Keys.{IsEqualityTest, IsStrictOrder}

-- by what std says of a test
pub test_from_Decides : {K : Type 0} (eq : K → K → Bool) → ((a b : K) → Decides (eq a b) (a ≡ b)) → IsEqualityTest eq
test_from_Decides eq h = record { sound = λ a b e. (h a b).0 e; reflexive = λ a. (h a a).1 refl }

pub nat_test : IsEqualityTest nat_eq
nat_test = record { sound = λ a b e. grind arith; reflexive = λ a. grind arith }

pub int_test : IsEqualityTest int_eq
int_test = test_from_Decides int_eq Decides-int_eq

and_parts : (a b : Bool) → IsTrue (a && b) → IsTrue a × IsTrue b
and_parts true b e = (refl, e)
and_parts false b e = absurd cc

-- pairs are equal where both parts are
pub pair_test : {K J : Type 0} {eq : K → K → Bool} {eq' : J → J → Bool} → IsEqualityTest eq → IsEqualityTest eq'
    → IsEqualityTest (λ (a b : K × J). eq a.0 b.0 && eq' a.1 b.1)
pair_test {K} {J} {eq} {eq'} test test' = record {
  sound = λ a b e. let h : IsTrue (eq a.0 b.0) × IsTrue (eq' a.1 b.1) = and_parts (eq a.0 b.0) (eq' a.1 b.1) e
      in λ i. (test.sound a.0 b.0 h.0 i, test'.sound a.1 b.1 h.1 i);
  reflexive = λ a. rw (test.reflexive a.0) (test'.reflexive a.1);
}

-- a comparison that answers `Equal` of equal keys alone is a test
pub cmp_test : {K : Type 0} {cmp : K → K → Ordering} → IsTotalOrder cmp → CmpEqualImpliesEq cmp → IsEqualityTest (eq_by_cmp cmp)
cmp_test laws exact = record { sound = tells_apart exact; reflexive = λ a. ap is_eq (tied_itself laws a) }

-- and its `Less` is a strict order
pub cmp_order : {K : Type 0} {cmp : K → K → Ordering} → IsTotalOrder cmp → CmpEqualImpliesEq cmp → IsStrictOrder (λ a b. cmp a b ≡ Less)
cmp_order {K} {cmp} laws exact = record {
  irreflexive = λ a e. absurd (let clash : Less ≡ Equal = sym e ∙ tied_itself laws a in cc);
  transitive = laws.trans;
  total = λ a b. by a b (cmp a b) refl;
}
  where
    by : (a b : K) (r : Ordering) → cmp a b ≡ r → (a ≡ b) ⊎ ((cmp a b ≡ Less) ⊎ (cmp b a ≡ Less))
    by a b Less e = inr (inl e)
    by a b Equal e = inl (exact a b e)
    by a b Greater e = inr (inr (laws.antisymm b a ∙ ap ordering_reverse e))

-- a strict order given by a test
pub test_order : {K : Type 0} (lt : K → K → Bool) → ((a : K) → IsTrue (lt a a) → ⊥) → ((a b c : K) → IsTrue (lt a b) → IsTrue (lt b c) → IsTrue (lt a c))
    → ((a b : K) → lt a b ≡ false → lt b a ≡ false → a ≡ b) → IsStrictOrder (λ a b. IsTrue (lt a b))
test_order {K} lt irreflexive transitive total = record {
  irreflexive = irreflexive;
  transitive = transitive;
  total = λ a b. by a b (lt a b) refl (lt b a) refl;
}
  where
    by : (a b : K) (p : Bool) → lt a b ≡ p → (q : Bool) → lt b a ≡ q → (a ≡ b) ⊎ (IsTrue (lt a b) ⊎ IsTrue (lt b a))
    by a b true e q f = inr (inl e)
    by a b false e true f = inr (inr f)
    by a b false e false f = inl (total a b e f)

module _ {K : Type 0} {eq : K → K → Bool} (test : IsEqualityTest eq) where
  -- equal keys are told apart from no third one
  pub eq-same : (a b c : K) → IsTrue (eq a b) → eq b c ≡ eq a c
  eq-same a b c e = ap (λ z. eq z c) (sym (test.sound a b e))

  pub eq-apart : (a b : K) → (a ≡ b → ⊥) → eq a b ≡ false
  eq-apart a b h = by (eq a b) refl
    where
      by : (r : Bool) → eq a b ≡ r → r ≡ false
      by false e = refl
      by true e = absurd (h (test.sound a b e))

  pub eq-below : {Below : K → K → Type 0} → IsStrictOrder Below → (a b : K) → Below a b → eq a b ≡ false
  eq-below {Below} order a b h = eq-apart a b (λ e. order.irreflexive b (subst (λ z. Below z b) e h))

  pub eq-above : {Below : K → K → Type 0} → IsStrictOrder Below → (a b : K) → Below b a → eq a b ≡ false
  eq-above {Below} order a b h = eq-apart a b (λ e. order.irreflexive b (subst (λ z. Below b z) e h))

-- a map that keeps keys apart carries the test over
pub eq-injective : {K J : Type 0} {eq : K → K → Bool} {eq' : J → J → Bool} → IsEqualityTest eq → IsEqualityTest eq' → (f : K → J)
    → ((a b : K) → f a ≡ f b → a ≡ b) → (a b : K) → eq' (f a) (f b) ≡ eq a b
eq-injective {K} {J} {eq} {eq'} test test' f injective a b = by (eq a b) refl
  where
    by : (r : Bool) → eq a b ≡ r → eq' (f a) (f b) ≡ r
    by true e = subst (λ z. eq' (f a) (f z) ≡ true) (test.sound a b e) (test'.reflexive (f a))
    by false e = eq-apart test' (f a) (f b) (λ h. absurd (let clash : true ≡ false = sym (test.reflexive a) ∙ ap (eq a) (injective a b h) ∙ e in cc))
