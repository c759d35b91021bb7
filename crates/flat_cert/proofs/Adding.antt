-- Adding to totals, one term after another.
use Rattle.std.proofs.Common.{◌≡◌, ◌≢◌, ◌⊎◌, inl, inr, ℕ, ◌+◌, ◌<◌, ◌≤◌, Bool, true, false, cond, ℤ, pos, ◌+ℤ◌, ◌*ℤ◌, List, [], ◌∷◌, ◌++◌, refl, sym, ap}
use Rattle.std.proofs.Common.{subst, ◌∙◌, arith}
use Rattle.std.specs.Prelude.{Option, Some, None, Ok, Err, Result, unsigned_abs}
use Rattle.std.specs.Option.{is_some}
use Rattle.std.specs.List.{AllByRecursion}
use Rattle.std.specs.BTreeMap.{insert_entry}
use Rattle.std.specs.Ordering.{is_eq, match_ordering}
use Rattle.std.specs.declared.cmp.Ordering.{Ordering}
use Rattle.std.specs.declared.cmp.Ordering.TheVariants.{Less, Equal, Greater}
use borrow.Author.Differences.{ints}
use Rattle.formal_sums.specs.FormalSum.{FormalSum, coefficient}
use Rattle.formal_sums.specs.Span.{multiple}
use Rattle.formal_sums.proofs.Coefficients.{coefficient-append}
use Rattle.formal_sums.proofs.Integers.{*ℤ-eq-zero}
use Rattle.laurent_terms.specs.declared.TheConstants.{DEGREE}
use Rattle.laurent_terms.specs.Monomials.{degree, product}
use Rattle.module_vec.specs.declared.TheConstants.{COEFFICIENT}
use Rattle.module_vec.specs.declared.places.Place.{Place}
use Rattle.module_vec.specs.declared.places.Term.{Term}
use Rattle.module_vec.specs.Places.{place_cmp, same_place, moved}
use Rattle.module_vec.specs.Vectors.{sum_of}
use Rattle.module_vec.proofs.Order.{test, place_exact}
use Rattle.flat_cert.specs.declared.faults.FlatFault.{FlatFault}
use Rattle.flat_cert.specs.declared.faults.FlatFault.TheVariants.{Beyond, NoMemory}
use Rattle.flat_cert.specs.declared.totals.Total.{Total}
use Rattle.flat_cert.specs.declared.TheConstants.{PLACES}
use Rattle.flat_cert.specs.Images.{cancelled, flat_place, flat_image}
use Rattle.flat_cert.specs.Weights.{weight}
use Rattle.flat_cert.specs.Adding.{sum_in, weight_in, found, sum_at, weight_at, IsTotal, IsWith, Adds}
use Rattle.flat_cert.proofs.Weights.{weight-append, beyond_more, abs_some}
use Rattle.flat_cert.proofs.Entries.{Entries}

-- ---- one term

module _ (old new : Entries) (at : Place) (k : ℤ) (after : Total) (is : IsWith (found old at) k after)
    (updates : (q : Place) → found new q ≡ cond (is_eq (place_cmp at q)) (Some after) (found old q)) where
  pub added_sum : (x : Place) → sum_at new x ≡ sum_at old x +ℤ coefficient same_place ((k, at) ∷ []) x
  added_sum x = ap sum_in (updates x) ∙ by (same_place at x) refl
    where
      by : (b : Bool) → same_place at x ≡ b → sum_in (cond b (Some after) (found old x)) ≡ sum_at old x +ℤ (cond b k (pos 0) +ℤ pos 0)
      by true s = let same : sum_in (found old at) ≡ sum_at old x = ap (sum_at old) (test.sound at x s) in omega (arith, ints, is.sum, same)
      by false s = omega (arith, ints)

  pub added_weight : (x : Place) → weight_at new x ≡ weight_at old x + weight ((k, at) ∷ []) x
  added_weight x = ap weight_in (updates x) ∙ by (same_place at x) refl
    where
      by : (b : Bool) → same_place at x ≡ b → weight_in (cond b (Some after) (found old x)) ≡ weight_at old x + (cond b (unsigned_abs k) 0 + 0)
      by true s = let same : weight_in (found old at) ≡ weight_at old x = ap (weight_at old) (test.sound at x s) in omega (arith, is.weight, same)
      by false s = omega arith

pub none_is : (o : Option Total) → is_some o ≡ false → o ≡ None
none_is None e = refl
none_is (Some t) e = absurd cc

-- one entry more only where there was none
pub few_inserted : (n m : ℕ) (o : Option Total) → m ≡ n + cond (is_some o) 0 1 → n ≤ PLACES → (is_some o ≡ false → n < PLACES) → m ≤ PLACES
few_inserted n m None e most room = let below : n < PLACES = room refl in omega (arith, e, below)
few_inserted n m (Some t) e most room = omega (arith, e, most)

pub all_inserted : (es : Entries) (p : Place) (t : Total) → AllByRecursion IsTotal es → IsTotal (p, t) → AllByRecursion IsTotal (insert_entry place_cmp es p t)
all_inserted [] p t all is = (is, tt)
all_inserted (e ∷ es) p t all is = by (place_cmp p e.0) refl (all_inserted es p t all.1 is)
  where
    by : (r : Ordering) → place_cmp p e.0 ≡ r → AllByRecursion IsTotal (insert_entry place_cmp es p t)
        → AllByRecursion IsTotal (match_ordering r ((p, t) ∷ e ∷ es) ((e.0, t) ∷ es) (e ∷ insert_entry place_cmp es p t))
    by Less s rest = (is, all)
    by Equal s rest = (subst (λ (q : Place). IsTotal (q, t)) (place_exact p e.0 s) is, all.1)
    by Greater s rest = (all.0, rest)

-- ---- one after another

abbrev pub Answer : Type 0
Answer = Result (Unit {0}) FlatFault

-- after v comes w
pub adds_on : (old mid new : Entries) (v w : FormalSum Place) (r : Answer) → Adds old v mid (Ok tt) → Adds mid w new r → Adds old (v ++ w) new r
adds_on old mid new v w (Ok u) h g =
    (λ x. omega (arith, ints, h.0 x, g.0 x, coefficient-append same_place v w x), λ x. omega (arith, h.1 x, g.1 x, weight-append v w x))
adds_on old mid new v w (Err Beyond) h g =
    beyond_more (λ x. weight_at mid x + weight w x) (λ x. weight_at old x + weight (v ++ w) x) (λ x. omega (arith, h.1 x, weight-append v w x)) g
adds_on old mid new v w (Err NoMemory) h g = tt

-- what is passed stays passed
pub adds_fails : (old new later : Entries) (v w : FormalSum Place) (e : FlatFault) → Adds old v new (Err e) → Adds old (v ++ w) later (Err e)
adds_fails old new later v w Beyond h =
    beyond_more (λ x. weight_at old x + weight v x) (λ x. weight_at old x + weight (v ++ w) x) (λ x. omega (arith, weight-append v w x)) h
adds_fails old new later v w NoMemory h = tt

pub adds_nothing : (old : Entries) → Adds old [] old (Ok tt)
adds_nothing old = (λ x. omega (arith, ints), λ x. omega arith)

-- ---- the terms of a multiple

abbrev pub terms_of : ℤ → List ℕ → List Term → FormalSum Place
terms_of k t v = flat_image (multiple moved k t (sum_of v))

pub product_some : (k q : ℤ) → k ≢ pos 0 → q ≢ pos 0 → k *ℤ q ≢ pos 0
product_some k q a b e = by (*ℤ-eq-zero k q e)
  where
    by : (k ≡ pos 0) ⊎ (q ≡ pos 0) → ⊥
    by (inl z) = a z
    by (inr z) = b z

pub terms_split : (k : ℤ) (t : List ℕ) (u : Term) (v rest : List Term) (q : ℤ) (m : List ℕ) → v ≡ u ∷ rest → q ≡ k *ℤ u.k → m ≡ cancelled (product t u.at.m)
    → terms_of k t v ≡ ((q, record { m = m; c = u.at.c }) ∷ []) ++ terms_of k t rest
terms_split k t u v rest q m e is place = ap (terms_of k t) e ∙ λ i. (sym is i, record { m = sym place i; c = u.at.c }) ∷ terms_of k t rest

at_first : (es : Entries) (k : ℤ) (t : List ℕ) (u : Term) (v rest : List Term) → v ≡ u ∷ rest
    → unsigned_abs (k *ℤ u.k) ≤ weight_at es (flat_place (moved t u.at)) + weight (terms_of k t v) (flat_place (moved t u.at))
at_first es k t u v rest e =
    let x : Place = flat_place (moved t u.at) in
    let split : weight (terms_of k t v) x ≡ weight (terms_of k t (u ∷ rest)) x = ap (λ w. weight (terms_of k t w) x) e in
    let own : weight (terms_of k t (u ∷ rest)) x ≡ unsigned_abs (k *ℤ u.k) + weight (terms_of k t rest) x = rw (test.reflexive x) refl in
    omega (arith, split, own)

pub first_is_far : (es new : Entries) (k : ℤ) (t : List ℕ) (u : Term) (v rest : List Term) → v ≡ u ∷ rest → k ≢ pos 0 → u.k ≢ pos 0
    → DEGREE < degree (cancelled (product t u.at.m)) → Adds es (terms_of k t v) new (Err Beyond)
first_is_far es new k t u v rest e a b far =
    inl (flat_place (moved t u.at), omega (arith, at_first es k t u v rest e, abs_some (k *ℤ u.k) (product_some k u.k a b)), far)

pub first_is_heavy : (es new : Entries) (k : ℤ) (t : List ℕ) (u : Term) (v rest : List Term) → v ≡ u ∷ rest
    → COEFFICIENT < unsigned_abs (k *ℤ u.k) → Adds es (terms_of k t v) new (Err Beyond)
first_is_heavy es new k t u v rest e heavy = inr (inl (flat_place (moved t u.at), omega (arith, at_first es k t u v rest e, heavy)))
