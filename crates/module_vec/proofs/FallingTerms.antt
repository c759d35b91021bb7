-- Lists of terms in falling order: what taking out, putting in and joining keeps.
use Rattle.std.proofs.Common.{◌≡◌, ℕ, ◌+◌, ◌≤◌, pos, ◌+ℤ◌, List, [], ◌∷◌, ◌++◌, length, drop, get_or, zero, suc, ◌<◌, sym, ap, ◌∙◌, arith}
use Rattle.std.proofs.lemmas.List.{drop_more}
use Rattle.laurent_terms.specs.declared.TheConstants.{DEGREE}
use Rattle.laurent_terms.specs.Monomials.{degree}
use Rattle.std.specs.List.{AllByRecursion}
use borrow.Author.Differences.{ints}
use Rattle.std.proofs.Math.IntN.{+ℤ_idl}
use Rattle.formal_sums.specs.FormalSum.{AllBelow, AllAbove, Falling}
use Rattle.formal_sums.proofs.Falling.{coefficient-above, coefficient-below, AllBelow_transitive}
use Rattle.module_vec.specs.declared.places.Place.{Place}
use Rattle.module_vec.specs.declared.places.Term.{Term}
use Rattle.module_vec.specs.Places.{IsBelow}
use Rattle.module_vec.specs.Vectors.{sum_of, coefficient_at, HasRoom}
use Rattle.module_vec.proofs.Order.{test, order, below_degree}

module _ {A : Type 0} (P : A → Type 0) where
  pub all_insert : (a : List A) (x : A) (b : List A) → AllByRecursion P (a ++ b) → P x → AllByRecursion P (a ++ x ∷ b)
  all_insert [] x b h p = (p, h)
  all_insert (s ∷ a) x b h p = (h.0, all_insert a x b h.1 p)

  pub all_remove : (a : List A) (x : A) (b : List A) → AllByRecursion P (a ++ x ∷ b) → AllByRecursion P (a ++ b)
  all_remove [] x b h = h.1
  all_remove (s ∷ a) x b h = (h.0, all_remove a x b h.1)

  pub all_front : (a b : List A) → AllByRecursion P (a ++ b) → AllByRecursion P a
  all_front [] b h = tt
  all_front (s ∷ a) b h = (h.0, all_front a b h.1)

  pub all_back : (a b : List A) → AllByRecursion P (a ++ b) → AllByRecursion P b
  all_back [] b h = h
  all_back (s ∷ a) b h = all_back a b h.1

  pub all_join : (a b : List A) → AllByRecursion P a → AllByRecursion P b → AllByRecursion P (a ++ b)
  all_join [] b h g = g
  all_join (s ∷ a) b h g = (h.0, all_join a b h.1 g)

-- terms above and below a place, and in falling order
abbrev pub Above : Place → List Term → Type 0
Above p v = AllAbove IsBelow p (sum_of v)

abbrev pub Below : Place → List Term → Type 0
Below p v = AllBelow IsBelow p (sum_of v)

abbrev pub Falls : List Term → Type 0
Falls v = Falling IsBelow (sum_of v)

pub above_join : (p : Place) (a b : List Term) → Above p a → Above p b → Above p (a ++ b)
above_join p [] b h g = g
above_join p (s ∷ a) b h g = (h.0, above_join p a b h.1 g)

pub below_back : (p : Place) (a b : List Term) → Below p (a ++ b) → Below p b
below_back p [] b h = h
below_back p (s ∷ a) b h = below_back p a b h.1

below_insert : (p : Place) (a : List Term) (x : Term) (b : List Term) → Below p (a ++ b) → IsBelow x.at p → Below p (a ++ x ∷ b)
below_insert p [] x b h e = (e, h)
below_insert p (s ∷ a) x b h e = (h.0, below_insert p a x b h.1 e)

below_remove : (p : Place) (a : List Term) (x : Term) (b : List Term) → Below p (a ++ x ∷ b) → Below p (a ++ b)
below_remove p [] x b h = h.1
below_remove p (s ∷ a) x b h = (h.0, below_remove p a x b h.1)

pub falls_insert : (a : List Term) (x : Term) (b : List Term) → Falls (a ++ b) → Above x.at a → Below x.at b → Falls (a ++ x ∷ b)
falls_insert [] x b f above below = (below, f)
falls_insert (s ∷ a) x b f above below = (below_insert s.at a x b f.0 above.0, falls_insert a x b f.1 above.1 below)

pub falls_remove : (a : List Term) (x : Term) (b : List Term) → Falls (a ++ x ∷ b) → Falls (a ++ b)
falls_remove [] x b f = f.1
falls_remove (s ∷ a) x b f = (below_remove s.at a x b f.0, falls_remove a x b f.1)

pub falls_back : (a b : List Term) → Falls (a ++ b) → Falls b
falls_back [] b f = f
falls_back (s ∷ a) b f = falls_back a b f.1

-- below the first of falling terms stand the others
pub below_from_first : (p : Place) (t : Term) (v : List Term) → IsBelow t.at p → Falls (t ∷ v) → Below p (t ∷ v)
below_from_first p t v h f = (h, AllBelow_transitive test order t.at p h (sum_of v) f.0)

-- ---- coefficients

pub at_join : (a b : List Term) (x : Place) → coefficient_at (a ++ b) x ≡ coefficient_at a x +ℤ coefficient_at b x
at_join [] b x = sym (+ℤ_idl (coefficient_at b x))
at_join (s ∷ a) b x = omega (arith, ints, at_join a b x)

pub at_above : (p : Place) (v : List Term) → Below p v → coefficient_at v p ≡ pos 0
at_above p v h = coefficient-above test order p (sum_of v) h

pub at_below : (p : Place) (v : List Term) → Above p v → coefficient_at v p ≡ pos 0
at_below p v h = coefficient-below test order p (sum_of v) h

-- ---- the back of a list

pub all_drop : {A : Type 0} (P : A → Type 0) (n : ℕ) (v : List A) → AllByRecursion P v → AllByRecursion P (drop n v)
all_drop P zero v h = h
all_drop P (suc n) [] h = tt
all_drop P (suc n) (t ∷ v) h = all_drop P n v h.1

pub falls_drop : (n : ℕ) (v : List Term) → Falls v → Falls (drop n v)
falls_drop zero v f = f
falls_drop (suc n) [] f = tt
falls_drop (suc n) (t ∷ v) f = falls_drop n v f.1

-- what is left of a list after n of its elements, the next of which is x
pub drop_read : {A : Type 0} (v : List A) (n : ℕ) (x : A) → n < length v → x ≡ get_or v n x → drop n v ≡ x ∷ drop (n + 1) v
drop_read v n x h e = drop_more v n x h ∙ ap (λ y. y ∷ drop (n + 1) v) (sym e)

-- ---- degrees

-- the lead has the greatest degree
pub room_each : (t : List ℕ) (g : List Term) → Falls g → HasRoom t g → AllByRecursion (λ u. degree t + degree u.at.m ≤ DEGREE) g
room_each t [] f h = tt
room_each t (e ∷ g) f h = (h, each g f.0)
  where
    each : (w : List Term) → Below e.at w → AllByRecursion (λ u. degree t + degree u.at.m ≤ DEGREE) w
    each [] below = tt
    each (u ∷ w) below = (omega (arith, h, below_degree u.at e.at below.0), each w below.1)

pub lead_degree : (e : Term) (g : List Term) → Below e.at g → AllByRecursion (λ t. degree t.at.m ≤ degree e.at.m) g
lead_degree e [] below = tt
lead_degree e (t ∷ g) below = (below_degree t.at e.at below.0, lead_degree e g below.1)
