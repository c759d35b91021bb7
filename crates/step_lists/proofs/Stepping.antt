-- A step that is taken, and one that is added.
use Rattle.std.proofs.Common.{◌≡◌, ℕ, ◌<◌, ◌≤◌, ℤ, pos, neg_ℤ, ◌+ℤ◌, ◌-ℤ◌, ◌*ℤ◌, Bool, true, false, cond, List, [], ◌∷◌, length, refl, sym, ap, ◌∙◌, subst}
use Rattle.std.proofs.Common.{arith, inl, inr}
use Rattle.std.specs.Prelude.{Result, Ok, Err}
use borrow.Author.Differences.{ints}
use Rattle.formal_sums.proofs.Integers.{neg_ℤ-*ℤ}
use Rattle.module_vec.specs.declared.TheConstants.{TERMS}
use Rattle.module_vec.specs.declared.places.Place.{Place}
use Rattle.module_vec.specs.declared.places.Term.{Term}
use Rattle.module_vec.specs.Places.{same_place, moved}
use Rattle.module_vec.specs.Vectors.{Coefficients, multiple_at, difference_at, IsWide}
use Rattle.module_vec.specs.Results.{Nowhere, DifferenceIsWide, HasTerms, IsMade}
use Rattle.module_vec.specs.Merging.{IsFound}
use Rattle.changed_terms.specs.declared.faults.TakeFault.{TakeFault}
use Rattle.changed_terms.specs.declared.faults.TakeFault.TheVariants as taking
use Rattle.changed_terms.specs.Taking.{CannotTake}
use Rattle.step_lists.specs.declared.faults.SumFault.{SumFault}
use Rattle.step_lists.specs.declared.faults.SumFault.TheVariants.{Wide, Long, NoMemory}
use Rattle.step_lists.specs.declared.way.Way.TheVariants.{Add, Take}
use Rattle.step_lists.specs.Sums.{combined, IsWideAt}
use Rattle.step_lists.specs.Partial.{Makes, fault_of}

-- the terms from which a multiple was taken
module _ (f m : Coefficients) (new : List Term) (found : IsFound (DifferenceIsWide f m) (difference_at f m) new) where
  pub step_made : length new ≤ TERMS → IsMade (DifferenceIsWide f m) (difference_at f m) new
  step_made most = record { vector = record { sparse = found.sparse; most = most }; is = found.is; narrow = found.narrow }

  pub step_long : (count : ℕ) → count ≡ length new → TERMS < count → Nowhere (DifferenceIsWide f m) × ((n : ℕ) × HasTerms (difference_at f m) n × (TERMS < n))
  step_long count e more = (found.narrow, (count, record { v = new; sparse = found.sparse; is = found.is; count = sym e }, more))

-- why a multiple isn't taken
pub step_fails : (f m : Coefficients) (fault : TakeFault) → CannotTake (DifferenceIsWide f m) fault
    → Makes (IsWideAt Take f m) (combined Take f m) (Err (fault_of fault))
step_fails f m (taking.Wide p) h = (p, h.here)
step_fails f m taking.NoMemory h = tt

-- ---- the negative of a step

pub turned : (q : ℤ) (t : List ℕ) (g : List Term) (x : Place) → multiple_at (neg_ℤ q) t g x ≡ neg_ℤ (multiple_at q t g x)
turned q t [] x = refl
turned q t (u ∷ g) x = by (same_place (moved t u.at) x) (turned q t g x)
  where
    by : (b : Bool) → multiple_at (neg_ℤ q) t g x ≡ neg_ℤ (multiple_at q t g x) → cond b (neg_ℤ q *ℤ u.k) (pos 0) +ℤ multiple_at (neg_ℤ q) t g x
        ≡ neg_ℤ (cond b (q *ℤ u.k) (pos 0) +ℤ multiple_at q t g x)
    by true e = omega (arith, ints, e, neg_ℤ-*ℤ q u.k)
    by false e = omega (arith, ints, e)

wide_turned : (z : ℤ) → IsWide (neg_ℤ z) → IsWide z
wide_turned z w = omega (arith, ints, w)

turned_wide : (z : ℤ) → IsWide z → IsWide (neg_ℤ z)
turned_wide z w = omega (arith, ints, w)

-- taking the negative is adding
pub added : (f g h : Coefficients) (r : Result (List Term) SumFault) → ((x : Place) → h x ≡ neg_ℤ (g x)) → Makes (IsWideAt Take f h) (combined Take f h) r
    → Makes (IsWideAt Add f g) (combined Add f g) r
added f g h r turns given = by r given
  where
    total : (x : Place) → combined Take f h x ≡ combined Add f g x
    total x = let e = turns x in omega (arith, ints, e)

    there : (x : Place) → IsWideAt Take f h x → IsWideAt Add f g x
    there x (inl w) = inl (wide_turned (g x) (subst IsWide (turns x) w))
    there x (inr w) = inr (subst IsWide (total x) w)

    back : (x : Place) → IsWideAt Add f g x → IsWideAt Take f h x
    back x (inl w) = inl (subst IsWide (sym (turns x)) (turned_wide (g x) w))
    back x (inr w) = inr (subst IsWide (sym (total x)) w)

    by : (r : Result (List Term) SumFault) → Makes (IsWideAt Take f h) (combined Take f h) r → Makes (IsWideAt Add f g) (combined Add f g) r
    by (Ok v) made = record { vector = made.vector; is = λ x. made.is x ∙ total x; narrow = λ x w. made.narrow x (back x w) }
    by (Err Wide) w = (w.0, there w.0 w.1)
    by (Err Long) l = (
      λ x w. l.0 x (back x w),
      (
        l.1.0,
        record {
          v = l.1.1.v;
          sparse = l.1.1.sparse;
          is = λ x. l.1.1.is x ∙ total x;
          count = l.1.1.count;
        },
        l.1.2,
      ),
    )
    by (Err NoMemory) m = tt

pub turned_from_zero : (q : ℤ) (t : List ℕ) (g : List Term) (x : Place) → multiple_at (pos 0 -ℤ q) t g x ≡ neg_ℤ (multiple_at q t g x)
turned_from_zero q t g x = ap (λ z. multiple_at z t g x) (from_zero q) ∙ turned q t g x
  where
    from_zero : (z : ℤ) → pos 0 -ℤ z ≡ neg_ℤ z
    from_zero z = omega (arith, ints)
