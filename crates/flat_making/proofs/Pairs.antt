-- Pairs of an entry and a monomial as places: what is found, inserted and kept apart.
use Rattle.std.proofs.Common.{◌≡◌, ◌≢◌, ◌∙◌, true, false, cond, List, [], ◌∷◌, length, refl, sym, ap, subst, arith}
use Rattle.std.specs.Prelude.{Some}
use Rattle.std.specs.List.{AllByRecursion}
use Rattle.std.specs.List.Sorted.{IsStrictlySortedBy}
use Rattle.std.specs.BTreeMap.{insert_entry}
use Rattle.std.specs.Map.{keys_of, lookup}
use Rattle.std.specs.Ordering.{is_eq, nat_cmp, ordering_then, match_ordering}
use Rattle.std.specs.declared.cmp.Ordering.{Ordering}
use Rattle.std.specs.declared.cmp.Ordering.TheVariants.{Less, Equal, Greater}
use Rattle.laurent_terms.specs.Monomials.{mono_cmp}
use Rattle.module_vec.specs.declared.places.Place.{Place}
use Rattle.module_vec.specs.Places.{place_cmp}
use Rattle.module_vec.proofs.Order.{test}
use Rattle.flat_cert.specs.declared.totals.Total.{Total}
use Rattle.flat_cert.specs.Weights.{AreDistinct}
use Rattle.flat_cert.specs.Adding.{found, IsTotal}
use Rattle.flat_making.specs.declared.handed.Pair.{Pair}
use Rattle.flat_making.specs.Pairs.{pair_cmp, place_of, places_of}

abbrev pub Pairs : Type 0
Pairs = List (Pair × Total)

pub pair_of : Place → Pair
pair_of x = record { entry = x.c; t = x.m }

either_first : (a b : Ordering) → is_eq (ordering_then a b) ≡ is_eq (ordering_then b a)
either_first Less Less = refl
either_first Less Equal = refl
either_first Less Greater = refl
either_first Equal Less = refl
either_first Equal Equal = refl
either_first Equal Greater = refl
either_first Greater Less = refl
either_first Greater Equal = refl
either_first Greater Greater = refl

-- pairs are equal where their places are
pub pair_eq : (x y : Pair) → is_eq (pair_cmp x y) ≡ is_eq (place_cmp (place_of x) (place_of y))
pair_eq x y = either_first (nat_cmp x.entry y.entry) (mono_cmp x.t y.t)

-- what is found at a pair
pub found_at : (es : Pairs) (x : Pair) → found (places_of es) (place_of x) ≡ lookup (λ y. is_eq (pair_cmp x y)) es
found_at [] x = refl
found_at (e ∷ es) x = λ i. cond (sym (pair_eq x e.0) i) (Some e.1) (found_at es x i)

pub length_places : (es : Pairs) → length (places_of es) ≡ length es
length_places [] = refl
length_places (e ∷ es) = omega (arith, length_places es)

pub all_inserted : (es : Pairs) (x : Pair) (t : Total) → AllByRecursion IsTotal (places_of es) → IsTotal (place_of x, t)
    → AllByRecursion IsTotal (places_of (insert_entry pair_cmp es x t))
all_inserted [] x t all is = (is, tt)
all_inserted (e ∷ es) x t all is = by (pair_cmp x e.0) refl (all_inserted es x t all.1 is)
  where
    by : (r : Ordering) → pair_cmp x e.0 ≡ r → AllByRecursion IsTotal (places_of (insert_entry pair_cmp es x t))
        → AllByRecursion IsTotal (places_of (match_ordering r ((x, t) ∷ e ∷ es) ((e.0, t) ∷ es) (e ∷ insert_entry pair_cmp es x t)))
    by Less s rest = (is, all)
    by Equal s rest =
        let same : place_of x ≡ place_of e.0 = test.sound (place_of x) (place_of e.0) (sym (pair_eq x e.0) ∙ ap is_eq s) in
        (subst (λ (q : Place). IsTotal (q, t)) same is, all.1)
    by Greater s rest = (all.0, rest)

-- ---- sorted pairs

above_apart : (x : Pair) (es : Pairs) → AllByRecursion (λ y. pair_cmp x y ≡ Less) (keys_of es)
    → AllByRecursion (λ (y : Place). y ≢ place_of x) (keys_of (places_of es))
above_apart x [] all = tt
above_apart x (e ∷ es) all = (
  λ same. let wrong : false ≡ true = sym (ap is_eq all.0) ∙ pair_eq x e.0 ∙ ap (λ y. is_eq (place_cmp (place_of x) y)) same ∙ test.reflexive (place_of x) in cc,
  above_apart x es all.1,
)

pub sorted_apart : (es : Pairs) → IsStrictlySortedBy pair_cmp (keys_of es) → AreDistinct (keys_of (places_of es))
unfolding IsStrictlySortedBy
sorted_apart [] sorted = tt
sorted_apart (e ∷ es) sorted = (above_apart e.0 es sorted.0, sorted_apart es sorted.1)

-- what is found after an insertion
pub updated : (es new : Pairs) (x : Pair) (t : Total)
    → ((y : Pair) → lookup (λ z. is_eq (pair_cmp y z)) new ≡ cond (is_eq (pair_cmp x y)) (Some t) (lookup (λ z. is_eq (pair_cmp y z)) es))
    → (q : Place) → found (places_of new) q ≡ cond (is_eq (place_cmp (place_of x) q)) (Some t) (found (places_of es) q)
updated es new x t updates q =
    found_at new (record { entry = q.c; t = q.m })
    ∙ updates (record { entry = q.c; t = q.m })
    ∙ λ i. cond (pair_eq x (record { entry = q.c; t = q.m }) i) (Some t) (sym (found_at es (record { entry = q.c; t = q.m })) i)
