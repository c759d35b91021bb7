-- The list of generators holds what the four kinds say, and nothing else.
use Rattle.std.proofs.Common.{◌≡◌, ◌⊎◌, inl, inr, ℕ, zero, suc, ◌+◌, ◌<◌, ◌==◌, Bool, true, false, if◌then◌else◌, List, [], ◌∷◌, ◌++◌, length, map, Contains}
use Rattle.std.proofs.Common.{refl, sym, ap, subst, arith}
use Rattle.std.proofs.lemmas.Bool.Decides.{nat_tests}
use Rattle.std.proofs.lemmas.List.Elements.{Contains-append_left, Contains-append_right}
use Rattle.std.specs.List.{AllByRecursion, range_with_len, flat_map}
use Rattle.free_words.specs.declared.letter.Letter.{Letter}
use Rattle.presentation.specs.Presented.{Presented}
use Rattle.formal_sums.specs.FormalSum.{FormalSum}
use Rattle.module_vec.specs.declared.places.Place.{Place}
use Rattle.module_vec.specs.declared.places.Term.{Term}
use Rattle.module_vec.specs.Modules.{vector_at}
use Rattle.fox_calculus.specs.Fox.{fox, image}
use Rattle.fox_calculus.specs.Generators.{binomial, unit_monomial, constant, components, relator_vectors, relator_binomials, unit_binomials, modulus_vectors}
use Rattle.fox_calculus.specs.Generators.{candidates, IsZero, IsWritten, AreWritten}
use Rattle.fox_calculus.specs.Module.{IsGenerator}

-- ---- elements of lists
contains_first : {X : Type 0} (x : X) (xs : List X) → Contains (x ∷ xs) x
contains_first x xs = (0, omega arith, refl)

contains_later : {X : Type 0} (x y : X) (xs : List X) → Contains xs y → Contains (x ∷ xs) y
contains_later x y xs (k, lt, e) = (suc k, omega (arith, lt), e)

all_append : {X : Type 0} (P : X → Type 0) (xs ys : List X) → AllByRecursion P xs → AllByRecursion P ys → AllByRecursion P (xs ++ ys)
all_append P [] ys a b = b
all_append P (x ∷ xs) ys a b = (a.0, all_append P xs ys a.1 b)

all_map : {X Y : Type 0} (P : Y → Type 0) (f : X → Y) (xs : List X) → ((x : X) → Contains xs x → P (f x)) → AllByRecursion P (map f xs)
all_map P f [] h = tt
all_map P f (x ∷ xs) h = (h x (contains_first x xs), all_map P f xs (λ y k. h y (contains_later x y xs k)))

all_flat : {X Y : Type 0} (P : Y → Type 0) (f : X → List Y) (xs : List X) → ((x : X) → Contains xs x → AllByRecursion P (f x))
    → AllByRecursion P (flat_map f xs)
all_flat P f [] h = tt
all_flat P f (x ∷ xs) h = all_append P (f x) (flat_map f xs) (h x (contains_first x xs)) (all_flat P f xs (λ y k. h y (contains_later x y xs k)))

contains_map : {X Y : Type 0} (f : X → Y) (xs : List X) (x : X) → Contains xs x → Contains (map f xs) (f x)
contains_map f [] x (k, lt, e) = absurd (omega (arith, lt))
contains_map f (y ∷ xs) x (zero, lt, e) = (0, omega arith, ap f e)
contains_map f (y ∷ xs) x (suc k, lt, e) =
    contains_later (f y) (f x) (map f xs) (contains_map f xs x (k, omega (arith, lt), e))

contains_flat : {X Y : Type 0} (f : X → List Y) (xs : List X) (x : X) (y : Y) → Contains xs x → Contains (f x) y → Contains (flat_map f xs) y
contains_flat f [] x y (k, lt, e) h = absurd (omega (arith, lt))
contains_flat f (z ∷ xs) x y (zero, lt, e) h = Contains-append_left (f z) (flat_map f xs) y (subst (λ w. Contains (f w) y) (sym e) h)
contains_flat f (z ∷ xs) x y (suc k, lt, e) h =
    Contains-append_right (f z) (flat_map f xs) y (contains_flat f xs x y (k, omega (arith, lt), e) h)

range_below : (a n k : ℕ) → Contains (range_with_len a n) k → k < a + n
range_below a zero k (i, lt, e) = absurd (omega (arith, lt))
range_below a (suc n) k (zero, lt, e) = omega (arith, e)
range_below a (suc n) k (suc i, lt, e) = omega (arith, range_below (a + 1) n k (i, omega (arith, lt), e))

range_has : (a n j : ℕ) → j < n → Contains (range_with_len a n) (a + j)
range_has a zero j lt = absurd (omega (arith, lt))
range_has a (suc n) zero lt = subst (Contains (range_with_len a (suc n))) (plus_none a) (contains_first a (range_with_len (a + 1) n))
  where
    plus_none : (a : ℕ) → a ≡ a + 0
    plus_none a = omega arith
range_has a (suc n) (suc j) lt =
    let e : (a + 1) + j ≡ a + suc j = omega arith in
    subst (Contains (range_with_len a (suc n))) e (contains_later a ((a + 1) + j) (range_with_len (a + 1) n) (range_has (a + 1) n j (omega (arith, lt))))

component : (p : Presented) (c : ℕ) → c < length p.names → Contains (components p) c
component p c lt = let e : 0 + c ≡ c = omega arith in subst (Contains (components p)) e (range_has 0 (length p.names) c lt)

component_below : (p : Presented) (c : ℕ) → Contains (components p) c → c < length p.names
component_below p c k = omega (arith, range_below 0 (length p.names) c k)

-- ---- each candidate is of one of the kinds
no_modulus : (p : Presented) (b : Bool) → (p.modulus == 0) ≡ b → AllByRecursion (IsGenerator p) (if b then [] else map (constant p.modulus) (components p))
no_modulus p true e = tt
no_modulus p false e =
    let some : 0 < p.modulus = grind (arith, nat_tests) in
    all_map (IsGenerator p) (constant p.modulus) (components p) (λ c k. IsGenerator.modulus_vector c some (component_below p c k))

pub candidates_are : (p : Presented) → AllByRecursion (IsGenerator p) (candidates p)
candidates_are p =
    all_append (IsGenerator p) (relator_vectors p) (relator_binomials p ++ (unit_binomials p ++ modulus_vectors p))
    (all_map (IsGenerator p) fox p.relators (λ r k. IsGenerator.relator_vector r k))
    (all_append (IsGenerator p) (relator_binomials p) (unit_binomials p ++ modulus_vectors p)
    (all_flat (IsGenerator p) (λ (r : List Letter). map (binomial (image r)) (components p)) p.relators
    (λ r k. all_map (IsGenerator p) (binomial (image r)) (components p) (λ c j. IsGenerator.relator_binomial r c k (component_below p c j))))
    (all_append (IsGenerator p) (unit_binomials p) (modulus_vectors p)
    (all_flat (IsGenerator p) (λ (g : ℕ). map (binomial (unit_monomial g)) (components p)) (components p)
    (λ g k. all_map (IsGenerator p) (binomial (unit_monomial g)) (components p)
    (λ c j. IsGenerator.unit_binomial g c (component_below p g k) (component_below p c j))))
    (no_modulus p (p.modulus == 0) refl)))

-- ---- each of the kinds is a candidate
modulus_by : (p : Presented) (c : ℕ) (b : Bool) → (p.modulus == 0) ≡ b → 0 < p.modulus → c < length p.names
    → Contains (if b then [] else map (constant p.modulus) (components p)) (constant p.modulus c)
modulus_by p c true e some lt = let none : p.modulus ≡ 0 = grind (arith, nat_tests) in absurd (omega (arith, none, some))
modulus_by p c false e some lt = contains_map (constant p.modulus) (components p) c (component p c lt)

pub is_candidate : (p : Presented) (f : FormalSum Place) → IsGenerator p f → Contains (candidates p) f
is_candidate p _ (IsGenerator.relator_vector r k) =
    Contains-append_left (relator_vectors p) (relator_binomials p ++ (unit_binomials p ++ modulus_vectors p)) (fox r) (contains_map fox p.relators r k)
is_candidate p _ (IsGenerator.relator_binomial r c k lt) =
    Contains-append_right (relator_vectors p) (relator_binomials p ++ (unit_binomials p ++ modulus_vectors p)) (binomial (image r) c)
    (Contains-append_left (relator_binomials p) (unit_binomials p ++ modulus_vectors p) (binomial (image r) c)
    (contains_flat (λ (s : List Letter). map (binomial (image s)) (components p)) p.relators r (binomial (image r) c) k
    (contains_map (binomial (image r)) (components p) c (component p c lt))))
is_candidate p _ (IsGenerator.unit_binomial g c gt lt) =
    Contains-append_right (relator_vectors p) (relator_binomials p ++ (unit_binomials p ++ modulus_vectors p)) (binomial (unit_monomial g) c)
    (Contains-append_right (relator_binomials p) (unit_binomials p ++ modulus_vectors p) (binomial (unit_monomial g) c)
    (Contains-append_left (unit_binomials p) (modulus_vectors p) (binomial (unit_monomial g) c)
    (contains_flat (λ (h : ℕ). map (binomial (unit_monomial h)) (components p)) (components p) g (binomial (unit_monomial g) c) (component p g gt)
    (contains_map (binomial (unit_monomial g)) (components p) c (component p c lt)))))
is_candidate p _ (IsGenerator.modulus_vector c some lt) =
    Contains-append_right (relator_vectors p) (relator_binomials p ++ (unit_binomials p ++ modulus_vectors p)) (constant p.modulus c)
    (Contains-append_right (relator_binomials p) (unit_binomials p ++ modulus_vectors p) (constant p.modulus c)
    (Contains-append_right (unit_binomials p) (modulus_vectors p) (constant p.modulus c)
    (modulus_by p c (p.modulus == 0) refl some lt)))

-- ---- the list that is written
pub record Origin (P : FormalSum Place → Type 0) (g : List Term) : Type 0 where
  pub from : FormalSum Place
  pub has : P from
  pub is : IsWritten from g

pub origin : (P : FormalSum Place → Type 0) (fs : List (FormalSum Place)) (gs : List (List Term)) → AreWritten fs gs → AllByRecursion P fs
    → (i : ℕ) → i < length gs → Origin P (vector_at gs i)
origin P _ _ AreWritten.nothing all i lt = absurd (omega (arith, lt))
origin P _ _ (AreWritten.left_out f fs gs z h) all i lt = origin P fs gs h all.1 i lt
origin P _ _ (AreWritten.written f g fs gs n w h) all zero lt = record { from = f; has = all.0; is = w }
origin P _ _ (AreWritten.written f g fs gs n w h) all (suc i) lt = origin P fs gs h all.1 i (omega (arith, lt))

pub record Written (f : FormalSum Place) (gs : List (List Term)) : Type 0 where
  pub number : ℕ
  pub below : number < length gs
  pub is : IsWritten f (vector_at gs number)

written_later : (f : FormalSum Place) (g : List Term) (gs : List (List Term)) → IsZero f ⊎ Written f gs → IsZero f ⊎ Written f (g ∷ gs)
written_later f g gs (inl z) = inl z
written_later f g gs (inr w) = inr (record { number = suc w.number; below = omega (arith, w.below); is = w.is })

pub written : (fs : List (FormalSum Place)) (gs : List (List Term)) → AreWritten fs gs → (f : FormalSum Place) → Contains fs f → IsZero f ⊎ Written f gs
written _ _ AreWritten.nothing f (k, lt, e) = absurd (omega (arith, lt))
written _ _ (AreWritten.left_out x fs gs z h) f (zero, lt, e) = inl (subst IsZero e z)
written _ _ (AreWritten.left_out x fs gs z h) f (suc k, lt, e) = written fs gs h f (k, omega (arith, lt), e)
written _ _ (AreWritten.written x g fs gs n w h) f (zero, lt, e) =
    inr (record { number = 0; below = omega arith; is = subst (λ (y : FormalSum Place). IsWritten y g) e w })
written _ _ (AreWritten.written x g fs gs n w h) f (suc k, lt, e) = written_later f g gs (written fs gs h f (k, omega (arith, lt), e))
