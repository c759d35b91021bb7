-- Candidates in order: what is passed on a walk along them, and what is found.
use Rattle.std.proofs.Common.{◌≡◌, ◌≢◌, ℕ, zero, suc, ◌+◌, ◌<◌, ◌≤◌, Bool, true, false, ◌&&◌, ◌||◌, ◌==◌, nat_lt, bit_and, ℤ, List, [], ◌∷◌, ◌++◌, length, take}
use Rattle.std.proofs.Common.{drop, get_or, ◌⊎◌, inl, inr, refl, sym, ap, subst, ◌∙◌, arith}
use borrow.Author.Differences.{ints}
use Rattle.std.proofs.lemmas.Bool.Decides.{nat_tests}
use Rattle.std.proofs.lemmas.List.{take_more, take_all, take-append-drop}
use Rattle.std.specs.Prelude.{◌<ℤ◌, ◌≤ℤ◌, int_le, Some, slice_get}
use Rattle.std.specs.List.{AllByRecursion, insert}
use Rattle.std.specs.List.Sorted.{IsPartitionedBy}
use Rattle.module_vec.specs.declared.places.Place.{Place}
use Rattle.module_vec.specs.declared.places.Term.{Term}
use Rattle.module_vec.specs.Reducers.{GoesBefore}
use Rattle.module_vec.proofs.FallingTerms.{drop_read}
use Rattle.module_vec.proofs.Lookups.{all_read}
use Rattle.reducer_index.specs.declared.candidates.Candidate.{Candidate}
use Rattle.reducer_index.specs.Candidates.{IsCandidateOf, Precedes, IsInOrder, stands_before, IsReducing, IsPassed, IsFound, BeginsAt}
use Rattle.reducer_index.specs.Masks.{IsMask}
use Rattle.reducer_index.proofs.Masking.{mask_divides}

-- ---- lists
pub all_append : {X : Type 0} (P : X → Type 0) (xs ys : List X) → AllByRecursion P xs → AllByRecursion P ys → AllByRecursion P (xs ++ ys)
all_append P [] ys h k = k
all_append P (x ∷ xs) ys h k = (h.0, all_append P xs ys h.1 k)

pub all_insert : {X : Type 0} (P : X → Type 0) (xs ys : List X) (x : X) → AllByRecursion P (xs ++ ys) → P x → AllByRecursion P (xs ++ x ∷ ys)
all_insert P [] ys x h own = (own, h)
all_insert P (y ∷ xs) ys x h own = (h.0, all_insert P xs ys x h.1 own)

pub all_weaker : {X : Type 0} (P Q : X → Type 0) (xs : List X) → ((x : X) → P x → Q x) → AllByRecursion P xs → AllByRecursion Q xs
all_weaker P Q [] h all = tt
all_weaker P Q (x ∷ xs) h all = (h x all.0, all_weaker P Q xs h all.1)

all_both : {X : Type 0} (P Q R : X → Type 0) (xs : List X) → ((x : X) → P x → Q x → R x) → AllByRecursion P xs → AllByRecursion Q xs → AllByRecursion R xs
all_both P Q R [] h p q = tt
all_both P Q R (x ∷ xs) h p q = (h x p.0 q.0, all_both P Q R xs h p.1 q.1)

pub all_drop : {X : Type 0} (P : X → Type 0) (n : ℕ) (xs : List X) → AllByRecursion P xs → AllByRecursion P (drop n xs)
all_drop P zero xs h = h
all_drop P (suc n) [] h = h
all_drop P (suc n) (x ∷ xs) h = all_drop P n xs h.1

all_before : {X : Type 0} (P : X → Type 0) (n : ℕ) (xs : List X) → n ≤ length xs → ((k : ℕ) (d : X) → 0 ≤ k → k < n → P (get_or xs k d))
    → AllByRecursion P (take n xs)
all_before P zero xs le h = tt
all_before P (suc n) [] le h = tt
all_before P (suc n) (x ∷ xs) le h = (
  h 0 x (omega arith) (omega arith),
  all_before P n xs (omega (arith, le))
      (λ k d ge lt. h (suc k) d (omega arith) (omega (arith, lt))),
)

all_behind : {X : Type 0} (P : X → Type 0) (n : ℕ) (xs : List X) → ((k : ℕ) (d : X) → n ≤ k → k < length xs → P (get_or xs k d)) → AllByRecursion P (drop n xs)
all_behind P zero [] h = tt
all_behind P zero (x ∷ xs) h = (h 0 x (omega arith) (omega arith), all_behind P zero xs (λ k d ge lt. h (suc k) d (omega arith) (omega (arith, lt))))
all_behind P (suc n) [] h = tt
all_behind P (suc n) (x ∷ xs) h = all_behind P n xs (λ k d ge lt. h (suc k) d (omega (arith, ge)) (omega (arith, lt)))

-- ---- order
order_drop : (n : ℕ) (xs : List Candidate) → IsInOrder xs → IsInOrder (drop n xs)
order_drop zero xs h = h
order_drop (suc n) [] h = h
order_drop (suc n) (x ∷ xs) h = order_drop n xs h.1

order_insert : (xs ys : List Candidate) (x : Candidate) → IsInOrder (xs ++ ys) → AllByRecursion (λ y. Precedes y x) xs → AllByRecursion (Precedes x) ys
    → IsInOrder (xs ++ x ∷ ys)
order_insert [] ys x order before behind = (behind, order)
order_insert (y ∷ xs) ys x order before behind = (all_insert (Precedes y) xs ys x order.0 before.0, order_insert xs ys x order.1 before.1 behind)

partitioned : (p : Candidate → Bool) → ((x y : Candidate) → Precedes x y → p y ≡ true → p x ≡ true) → (xs : List Candidate) → IsInOrder xs
    → IsPartitionedBy p xs
partitioned p down [] order i j d le lt e = absurd (omega (arith, lt))
partitioned p down (x ∷ xs) order zero zero d le lt e = e
partitioned p down (x ∷ xs) order zero (suc j) d le lt e = down x (get_or xs j d) (all_read (Precedes x) xs j d (omega (arith, lt)) order.0) e
partitioned p down (x ∷ xs) order (suc i) zero d le lt e = absurd (omega (arith, le))
partitioned p down (x ∷ xs) order (suc i) (suc j) d le lt e = partitioned p down xs order.1 i j d (omega (arith, le)) (omega (arith, lt)) e

component_rises : (x y : Candidate) → Precedes x y → x.component ≤ y.component
component_rises x y (inl lt) = omega (arith, lt)
component_rises x y (inr (e, h)) = omega (arith, e)

-- ---- the place of a new candidate
abbrev Stands : Candidate → Candidate → Type 0
Stands new x = (x.component < new.component) ⊎ ((x.component ≡ new.component) × (x.coefficient ≤ℤ new.coefficient))

int_le_true : (k l : ℤ) → int_le k l ≡ true → k ≤ℤ l
int_le_true k l e = grind (arith, ints)

int_le_false : (k l : ℤ) → int_le k l ≡ false → l <ℤ k
int_le_false k l e = grind (arith, ints)

stands_cases : (new x : Candidate) → ((stands_before new x ≡ true) × Stands new x) ⊎ ((stands_before new x ≡ false) × (Stands new x → ⊥))
stands_cases new x = by (nat_lt x.component new.component) (x.component == new.component) (int_le x.coefficient new.coefficient) refl refl refl
  where
    by : (a b d : Bool) → nat_lt x.component new.component ≡ a → (x.component == new.component) ≡ b → int_le x.coefficient new.coefficient ≡ d
        → ((stands_before new x ≡ true) × Stands new x) ⊎ ((stands_before new x ≡ false) × (Stands new x → ⊥))
    by true b d e f g =
        let lt : x.component < new.component = grind (arith, nat_tests) in
        inl (ap (λ (t : Bool). t || (x.component == new.component && int_le x.coefficient new.coefficient)) e, inl lt)
    by false true true e f g =
        let same : x.component ≡ new.component = grind (arith, nat_tests) in
        inl ((λ i. e i || (f i && g i)), inr (same, int_le_true x.coefficient new.coefficient g))
    by false true false e f g =
        let same : x.component ≡ new.component = grind (arith, nat_tests) in
        let above : new.coefficient <ℤ x.coefficient = int_le_false x.coefficient new.coefficient g in
        inr ((λ i. e i || (f i && g i)), elim [ inl lt ↦ omega (arith, lt, same) | inr h ↦ omega (arith, ints, above, h.1) ])
    by false false d e f g =
        let ge : new.component ≤ x.component = grind (arith, nat_tests) in
        let other : x.component ≢ new.component = grind (arith, nat_tests) in
        inr ((λ i. e i || (f i && int_le x.coefficient new.coefficient)), elim [ inl lt ↦ omega (arith, lt, ge) | inr h ↦ other h.0 ])

stands_to : (new x : Candidate) → stands_before new x ≡ true → Stands new x
stands_to new x e = by (stands_cases new x)
  where
    by : ((stands_before new x ≡ true) × Stands new x) ⊎ ((stands_before new x ≡ false) × (Stands new x → ⊥)) → Stands new x
    by (inl h) = h.1
    by (inr h) = let clash : true ≡ false = sym e ∙ h.0 in absurd cc

stands_from : (new x : Candidate) → Stands new x → stands_before new x ≡ true
stands_from new x s = by (stands_cases new x)
  where
    by : ((stands_before new x ≡ true) × Stands new x) ⊎ ((stands_before new x ≡ false) × (Stands new x → ⊥)) → stands_before new x ≡ true
    by (inl h) = h.0
    by (inr h) = absurd (h.1 s)

stands_not : (new x : Candidate) → stands_before new x ≡ false → Stands new x → ⊥
stands_not new x e s = let clash : true ≡ false = sym (stands_from new x s) ∙ e in absurd cc

stands_down : (new x y : Candidate) → Precedes x y → Stands new y → Stands new x
stands_down new x y (inl lt) (inl h) = inl (omega (arith, lt, h))
stands_down new x y (inl lt) (inr h) = inl (omega (arith, lt, h.0))
stands_down new x y (inr (e, g)) (inl h) = inl (omega (arith, e, h))
stands_down new x y (inr (e, inl k)) (inr h) = inr (e ∙ h.0, omega (arith, ints, k, h.1))
stands_down new x y (inr (e, inr k)) (inr h) = inr (e ∙ h.0, omega (arith, ints, k.0, h.1))

pub place_partitioned : (new : Candidate) (xs : List Candidate) → IsInOrder xs → IsPartitionedBy (stands_before new) xs
place_partitioned new xs order = partitioned (stands_before new) (λ x y before e. stands_from new x (stands_down new x y before (stands_to new y e))) xs order

comes_before : (new x : Candidate) → x.number < new.number → stands_before new x ≡ true → Precedes x new
comes_before new x older e = by (stands_to new x e)
  where
    le_cases : (k l : ℤ) → k ≤ℤ l → (k <ℤ l) ⊎ (k ≡ l)
    le_cases k l h = by_test (int_le l k) refl
      where
        by_test : (b : Bool) → int_le l k ≡ b → (k <ℤ l) ⊎ (k ≡ l)
        by_test true e = inr (omega (arith, ints, h, int_le_true l k e))
        by_test false e = inl (int_le_false l k e)

    by : Stands new x → Precedes x new
    by (inl lt) = inl lt
    by (inr (same, le)) = inr (same, by_coefficient (le_cases x.coefficient new.coefficient le))
      where
        by_coefficient : (x.coefficient <ℤ new.coefficient) ⊎ (x.coefficient ≡ new.coefficient) → GoesBefore x.coefficient x.number new.coefficient new.number
        by_coefficient (inl lt) = inl lt
        by_coefficient (inr equal) = inr (equal, omega (arith, older))

comes_behind : (new x : Candidate) → stands_before new x ≡ false → Precedes new x
comes_behind new x e = by (nat_lt new.component x.component) (new.component == x.component) (int_le x.coefficient new.coefficient) refl refl refl
  where
    not : Stands new x → ⊥
    not = stands_not new x e

    by : (a b d : Bool) → nat_lt new.component x.component ≡ a → (new.component == x.component) ≡ b → int_le x.coefficient new.coefficient ≡ d → Precedes new x
    by true b d f g h = inl (grind (arith, nat_tests))
    by false true true f g h =
        let same : x.component ≡ new.component = grind (arith, nat_tests) in
        absurd (not (inr (same, int_le_true x.coefficient new.coefficient h)))
    by false true false f g h =
        let same : new.component ≡ x.component = grind (arith, nat_tests) in
        inr (same, inl (int_le_false x.coefficient new.coefficient h))
    by false false d f g h =
        let ge : x.component ≤ new.component = grind (arith, nat_tests) in
        let other : new.component ≢ x.component = grind (arith, nat_tests) in
        let lt : x.component < new.component = grind (arith, nat_tests) in
        absurd (not (inl lt))

pub placed : (new : Candidate) (xs : List Candidate) (at : ℕ) → IsInOrder xs → AllByRecursion (λ x. x.number < new.number) xs → at ≤ length xs
    → ((k : ℕ) (d : Candidate) → 0 ≤ k → k < at → stands_before new (get_or xs k d) ≡ true)
    → ((k : ℕ) (d : Candidate) → at ≤ k → k < length xs → stands_before new (get_or xs k d) ≡ false) → IsInOrder (insert xs at new)
placed new xs at order older within before behind =
    order_insert (take at xs) (drop at xs) new (subst IsInOrder (sym (take-append-drop at xs)) order)
    (all_before (λ y. Precedes y new) at xs within (λ k d ge lt. comes_before new (get_or xs k d)
    (all_read (λ (x : Candidate). x.number < new.number) xs k d (omega (arith, lt, within)) older) (before k d ge lt)))
    (all_behind (Precedes new) at xs (λ k d ge lt. comes_behind new (get_or xs k d) (behind k d ge lt)))

-- ---- the candidates from a component on
below_down : (c : ℕ) (x y : Candidate) → Precedes x y → nat_lt y.component c ≡ true → nat_lt x.component c ≡ true
below_down c x y before e = let le = component_rises x y before in grind (arith, nat_tests)

pub component_partitioned : (c : ℕ) (xs : List Candidate) → IsInOrder xs → IsPartitionedBy (λ x. nat_lt x.component c) xs
component_partitioned c xs order = partitioned (λ x. nat_lt x.component c) (below_down c) xs order

test_lt : (a c : ℕ) → nat_lt a c ≡ true → a < c
test_lt a c e = grind (arith, nat_tests)

test_ge : (a c : ℕ) → nat_lt a c ≡ false → c ≤ a
test_ge a c e = grind (arith, nat_tests)

pub begins_at : (c : ℕ) (xs rest : List Candidate) (at : ℕ) → at ≤ length xs → rest ≡ drop at xs
    → ((k : ℕ) (d : Candidate) → 0 ≤ k → k < at → nat_lt (get_or xs k d).component c ≡ true)
    → ((k : ℕ) (d : Candidate) → at ≤ k → k < length xs → nat_lt (get_or xs k d).component c ≡ false) → BeginsAt c xs rest
begins_at c xs rest at within is before behind = record {
  before = take at xs;
  split = sym (take-append-drop at xs) ∙ ap (λ (r : List Candidate). take at xs ++ r) (sym is);
  lower = all_before (λ x. x.component < c) at xs within (λ k d ge lt. test_lt (get_or xs k d).component c (before k d ge lt));
  higher = subst (AllByRecursion (λ (x : Candidate). c ≤ x.component)) (sym is) (all_behind (λ (x : Candidate). c
      ≤ x.component) at xs (λ k d ge lt. test_ge (get_or xs k d).component c (behind k d ge lt)));
}

-- ---- a candidate and its lead
pub same_lead : (es : List Term) (n : ℕ) (e f : Term) → slice_get es n ≡ Some e → slice_get es n ≡ Some f → e ≡ f
same_lead es n e f h k = let both : Some e ≡ Some f = sym h ∙ k in cc

-- the mask rules out no candidate that reduces
pub mask_passes : (es : List Term) (p : Place) (x : Candidate) (mask : ℕ) → IsCandidateOf es x → IsMask p.m mask → IsReducing es p x
    → bit_and x.mask mask ≡ x.mask
mask_passes es p x mask of is (e, read, reduces) =
    let same : of.lead ≡ e = same_lead es x.number of.lead e of.is read in
    mask_divides e.at.m p.m x.mask mask (subst (λ (t : Term). IsMask t.at.m x.mask) same of.mask) is reduces.1

pub other_component : (es : List Term) (front : ℕ) (p : Place) (x : Candidate) → IsCandidateOf es x → x.component ≢ p.c → IsPassed es front p x
other_component es front p x of other lt (e, read, reduces) =
    let same : of.lead ≡ e = same_lead es x.number of.lead e of.is read in
    other (of.component ∙ ap (λ (t : Term). t.at.c) same ∙ reduces.0)

-- an element is the same whatever stands past the end
pub any_default : {X : Type 0} (xs : List X) (i : ℕ) (d e : X) → i < length xs → get_or xs i d ≡ get_or xs i e
any_default [] i d e lt = absurd (omega (arith, lt))
any_default (x ∷ xs) zero d e lt = refl
any_default (x ∷ xs) (suc i) d e lt = any_default xs i d e (omega (arith, lt))

-- ---- the walk
module _ (es : List Term) (front : ℕ) (p : Place) (xs : List Candidate) (i : ℕ) (x : Candidate) (lt : i < length xs) (read : x
    ≡ get_or xs i x) (passed : AllByRecursion (IsPassed es front p) (take i xs)) where
  split_here : xs ≡ take i xs ++ x ∷ drop (i + 1) xs
  split_here = sym (take-append-drop i xs) ∙ ap (λ (r : List Candidate). take i xs ++ r) (drop_read xs i x lt read)

  pub pass_more : IsPassed es front p x → AllByRecursion (IsPassed es front p) (take (i + 1) xs)
  pass_more own =
      subst (AllByRecursion (IsPassed es front p)) (ap (λ (y : Candidate). take i xs ++ y ∷ []) read ∙ sym (take_more xs i x lt))
      (all_append (IsPassed es front p) (take i xs) (x ∷ []) passed (own, tt))

  behind_x : IsInOrder xs → AllByRecursion (Precedes x) (drop (i + 1) xs)
  behind_x order = let rest : IsInOrder (x ∷ drop (i + 1) xs) = subst IsInOrder (drop_read xs i x lt read) (order_drop i xs order) in rest.0

  pub found_here : IsInOrder xs → x.number < front → IsReducing es p x → IsFound es front p xs x.number
  found_here order below reducing = record {
    passed = take i xs;
    found = x;
    others = drop (i + 1) xs;
    split = split_here;
    number = refl;
    below = below;
    reducing = reducing;
    all = passed;
    order = behind_x order;
  }

  -- where the component is passed, all is
  pub all_passed : AllByRecursion (IsCandidateOf es) xs → IsInOrder xs → AllByRecursion (λ y. p.c ≤ y.component) xs → x.component ≢ p.c
      → AllByRecursion (IsPassed es front p) xs
  all_passed of order higher other =
      let here = drop_read xs i x lt read in
      let candidates : AllByRecursion (IsCandidateOf es) (x ∷ drop (i + 1) xs) =
      subst (AllByRecursion (IsCandidateOf es)) here (all_drop (IsCandidateOf es) i xs of) in
      let above : AllByRecursion (λ (y : Candidate). p.c ≤ y.component) (x ∷ drop (i + 1) xs) =
      subst (AllByRecursion (λ (y : Candidate). p.c ≤ y.component)) here (all_drop (λ (y : Candidate). p.c ≤ y.component) i xs higher) in
      let own : p.c ≤ x.component = above.0 in
      let others : AllByRecursion (IsPassed es front p) (drop (i + 1) xs) =
      all_both (IsCandidateOf es) (Precedes x) (IsPassed es front p) (drop (i + 1) xs)
      (λ y c before. other_component es front p y c (λ e. other (back x.component y.component p.c own (component_rises x y before) e))) candidates.1
      (behind_x order) in
      subst (AllByRecursion (IsPassed es front p)) (sym split_here)
      (all_append (IsPassed es front p) (take i xs) (x ∷ drop (i + 1) xs) passed (other_component es front p x candidates.0 other, others))
    where
      back : (a b c : ℕ) → c ≤ a → a ≤ b → b ≡ c → a ≡ c
      back a b c h k e = omega (arith, h, k, e)

pub passed_to_end : (es : List Term) (front : ℕ) (p : Place) (xs : List Candidate) (i : ℕ) → length xs ≤ i → AllByRecursion (IsPassed es front p) (take i xs)
    → AllByRecursion (IsPassed es front p) xs
passed_to_end es front p xs i le h = subst (AllByRecursion (IsPassed es front p)) (take_all i xs le) h
