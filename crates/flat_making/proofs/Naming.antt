-- Kinds that are put one after another, and the generators that they name.
use Rattle.std.proofs.Common.{◌≡◌, ◌∙◌, ℕ, zero, suc, ◌+◌, ◌*◌, ◌<◌, ◌≤◌, ◌==◌, Bool, true, false, cond, pos, negsuc, ◌+ℤ◌, List, [], ◌∷◌, ◌++◌, length, map}
use Rattle.std.proofs.Common.{take, get_or, refl, sym, ap, subst, arith, append_assoc, append-nil}
use Rattle.std.specs.Prelude.{Option, ◌↔◌, IsTrue}
use Rattle.std.specs.List.{range_with_len, flat_map}
use Rattle.std.proofs.lemmas.Bool.Decides.{nat_tests}
use Rattle.std.proofs.lemmas.Grind.{flat_map-append}
use Rattle.std.proofs.lemmas.List.{take_all, take_more, map-append}
use borrow.Author.Differences.{ints}
use Rattle.free_words.specs.declared.letter.Letter.{Letter}
use Rattle.formal_sums.specs.FormalSum.{FormalSum, coefficient}
use Rattle.formal_sums.proofs.Keys.{eq-apart}
use Rattle.free_words.specs.declared.TheConstants.{GENERATORS}
use Rattle.laurent_terms.specs.Monomials.{one, degree, variable, IsMonomial}
use Rattle.laurent_terms.proofs.Combining.{sum-product}
use Rattle.laurent_terms.proofs.Variables.{degree-variable, variable_is_monomial}
use Rattle.module_vec.specs.declared.places.Place.{Place}
use Rattle.module_vec.specs.declared.places.Term.{Term}
use Rattle.module_vec.specs.Places.{same_place}
use Rattle.module_vec.specs.Vectors.{sum_of}
use Rattle.module_vec.proofs.Determined.{same_vector}
use Rattle.module_vec.proofs.Order.{test}
use Rattle.fox_calculus.specs.Generators.{binomial, constant, unit_monomial, IsZero, IsWritten}
use Rattle.flat_cert.specs.declared.lines.FlatKind.{FlatKind}
use Rattle.flat_making.specs.Kinds.{AreNamed, Names}

abbrev pub Kinds : Type 0
Kinds = List (Option FlatKind)

abbrev pub Sums : Type 0
Sums = List (FormalSum Place)

-- ---- one more

zero_more : (fs : Sums) (ks named : Kinds) (f : FormalSum Place) (k : Option FlatKind) → IsZero f → AreNamed fs ks named
    → AreNamed (fs ++ f ∷ []) (ks ++ k ∷ []) named
zero_more _ _ _ f k z AreNamed.nothing = AreNamed.left_out f k [] [] [] z AreNamed.nothing
zero_more _ _ _ f k z (AreNamed.left_out e j fs ks named y h) =
    AreNamed.left_out e j (fs ++ f ∷ []) (ks ++ k ∷ []) named y (zero_more fs ks named f k z h)
zero_more _ _ _ f k z (AreNamed.written e j fs ks named y h) =
    AreNamed.written e j (fs ++ f ∷ []) (ks ++ k ∷ []) named y (zero_more fs ks named f k z h)

named_more : (fs : Sums) (ks named : Kinds) (f : FormalSum Place) (k : Option FlatKind) → (IsZero f → ⊥) → AreNamed fs ks named
    → AreNamed (fs ++ f ∷ []) (ks ++ k ∷ []) (named ++ k ∷ [])
named_more _ _ _ f k z AreNamed.nothing = AreNamed.written f k [] [] [] z AreNamed.nothing
named_more _ _ _ f k z (AreNamed.left_out e j fs ks named y h) =
    AreNamed.left_out e j (fs ++ f ∷ []) (ks ++ k ∷ []) (named ++ k ∷ []) y (named_more fs ks named f k z h)
named_more _ _ _ f k z (AreNamed.written e j fs ks named y h) =
    AreNamed.written e j (fs ++ f ∷ []) (ks ++ k ∷ []) (named ++ k ∷ []) y (named_more fs ks named f k z h)

pub put_zero : (old : Kinds) (k : Option FlatKind) (b : Bool) → b ≡ true → (f : FormalSum Place) → (IsTrue b ↔ IsZero f)
    → Names old (f ∷ []) (k ∷ []) old
put_zero old k b e f z gs ks h = zero_more gs ks old f k (z.0 e) h

pub put_named : (old new : Kinds) (k : Option FlatKind) (b : Bool) → b ≡ false → new ≡ old ++ k ∷ [] → (f : FormalSum Place) → (IsTrue b ↔ IsZero f)
    → Names old (f ∷ []) (k ∷ []) new
put_named old new k b e pushed f z gs ks h =
    let some : IsZero f → ⊥ = λ none. let wrong : false ≡ true = sym e ∙ z.1 none in cc in
    subst (AreNamed (gs ++ f ∷ []) (ks ++ k ∷ [])) (sym pushed) (named_more gs ks old f k some h)

-- ---- one after another

pub names_none : (old : Kinds) → Names old [] [] old
names_none old gs ks h =
    subst (λ (l : Sums). AreNamed l (ks ++ []) old) (sym (append-nil gs)) (subst (λ (l : Kinds). AreNamed gs l old) (sym (append-nil ks)) h)

pub names_both : (old mid new : Kinds) (a b : Sums) (j k : Kinds) → Names old a j mid → Names mid b k new → Names old (a ++ b) (j ++ k) new
names_both old mid new a b j k f g gs ks h =
    subst (λ (l : Sums). AreNamed l (ks ++ (j ++ k)) new) (append_assoc gs a b)
    (subst (λ (l : Kinds). AreNamed ((gs ++ a) ++ b) l new) (append_assoc ks j k) (g (gs ++ a) (ks ++ j) (f gs ks h)))

pub names_all : (a b c d : Sums) (j k l m : Kinds) (v0 v1 v2 v3 v4 : Kinds) → v0 ≡ [] → Names v0 a j v1 → Names v1 b k v2 → Names v2 c l v3 → Names v3 d m v4
    → AreNamed (a ++ (b ++ (c ++ d))) (j ++ (k ++ (l ++ m))) v4
names_all a b c d j k l m v0 v1 v2 v3 v4 none f g h i =
    names_both v0 v1 v4 a (b ++ (c ++ d)) j (k ++ (l ++ m)) f
    (names_both v1 v2 v4 b (c ++ d) k (l ++ m) g (names_both v2 v3 v4 c d l m h i)) [] []
    (subst (AreNamed [] []) (sym none) AreNamed.nothing)

-- ---- by numbers, and by relators

range_more : (a n j : ℕ) → a + n ≡ j → range_with_len a (suc n) ≡ range_with_len a n ++ j ∷ []
range_more a zero j e = let is : a ≡ j = omega (arith, e) in ap (λ (x : ℕ). x ∷ []) is
range_more a (suc n) j e = ap (λ (l : List ℕ). a ∷ l) (range_more (a + 1) n j (omega (arith, e)))

map_range : {X : Type 0} (f : ℕ → X) (a i j : ℕ) → a + i ≡ j → map f (range_with_len a (i + 1)) ≡ map f (range_with_len a i) ++ f j ∷ []
map_range f a i j e =
    let next : i + 1 ≡ suc i = omega arith in
    ap (λ n. map f (range_with_len a n)) next ∙ ap (map f) (range_more a i j e) ∙ map-append f (range_with_len a i) (j ∷ [])

flat_range : {X : Type 0} (f : ℕ → List X) (a i j : ℕ) → a + i ≡ j → flat_map f (range_with_len a (i + 1)) ≡ flat_map f (range_with_len a i) ++ f j
flat_range f a i j e =
    let next : i + 1 ≡ suc i = omega arith in
    ap (λ n. flat_map f (range_with_len a n)) next ∙ ap (flat_map f) (range_more a i j e) ∙ flat_map-append f (range_with_len a i) (j ∷ [])
    ∙ ap (λ l. flat_map f (range_with_len a i) ++ l) (append-nil (f j))

map_item : {X : Type 0} (f : List Letter → X) (rs : List (List Letter)) (i : ℕ) (r d : List Letter) → i < length rs → r ≡ get_or rs i d
    → map f (take (i + 1) rs) ≡ map f (take i rs) ++ f r ∷ []
map_item f rs i r d lt e =
    ap (map f) (take_more rs i d lt) ∙ map-append f (take i rs) (get_or rs i d ∷ []) ∙ ap (λ s. map f (take i rs) ++ f s ∷ []) (sym e)

flat_item : {X : Type 0} (f : List Letter → List X) (rs : List (List Letter)) (i : ℕ) (r d : List Letter) → i < length rs → r ≡ get_or rs i d
    → flat_map f (take (i + 1) rs) ≡ flat_map f (take i rs) ++ f r
flat_item f rs i r d lt e =
    ap (flat_map f) (take_more rs i d lt) ∙ flat_map-append f (take i rs) (get_or rs i d ∷ [])
    ∙ ap (λ l. flat_map f (take i rs) ++ l) (append-nil (f (get_or rs i d))) ∙ ap (λ s. flat_map f (take i rs) ++ f s) (sym e)

names_as : (old new : Kinds) (a b : Sums) (j k : Kinds) → a ≡ b → j ≡ k → Names old a j new → Names old b k new
names_as old new a b j k e f h = subst (λ l. Names old l k new) e (subst (λ l. Names old a l new) f h)

-- the next number
pub names_number : (f : ℕ → FormalSum Place) (g : ℕ → Option FlatKind) (i : ℕ) (old mid new : Kinds)
    → Names old (map f (range_with_len 0 i)) (map g (range_with_len 0 i)) mid → Names mid (f i ∷ []) (g i ∷ []) new
    → Names old (map f (range_with_len 0 (i + 1))) (map g (range_with_len 0 (i + 1))) new
names_number f g i old mid new a b =
    names_as old new _ _ _ _ (sym (map_range f 0 i i (omega arith))) (sym (map_range g 0 i i (omega arith)))
    (names_both old mid new (map f (range_with_len 0 i)) (f i ∷ []) (map g (range_with_len 0 i)) (g i ∷ []) a b)

pub names_numbers : (f : ℕ → Sums) (g : ℕ → Kinds) (i : ℕ) (old mid new : Kinds)
    → Names old (flat_map f (range_with_len 0 i)) (flat_map g (range_with_len 0 i)) mid → Names mid (f i) (g i) new
    → Names old (flat_map f (range_with_len 0 (i + 1))) (flat_map g (range_with_len 0 (i + 1))) new
names_numbers f g i old mid new a b =
    names_as old new _ _ _ _ (sym (flat_range f 0 i i (omega arith))) (sym (flat_range g 0 i i (omega arith)))
    (names_both old mid new (flat_map f (range_with_len 0 i)) (f i) (flat_map g (range_with_len 0 i)) (g i) a b)

-- the next relator
pub names_relator : (f : List Letter → FormalSum Place) (g : ℕ → Option FlatKind) (rs : List (List Letter)) (i : ℕ) (r d : List Letter) (j : ℕ)
    (old mid new : Kinds) → i < length rs → r ≡ get_or rs i d → j ≡ i + 1 → Names old (map f (take i rs)) (map g (range_with_len 1 i)) mid
    → Names mid (f r ∷ []) (g j ∷ []) new → Names old (map f (take (i + 1) rs)) (map g (range_with_len 1 (i + 1))) new
names_relator f g rs i r d j old mid new lt e number a b =
    names_as old new _ _ _ _ (sym (map_item f rs i r d lt e)) (sym (map_range g 1 i j (omega (arith, number))))
    (names_both old mid new (map f (take i rs)) (f r ∷ []) (map g (range_with_len 1 i)) (g j ∷ []) a b)

pub names_relators : (f : List Letter → Sums) (g : ℕ → Kinds) (rs : List (List Letter)) (i : ℕ) (r d : List Letter) (j : ℕ)
    (old mid new : Kinds) → i < length rs → r ≡ get_or rs i d → j ≡ i + 1 → Names old (flat_map f (take i rs)) (flat_map g (range_with_len 1 i)) mid
    → Names mid (f r) (g j) new → Names old (flat_map f (take (i + 1) rs)) (flat_map g (range_with_len 1 (i + 1))) new
names_relators f g rs i r d j old mid new lt e number a b =
    names_as old new _ _ _ _ (sym (flat_item f rs i r d lt e)) (sym (flat_range g 1 i j (omega (arith, number))))
    (names_both old mid new (flat_map f (take i rs)) (f r) (flat_map g (range_with_len 1 i)) (g j) a b)

-- all of them
pub names_up_to : (f : ℕ → Sums) (g : ℕ → Kinds) (i n : ℕ) (old new : Kinds) → i ≤ n → n ≤ i → Names old (f i) (g i) new → Names old (f n) (g n) new
names_up_to f g i n old new le ge h = let e : i ≡ n = omega (arith, le, ge) in subst (λ (k : ℕ). Names old (f k) (g k) new) e h

pub names_list : (f : List (List Letter) → Sums) (g : ℕ → Kinds) (xs ys : List (List Letter)) (i : ℕ) (old new : Kinds) → xs ≡ ys → length xs ≤ i
    → i ≤ length xs
    → Names old (f (take i xs)) (g i) new → Names old (f ys) (g (length ys)) new
names_list f g xs ys i old new e le ge h =
    let n : i ≡ length ys = omega (arith, le, ge, ap length e) in
    names_as old new _ _ _ _ (ap f (take_all i xs le ∙ e)) (ap g n) h

-- ---- which candidates are zero

no_cons : (x : Term) (v : List Term) → x ∷ v ≡ [] → ⊥
no_cons x v e = cc

is_nil : (v : List Term) (b : Bool) → b ≡ (length v == 0) → IsTrue b → v ≡ []
is_nil [] b e t = refl
is_nil (x ∷ v) b e t = let z : length (x ∷ v) ≡ 0 = grind (arith, nat_tests) in absurd (omega (arith, z))

pub empty_is_zero : (f : FormalSum Place) (v : List Term) (b : Bool) → IsWritten f v → b ≡ (length v == 0) → IsTrue b ↔ IsZero f
empty_is_zero f v b is e = (
  λ t. let none : v ≡ [] = is_nil v b e t in λ x. sym (is.same x) ∙ ap (λ w. coefficient same_place (sum_of w) x) none,
  λ z. let none : v ≡ [] = same_vector v [] is.sparse (record { falling = tt; terms = tt }) (λ x. is.same x ∙ z x) in
      e ∙ ap (λ w. length w == 0) none,
)

pub one_is_zero : (m : List ℕ) (c : ℕ) → m ≡ one → IsZero (binomial m c)
one_is_zero m c e = subst (λ s. IsZero (binomial s c)) (sym e) (λ x. by (same_place (record { m = one; c = c }) x))
  where
    by : (b : Bool) → cond b (pos 1) (pos 0) +ℤ (cond b (negsuc 0) (pos 0) +ℤ pos 0) ≡ pos 0
    by true = omega (arith, ints)
    by false = omega (arith, ints)

pub zero_is_one : (m : List ℕ) (c : ℕ) → IsZero (binomial m c) → (m ≡ one → ⊥) → ⊥
zero_is_one m c z other =
    let apart : same_place (record { m = one; c = c }) (record { m = m; c = c }) ≡ false =
    eq-apart test (record { m = one; c = c }) (record { m = m; c = c }) (λ e. other (sym (ap (λ (x : Place). x.m) e))) in
    let here : coefficient same_place (binomial m c) (record { m = m; c = c }) ≡ pos 1 =
    rw (test.reflexive (record { m = m; c = c })) (rw apart (omega (arith, ints))) in
    let wrong : pos 1 ≡ pos 0 = sym here ∙ z (record { m = m; c = c }) in
    absurd (omega (arith, ints, wrong))

pub constant_is_some : (n c : ℕ) → 0 < n → IsZero (constant n c) → ⊥
constant_is_some n c some z =
    let here : coefficient same_place (constant n c) (record { m = one; c = c }) ≡ pos n =
    rw (test.reflexive (record { m = one; c = c })) (omega (arith, ints)) in
    let wrong : pos n ≡ pos 0 = sym here ∙ z (record { m = one; c = c }) in
    absurd (omega (arith, ints, wrong, some))

unit_degree : (g : ℕ) → g < GENERATORS → degree (unit_monomial g) ≡ 2
unit_degree g below =
    let first : IsMonomial (variable (2 * g)) = variable_is_monomial (2 * g) (omega (arith, below)) in
    let second : IsMonomial (variable (2 * g + 1)) = variable_is_monomial (2 * g + 1) (omega (arith, below)) in
    omega (
      arith,
      sum-product (variable (2 * g)) (variable (2 * g + 1)) (first.variables ∙ sym second.variables),
      degree-variable (2 * g) (omega (arith, below)),
      degree-variable (2 * g + 1) (omega (arith, below)),
    )

pub unit_is_some : (g c : ℕ) → g < GENERATORS → IsZero (binomial (unit_monomial g) c) → ⊥
unit_is_some g c below none_there = zero_is_one (unit_monomial g) c none_there (λ same.
    let two : degree (unit_monomial g) ≡ 2 = unit_degree g below in
    let none : degree (unit_monomial g) ≡ 0 = ap degree same in
    absurd (omega (arith, two, none)))

-- a binomial is zero where its monomial is 1
pub binomial_test : (m : List ℕ) (c : ℕ) (b : Bool) → (IsTrue b ↔ (m ≡ one)) → IsTrue b ↔ IsZero (binomial m c)
binomial_test m c b is = ((λ t. one_is_zero m c (is.0 t)), (λ z. by b refl z))
  where
    by : (r : Bool) → b ≡ r → IsZero (binomial m c) → IsTrue b
    by true e z = e
    by false e z = absurd (zero_is_one m c z (λ same. let wrong : true ≡ false = sym (is.1 same) ∙ e in cc))

-- lists that are the same
pub binomials_as : (m m' : List ℕ) (n n' : ℕ) (g : ℕ → Option FlatKind) (mid new : Kinds) → m ≡ m' → n ≡ n'
    → Names mid (map (binomial m) (range_with_len 0 n)) (map g (range_with_len 0 n)) new
    → Names mid (map (binomial m') (range_with_len 0 n')) (map g (range_with_len 0 n')) new
binomials_as m m' n n' g mid new e k h =
    subst (λ (x : List ℕ). Names mid (map (binomial x) (range_with_len 0 n')) (map g (range_with_len 0 n')) new) e
    (subst (λ (x : ℕ). Names mid (map (binomial m) (range_with_len 0 x)) (map g (range_with_len 0 x)) new) k h)
