-- Lists of sums, written as vectors, that grow at the end.
use Rattle.std.proofs.Common.{◌≡◌, ◌≢◌, ℕ, zero, suc, ◌+◌, ◌<◌, ◌≤◌, ◌==◌, Bool, true, false, List, [], ◌∷◌, ◌++◌, length, take, map, get_or, sym, ap, subst}
use Rattle.std.proofs.Common.{◌∙◌, append_assoc, arith}
use Rattle.std.specs.List.{range_with_len, flat_map}
use Rattle.std.proofs.lemmas.List.{take_all, take_more, map-append, append-nil}
use Rattle.std.proofs.lemmas.Bool.Decides.{nat_tests}
use Rattle.std.proofs.lemmas.Grind.{flat_map-append}
use Rattle.std.proofs.lemmas.List.FromFn.{map-range_with_len_more}
use Rattle.formal_sums.specs.FormalSum.{FormalSum}
use Rattle.module_vec.specs.declared.places.Place.{Place}
use Rattle.module_vec.specs.declared.places.Term.{Term}
use Rattle.fox_calculus.specs.Generators.{IsWritten, AreWritten, binomial}

-- one more, which isn't zero
pub written_more : (fs : List (FormalSum Place)) (gs : List (List Term)) (f : FormalSum Place) (g : List Term) → g ≢ [] → IsWritten f g → AreWritten fs gs
    → AreWritten (fs ++ f ∷ []) (gs ++ g ∷ [])
written_more _ _ f g n w AreWritten.nothing = AreWritten.written f g [] [] n w AreWritten.nothing
written_more _ _ f g n w (AreWritten.left_out e fs gs z h) = AreWritten.left_out e (fs ++ f ∷ []) (gs ++ g ∷ []) z (written_more fs gs f g n w h)
written_more _ _ f g n w (AreWritten.written e v fs gs m x h) = AreWritten.written e v (fs ++ f ∷ []) (gs ++ g ∷ []) m x (written_more fs gs f g n w h)

-- one more, which is zero
pub zero_more : (fs : List (FormalSum Place)) (gs : List (List Term)) (f : FormalSum Place) → IsWritten f [] → AreWritten fs gs → AreWritten (fs ++ f ∷ []) gs
zero_more _ _ f w AreWritten.nothing = AreWritten.left_out f [] [] (λ k. sym (w.same k)) AreWritten.nothing
zero_more _ _ f w (AreWritten.left_out e fs gs z h) = AreWritten.left_out e (fs ++ f ∷ []) gs z (zero_more fs gs f w h)
zero_more _ _ f w (AreWritten.written e v fs gs m x h) = AreWritten.written e v (fs ++ f ∷ []) gs m x (zero_more fs gs f w h)

-- `all` stands behind whatever is written already
abbrev pub Puts : List (List Term) → List (FormalSum Place) → List (List Term) → Type 0
Puts old all new = (fs : List (FormalSum Place)) → AreWritten fs old → AreWritten (fs ++ all) new

pub puts_none : (old : List (List Term)) → Puts old [] old
puts_none old fs h = subst (λ (l : List (FormalSum Place)). AreWritten l old) (sym (append-nil fs)) h

pub puts_both : (old mid new : List (List Term)) (a b : List (FormalSum Place)) → Puts old a mid → Puts mid b new → Puts old (a ++ b) new
puts_both old mid new a b f g fs h = subst (λ (l : List (FormalSum Place)). AreWritten l new) (append_assoc fs a b) (g (fs ++ a) (f fs h))

-- one more of a list of words
pub puts_next : {X : Type 0} (f : X → FormalSum Place) (xs : List X) (i : ℕ) (d : X) (old mid new : List (List Term)) → i < length xs
    → Puts old (map f (take i xs)) mid → Puts mid (f (get_or xs i d) ∷ []) new → Puts old (map f (take (i + 1) xs)) new
puts_next f xs i d old mid new lt a b =
    subst (λ (l : List (FormalSum Place)). Puts old l new) (sym (ap (map f) (take_more xs i d lt) ∙ map-append f (take i xs) (get_or xs i d ∷ [])))
    (puts_both old mid new (map f (take i xs)) (f (get_or xs i d) ∷ []) a b)

-- one more list of them
pub puts_lists : {X : Type 0} (f : X → List (FormalSum Place)) (xs : List X) (i : ℕ) (d : X) (old mid new : List (List Term)) → i < length xs
    → Puts old (flat_map f (take i xs)) mid → Puts mid (f (get_or xs i d)) new → Puts old (flat_map f (take (i + 1) xs)) new
puts_lists f xs i d old mid new lt a b =
    subst (λ (l : List (FormalSum Place)). Puts old l new)
    (sym (ap (flat_map f) (take_more xs i d lt) ∙ (flat_map-append f (take i xs) (get_or xs i d ∷ [])
    ∙ ap (λ (l : List (FormalSum Place)). flat_map f (take i xs) ++ l) (append-nil (f (get_or xs i d))))))
    (puts_both old mid new (flat_map f (take i xs)) (f (get_or xs i d)) a b)

-- the same with the numbers from 0 on
pub puts_number : (f : ℕ → FormalSum Place) (i : ℕ) (old mid new : List (List Term))
    → Puts old (map f (range_with_len 0 i)) mid → Puts mid (f i ∷ []) new → Puts old (map f (range_with_len 0 (i + 1))) new
puts_number f i old mid new a b =
    subst (λ (l : List (FormalSum Place)). Puts old l new) (sym (map-range_with_len_more f 0 i i (omega arith)))
    (puts_both old mid new (map f (range_with_len 0 i)) (f i ∷ []) a b)

no_cons : (x : Term) (v : List Term) → x ∷ v ≡ [] → ⊥
no_cons x v e = cc

-- what `put` does
pub put_zero : (old : List (List Term)) (v now : List Term) → now ≡ v → (b : Bool) → b ≡ (length now == 0) → b ≡ true
    → (fs : List (FormalSum Place)) (f : FormalSum Place) → IsWritten f v → AreWritten fs old → AreWritten (fs ++ f ∷ []) old
put_zero old v [] is b e t fs f w h = zero_more fs old f (subst (IsWritten f) (sym is) w) h
put_zero old v (x ∷ now) is b e t fs f w h = let z : length (x ∷ now) ≡ 0 = grind (arith, nat_tests) in absurd (omega (arith, z))

pub put_one : (old new : List (List Term)) (v now : List Term) → now ≡ v → (b : Bool) → b ≡ (length now == 0) → b ≡ false → new ≡ old ++ v ∷ []
    → (fs : List (FormalSum Place)) (f : FormalSum Place) → IsWritten f v → AreWritten fs old → AreWritten (fs ++ f ∷ []) new
put_one old new v [] is b e t pushed fs f w h = let z : true ≡ false = sym e ∙ t in cc
put_one old new v (x ∷ now) is b e t pushed fs f w h =
    let some : v ≢ [] = λ z. no_cons x now (is ∙ z) in
    subst (AreWritten (fs ++ f ∷ [])) (sym pushed) (written_more fs old f v some w h)

-- lists that are the same
pub binomials_as : (m m' : List ℕ) (n n' : ℕ) (mid new : List (List Term)) → m ≡ m' → n ≡ n'
    → Puts mid (map (binomial m) (range_with_len 0 n)) new → Puts mid (map (binomial m') (range_with_len 0 n')) new
binomials_as m m' n n' mid new e k h =
    subst (λ (x : List ℕ). Puts mid (map (binomial x) (range_with_len 0 n')) new) e
    (subst (λ (x : ℕ). Puts mid (map (binomial m) (range_with_len 0 x)) new) k h)

-- all of them have been put
pub puts_all : {X : Type 0} (f : List X → List (FormalSum Place)) (xs ys : List X) (i : ℕ) (old new : List (List Term)) → xs ≡ ys → length xs ≤ i
    → Puts old (f (take i xs)) new → Puts old (f ys) new
puts_all {X} f xs ys i old new e le h = subst (λ (l : List X). Puts old (f l) new) (take_all i xs le ∙ e) h

pub puts_up_to : (f : ℕ → List (FormalSum Place)) (i n : ℕ) (old new : List (List Term)) → i ≤ n → n ≤ i → Puts old (f i) new → Puts old (f n) new
puts_up_to f i n old new le ge h = let e : i ≡ n = omega (arith, le, ge) in subst (λ (k : ℕ). Puts old (f k) new) e h

range_more : (a n j : ℕ) → a + n ≡ j → range_with_len a (suc n) ≡ range_with_len a n ++ j ∷ []
range_more a zero j e = let is : a ≡ j = omega (arith, e) in ap (λ (x : ℕ). x ∷ []) is
range_more a (suc n) j e = ap (λ (l : List ℕ). a ∷ l) (range_more (a + 1) n j (omega (arith, e)))

next_range : (i : ℕ) → range_with_len 0 (i + 1) ≡ range_with_len 0 i ++ i ∷ []
next_range i = let one : i + 1 ≡ suc i = omega arith in ap (range_with_len 0) one ∙ range_more 0 i i (omega arith)

pub lists_number : (f : ℕ → List (FormalSum Place)) (i : ℕ) (old mid new : List (List Term))
    → Puts old (flat_map f (range_with_len 0 i)) mid → Puts mid (f i) new → Puts old (flat_map f (range_with_len 0 (i + 1))) new
lists_number f i old mid new a b =
    let more : range_with_len 0 (i + 1) ≡ range_with_len 0 i ++ i ∷ [] = next_range i in
    subst (λ (l : List (FormalSum Place)). Puts old l new)
    (sym (ap (flat_map f) more ∙ (flat_map-append f (range_with_len 0 i) (i ∷ [])
    ∙ ap (λ (l : List (FormalSum Place)). flat_map f (range_with_len 0 i) ++ l) (append-nil (f i)))))
    (puts_both old mid new (flat_map f (range_with_len 0 i)) (f i) a b)

-- the four kinds, one after another
pub puts_kinds : (v0 v1 v2 v3 v4 : List (List Term)) (a b c d : List (FormalSum Place)) → v0 ≡ [] → Puts v0 a v1 → Puts v1 b v2 → Puts v2 c v3 → Puts v3 d v4
    → AreWritten (a ++ (b ++ (c ++ d))) v4
puts_kinds v0 v1 v2 v3 v4 a b c d none f g h k =
    puts_both v0 v1 v4 a (b ++ (c ++ d)) f (puts_both v1 v2 v4 b (c ++ d) g (puts_both v2 v3 v4 c d h k)) []
    (subst (AreWritten []) (sym none) AreWritten.nothing)

-- the item that stands at a place
pub puts_item : {X : Type 0} (f : X → FormalSum Place) (xs : List X) (i : ℕ) (x d : X) (old mid new : List (List Term)) → i < length xs → x ≡ get_or xs i d
    → Puts old (map f (take i xs)) mid → Puts mid (f x ∷ []) new → Puts old (map f (take (i + 1) xs)) new
puts_item f xs i x d old mid new lt e a b = puts_next f xs i d old mid new lt a (subst (λ y. Puts mid (f y ∷ []) new) e b)

pub puts_list_item : {X : Type 0} (f : X → List (FormalSum Place)) (xs : List X) (i : ℕ) (x d : X) (old mid new : List (List Term)) → i < length xs
    → x ≡ get_or xs i d
    → Puts old (flat_map f (take i xs)) mid → Puts mid (f x) new → Puts old (flat_map f (take (i + 1) xs)) new
puts_list_item f xs i x d old mid new lt e a b = puts_lists f xs i d old mid new lt a (subst (λ y. Puts mid (f y) new) e b)
