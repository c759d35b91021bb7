-- Free reduction: leaving out pairs leads to one reduced word.
use Rattle.std.proofs.Common.{◌≡◌, ◌≤◌, Bool, true, false, cond, List, [], ◌∷◌, ◌++◌, length, refl, sym, ◌∙◌, ap, subst, arith, rules, append_assoc}
use Rattle.std.proofs.Common.{length-append}
use Rattle.std.specs.Bool.{Decides}
use Rattle.free_words.specs.declared.letter.Letter.{Letter}
use Rattle.free_words.specs.contracts.letter.LetterPartialEq.TheImpl.{eq-value}
use Rattle.free_words.specs.Words.{flipped, inverse, IsReduced, Cancels}
use Rattle.free_words.proofs.WordLemmas.{flipped-flipped, inverse-cons}

-- whether two letters are equal
abbrev pub same : Letter → Letter → Bool
same a b = eq-value.it a b

-- the test of two letters says whether they are equal
pub letter_decides : (a b : Letter) → Decides (same a b) (a ≡ b)
letter_decides a b = search rules

-- a letter put before a word, where it goes with its inverse
abbrev pub glued : Letter → List Letter → List Letter
glued x [] = x ∷ []
glued x (y ∷ w) = cond (same (flipped x) y) w (x ∷ y ∷ w)

-- the letters of a word put one before another, from the last on
abbrev pub normal : List Letter → List Letter
normal [] = []
normal (x ∷ w) = glued x (normal w)

same-refl : (a : Letter) → same a a ≡ true
same-refl a = (letter_decides a a).1 refl

same-differs : (a b : Letter) → (a ≡ b → ⊥) → same a b ≡ false
same-differs a b n = by (same a b) refl
  where
    by : (r : Bool) → same a b ≡ r → same a b ≡ false
    by true e = absurd (n ((letter_decides a b).0 e))
    by false e = e

-- a reduced word without its first letter
IsReduced-tail : (x : Letter) (w : List Letter) → IsReduced (x ∷ w) → IsReduced w
IsReduced-tail x [] r = tt
IsReduced-tail x (y ∷ w) r = r.1

-- a letter put before a reduced word
IsReduced-glued : (x : Letter) (w : List Letter) → IsReduced w → IsReduced (glued x w)
IsReduced-glued x [] r = tt
IsReduced-glued x (y ∷ w) r = by (same (flipped x) y) refl
  where
    by : (b : Bool) → same (flipped x) y ≡ b → IsReduced (cond b w (x ∷ y ∷ w))
    by true e = IsReduced-tail y w r
    by false e = ((λ p. cc ((letter_decides (flipped x) y).1 p)), r)

-- what a pass leaves is reduced
pub IsReduced-normal : (w : List Letter) → IsReduced (normal w)
IsReduced-normal [] = tt
IsReduced-normal (x ∷ w) = IsReduced-glued x (normal w) (IsReduced-normal w)

-- a letter before a reduced word that doesn't begin with its inverse stays
glued-free : (x : Letter) (w : List Letter) → IsReduced (x ∷ w) → glued x w ≡ x ∷ w
glued-free x [] r = refl
glued-free x (y ∷ w) r = rw (same-differs (flipped x) y r.0)

-- a letter and its inverse put before a reduced word leave it
glued-flipped : (x : Letter) (w : List Letter) → IsReduced w → glued x (glued (flipped x) w) ≡ w
glued-flipped x [] r = rw (same-refl (flipped x))
glued-flipped x (y ∷ w) r = by (same (flipped (flipped x)) y) refl
  where
    by : (b : Bool) → same (flipped (flipped x)) y ≡ b → glued x (cond b w (flipped x ∷ y ∷ w)) ≡ y ∷ w
    by true e =
        let here : x ≡ y = sym (flipped-flipped x) ∙ (letter_decides (flipped (flipped x)) y).0 e in
        subst (λ z. glued z w ≡ y ∷ w) (sym here) (glued-free y w r)
    by false e = rw (same-refl (flipped x))

-- leaving out one pair
normal-pair : (u v : List Letter) (x : Letter) → normal (u ++ x ∷ flipped x ∷ v) ≡ normal (u ++ v)
normal-pair [] v x = glued-flipped x (normal v) (IsReduced-normal v)
normal-pair (y ∷ u) v x = ap (glued y) (normal-pair u v x)

-- leaving out pairs does not change what a pass leaves
pub normal-Cancels : (w v : List Letter) → Cancels w v → normal w ≡ normal v
normal-Cancels w v (Cancels.none _) = refl
normal-Cancels _ _ (Cancels.pair u v w x h) = normal-pair u v x ∙ normal-Cancels (u ++ v) w h

-- a pass leaves a reduced word as it is
pub normal-reduced : (w : List Letter) → IsReduced w → normal w ≡ w
normal-reduced [] r = refl
normal-reduced (x ∷ w) r = ap (glued x) (normal-reduced w (IsReduced-tail x w r)) ∙ glued-free x w r

-- two reduced words that come from one word are equal
pub reduced-unique : (w u v : List Letter) → Cancels w u → Cancels w v → IsReduced u → IsReduced v → u ≡ v
reduced-unique w u v to_u to_v free_u free_v =
    sym (normal-reduced u free_u) ∙ sym (normal-Cancels w u to_u) ∙ normal-Cancels w v to_v ∙ normal-reduced v free_v

-- ---- leaving out pairs

-- leaving out pairs makes no word longer
pub length-Cancels : (w v : List Letter) → Cancels w v → length v ≤ length w
length-Cancels w v (Cancels.none _) = omega arith
length-Cancels _ _ (Cancels.pair u v w x h) =
    omega (arith, length-append u (x ∷ flipped x ∷ v), length-append u v, length-Cancels (u ++ v) w h)

-- leaving out pairs, and then further pairs
pub Cancels-trans : (u v w : List Letter) → Cancels u v → Cancels v w → Cancels u w
Cancels-trans u v w (Cancels.none _) k = k
Cancels-trans _ _ w (Cancels.pair a b v x h) k = Cancels.pair a b w x (Cancels-trans (a ++ b) v w h k)

-- pairs may be left out behind a word
pub Cancels-after : (a u v : List Letter) → Cancels u v → Cancels (a ++ u) (a ++ v)
Cancels-after a u v (Cancels.none _) = Cancels.none (a ++ u)
Cancels-after a _ _ (Cancels.pair u v w x h) =
    rw (← append_assoc a u (x ∷ flipped x ∷ v)) (Cancels.pair (a ++ u) v (a ++ w) x (rw (append_assoc a u v) (Cancels-after a (u ++ v) w h)))

-- pairs may be left out before a word
pub Cancels-before : (b u v : List Letter) → Cancels u v → Cancels (u ++ b) (v ++ b)
Cancels-before b u v (Cancels.none _) = Cancels.none (u ++ b)
Cancels-before b _ _ (Cancels.pair u v w x h) =
    rw (append_assoc u (x ∷ flipped x ∷ v) b) (Cancels.pair u (v ++ b) (w ++ b) x (rw (← append_assoc u v b) (Cancels-before b (u ++ v) w h)))

-- a word and its inverse cancel
pub Cancels-inverse : (w : List Letter) → Cancels (w ++ inverse w) []
Cancels-inverse [] = Cancels.none []
Cancels-inverse (x ∷ w) =
    rw (inverse-cons x w, ← append_assoc w (inverse w) (flipped x ∷ []))
    (Cancels-trans _ (x ∷ flipped x ∷ []) [] (Cancels-after (x ∷ []) _ _ (Cancels-before (flipped x ∷ []) _ _ (Cancels-inverse w)))
    (Cancels.pair [] [] [] x (Cancels.none [])))

-- what a pass leaves comes from the word by leaving out pairs
Cancels-glued : (x : Letter) (w : List Letter) → Cancels (x ∷ w) (glued x w)
Cancels-glued x [] = Cancels.none (x ∷ [])
Cancels-glued x (y ∷ w) = by (same (flipped x) y) refl
  where
    by : (b : Bool) → same (flipped x) y ≡ b → Cancels (x ∷ y ∷ w) (cond b w (x ∷ y ∷ w))
    by true e =
        subst (λ (z : Letter). Cancels (x ∷ z ∷ w) w) ((letter_decides (flipped x) y).0 e) (Cancels.pair [] w w x (Cancels.none w))
    by false e = Cancels.none (x ∷ y ∷ w)

pub Cancels-normal : (w : List Letter) → Cancels w (normal w)
Cancels-normal [] = Cancels.none []
Cancels-normal (x ∷ w) =
    Cancels-trans (x ∷ w) (x ∷ normal w) (glued x (normal w)) (Cancels-after (x ∷ []) w (normal w) (Cancels-normal w)) (Cancels-glued x (normal w))

-- each word has a reduced form
pub reduced_form : (w : List Letter) → (v : List Letter) × Cancels w v × IsReduced v
reduced_form w = (normal w, Cancels-normal w, IsReduced-normal w)

-- what the laws of reduction stand on
pub ruleset reductions = (reduced-unique, Cancels-inverse)
