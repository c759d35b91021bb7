-- The texts of vectors, read term by term.
use Rattle.std.proofs.Common.{◌≡◌, ◌≢◌, ◌⊎◌, inl, inr, ℕ, zero, suc, ℤ, pos, negsuc, map, sym, append_assoc, ◌-◌, ◌<◌, List, [], ◌∷◌, ◌++◌, length, slice_get}
use Rattle.std.proofs.Common.{MatchOption, Option, Some, None, refl, ap, subst, ◌∙◌, arith, length-append}
use Rattle.std.specs.List.{AllByRecursion}
use Rattle.spelling.specs.Spelling.{IsRead, first_part, coefficient}
use Rattle.presentation.specs.Writing.{led_by}
use Rattle.presentation.proofs.WritingBack.{AreNames}
use Rattle.module_vec.specs.declared.places.Term.{Term}
use Rattle.module_vec.specs.Places.{IsBelow}
use Rattle.module_vec.specs.Vectors.{IsTerm, IsVector}
use Rattle.module_vec.proofs.Order.{order}
use Rattle.module_vec.proofs.FallingTerms.{Above, Falls, falls_insert, all_join}
use Rattle.vector_text.specs.Spelling.{place_text, term_text, vector_text, terms_text}
use Rattle.vector_text.specs.Over.{PlaceIsOver, VectorIsOver, IsVectorOf, IsTermOf, IsSumOf, MayFollow}
use Rattle.vector_text.proofs.Parts.{Leaves, goes_on, unread, read_next, listed_same}
use Rattle.vector_text.proofs.TermTexts.{terms_apart}

-- a vector on its way: its terms so far, and what is left of the text
pub record Going (names : List (List ℕ)) (text : List ℕ) (terms : List Term) (left : Option (List ℕ)) : Type 0 where
  pub leaves : Leaves 32 (term_text names) text terms left
  pub vector : IsVector terms
  pub over : VectorIsOver (length names) terms

pub begins : (names : List (List ℕ)) (text : List ℕ) → Going names text [] (Some text)
begins names text = record { leaves = refl; vector = record { sparse = record { falling = tt; terms = tt }; most = omega arith }; over = tt }

-- something is left
pub still : (names : List (List ℕ)) (text : List ℕ) (terms : List Term) (left : Option (List ℕ)) (rest : List ℕ) → left ≡ Some rest
    → Going names text terms left → Going names text terms (Some rest)
still names text terms left rest e h = let P : Option (List ℕ) → Type 0 = Going names text terms in subst P e h

together : (n : ℕ) (v : List Term) → AllByRecursion IsTerm v → VectorIsOver n v → AllByRecursion (IsTermOf n) v
together n [] h k = tt
together n (t ∷ v) h k = (record { term = h.0; over = k.0 }, together n v h.1 k.1)

all_terms : (n : ℕ) (v : List Term) → IsVectorOf n v → AllByRecursion (IsTermOf n) v
all_terms n v h = together n v h.vector.sparse.terms h.over

all_made : (names : List (List ℕ)) (text : List ℕ) (terms : List Term) (left : Option (List ℕ)) → Going names text terms left
    → AllByRecursion (IsTermOf (length names)) terms
all_made names text terms left h = together (length names) terms h.vector.sparse.terms h.over

-- no vector's text goes on with this part
pub no_term : (names : List (List ℕ)) → AreNames names → (text rest front : List ℕ) (after : Option (List ℕ)) (terms : List Term)
    → Going names text terms (Some rest)
    → first_part 32 rest ≡ (front, after) → IsRead (term_text names) (IsTermOf (length names)) front None
    → (v : List Term) → IsSumOf (length names) v → text ≡ terms_text names v → ⊥
no_term names known text rest front after terms h e bad = λ v k is.
    unread 32 (term_text names) (IsTermOf (length names)) (terms_apart names known) text rest front after terms v
    h.leaves e (all_made names text terms (Some rest) h) bad (all_terms (length names) v k.vector) k.some is

-- a term that stands behind others in a vector may follow them
last_below : (v : List Term) (u : Term) (t : Term) (more : List Term) → Falls (u ∷ v ++ t ∷ more)
    → MatchOption (slice_get (u ∷ v) (length v)) (Unit {0}) (λ last. IsBelow t.at last.at)
last_below [] u t more f = f.0.0
last_below (w ∷ v) u t more f = last_below v w t more f.1

follows : (v : List Term) (t : Term) (more : List Term) → IsVector (v ++ t ∷ more) → MayFollow v t
follows v t more h = record { room = omega (arith, h.most, length-append v (t ∷ more)); below = by v h.sparse.falling } where
  by : (v : List Term) → Falls (v ++ t ∷ more) → MatchOption (slice_get v (length v - 1)) (Unit {0}) (λ last. IsBelow t.at last.at)
  by [] f = tt
  by (u ∷ w) f = let same : length (u ∷ w) - 1 ≡ length w = omega arith in rw same (last_below w u t more f)

pub not_falling : (names : List (List ℕ)) → AreNames names → (text rest front : List ℕ) (after : Option (List ℕ)) (terms : List Term) (t : Term)
    → Going names text terms (Some rest)
    → first_part 32 rest ≡ (front, after) → IsRead (term_text names) (IsTermOf (length names)) front (Some t) → (MayFollow terms t → ⊥)
    → (v : List Term) → IsSumOf (length names) v → text ≡ terms_text names v → ⊥
not_falling names known text rest front after terms t h e good bad = λ v k is.
    let n = read_next 32 (term_text names) (IsTermOf (length names)) (terms_apart names known) text rest front after terms v t
    h.leaves e (all_made names text terms (Some rest) h) good (all_terms (length names) v k.vector) k.some is in
    let P : List Term → Type 0 = IsVector in
    bad (follows terms t n.0 (subst P n.1 k.vector.vector))

above_all : (v : List Term) (u : Term) (t : Term) → Falls (u ∷ v) → MatchOption (slice_get (u ∷ v) (length v)) (Unit {0}) (λ last. IsBelow t.at last.at)
    → Above t.at (u ∷ v)
above_all [] u t f h = (h, tt)
above_all (w ∷ v) u t f h =
    let rest = above_all v w t f.1 h in (order.transitive t.at w.at u.at rest.0 f.0.0, rest)

above : (v : List Term) (t : Term) → Falls v → MatchOption (slice_get v (length v - 1)) (Unit {0}) (λ last. IsBelow t.at last.at) → Above t.at v
above [] t f h = tt
above (u ∷ v) t f h = let same : length (u ∷ v) - 1 ≡ length v = omega arith in above_all v u t f (rw same at h)

append_none : (v : List Term) → v ++ [] ≡ v
append_none [] = refl
append_none (u ∷ v) = ap (λ (w : List Term). u ∷ w) (append_none v)

longer : (v : List Term) (t : Term) → IsVector v → IsTerm t → MayFollow v t → IsVector (v ++ t ∷ [])
longer v t h k m = record {
  sparse = record {
    falling = falls_insert v t [] (rw (append_none v) h.sparse.falling) (above v t h.sparse.falling m.below) tt;
    terms = all_join IsTerm v (t ∷ []) h.sparse.terms (k, tt);
  };
  most = omega (arith, m.room, length-append v (t ∷ []));
}

-- one more term
pub going_on : (names : List (List ℕ)) (text rest front : List ℕ) (after : Option (List ℕ)) (terms : List Term) (t : Term) → Going names text terms (Some rest)
    → first_part 32 rest ≡ (front, after) → IsRead (term_text names) (IsTermOf (length names)) front (Some t) → MayFollow terms t
    → Going names text (terms ++ t ∷ []) after
going_on names text rest front after terms t h e good m = record {
  leaves = goes_on 32 (term_text names) text rest front after terms t h.leaves e good.1;
  vector = longer terms t h.vector good.0.term m;
  over = all_join (λ (u : Term). PlaceIsOver (length names) u.at) terms (t ∷ []) h.over (good.0.over, tt);
}

-- the whole text is read
pub whole_read : (names : List (List ℕ)) (text : List ℕ) (terms : List Term) → Going names text terms None
    → IsSumOf (length names) terms × (text ≡ terms_text names terms)
whole_read names text terms h = (record { vector = record { vector = h.vector; over = h.over }; some = h.leaves.0 }, h.leaves.1)

-- a vector with a term, and the one without
pub sum_is : (names : List (List ℕ)) (v : List Term) → 0 < length v → vector_text names v ≡ terms_text names v
sum_is names [] some = absurd (omega arith)
sum_is names (t ∷ v) some = refl

none_is : (names : List (List ℕ)) (v : List Term) → length v ≡ 0 → vector_text names v ≡ 48 ∷ []
none_is names [] e = refl
none_is names (t ∷ v) e = absurd (omega (arith, e))

some_or_none : (n : ℕ) → (n ≡ 0) ⊎ (0 < n)
some_or_none zero = inl refl
some_or_none (suc n) = inr (omega arith)

pub sum_none : (names : List (List ℕ)) (text : List ℕ) → text ≢ 48 ∷ [] → ((v : List Term) → IsSumOf (length names) v → text ≡ terms_text names v → ⊥)
    → (v : List Term) → IsVectorOf (length names) v → text ≡ vector_text names v → ⊥
sum_none names text other bad v h e = by (some_or_none (length v)) where
  by : (length v ≡ 0) ⊎ (0 < length v) → ⊥
  by (inl none) = other (e ∙ none_is names v none)
  by (inr some) = bad v (record { vector = h; some = some }) (e ∙ sum_is names v some)

head_same : {a b : ℕ} {s t : List ℕ} → a ∷ s ≡ b ∷ t → a ≡ b
head_same e = cc

-- a coefficient doesn't begin with `0`
not_zero : (z : ℤ) (more : List ℕ) → 48 ∷ [] ≡ coefficient z ++ more → ⊥
not_zero (pos n) more e = omega (arith, head_same e)
not_zero (negsuc n) more e = omega (arith, head_same e)

-- a text is that of one vector
pub vector_same : (names : List (List ℕ)) → AreNames names → (v w : List Term) → IsVectorOf (length names) v → IsVectorOf (length names) w
    → vector_text names v ≡ vector_text names w → v ≡ w
vector_same names known [] [] h k e = refl
vector_same names known [] (u ∷ w) h k e = absurd (not_zero u.k (42 ∷ place_text names u.at ++ led_by (32 ∷ []) (map (term_text names) w)) (e
    ∙ append_assoc (coefficient u.k) (42 ∷ place_text names u.at) (led_by (32 ∷ []) (map (term_text names) w))))
vector_same names known (t ∷ v) [] h k e = absurd (not_zero t.k (42 ∷ place_text names t.at ++ led_by (32 ∷ []) (map (term_text names) v)) (sym e
    ∙ append_assoc (coefficient t.k) (42 ∷ place_text names t.at) (led_by (32 ∷ []) (map (term_text names) v))))
vector_same names known (t ∷ v) (u ∷ w) h k e =
    listed_same 32 (term_text names) (IsTermOf (length names)) (terms_apart names known) (t ∷ v) (u ∷ w) (all_terms (length names) (t ∷ v) h)
    (all_terms (length names) (u ∷ w) k) (ap Some e)
