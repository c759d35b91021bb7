-- Words over so many generators.
use Rattle.std.proofs.Common.{◌≡◌, ℕ, zero, suc, ◌<◌, ◌≤◌, ◌++◌, Bool, true, false, List, [], ◌∷◌, length, slice_get, slice_index_or, Some, Contains, ℤ, pos}
use Rattle.std.proofs.Common.{negsuc, if◌then◌else◌, sym, subst, arith}
use Rattle.std.specs.List.{AllByRecursion}
use Rattle.std.proofs.lemmas.List.Elements.{All-from_recursion, recursion_from_All, All-contains, Contains-get_or}
use Rattle.free_words.specs.declared.letter.Letter.{Letter}
use Rattle.free_words.specs.Words.{IsOver, flipped, inverse, copies, power, commutator, Cancels, letter_image, word_image}
use Rattle.free_words.proofs.WordLemmas.{inverse-cons, power-pos}

-- ---- the letters one by one

-- each letter of a word over n generators is one of them or its inverse
pub IsOver-Contains : (n : ℕ) (w : List Letter) (l : Letter) → IsOver n w → Contains w l → l.g < n
IsOver-Contains n w l over here = All-contains (λ (x : Letter). x.g < n) w l (All-from_recursion _ w over) here

-- the letter at a place of the word
pub IsOver-get_or : (n : ℕ) (w : List Letter) (i : ℕ) (d : Letter) → IsOver n w → i < length w → (slice_index_or w i d).g < n
IsOver-get_or n w i d over here = All-from_recursion (λ (x : Letter). x.g < n) w over i d here

-- the letter that is read at a place
pub IsOver-get : (n : ℕ) (w : List Letter) (i : ℕ) (l : Letter) → IsOver n w → slice_get w i ≡ Some l → l.g < n
IsOver-get n [] i l over here = absurd (cc)
IsOver-get n (x ∷ w) zero l over here = let e : x ≡ l = cc in subst (λ (y : Letter). y.g < n) e over.0
IsOver-get n (x ∷ w) (suc i) l over here = IsOver-get n w i l over.1 here

-- a word whose letters are all below n
pub IsOver-from_Contains : (n : ℕ) (w : List Letter) → ((l : Letter) → Contains w l → l.g < n) → IsOver n w
IsOver-from_Contains n w each = recursion_from_All (λ (x : Letter). x.g < n) w (λ k d here. each (slice_index_or w k d) (Contains-get_or w k d here))

-- more generators
pub IsOver-more : (m n : ℕ) (w : List Letter) → m ≤ n → IsOver m w → IsOver n w
IsOver-more m n [] le over = tt
IsOver-more m n (x ∷ w) le over = (omega (arith, over.0), IsOver-more m n w le over.1)

-- ---- words made of words

-- a product
pub IsOver-append : (n : ℕ) (u v : List Letter) → IsOver n u → IsOver n v → IsOver n (u ++ v)
IsOver-append n [] v a b = b
IsOver-append n (x ∷ u) v a b = (a.0, IsOver-append n u v a.1 b)

-- the two parts of a word
pub IsOver-parts : (n : ℕ) (u v : List Letter) → IsOver n (u ++ v) → IsOver n u × IsOver n v
IsOver-parts n [] v a = (tt, a)
IsOver-parts n (x ∷ u) v a = let r = IsOver-parts n u v a.1 in ((a.0, r.0), r.1)

-- an inverse
pub IsOver-inverse : (n : ℕ) (w : List Letter) → IsOver n w → IsOver n (inverse w)
IsOver-inverse n [] a = tt
IsOver-inverse n (x ∷ w) a =
    subst (IsOver n) (sym (inverse-cons x w)) (IsOver-append n (inverse w) (flipped x ∷ []) (IsOver-inverse n w a.1) (a.0, tt))

-- copies of a word
pub IsOver-copies : (n k : ℕ) (w : List Letter) → IsOver n w → IsOver n (copies k w)
IsOver-copies n zero w a = tt
IsOver-copies n (suc k) w a = IsOver-append n (copies k w) w (IsOver-copies n k w a) a

-- a power
pub IsOver-power : (n : ℕ) (w : List Letter) (k : ℤ) → IsOver n w → IsOver n (power w k)
IsOver-power n w (pos k) a = subst (IsOver n) (sym (power-pos w k)) (IsOver-copies n k w a)
IsOver-power n w (negsuc k) a = IsOver-copies n (suc k) (inverse w) (IsOver-inverse n w a)

-- a commutator
pub IsOver-commutator : (n : ℕ) (u v : List Letter) → IsOver n u → IsOver n v → IsOver n (commutator u v)
IsOver-commutator n u v a b =
    IsOver-append n _ (inverse v) (IsOver-append n _ (inverse u) (IsOver-append n u v a b) (IsOver-inverse n u a)) (IsOver-inverse n v b)

-- a word with pairs left out
pub IsOver-Cancels : (n : ℕ) (w v : List Letter) → Cancels w v → IsOver n w → IsOver n v
IsOver-Cancels n w v (Cancels.none _) a = a
IsOver-Cancels n _ _ (Cancels.pair u v w x h) a =
    let parts = IsOver-parts n u (x ∷ flipped x ∷ v) a in
    IsOver-Cancels n (u ++ v) w h (IsOver-append n u v parts.0 parts.1.1.1)

-- ---- images, where the word for each generator is over n

-- the image of a letter
-- the image of a generator
IsOver-at : (n : ℕ) (images : List (List Letter)) (i : ℕ) → AllByRecursion (IsOver n) images → IsOver n (slice_index_or images i [])
IsOver-at n [] i a = tt
IsOver-at n (w ∷ images) zero a = a.0
IsOver-at n (w ∷ images) (suc i) a = IsOver-at n images i a.1

pub IsOver-letter_image : (n : ℕ) (images : List (List Letter)) (l : Letter) → AllByRecursion (IsOver n) images → IsOver n (letter_image images l)
IsOver-letter_image n images l a = by l.inv
  where
    by : (b : Bool) → IsOver n (if b then inverse (slice_index_or images l.g []) else slice_index_or images l.g [])
    by true = IsOver-inverse n _ (IsOver-at n images l.g a)
    by false = IsOver-at n images l.g a

-- the image of a word
pub IsOver-word_image : (n : ℕ) (images : List (List Letter)) (w : List Letter) → AllByRecursion (IsOver n) images → IsOver n (word_image images w)
IsOver-word_image n images [] a = tt
IsOver-word_image n images (x ∷ w) a =
    IsOver-append n (letter_image images x) (word_image images w) (IsOver-letter_image n images x a) (IsOver-word_image n images w a)

-- what the law on words over generators stands on
pub ruleset over_images = (IsOver-word_image)
