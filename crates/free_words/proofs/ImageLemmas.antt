-- Substitution keeps products, inverses and what is made of them.
use Rattle.std.proofs.Common.{◌≡◌, ℕ, zero, suc, ◌++◌, Bool, true, false, List, [], ◌∷◌, ℤ, pos, negsuc, not, if◌then◌else◌, refl, sym, ◌∙◌, ap, append_assoc}
use Rattle.std.proofs.Common.{slice_index_or}
use Rattle.std.proofs.lemmas.List.{append-nil}
use Rattle.std.proofs.lemmas.Grind.{flat_map-append}
use Rattle.free_words.specs.declared.letter.Letter.{Letter}
use Rattle.free_words.specs.Words.{flipped, inverse, copies, power, commutator, Cancels, letter_image, word_image}
use Rattle.free_words.proofs.ReductionLemmas.{Cancels-trans, Cancels-after, Cancels-before, Cancels-inverse}
use Rattle.free_words.proofs.WordLemmas.{inverse-append, inverse-cons, inverse-inverse, power-pos}

-- the image of a product is the product of the images
pub word_image-append : (images : List (List Letter)) (u v : List Letter) → word_image images (u ++ v) ≡ word_image images u ++ word_image images v
word_image-append images u v = flat_map-append (letter_image images) u v

-- the image of an inverted letter
letter_image-flipped : (images : List (List Letter)) (l : Letter) → letter_image images (flipped l) ≡ inverse (letter_image images l)
letter_image-flipped images l = by l.inv
  where
    w : List Letter
    w = slice_index_or images l.g []

    by : (b : Bool) → (if not b then inverse w else w) ≡ inverse (if b then inverse w else w)
    by true = sym (inverse-inverse w)
    by false = refl

-- the image of an inverse is the inverse of the image
pub word_image-inverse : (images : List (List Letter)) (w : List Letter) → word_image images (inverse w) ≡ inverse (word_image images w)
word_image-inverse images [] = refl
word_image-inverse images (x ∷ w) =
    ap (word_image images) (inverse-cons x w)
    ∙ word_image-append images (inverse w) (flipped x ∷ [])
    ∙ ap (λ v. word_image images (inverse w) ++ v) (append-nil (letter_image images (flipped x)) ∙ letter_image-flipped images x)
    ∙ ap (λ v. v ++ inverse (letter_image images x)) (word_image-inverse images w)
    ∙ sym (inverse-append (letter_image images x) (word_image images w))

-- the image of copies
pub word_image-copies : (images : List (List Letter)) (n : ℕ) (w : List Letter) → word_image images (copies n w) ≡ copies n (word_image images w)
word_image-copies images zero w = refl
word_image-copies images (suc n) w =
    word_image-append images (copies n w) w ∙ ap (λ v. v ++ word_image images w) (word_image-copies images n w)

-- the image of a power
pub word_image-power : (images : List (List Letter)) (w : List Letter) (k : ℤ) → word_image images (power w k) ≡ power (word_image images w) k
word_image-power images w (pos n) =
    ap (word_image images) (power-pos w n) ∙ word_image-copies images n w ∙ sym (power-pos (word_image images w) n)
word_image-power images w (negsuc n) =
    word_image-copies images (suc n) (inverse w) ∙ ap (copies (suc n)) (word_image-inverse images w)

-- the image of a commutator
pub word_image-commutator : (images : List (List Letter)) (u v : List Letter)
    → word_image images (commutator u v) ≡ commutator (word_image images u) (word_image images v)
word_image-commutator images u v =
    simp (word_image-append, word_image-inverse)

-- the image of a generator is the word that is put for it
pub word_image-generator : (images : List (List Letter)) (g : ℕ) → word_image images (record { g = g; inv = false } ∷ []) ≡ slice_index_or images g []
word_image-generator images g = append-nil (slice_index_or images g [])

-- leaving out pairs in a word leaves out pairs in its image
pub word_image-Cancels : (images : List (List Letter)) (w v : List Letter) → Cancels w v → Cancels (word_image images w) (word_image images v)
word_image-Cancels images w v (Cancels.none _) = Cancels.none (word_image images w)
word_image-Cancels images _ _ (Cancels.pair u v w x h) =
    let p : List Letter = letter_image images x in
    let pair : Cancels (p ++ inverse p ++ word_image images v) (word_image images v) =
    Cancels-before (word_image images v) (p ++ inverse p) [] (Cancels-inverse p) in
    let rest = word_image-Cancels images (u ++ v) w h in
    Cancels-trans _ (word_image images u ++ word_image images v) (word_image images w)
    (rw (word_image-append images u (x ∷ flipped x ∷ v), letter_image-flipped images x, ← append_assoc p (inverse p) (word_image images v))
    (Cancels-after (word_image images u) _ _ pair))
    (rw (← word_image-append images u v) rest)

-- what the laws of substitution stand on
pub ruleset images_of = (word_image-append, word_image-inverse, word_image-power, word_image-commutator, word_image-generator, word_image-Cancels)
