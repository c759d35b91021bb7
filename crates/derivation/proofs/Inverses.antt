-- Inverses of words.
use Rattle.std.proofs.Common.{◌≡◌, List, [], ◌∷◌, ◌++◌, refl, append_assoc, reverse, ℕ, zero, suc, subst, append-nil, sym, ap, ◌∙◌}
use Rattle.std.proofs.lemmas.List.{reverse-append, map-append}
use Rattle.free_words.specs.declared.letter.Letter.{Letter}
use Rattle.free_words.specs.Words.{flipped, inverse, commutator, copies}
use Rattle.presentation.specs.Presented.{Presented}
use Rattle.derivation.specs.Moves.{IsWordOver}
use Rattle.free_words.proofs.WordLemmas.{flipped-flipped}

pub inverse-append : (u v : List Letter) → inverse (u ++ v) ≡ inverse v ++ inverse u
inverse-append u v = rw (reverse-append u v) (map-append flipped (reverse v) (reverse u))

-- the inverse begins with the inverse of the last letter
pub inverse_push : (u : List Letter) (x : Letter) → inverse (u ++ x ∷ []) ≡ flipped x ∷ inverse u
inverse_push u x = inverse-append u (x ∷ [])

pub inverse-cons : (x : Letter) (u : List Letter) → inverse (x ∷ u) ≡ inverse u ++ flipped x ∷ []
inverse-cons x u = inverse-append (x ∷ []) u

pub inverse-inverse : (u : List Letter) → inverse (inverse u) ≡ u
inverse-inverse [] = refl
inverse-inverse (x ∷ u) = rw (inverse-cons x u, inverse_push (inverse u) (flipped x), flipped-flipped x, inverse-inverse u)

-- with two laws of the inverse: it turns a commutator round
turned : (inv : List Letter → List Letter) → ((u v : List Letter) → inv (u ++ v) ≡ inv v ++ inv u) → ((u : List Letter) → inv (inv u) ≡ u)
    → (u v : List Letter) → inv (u ++ v ++ inv u ++ inv v) ≡ v ++ u ++ inv v ++ inv u
turned inv append twice u v =
    rw (append (u ++ v ++ inv u) (inv v), append (u ++ v) (inv u), append u v, twice u, twice v) (simp append_assoc)

-- the inverse of a commutator is the commutator the other way round
pub inverse-commutator : (u v : List Letter) → inverse (commutator u v) ≡ commutator v u
inverse-commutator u v = turned inverse inverse-append inverse-inverse u v

-- a word before copies of it, or behind them
copies_commute : (n : ℕ) (w : List Letter) → w ++ copies n w ≡ copies n w ++ w
copies_commute zero w = append-nil w
copies_commute (suc n) w = sym (append_assoc w (copies n w) w) ∙ ap (λ t. t ++ w) (copies_commute n w)

-- the inverse of a power is the power of the inverse
pub inverse-copies : (n : ℕ) (w : List Letter) → inverse (copies n w) ≡ copies n (inverse w)
inverse-copies zero w = refl
inverse-copies (suc n) w =
    inverse-append (copies n w) w ∙ ap (λ t. inverse w ++ t) (inverse-copies n w) ∙ copies_commute n (inverse w)

pub over-append : (p : Presented) (u v : List Letter) → IsWordOver p u → IsWordOver p v → IsWordOver p (u ++ v)
over-append p [] v first second = second
over-append p (x ∷ u) v first second = (first.0, over-append p u v first.1 second)

pub over-inverse : (p : Presented) (u : List Letter) → IsWordOver p u → IsWordOver p (inverse u)
over-inverse p [] over = tt
over-inverse p (x ∷ u) over =
    subst (λ t. IsWordOver p t) (sym (inverse-cons x u)) (over-append p (inverse u) (flipped x ∷ []) (over-inverse p u over.1) (over.0, tt))
