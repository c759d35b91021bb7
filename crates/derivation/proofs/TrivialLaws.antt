-- Trivial words, and equal ones.
use Rattle.std.proofs.Common.{◌≡◌, List, [], ◌∷◌, ◌++◌, refl, sym, ◌∙◌, ap, subst, inr, append_assoc, append-nil}
use Rattle.std.specs.Prelude.{Contains}
use Rattle.free_words.specs.declared.letter.Letter.{Letter}
use Rattle.free_words.specs.Words.{flipped, inverse}
use Rattle.presentation.specs.Presented.{Presented}
use Rattle.derivation.specs.Moves.{IsWordOver, IsPiece, Reaches, Trivial, Equal}
use Rattle.derivation.proofs.Inverses.{inverse-cons, inverse-inverse, over-inverse}
use Rattle.derivation.proofs.Reaching.{reaches_self, reaches_on, reaches_back, reaches_between, reaches_behind, reaches_before, reaches_both, reaches_inverse}

pub trivial_nothing : (p : Presented) → Trivial p []
trivial_nothing p = reaches_self p []

pub trivial_piece : (p : Presented) (s : List Letter) → IsPiece p s → Trivial p s
trivial_piece p s is =
    ([] ∷ [], (inr (record { front = []; piece = s; back = []; is_piece = is; without = refl; with = sym (append-nil s) }), refl))

pub trivial_relator : (p : Presented) (r : List Letter) → Contains p.relators r → Trivial p r
trivial_relator p r listed = trivial_piece p r (IsPiece.relator r listed)

pub trivial_inverse_relator : (p : Presented) (r : List Letter) → Contains p.relators r → Trivial p (inverse r)
trivial_inverse_relator p r listed = trivial_piece p (inverse r) (IsPiece.inverse_relator r listed)

pub trivial_product : (p : Presented) (u v : List Letter) → Trivial p u → Trivial p v → Trivial p (u ++ v)
trivial_product p u v first second = reaches_both p u [] v [] first second

pub trivial_inverse : (p : Presented) (w : List Letter) → Trivial p w → Trivial p (inverse w)
trivial_inverse p w way = reaches_inverse p w [] way

-- a word and then its inverse
pub trivial_cancel : (p : Presented) (u : List Letter) → IsWordOver p u → Trivial p (u ++ inverse u)
trivial_cancel p [] over = trivial_nothing p
trivial_cancel p (x ∷ u) over =
    let inside = reaches_between p (x ∷ []) (flipped x ∷ []) (u ++ inverse u) [] (trivial_cancel p u over.1) in
    let outside = trivial_piece p (x ∷ flipped x ∷ []) (IsPiece.pair x over.0) in
    let all = reaches_on p (x ∷ ((u ++ inverse u) ++ flipped x ∷ [])) (x ∷ flipped x ∷ []) [] inside outside in
    let same : x ∷ ((u ++ inverse u) ++ flipped x ∷ []) ≡ (x ∷ u) ++ inverse (x ∷ u) =
    ap (λ t. x ∷ t) (append_assoc u (inverse u) (flipped x ∷ []) ∙ ap (λ t. u ++ t) (sym (inverse-cons x u))) in
    subst (λ t. Trivial p t) same all

-- the inverse of a word and then the word
pub trivial_cancel_back : (p : Presented) (u : List Letter) → IsWordOver p u → Trivial p (inverse u ++ u)
trivial_cancel_back p u over =
    subst (λ t. Trivial p (inverse u ++ t)) (inverse-inverse u) (trivial_cancel p (inverse u) (over-inverse p u over))

pub trivial_conjugate : (p : Presented) (u w : List Letter) → IsWordOver p u → Trivial p w → Trivial p (u ++ (w ++ inverse u))
trivial_conjugate p u w over way =
    reaches_on p (u ++ (w ++ inverse u)) (u ++ inverse u) [] (reaches_between p u (inverse u) w [] way) (trivial_cancel p u over)

pub reaches_equal : (p : Presented) (u v : List Letter) → IsWordOver p v → Reaches p u v → Equal p u v
reaches_equal p u v over way =
    reaches_on p (u ++ inverse v) (v ++ inverse v) [] (reaches_before p (inverse v) u v way) (trivial_cancel p v over)

pub equal_reaches : (p : Presented) (u v : List Letter) → IsWordOver p v → Equal p u v → Reaches p u v
equal_reaches p u v over equal =
    let put_in : Reaches p (u ++ []) (u ++ (inverse v ++ v)) =
    reaches_behind p u [] (inverse v ++ v) (reaches_back p (inverse v ++ v) [] (trivial_cancel_back p v over)) in
    let longer : Reaches p u ((u ++ inverse v) ++ v) =
    subst (λ t. Reaches p t ((u ++ inverse v) ++ v)) (append-nil u) (subst (λ t. Reaches p (u ++ []) t) (sym (append_assoc u (inverse v) v)) put_in) in
    reaches_on p u ((u ++ inverse v) ++ v) v longer (reaches_before p v (u ++ inverse v) [] equal)
