-- A map of the generators extends to a homomorphism exactly where it keeps the relators.
use Rattle.std.proofs.Common.{◌≡◌, List, [], ◌∷◌, ◌++◌, sym, ap, subst, ◌∙◌, arith, inl, inr}
use Rattle.free_words.specs.declared.letter.Letter.{Letter}
use Rattle.free_words.specs.Words.{flipped, commutator, word_image}
use Rattle.free_words.proofs.ImageLemmas.{word_image-append, word_image-inverse, word_image-commutator}
use Rattle.free_words.proofs.OverLemmas.{IsOver-word_image}
use Rattle.presentation.specs.Presented.{Presented, IsPresented}
use Rattle.derivation.specs.Moves.{IsWordOver, IsPiece, PutsIn, Moves, Leads, Reaches, Trivial}
use Rattle.derivation.specs.Moves.IsPiece.{pair, relator, inverse_relator, double, power}
use Rattle.derivation.proofs.Reaching.{reaches_self, reaches_on, reaches_back, reaches_between}
use Rattle.derivation.proofs.TrivialLaws.{trivial_piece, trivial_relator, trivial_inverse, trivial_cancel}
use Rattle.magnus_laws.specs.Maps.{AreImages, KeepsRelators, Extends}
use Rattle.magnus_laws.proofs.Upward.{relator_over}

module _ (q p : Presented) (images : List (List Letter)) (plain : q.modulus ≡ 0) (are : AreImages q images p) (keeps : KeepsRelators q images p) where
  image : List Letter → List Letter
  image w = word_image images w

  image_over : (w : List Letter) → IsWordOver p (image w)
  unfolding image
  image_over w = IsOver-word_image _ images w are.over

  image_piece : (s : List Letter) → IsPiece q s → Trivial p (image s)
  unfolding image
  image_piece _ (pair x over) =
      subst (Trivial p) (sym (word_image-append images (x ∷ []) (flipped x ∷ [])
      ∙ ap (λ z. word_image images (x ∷ []) ++ z) (word_image-inverse images (x ∷ []))))
      (trivial_cancel p (word_image images (x ∷ [])) (image_over (x ∷ [])))
  image_piece _ (relator r listed) = keeps r listed
  image_piece _ (inverse_relator r listed) = subst (Trivial p) (sym (word_image-inverse images r)) (trivial_inverse p (word_image images r) (keeps r listed))
  image_piece _ (double a b c d oa ob oc od) =
      subst (Trivial p)
      (sym (word_image-commutator images (commutator a b) (commutator c d)
      ∙ λ i. commutator (word_image-commutator images a b i) (word_image-commutator images c d i)))
      (trivial_piece p _ (double (image a) (image b) (image c) (image d) (image_over a) (image_over b) (image_over c) (image_over d)))
  image_piece _ (power a b some oa ob) = absurd (omega (arith, plain, some))

  -- the image with a piece put in leads to the image without it
  image_puts_in : (a b : List Letter) → PutsIn q a b → Reaches p (image b) (image a)
  unfolding image
  image_puts_in a b puts =
      let first : List Letter = word_image images puts.front in
      let middle : List Letter = word_image images puts.piece in
      let last : List Letter = word_image images puts.back in
      let longer : word_image images b ≡ first ++ (middle ++ last) =
      ap (word_image images) puts.with ∙ word_image-append images puts.front (puts.piece ++ puts.back)
      ∙ ap (λ z. first ++ z) (word_image-append images puts.piece puts.back) in
      let shorter : word_image images a ≡ first ++ last = ap (word_image images) puts.without ∙ word_image-append images puts.front puts.back in
      subst (λ z. Reaches p z (word_image images a)) (sym longer)
      (subst (Reaches p (first ++ (middle ++ last))) (sym shorter) (reaches_between p first last middle [] (image_piece puts.piece puts.is_piece)))

  image_moves : (a b : List Letter) → Moves q a b → Reaches p (image a) (image b)
  image_moves a b (inl puts) = reaches_back p (image b) (image a) (image_puts_in a b puts)
  image_moves a b (inr puts) = image_puts_in b a puts

  image_leads : (u : List Letter) (ws : List (List Letter)) (v : List Letter) → Leads q u ws v → Reaches p (image u) (image v)
  image_leads u [] v same = subst (λ z. Reaches p (image u) (image z)) same (reaches_self p (image u))
  image_leads u (w ∷ ws) v (move, more) = reaches_on p (image u) (image w) (image v) (image_moves u w move) (image_leads w ws v more)

  pub keepers_extend : Extends q images p
  unfolding image
  keepers_extend w over way = image_leads w way.0 [] way.1

pub kept_relators_suffice : (q p : Presented) (images : List (List Letter)) → q.modulus ≡ 0 → AreImages q images p → KeepsRelators q images p
    → Extends q images p
kept_relators_suffice q p images plain are keeps = keepers_extend q p images plain are keeps

pub homomorphisms_keep_relators : (q p : Presented) (images : List (List Letter)) → IsPresented q → Extends q images p → KeepsRelators q images p
homomorphisms_keep_relators q p images known extends r listed = extends r (relator_over q known r listed) (trivial_relator q r listed)
