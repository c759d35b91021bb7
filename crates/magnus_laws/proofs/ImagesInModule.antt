-- Maps that extend, by the Fox vectors of the relators' images.
use Rattle.std.proofs.Common.{◌≡◌, List, ◌↔◌}
use Rattle.std.specs.Prelude.{Contains}
use Rattle.free_words.specs.declared.letter.Letter.{Letter}
use Rattle.free_words.specs.Words.{word_image}
use Rattle.free_words.proofs.OverLemmas.{IsOver-word_image}
use Rattle.presentation.specs.Presented.{Presented, IsPresented}
use Rattle.derivation.specs.Moves.{IsWordOver}
use Rattle.fox_calculus.specs.Fox.{fox}
use Rattle.fox_calculus.specs.Module.{IsMember}
use Rattle.magnus_laws.specs.Maps.{AreImages, Extends}
use Rattle.magnus_laws.proofs.Homomorphisms.{kept_relators_suffice, homomorphisms_keep_relators}
use Rattle.magnus_laws.proofs.Theorem.{trivial_is_member, member_is_trivial}

module _ (q p : Presented) (images : List (List Letter)) (known_q : IsPresented q) (known_p : IsPresented p) (plain : q.modulus
    ≡ 0) (are : AreImages q images p) where
  image_over : (r : List Letter) → IsWordOver p (word_image images r)
  image_over r = IsOver-word_image _ images r are.over

  abbrev pub ImagesAreMembers : Type 0
  ImagesAreMembers = (r : List Letter) → Contains q.relators r → IsMember p (fox (word_image images r))

  by_members : ImagesAreMembers → Extends q images p
  by_members members = kept_relators_suffice q p images plain are (λ r listed. member_is_trivial p (word_image images r) known_p (image_over r)
      (members r listed))

  to_members : Extends q images p → ImagesAreMembers
  to_members extends r listed = trivial_is_member p (word_image images r) known_p (image_over r)
      (homomorphisms_keep_relators q p images known_q extends r listed)

  pub extends_by_members : Extends q images p ↔ ((r : List Letter) → Contains q.relators r → IsMember p (fox (word_image images r)))
  extends_by_members = (to_members, by_members)
