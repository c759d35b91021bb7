use Rattle.std.proofs.Common.{◌∙◌, ap, List, position}
use Rattle.free_words.specs.declared.letter.Letter.{Letter}
use Rattle.session_text.proofs.ImageFits.{is_long}
use Rattle.session_text.proofs.images.first_long.Goals as goal

pub returns-in-Hom-clause-place : goal.returns-in-Hom-clause-place
returns-in-Hom-clause-place c =
    rw c.in-Hom.is (c.first_passing.ensures.place
    ∙ ap (λ (ws : List (List Letter)). position (is_long ws) c.relators.result.now) c.words.ensures
    ∙ ap (λ (rs : List (List Letter)). position (is_long c.in-Hom.images) rs) c.relators.ensures)
