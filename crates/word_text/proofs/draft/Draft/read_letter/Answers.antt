use Rattle.word_text.proofs.Drafts.{atom_seen}
use Rattle.word_text.proofs.draft.Draft.read_letter.Goals as goal

pub returns : goal.returns
returns c =
    let h = c.in_ok-self-inside.ensures in
    rw (← c.self.view_is) (atom_seen c.self.inside.program c.letter.new.self c.self.inside.brackets.items c.self.inside.product_at c.self.inside.atom_at
    c.in_ok-self-inside.field-0 _ c.self.invariant h.0 h.2)
