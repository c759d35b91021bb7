use Rattle.std.proofs.Common.{◌≡◌, ◌++◌, ◌∷◌, Option, map, ap, sym, ◌∙◌}
use Rattle.std.specs.Option.{option_to_list}
use Rattle.free_words.specs.Words.{commutator}
use Rattle.word_text.specs.declared.draft.Bracket.{Bracket}
use Rattle.word_text.specs.Program.{word_of}
use Rattle.word_text.specs.Draft.{frame_of, innermost, first_word}
use Rattle.word_text.proofs.Drafts.{closed_held, closed_seen, first_seen}
use Rattle.word_text.proofs.draft.Draft.close_square.Goals as goal

pub invariant_of-self-2 : goal.invariant_of-self-2
invariant_of-self-2 c =
    let h = c.in_ok-self-inside.ensures in
    let e : c.self.inside.brackets.items ≡ c.unwrap-bracket.result ∷ c.pop_front.new.self.items =
    c.pop_front.ensures.items ∙ ap (λ (o : Option Bracket). option_to_list o ++ c.pop_front.new.self.items) c.unwrap-bracket.ensures in
    closed_held _ _ _ _ _ c.unwrap-bracket.result _ _ c.self.invariant e h.0.0 h.1

pub returns-clause-draft : goal.returns-clause-draft
returns-clause-draft c =
    let h = c.in_ok-self-inside.ensures in
    let e : c.self.inside.brackets.items ≡ c.unwrap-bracket.result ∷ c.pop_front.new.self.items =
    c.pop_front.ensures.items ∙ ap (λ (o : Option Bracket). option_to_list o ++ c.pop_front.new.self.items) c.unwrap-bracket.ensures in
    let first : word_of c.self.inside.program c.first_word_of.result
    ≡ first_word (innermost (map (frame_of c.self.inside.program) c.self.inside.brackets.items)).opening =
    rw (c.first_word_of.ensures) (sym (first_seen c.self.inside.program c.self.inside.brackets.items)) in
    let atom : word_of c.commutator.new.self c.in_ok-self-inside.field-0
    ≡ commutator (first_word (innermost (map (frame_of c.self.inside.program) c.self.inside.brackets.items)).opening)
    (word_of c.self.inside.program c.self.inside.product_at) =
    rw (← first) h.2 in
    rw (← c.self.view_is) (closed_seen c.self.inside.program c.commutator.new.self c.unwrap-bracket.result c.self.inside.brackets.items
    c.pop_front.new.self.items c.self.inside.product_at c.self.inside.atom_at c.in_ok-self-inside.field-0 _ c.self.invariant e h.0 atom)
