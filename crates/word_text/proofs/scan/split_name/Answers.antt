use Rattle.std.proofs.Common.{◌≡◌, ℕ, take, take_while, ap, ◌∙◌}
use Rattle.std.proofs.lemmas.List.Folds.{length-prefix_len}
use Rattle.word_text.specs.Scan.{is_name_byte}
use Rattle.word_text.proofs.Marks.{name_some}
use Rattle.word_text.proofs.scan.split_name.Goals as goal

pub returns-clause-some : goal.returns-clause-some
returns-clause-some c = λ e.
    let text = c.args.text.now in
    let front : c.split_at.result.0.now ≡ take_while is_name_byte text = c.split_at.ensures.front
    ∙ ap (λ (n : ℕ). take n text) (c.name_byte_count-n.ensures ∙ length-prefix_len is_name_byte text) in
    rw front (name_some text e)
