use Rattle.std.proofs.Common.{◌≡◌, ℕ, take, take_while, ap, ◌∙◌}
use Rattle.std.proofs.lemmas.List.Folds.{length-prefix_len}
use Rattle.word_text.specs.Scan.{is_digit}
use Rattle.word_text.proofs.Numbers.{digits_all}
use Rattle.word_text.proofs.scan.split_digits.Goals as goal

pub returns-clause-all : goal.returns-clause-all
returns-clause-all c = λ i lt.
    let text = c.args.text.now in
    let e : c.split_at.result.0.now ≡ take_while is_digit text = c.split_at.ensures.front
    ∙ ap (λ (n : ℕ). take n text) (c.digit_count-n.ensures ∙ length-prefix_len is_digit text) in
    rw e (digits_all text i (rw e at lt))
