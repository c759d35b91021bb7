use Rattle.std.proofs.Common.{rules, ◌≡◌, ◌<◌, true, length, nat_lt, sym, ◌∙◌, get_or, List, []}
use Rattle.std.proofs.lemmas.List.{get_or_default}
use Rattle.free_words.specs.declared.letter.Letter.{Letter}
use Rattle.free_words.specs.declared.TheConstants.{COMPOSED}
use Rattle.free_words.specs.Words.{word_image}
use Rattle.session_text.proofs.Positions.{found, none}
use Rattle.session_text.proofs.images.first_passing.Goals as goal

pub returns-then-substituted_len-clause-place : goal.returns-then-substituted_len-clause-place
returns-then-substituted_len-clause-place c =
    let lt : c.loop-j.j < length c.args.words.now = search rules in
    let here : get_or c.args.words.now c.loop-j.j [] ≡ c.index-words-j.result =
    sym (c.index-words-j.is ∙ get_or_default c.args.words.now c.loop-j.j c.index-words-j.result [] lt) in
    let passes : nat_lt COMPOSED (length (word_image c.args.images.now (get_or c.args.words.now c.loop-j.j []))) ≡ true = rw here (search rules) in
    sym (found (λ (r : List Letter). nat_lt COMPOSED (length (word_image c.args.images.now r))) [] c.args.words.now c.loop-j.j lt c.loop-j.invariant passes)

pub returns-clause-place : goal.returns-clause-place
returns-clause-place c =
    let all : c.loop-j.j ≡ length c.args.words.now = search rules in
    sym (none (λ (r : List Letter). nat_lt COMPOSED (length (word_image c.args.images.now r))) [] c.args.words.now (rw (← all) c.loop-j.invariant))
