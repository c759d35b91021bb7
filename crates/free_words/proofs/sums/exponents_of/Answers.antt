use Rattle.std.proofs.Common.{slice_index_or, pos, false, ℤ, refl, rules}
use Rattle.std.proofs.lemmas.List.{get_or-replicate}
use Rattle.free_words.specs.declared.letter.Letter.{Letter}
use Rattle.free_words.specs.Words.{exponent_sum}
use Rattle.free_words.proofs.OverLemmas.{IsOver-get_or}
use Rattle.free_words.proofs.SumLemmas.{next_fits, next_sums}
use Rattle.free_words.proofs.sums.exponents_of.Goals as goal

-- the letter that the code reads past the end
past : Letter
past = record { g = 0; inv = false }

pub loop-l-init : goal.loop-l-init
unfolding exponent_sum
loop-l-init c = record {
  whole = refl;
  sums = λ g below. get_or-replicate {A = ℤ} 24 g (pos 0) (pos 0) below;
}

pub overflow_add-sums : goal.overflow_add-sums
unfolding past
overflow_add-sums c =
    let x : Letter = slice_index_or c.args.word.now c.loop-l.l-index past in
    let known = IsOver-get_or 24 c.args.word.now c.loop-l.l-index past c.requires.known c.loop-l-test.true in
    next_fits _ _ x.g c.args.word.now c.loop-l.l-index x.inv c.requires.short (c.loop-l.invariant.sums x.g known) c.exponent.ensures

pub loop-l-preserved : goal.loop-l-preserved
unfolding past
loop-l-preserved c =
    let known = IsOver-get_or 24 c.args.word.now c.loop-l.l-index past c.requires.known c.loop-l-test.true in
    record {
      whole = search rules;
      sums = next_sums c.loop-l.sums c.exponent.result c.args.word.now c.loop-l.l-index past c.loop-l-test.true c.requires.short known
          c.loop-l.invariant.whole c.loop-l.invariant.sums c.exponent.ensures;
    }
