use Rattle.std.proofs.Common.{refl, rules, false}
use Rattle.free_words.specs.declared.letter.Letter.{Letter}
use Rattle.free_words.proofs.OverLemmas.{IsOver-get_or}
use Rattle.fox_calculus.proofs.LetterTerms.{sums_begin, sums_small, sums_next, terms_next}
use Rattle.fox_calculus.proofs.running.letter_terms.Goals as goal

-- the letter that the code reads past the end
past : Letter
past = record { g = 0; inv = false }

pub loop-l-init : goal.loop-l-init
loop-l-init c = record { terms = search rules; sums = sums_begin _ refl }

pub letter_term-requires-clause-small : goal.letter_term-requires-clause-small
letter_term-requires-clause-small c =
    sums_small c.loop-l.sums c.args.word.now c.loop-l.l-index c.requires.over c.loop-l-test.true c.requires.short c.loop-l.invariant.sums

pub loop-l-preserved : goal.loop-l-preserved
unfolding past
loop-l-preserved c =
    let known = IsOver-get_or 24 c.args.word.now c.loop-l.l-index past c.requires.over c.loop-l-test.true in
    record {
      terms = terms_next c.loop-l.sums c.args.word.now c.loop-l.l-index past c.loop-l.terms.items c.push.new.self.items c.letter_term.result
          c.loop-l-test.true known c.loop-l.invariant.sums c.loop-l.invariant.terms c.letter_term.ensures.term (search rules);
      sums = sums_next c.loop-l.sums c.letter_term.new.sums c.args.word.now c.loop-l.l-index past c.loop-l-test.true known
          c.loop-l.invariant.sums c.letter_term.ensures.sums;
    }
