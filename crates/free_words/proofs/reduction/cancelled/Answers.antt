use Rattle.std.proofs.Common.{arith, add-one, drop-cons, false, append-nil}
use Rattle.std.proofs.lemmas.List.{drop_all}
use Rattle.free_words.specs.declared.letter.Letter.{Letter}
use Rattle.free_words.specs.Words.{Cancels}
use Rattle.free_words.proofs.reduction.cancelled.Goals as goal

-- The next letter stands at the front of what is left.
pub loop-l-preserved : goal.loop-l-preserved
loop-l-preserved c = record {
  reduced = c.in_ok-put.ensures.reduced c.loop-l.invariant.reduced;
  same = λ w h.
      let zero_letter : Letter = record { g = 0; inv = false } in
      let next = drop-cons c.args.word.now c.loop-l.l-index zero_letter c.loop-l-test.true in
      c.loop-l.invariant.same w (rw next (c.in_ok-put.ensures.same _ w (rw add-one at h)));
  no_longer = omega (arith, c.in_ok-put.ensures.no_longer);
}

pub returns-clause-same : goal.returns-clause-same
returns-clause-same c =
    let past = drop_all c.loop-l.l-index c.args.word.now c.loop-l-test.false in
    c.loop-l.invariant.same _ (rw (past, append-nil) (Cancels.none _))
