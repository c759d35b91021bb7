use Rattle.std.proofs.Common.{◌<◌, ◌≡◌, length, arith, ◌∙◌, drop, ap}
use Rattle.std.proofs.lemmas.Result.{err_from_is_err_and}
use Rattle.word_text.specs.declared.fault.ReadError.TheVariants as errors
use Rattle.word_text.specs.Scan.{after_blanks}
use Rattle.word_text.specs.Powers.{written, power_of, powers_at}
use Rattle.word_text.proofs.Raising.{begin, more, no_exponent, too_long, done}
use Rattle.word_text.proofs.powers.powers.Goals as goal

pub loop-rest-init : goal.loop-rest-init
loop-rest-init c = record {
  so_far = λ atom e. rw (c.skip_blanks-rest.ensures.rest) (begin written c.args.start atom c.args.text.now);
  small = omega arith;
  shorter = omega arith;
}

pub returns-in_err-next-clause-exact : goal.returns-in_err-next-clause-exact
returns-in_err-next-clause-exact c = λ atom e.
    let p = err_from_is_err_and c.from_residual.result c.from_residual.ensures.1 in
    let there : c.skip_blanks.result.now ≡ after_blanks (drop 1 c.loop-rest.rest.now) = c.skip_blanks.ensures.rest
    ∙ ap after_blanks c.after_first.ensures.rest in
    rw (p.1, p.2) (no_exponent written c.args.start (powers_at c.args.start atom c.args.text.now)
    (power_of c.loop-rest.raise.negative c.loop-rest.raise.times atom) c.loop-rest.rest.now (errors.Text c.in_err-next.field-0.0) (cc)
    (rw there at c.in_err-next.ensures.exact) (c.loop-rest.invariant.so_far atom e))

pub returns-in_err-raise-clause-exact : goal.returns-in_err-raise-clause-exact
returns-in_err-raise-clause-exact c = λ atom e.
    let p = err_from_is_err_and c.from_residual-in_err-raise.result c.from_residual-in_err-raise.ensures.1 in
    let there : c.skip_blanks.result.now ≡ after_blanks (drop 1 c.loop-rest.rest.now) = c.skip_blanks.ensures.rest
    ∙ ap after_blanks c.after_first.ensures.rest in
    rw (p.1, p.2) (too_long written c.args.start (powers_at c.args.start atom c.args.text.now)
    (power_of c.loop-rest.raise.negative c.loop-rest.raise.times atom) c.loop-rest.rest.now c.in_ok-next.after.now c.in_ok-next.next.negative
    c.in_ok-next.next.times (errors.Text c.in_err-raise.field-0.0) (cc) (rw there at c.in_ok-next.ensures.exact) (c.in_err-raise.ensures.exact atom e)
    (c.loop-rest.invariant.so_far atom e))

pub loop-rest-preserved : goal.loop-rest-preserved
loop-rest-preserved c =
    let there : c.skip_blanks.result.now ≡ after_blanks (drop 1 c.loop-rest.rest.now) = c.skip_blanks.ensures.rest
    ∙ ap after_blanks c.after_first.ensures.rest in
    let behind = c.skip_blanks-rest-in-loop-rest.ensures.rest in
    let short : length c.skip_blanks-rest-in-loop-rest.result.now < length c.loop-rest.rest.now = omega (arith, c.in_ok-next.ensures.shorter) in
    record {
      so_far = λ atom e. rw behind (more written c.args.start (powers_at c.args.start atom c.args.text.now)
          (power_of c.loop-rest.raise.negative c.loop-rest.raise.times atom) (power_of c.in_ok-raise.raise.negative c.in_ok-raise.raise.times atom)
          c.loop-rest.rest.now c.in_ok-next.after.now c.in_ok-next.next.negative c.in_ok-next.next.times (cc) (rw there at c.in_ok-next.ensures.exact)
          (c.in_ok-raise.ensures.exact atom e) (rw behind at short) (c.loop-rest.invariant.so_far atom e));
      small = omega (arith, c.in_ok-raise.ensures.small);
      shorter = omega arith;
    }

pub returns-clause-exact : goal.returns-clause-exact
returns-clause-exact c = λ atom e.
    done written c.args.start (powers_at c.args.start atom c.args.text.now) (power_of c.loop-rest.raise.negative c.loop-rest.raise.times atom)
    c.loop-rest.rest.now (cc) (c.loop-rest.invariant.so_far atom e)
