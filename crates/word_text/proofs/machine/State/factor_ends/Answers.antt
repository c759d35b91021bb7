use Rattle.std.proofs.Common.{◌<◌, ◌≤◌, ◌++◌, length, sym, length-append}
use Rattle.word_text.specs.Powers.{written, power_of}
use Rattle.word_text.proofs.Algebra.{length-power}
use Rattle.word_text.proofs.Factors.{factor_ok, factor_long}
use Rattle.word_text.proofs.machine.State.factor_ends.Goals as goal

pub returns-then-letters-factor-clause-exact : goal.returns-then-letters-factor-clause-exact
returns-then-letters-factor-clause-exact c =
    let d = c.args.self.now.draft in
    let r = c.in_ok-raise.raise in
    let long : written < length (d.product ++ power_of r.negative r.times d.atom) =
    rw (
      length-append d.product (power_of r.negative r.times d.atom),
      length-power r.negative r.times d.atom,
      ← c.atom_letters-atom.ensures,
      ← c.letters.ensures,
    ) c.if-letters-factor.true in
    rw (c.too_long.ensures) (factor_long written d.frames d.product c.args.start d.atom (power_of r.negative r.times d.atom) c.args.text.now
    c.in_ok-raise.rest.now (c.in_ok-raise.ensures.exact d.atom (sym c.atom_letters-atom.ensures)) long)

pub returns-clause-exact : goal.returns-clause-exact
returns-clause-exact c =
    let d = c.args.self.now.draft in
    let r = c.in_ok-raise.raise in
    let fits : length (d.product ++ power_of r.negative r.times d.atom) ≤ written =
    rw (
      length-append d.product (power_of r.negative r.times d.atom),
      length-power r.negative r.times d.atom,
      ← c.atom_letters-atom.ensures,
      ← c.letters.ensures,
    ) c.if-letters-factor.false in
    rw (c.in_ok-join.ensures) (factor_ok written d.frames d.product c.args.start d.atom (power_of r.negative r.times d.atom) c.args.text.now
    c.in_ok-raise.rest.now (c.in_ok-raise.ensures.exact d.atom (sym c.atom_letters-atom.ensures)) fits)
