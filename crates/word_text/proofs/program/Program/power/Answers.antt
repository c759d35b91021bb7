use Rattle.std.proofs.Common.{◌≡◌, ◌*◌, length, sym, refl, arith}
use Rattle.word_text.specs.Program.{word_of}
use Rattle.word_text.proofs.Algebra.{length-power, power_nil}
use Rattle.word_text.proofs.program.Program.power.Goals as goal

pub returns-then-letters-eq0 : goal.returns-then-letters-eq0
returns-then-letters-eq0 c =
    let none : c.args.raise.times * length (word_of c.args.self.now c.args.base) ≡ 0 = rw (← c.letters_of.ensures) c.if-letters-eq0.true in
    ((omega arith, λ k le. refl), omega arith, sym (power_nil c.args.raise.negative c.args.raise.times (word_of c.args.self.now c.args.base) none))

pub add-requires-clause-letters : goal.add-requires-clause-letters
add-requires-clause-letters c =
    rw (c.raised-line.ensures.word, length-power c.args.raise.negative c.args.raise.times (word_of c.args.self.now c.args.base), c.letters_of.ensures) refl
