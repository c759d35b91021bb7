use Rattle.std.proofs.Common.{◌≡◌, ◌+◌, ◌-◌, ◌++◌, length, take, drop, ◌∙◌, arith, refl}
use Rattle.std.proofs.lemmas.List.{with_items_is, take_rest}
use Rattle.derivation.specs.Making.{TakesOut}
use Rattle.derivation.proofs.GapLemmas.{taken_from_gap, gap_length}
use Rattle.derivation.proofs.gap.GapWord.take_out.Goals as goal

pub returns-then-there-clause-there : goal.returns-then-there-clause-there
returns-then-there-clause-there c =
    let all = c.move_gap-self-inside.new.letters in
    let word : take c.args.at all ++ drop c.move_gap-self-inside.result all ≡ c.args.self.now =
    rw c.deref_mut.ensures.value at c.move_gap-self-inside.ensures.word ∙ c.self.view_is in
    let long : length c.args.self.now ≡ c.self.inside.start + (length c.self.inside.letters.items - c.self.inside.end) =
    gap_length c.args.self.now c.self.inside.letters.items c.self.inside.start c.self.inside.end (omega arith) c.self.view_is in
    let left : length all ≡ c.self.inside.letters.len = omega arith in
    let held = with_items_is c.self.inside.letters all left in
    let stands = c.if-there.ensures.begins.0 refl in
    let taken : TakesOut c.args.at c.args.piece.now c.args.self.now (take c.args.at all ++ drop (c.move_gap-self-inside.result + length c.args.piece.now) all) =
    taken_from_gap c.args.self.now all c.args.piece.now _ c.args.at c.move_gap-self-inside.result (omega arith) word
    (stands.0, rw (c.deref.ensures.value, held, take_rest all c.move_gap-self-inside.result) at stands.1) refl in
    rw c.if-there.true (rw held taken)
