use Rattle.std.proofs.Common.{◌≡◌, ◌+◌, ◌-◌, ◌++◌, length, take, drop, ◌∙◌, arith}
use Rattle.std.specs.Vec.{with_items}
use Rattle.std.proofs.lemmas.List.{with_items_is}
use Rattle.derivation.proofs.GapLemmas.{put_in_gap, gap_length}
use Rattle.derivation.proofs.gap.GapWord.put_in.Goals as goal

pub returns : goal.returns
returns c =
    let all = c.move_gap-self-inside.new.letters in
    let word : take c.args.at all ++ drop c.move_gap-self-inside.result all ≡ c.args.self.now =
    rw c.deref_mut.ensures.value at c.move_gap-self-inside.ensures.word ∙ c.self.view_is in
    let long : length c.args.self.now ≡ c.self.inside.start + (length c.self.inside.letters.items - c.self.inside.end) =
    gap_length c.args.self.now c.self.inside.letters.items c.self.inside.start c.self.inside.end (omega arith) c.self.view_is in
    let left : length c.write_at.new.letters ≡ c.self.inside.letters.len = omega arith in
    let held = with_items_is (with_items c.self.inside.letters all) c.write_at.new.letters left in
    let moved = with_items_is c.self.inside.letters all (omega arith) in
    let written = rw (c.deref_mut-2.ensures.value, moved) at c.write_at.ensures.letters in
    rw held (put_in_gap c.args.self.now all c.write_at.new.letters c.args.piece.now c.args.at c.move_gap-self-inside.result (omega arith)
    (omega arith) word written)
