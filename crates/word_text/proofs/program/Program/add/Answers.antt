use Rattle.std.proofs.Common.{◌≡◌, [], length, arith}
use Rattle.word_text.proofs.Programs.{program_push, added}
use Rattle.word_text.proofs.program.Program.add.Goals as goal

pub invariant_of-self-2 : goal.invariant_of-self-2
invariant_of-self-2 c =
    rw (c.in_ok-push.ensures.items) (program_push [] c.self.inside.entries.items _ c.self.invariant
    (rw (c.self.view_is) (c.requires.earlier, c.requires.letters)))

pub returns : goal.returns
returns c =
    let n : c.len.result ≡ length c.push.new.self.items = omega arith in
    rw (← c.self.view_is, n) (added c.self.inside.entries.items c.push.new.self.items _ c.in_ok-push.ensures.items)
