use Rattle.std.proofs.Common.{◌<◌, ◌≤◌, [], length, ap, arith}
use Rattle.word_text.specs.Program.{words_from}
use Rattle.word_text.proofs.Programs.{length-words, line_letters}
use Rattle.word_text.proofs.program.Program.letters_of.Goals as goal

pub index-requires : goal.index-requires
index-requires c = omega (arith, ap length c.self.view_is, length-words [] c.self.inside.entries.items)

pub returns-else-word-eq0 : goal.returns-else-word-eq0
returns-else-word-eq0 c =
    let some : 0 < c.args.word = omega arith in
    let within : c.args.word ≤ length (words_from [] c.self.inside.entries.items) = omega (arith, ap length c.self.view_is) in
    rw (c.index.ensures, ← c.self.view_is) (line_letters c.self.inside.entries.items c.args.word c.index.result.now c.self.invariant some within)
