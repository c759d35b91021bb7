use Rattle.std.proofs.Common.{length}
use Rattle.free_words.proofs.OverLemmas.{IsOver-Cancels}
use Rattle.check_commands.proofs.fox.shown.Goals as goal

pub write_word-requires : goal.write_word-requires
write_word-requires c = IsOver-Cancels (length c.args.p.now.names) c.args.w.now c.in_ok-reduced.reduced c.in_ok-reduced.ensures.same c.requires.0
