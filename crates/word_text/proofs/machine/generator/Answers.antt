use Rattle.std.proofs.Common.{◌∙◌, sym, string_bytes}
use Rattle.std.specs.Str.{bytes_eq}
use Rattle.word_text.proofs.Finding.{position-map}
use Rattle.word_text.proofs.machine.generator.Goals as goal

pub returns : goal.returns
returns c = c.place_of.ensures ∙ sym (position-map string_bytes (λ n. bytes_eq n c.args.name.now) c.args.names.now)
