use Rattle.std.proofs.Common.{◌≡◌, ◌++◌, ◌∷◌, length}
use Rattle.flat_cert.specs.Texts.{title, lines_text, IsCertificate}
use Rattle.flat_cert.proofs.reading.read_flat.Given as goal

abbrev pub invariant-loop-line : goal.invariant-loop-line
invariant-loop-line l = record {
  certificate : IsCertificate l.p l.list.items;
  text : l.text ≡ title ++ 10 ∷ (lines_text l.p.names l.list.items ++ l.rest);
}

abbrev pub decreases-loop-line : goal.decreases-loop-line
decreases-loop-line l = length l.rest
