use Rattle.std.proofs.Common.{◌≡◌, ◌++◌, length}
use Rattle.std.specs.Arc.{arc_value}
use Rattle.saved_basis.specs.Files.{begun_text}
use Rattle.saved_basis.proofs.reading.read_entries.Given as goal

abbrev pub invariant-loop-line : goal.invariant-loop-line
invariant-loop-line l = record {
  source : l.reader.source ≡ arc_value l.p;
  text : l.text ≡ begun_text (arc_value l.p) l.reader.entries ++ l.rest;
}

abbrev pub decreases-loop-line : goal.decreases-loop-line
decreases-loop-line l = length l.rest
