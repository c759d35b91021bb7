use Rattle.std.proofs.Common.{◌≡◌, ◌≤◌, ◌*◌, map, take}
use Rattle.std.specs.Arc.{arc_value}
use Rattle.pair_book.specs.LogEntries.{terms_of}
use Rattle.pair_book.proofs.opening.count_terms.Given as goal

abbrev pub invariant-loop-entry : goal.invariant-loop-entry
invariant-loop-entry l = record {
  terms_is : l.terms ≡ terms_of (map arc_value (take l.entry-index l.entries));
  few : l.terms ≤ l.entry-index * 50000;
}
