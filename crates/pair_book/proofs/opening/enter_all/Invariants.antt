use Rattle.std.proofs.Common.{◌≡◌, ◌≤◌, ◌*◌, map, take}
use Rattle.std.specs.Arc.{arc_value}
use Rattle.pair_book.specs.Books.{AreNew}
use Rattle.pair_book.specs.LogEntries.{terms_of}
use Rattle.pair_book.proofs.opening.enter_all.Given as goal

abbrev pub invariant-loop-entry : goal.invariant-loop-entry
invariant-loop-entry l = record {
  log_is : l.log ≡ record l.initial.log { entries = map arc_value (take l.entry-index l.base) };
  tasks_new : AreNew (map arc_value (take l.entry-index l.base)) l.tasks;
  order : l.tasks.order ≡ l.initial.tasks.order;
  room : l.tasks.room ≡ l.initial.tasks.room;
  terms_is : l.terms ≡ terms_of (map arc_value (take l.entry-index l.base));
  few : l.terms ≤ l.entry-index * 50000;
}
