use Rattle.std.proofs.Common.{◌≡◌, ◌≤◌, ℕ, List}
use Rattle.command_floor.specs.Parsing.{shown}
use Rattle.solve_commands.proofs.SessionFiles.{AreRead}
use Rattle.solve_commands.proofs.sessions.load_sessions.Given as goal

abbrev pub invariant-loop-at : goal.invariant-loop-at
invariant-loop-at g l = record {
  read : AreRead (g.S.Shelf.under l.initial.shelf) l.p l.base (shown l.names) l.at l.sessions.items;
  same : (n : List ℕ) → g.S.Shelf.under l.shelf n ≡ g.S.Shelf.under l.initial.shelf n;
  later : g.S.Shelf.faults l.initial.shelf ≤ g.S.Shelf.faults l.shelf;
}
