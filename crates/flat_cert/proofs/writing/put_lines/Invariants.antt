use Rattle.std.proofs.Common.{◌≤◌, ℕ, List, Option, Result, drop}
use Rattle.flat_cert.specs.declared.faults.WriteFault.{WriteFault}
use Rattle.flat_cert.specs.Texts.{lines_text}
use Rattle.flat_cert.specs.Writing.{Puts}
use Rattle.flat_cert.proofs.writing.put_lines.Given as goal

-- what comes of the lines that are left comes of all
abbrev pub invariant-loop-line : goal.invariant-loop-line
invariant-loop-line g l = record {
  text : (r : Result (Unit {0}) WriteFault) (new : Option (List ℕ)) → Puts (g.K.Sink.taken l.out) (lines_text l.p.names (drop l.line-index l.list)) r new
      → Puts (g.K.Sink.taken l.fn.out) (lines_text l.p.names l.list) r new;
  later : g.K.Sink.faults l.fn.out ≤ g.K.Sink.faults l.out;
}
