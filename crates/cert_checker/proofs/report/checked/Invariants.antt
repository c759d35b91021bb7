use Rattle.std.proofs.Common.{length}
use Rattle.std.specs.Prelude.{Result}
use Rattle.cert_checker.specs.declared.checked.Checked.{Checked}
use Rattle.cert_checker.specs.declared.faults.CertFault.{CertFault}
use Rattle.cert_checker.specs.States.{start, AreWords}
use Rattle.cert_checker.specs.Texts.{Tells}
use Rattle.cert_checker.proofs.report.checked.Given as goal

-- what is told of the lines that are left is told of the text
abbrev pub invariant-loop-line : goal.invariant-loop-line
invariant-loop-line l = record {
  told : (r : Result Checked CertFault) → Tells l.p l.generators.items l.number l.checker l.rest r → Tells l.p l.generators.items 1 start l.text r;
  words : AreWords l.p l.checker.subjects;
}

abbrev pub decreases-loop-line : goal.decreases-loop-line
decreases-loop-line l = length l.rest
