-- The fault of a step as that of its line, and the fault of a line as that of the file.
use Rattle.std.specs.Prelude.{ℕ}
use Rattle.step_lists.specs.declared.faults.SumFault.{SumFault}
use Rattle.step_lists.specs.declared.faults.SumFault.TheVariants as sums
use Rattle.saved_basis.specs.declared.faults.LineKind.TheVariants as kinds
use Rattle.saved_basis.specs.declared.faults.LineFault.{LineFault}
use Rattle.saved_basis.specs.declared.faults.LineFault.TheVariants.{Fails, NoMemory}
use Rattle.saved_basis.specs.declared.faults.BasisFault.{BasisFault}
use Rattle.saved_basis.specs.declared.faults.BasisFault.TheVariants as files

abbrev pub of_sum : SumFault → LineFault
of_sum sums.Wide = Fails kinds.Wide
of_sum sums.Long = Fails kinds.Long
of_sum sums.NoMemory = NoMemory

abbrev pub of_line : ℕ → LineFault → BasisFault
of_line n (Fails k) = files.Line n k
of_line n NoMemory = files.NoMemory
