-- The fault of a step as that of its line, and the fault of a line as that of the text.
use Rattle.std.specs.Prelude.{◌≡◌, ℕ}
use Rattle.step_lists.specs.declared.faults.SumFault.{SumFault}
use Rattle.step_lists.specs.declared.faults.SumFault.TheVariants as sums
use Rattle.vector_text.specs.Over.{PlaceIsOver}
use Rattle.cert_checker.specs.declared.faults.CertKind.{CertKind}
use Rattle.cert_checker.specs.declared.faults.CertKind.TheVariants.{Text, NoEntry, NotEqual, NotZero, Wide, Long}
use Rattle.cert_checker.specs.declared.faults.CertFault.{CertFault}
use Rattle.cert_checker.specs.declared.faults.CertFault.TheVariants as texts
use Rattle.cert_checker.specs.declared.faults.LineFault.{LineFault}
use Rattle.cert_checker.specs.declared.faults.LineFault.TheVariants as faults

abbrev pub OfSum : SumFault → LineFault → Type 0
OfSum sums.Wide e = e ≡ faults.Fails Wide
OfSum sums.Long e = e ≡ faults.Fails Long
OfSum sums.NoMemory e = e ≡ faults.NoMemory

abbrev pub OfLine : ℕ → LineFault → CertFault → Type 0
OfLine n (faults.Fails k) e = e ≡ texts.Line n k
OfLine n faults.NoMemory e = e ≡ texts.NoMemory

-- a place that is named is over n generators
abbrev pub KindIsOver : ℕ → CertKind → Type 0
KindIsOver n Text = Unit {0}
KindIsOver n NoEntry = Unit {0}
KindIsOver n (NotEqual at) = PlaceIsOver n at
KindIsOver n (NotZero at) = PlaceIsOver n at
KindIsOver n Wide = Unit {0}
KindIsOver n Long = Unit {0}

abbrev pub FaultIsOver : ℕ → CertFault → Type 0
FaultIsOver n (texts.Line line k) = KindIsOver n k
FaultIsOver n texts.NoMemory = Unit {0}
