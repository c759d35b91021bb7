-- Why a multiple can't be taken from terms.
use Rattle.module_vec.specs.declared.places.Place.{Place}
use Rattle.module_vec.specs.Results.{IsGreatest}
use Rattle.changed_terms.specs.declared.faults.TakeFault.{TakeFault}
use Rattle.changed_terms.specs.declared.faults.TakeFault.TheVariants.{Wide, NoMemory}

-- where P says at which places a number leaves the range
abbrev pub CannotTake : (Place → Type 0) → TakeFault → Type 0
CannotTake P (Wide p) = IsGreatest P p
CannotTake P NoMemory = Unit {0}
