-- Vectors modulo the module of a presentation.
use Rattle.std.specs.Prelude.{negsuc, ◌++◌}
use Rattle.presentation.specs.Presented.{Presented}
use Rattle.formal_sums.specs.FormalSum.{FormalSum, scale}
use Rattle.module_vec.specs.declared.places.Place.{Place}
use Rattle.fox_calculus.specs.Module.{IsMember}

-- the difference v - w lies in the module
abbrev pub AreCongruent : Presented → FormalSum Place → FormalSum Place → Type 0
AreCongruent p v w = IsMember p (v ++ scale (negsuc 0) w)
