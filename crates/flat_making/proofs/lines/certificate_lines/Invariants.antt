use Rattle.std.proofs.Common.{◌++◌, List, drop}
use Rattle.formal_sums.specs.FormalSum.{FormalSum, coefficient}
use Rattle.module_vec.specs.declared.places.Place.{Place}
use Rattle.module_vec.specs.Places.{same_place}
use Rattle.flat_cert.specs.declared.lines.Flat.{Flat}
use Rattle.flat_making.specs.Handing.{Holds}
use Rattle.flat_making.specs.Lines.{AreLinesFrom}
use Rattle.flat_making.proofs.lines.certificate_lines.Given as goal

-- with the lines of the entries that are left these are all lines
abbrev pub invariant-loop-number : goal.invariant-loop-number
invariant-loop-number l = (all : FormalSum Place) → Holds l.handed all → (rest : List Flat)
    → AreLinesFrom l.kinds (coefficient same_place all) l.number (drop l.number l.entries) rest
    → AreLinesFrom l.kinds (coefficient same_place all) 0 l.entries (l.made.items ++ rest)
