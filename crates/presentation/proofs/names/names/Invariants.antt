use Rattle.std.proofs.Common.{◌-◌, vec_len, map, string_bytes}
use Rattle.presentation.specs.Reading.{names_at}
use Rattle.presentation.proofs.NameTurns.{Going}
use Rattle.presentation.proofs.names.names.Given as goal

abbrev pub invariant-loop-names : goal.invariant-loop-names
invariant-loop-names l = Going (names_at l.text) (map string_bytes l.names.items) l.rest

abbrev pub decreases-loop-names : goal.decreases-loop-names
decreases-loop-names l = 24 - vec_len l.names
