use Rattle.std.proofs.Common.{◌-◌, [], vec_len, map, string_bytes}
use Rattle.word_text.specs.Machine.{finding}
use Rattle.presentation.specs.declared.TheConstants.{RELATORS}
use Rattle.presentation.specs.Reading.{relators_from}
use Rattle.presentation.proofs.RelatorTurns.{Going}
use Rattle.presentation.proofs.relators.some_relators.Given as goal

abbrev pub invariant-loop-relators : goal.invariant-loop-relators
invariant-loop-relators l =
    Going (finding (map string_bytes l.names)) (relators_from RELATORS (finding (map string_bytes l.names)) [] l.text) l.relators.items l.rest

abbrev pub decreases-loop-relators : goal.decreases-loop-relators
decreases-loop-relators l = 64 - vec_len l.relators
