use Rattle.std.proofs.Common.{◌++◌, map, drop, string_bytes, codes}
use Rattle.presentation.specs.Writing.{joined}
use Rattle.presentation.proofs.WritingSteps.{Left}
use Rattle.presentation.proofs.writing.append_names.Given as goal

abbrev pub invariant-loop-name : goal.invariant-loop-name
invariant-loop-name l = Left string_bytes (codes ", ") l.out.items (drop l.name-index l.others)
    (l.fn.out.items ++ joined (codes ", ") (map string_bytes l.names))
