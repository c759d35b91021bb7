use Rattle.std.proofs.Common.{length}
use Rattle.std.specs.Arc.{arc_value}
use Rattle.basis_entry.specs.Base.{has_negative_lead}
use Rattle.basis_entry.proofs.Over.{either_over}
use Rattle.basis_entry.proofs.Vectors.{either_member}
use Rattle.basis_entry.proofs.base.generator_entry.Goals as goal

pub of-requires-clause-member : goal.of-requires-clause-member
of-requires-clause-member c =
    either_member (arc_value c.args.p.now) (has_negative_lead c.args.vector) c.args.vector c.with_positive_lead-vector.result.0
    c.with_positive_lead-vector.ensures.vector c.requires.member

pub of-requires-clause-over : goal.of-requires-clause-over
of-requires-clause-over c =
    either_over (length (arc_value c.args.p.now).names) (has_negative_lead c.args.vector) c.args.vector c.with_positive_lead-vector.result.0
    c.with_positive_lead-vector.ensures.vector c.requires.over
