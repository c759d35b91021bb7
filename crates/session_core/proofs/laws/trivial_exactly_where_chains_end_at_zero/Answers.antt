use Rattle.std.specs.Prelude.{◌≡◌, List, []}
use Rattle.free_words.specs.declared.letter.Letter.{Letter}
use Rattle.presentation.specs.Presented.{Presented, IsPresented}
use Rattle.derivation.specs.Moves.{IsWordOver}
use Rattle.module_vec.specs.declared.places.Term.{Term}
use Rattle.module_vec.specs.Reducers.{AreEntries}
use Rattle.module_vec.specs.Vectors.{coefficient_at}
use Rattle.module_vec.proofs.Determined.{runs_are_chains}
use Rattle.fox_calculus.specs.Fox.{fox}
use Rattle.hom_check.specs.Shown.{fox_at, EndsIn}
use Rattle.reduce_cofactor.specs.Answers.{IsRest}
use Rattle.basis_entry.specs.Seals.{IsStrongBasis}
use Rattle.session_core.proofs.laws.trivial_exactly_where_chains_end_at_zero.Goals as goal

-- src/laws.rt:27:1
pub returns : goal.returns
returns c p b w rest known over entries basis ends =
    let chain : IsRest b (fox_at w) rest ends.0 = ends.1 in
    let decides = c.chains_decide_membership.ensures basis.gens b entries basis.strong (fox_at w) rest ends.0 chain.vector.sparse
    (runs_are_chains b ends.0 (fox_at w) (coefficient_at rest) chain.runs) chain.end in
    let magnus = c.trivial_exactly_where_member.ensures p w known over in (
      λ trivial. decides.1 (c.members_are_sums_of_the_list.ensures p basis.gens (fox w) basis.generators (magnus.0 trivial)),
      λ e. magnus.1 (c.sums_of_the_list_are_members.ensures p basis.gens (fox w) basis.generators (decides.0 e)),
    )
