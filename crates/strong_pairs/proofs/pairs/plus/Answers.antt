use Rattle.std.proofs.Common.{neg_ℤ, ap, ◌∙◌, sym, subst}
use Rattle.module_vec.specs.Vectors.{coefficient_at, multiple_at, difference_at}
use Rattle.module_vec.specs.Results.{Makes, DifferenceIsWide}
use Rattle.module_vec.specs.Chains.{taken_at}
use Rattle.strong_pairs.proofs.Quotients.{word-neg}
use Rattle.strong_pairs.proofs.LeadTerms.{vector_read}
use Rattle.strong_pairs.proofs.Adding.{multiple-neg, added}
use Rattle.strong_pairs.proofs.pairs.plus.Goals as goal

pub returns : goal.returns
returns g c =
    let b = g.L.VecList.vectors c.args.list.now in
    let s = c.args.step.now in
    let v = vector_read b s.by c.vector.result.now c.vector.ensures.is in
    added (coefficient_at c.args.v.now) (taken_at b s) (multiple_at (neg_ℤ s.q) s.t c.vector.result.now)
    (λ x. multiple-neg s.q s.t c.vector.result.now x ∙ ap (λ w. neg_ℤ (multiple_at s.q s.t w x)) (sym v)) c.sub_multiple.result
    (subst (λ q. Makes (DifferenceIsWide (coefficient_at c.args.v.now) (multiple_at q s.t c.vector.result.now))
    (difference_at (coefficient_at c.args.v.now) (multiple_at q s.t c.vector.result.now)) c.sub_multiple.result) (word-neg s.q c.requires.range)
    c.sub_multiple.ensures)
