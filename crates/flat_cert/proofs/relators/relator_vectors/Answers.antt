use Rattle.std.proofs.Common.{◌∙◌, ap, sym, subst, take, ◌++◌, ◌∷◌, [], ◌+◌}
use Rattle.std.proofs.lemmas.List.{take_more}
use Rattle.flat_cert.specs.declared.relators.RelatorVector.{RelatorVector}
use Rattle.flat_cert.specs.Adding.{AreRelators}
use Rattle.flat_cert.proofs.Taking.{relators_more}
use Rattle.flat_cert.proofs.relators.relator_vectors.Goals as goal

pub loop-r-preserved : goal.loop-r-preserved
loop-r-preserved c =
    let v : RelatorVector = record { vector = c.in_ok-vector.vector; image = c.image-image.result } in
    let all = relators_more (take c.loop-r.r-index c.relators-r-items.result.now) c.loop-r.made.items c.r-item.result v c.loop-r.invariant
    c.in_ok-vector.ensures.is c.image-image.ensures.is in
    subst (AreRelators (take (c.loop-r.r-index + 1) c.relators-r-items.result.now)) (sym c.in_ok-push.ensures.items)
    (subst (λ rs. AreRelators rs (c.loop-r.made.items ++ v ∷ []))
    (ap (λ r. take c.loop-r.r-index c.relators-r-items.result.now ++ r ∷ []) c.r-item.is
    ∙ sym (take_more c.relators-r-items.result.now c.loop-r.r-index c.r-item.result c.loop-r-test.true)) all)
