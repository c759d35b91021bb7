use Rattle.std.proofs.Common.{◌≡◌, subst, List, Some, slice_get}
use Rattle.interleave_core.specs.declared.hands.Hand.{Hand}
use Rattle.interleave_core.specs.Inner.{IsUnclosed, state_in}
use Rattle.interleave_core.specs.Machine.{State}
use Rattle.interleave_core.proofs.Turning.{busy_unclosed}
use Rattle.interleave_core.proofs.machine.Core.is_unclosed.Goals as goal

pub returns-else-self : goal.returns-else-self
returns-else-self c is =
    let busy = c.some_busy.ensures is in
    let at : slice_get c.self.inside.hands.items busy.0 ≡ Some busy.1 = subst (λ (l : List Hand). slice_get l busy.0 ≡ Some busy.1)
    c.deref.ensures.value busy.2 in
    subst (λ (s : State). IsUnclosed s.book) c.self.view_is (busy_unclosed (state_in c.self.inside) c.self.invariant.core busy.0 busy.1 at busy.3)
