use Rattle.std.proofs.Common.{arith, refl, length, ◌≡◌, ◌-◌, ◌∙◌, sym, Some, slice_get}
use Rattle.std.proofs.lemmas.Option.{slice_get_read}
use Rattle.interleave_core.specs.Machine.{State}
use Rattle.interleave_core.specs.Inner.{state_in}
use Rattle.interleave_core.proofs.Following.{turn_follows}
use Rattle.interleave_core.proofs.Keeping.{worker_keeps, worker_steps}
use Rattle.interleave_core.proofs.Leading.{leads_on}
use Rattle.interleave_core.proofs.machine.Core.worker_turn.Goals as goal

pub invariant_of-self-2 : goal.invariant_of-self-2
invariant_of-self-2 c =
    let s : State = state_in c.self.inside in
    let core = c.self.invariant.core in
    let hand = c.index_mut-hand.result.now in
    let lo = c.requires.0 in
    let hi = c.requires.1 in
    let many = core.count in
    let found : slice_get c.self.inside.hands.items (c.args.number - 1) ≡ Some hand = slice_get_read c.self.inside.hands.items
    (length c.self.inside.hands.items) (c.args.number - 1) hand refl (omega (arith, lo, hi, many)) c.index_mut-hand.ensures.value in
    let did = c.in_ok-self-inside.ensures in
    let items = (turn_follows s.book c.turn.new.book hand c.turn.new.hand core.book (core.hands (c.args.number - 1) hand found) did.ok).items in
    record {
      core = worker_keeps s (c.args.number - 1) core hand found c.turn.new.book c.turn.new.hand did.ok did.book;
      source = c.self.invariant.source ∙ sym items.source;
      leads = leads_on c.self.inside.book.entries items.more c.turn.new.book.entries c.catch_up.new.index c.in_ok-catch_up.ensures.all items.entries;
      stuck = did.stuck;
    }

pub returns-clause-ok : goal.returns-clause-ok
returns-clause-ok c =
    let hand = c.index_mut-hand.result.now in
    let lo = c.requires.0 in
    let hi = c.requires.1 in
    let many = c.self.invariant.core.count in
    let found : slice_get c.self.inside.hands.items (c.args.number - 1) ≡ Some hand = slice_get_read c.self.inside.hands.items
    (length c.self.inside.hands.items) (c.args.number - 1) hand refl (omega (arith, lo, hi, many)) c.index_mut-hand.ensures.value in
    worker_steps (state_in c.self.inside) c.args.self.now c.self.view_is c.args.number hand found c.turn.new.book c.turn.new.hand
    c.in_ok-self-inside.ensures.ok
