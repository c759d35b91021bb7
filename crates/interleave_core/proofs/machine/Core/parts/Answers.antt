use Rattle.std.proofs.Common.{rules, refl, sym, ap, subst, ◌<◌, ◌≤◌, ◌∙◌, ◌+◌, List, length, drop}
use Rattle.std.proofs.lemmas.List.{drop_all}
use Rattle.pair_book.specs.Books.{Held}
use Rattle.interleave_core.specs.declared.hands.Hand.{Hand}
use Rattle.interleave_core.specs.Askers.{AreAskers}
use Rattle.interleave_core.specs.Machine.{State}
use Rattle.interleave_core.specs.Opening.{all_given_back}
use Rattle.interleave_core.proofs.Giving.{AreLeft, hand_at, one_given, left}
use Rattle.interleave_core.proofs.machine.Core.parts.Goals as goal

pub give_back-requires : goal.give_back-requires
give_back-requires c =
    let lt : c.loop-hand.hand-index < length c.deref-hand-items.result.now = search rules in
    let next = hand_at c.deref-hand-items.result.now c.loop-hand.hand-index c.hand-item.result lt c.hand-item.is in
    (subst (AreLeft c.loop-hand.book) next c.loop-hand.invariant.left).each 0 c.hand-item.result refl

pub loop-hand-preserved : goal.loop-hand-preserved
loop-hand-preserved c =
    let lt : c.loop-hand.hand-index < length c.deref-hand-items.result.now = search rules in
    let rest : List Hand = drop (c.loop-hand.hand-index + 1) c.deref-hand-items.result.now in
    let next = hand_at c.deref-hand-items.result.now c.loop-hand.hand-index c.hand-item.result lt c.hand-item.is in
    record {
      given = ap (λ (h : Held). all_given_back h rest) c.give_back.ensures.is
          ∙ (sym (ap (all_given_back c.loop-hand.book) next) ∙ c.loop-hand.invariant.given);
      left = subst (λ (h : Held). AreLeft h rest) (sym c.give_back.ensures.is) (one_given c.loop-hand.book c.hand-item.result rest
          c.loop-hand.invariant.book (subst (AreLeft c.loop-hand.book) next c.loop-hand.invariant.left));
      book = c.give_back.ensures.book;
    }

pub returns : goal.returns
returns c =
    let le : length c.deref-hand-items.result.now ≤ c.loop-hand.hand-index = search rules in
    left c.args.self c.loop-hand.book c.self.inside.sessions.items (ap (λ (s : State). s.sessions) c.self.view_is)
    (subst (λ (s : State). AreAskers s.book c.self.inside.sessions.items) c.self.view_is c.self.invariant.core.sessions)
    (sym (ap (all_given_back c.loop-hand.book) (drop_all c.loop-hand.hand-index c.deref-hand-items.result.now le))
    ∙ c.loop-hand.invariant.given)
