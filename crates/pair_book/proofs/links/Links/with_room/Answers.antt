use Rattle.pair_book.proofs.Linking.{linked_none}
use Rattle.pair_book.proofs.links.Links.with_room.Goals as goal

pub returns-clause-linked : goal.returns-clause-linked
returns-clause-linked c = λ f. linked_none f c.in_ok-before.before.items c.in_ok-last.last.items c.in_ok-before.ensures.items c.in_ok-last.ensures.length
    c.in_ok-last.ensures.none
