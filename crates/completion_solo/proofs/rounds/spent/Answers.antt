use Rattle.std.proofs.Common.{◌≡◌, ℕ, refl, sym, subst}
use Rattle.outcomes.specs.declared.ends.End.TheVariants.{Spent}
use Rattle.pair_book.specs.Books.{Held}
use Rattle.completion_solo.specs.Finishing.{EndsWith}
use Rattle.completion_solo.proofs.Ending.{ends_spent}
use Rattle.completion_solo.proofs.rounds.spent.Goals as goal

pub returns : goal.returns
returns c =
    let h : Held = c.args.book.now in
    subst (λ (n : ℕ). EndsWith h.source h (Spent n c.in-Some.task) h) (sym c.commits.ensures.is)
    (ends_spent h.source h c.in-Some.task c.known.ensures refl c.requires.none_taken c.in-Some.ensures c.requires.spent)
