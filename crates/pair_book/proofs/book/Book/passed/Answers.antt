use Rattle.std.proofs.Common.{arith, ap, length}
use Rattle.pair_book.specs.Inner.{held_of}
use Rattle.pair_work.specs.Outcomes.{recipe_steps}
use Rattle.pair_book.proofs.Bounds.{terms_small, steps_small, entries_few}
use Rattle.pair_book.proofs.book.Book.passed.Goals as goal

pub overflow_add-terms : goal.overflow_add-terms
overflow_add-terms c =
    let few = entries_few (held_of c.self.inside) c.self.invariant.book in
    let small = terms_small c.self.inside.log.entries c.self.invariant.logged.entries in
    omega (arith, few, small, c.self.invariant.terms, c.terms.ensures.vector.most, ap length c.terms.ensures.is)

pub overflow_add-steps : goal.overflow_add-steps
overflow_add-steps c =
    let few = entries_few (held_of c.self.inside) c.self.invariant.book in
    let small = steps_small c.self.inside.log.entries c.self.invariant.book.short in
    omega (arith, few, small, c.self.invariant.steps, c.requires, c.steps_in.ensures, ap recipe_steps c.recipe.ensures)
