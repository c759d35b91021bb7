use Rattle.std.proofs.Common.{sym, ap, ◌∙◌, ◌++◌, ◌∷◌, [], length, subst}
use Rattle.std.specs.Prelude.{◌↔◌, IsTrue}
use Rattle.std.proofs.lemmas.List.{length-map}
use Rattle.std.specs.Arc.{arc_value}
use Rattle.outcomes.specs.declared.tasks.Task.{Task}
use Rattle.strong_pairs.specs.Tasks.{IsClosed}
use Rattle.basis_entry.specs.Entries.{BasisEntry, vectors_of}
use Rattle.pair_work.specs.declared.outcome.Close.{Close}
use Rattle.pair_work.specs.Outcomes.{IsTrueOf, IsRestOf}
use Rattle.pair_book.specs.Books.{Held}
use Rattle.pair_book.specs.Chaining.{ClosesChained}
use Rattle.pair_book.specs.Commits.{OnRest, appended_by}
use Rattle.pair_book.proofs.book.Book.carry_out.Goals as goal

pub append-closed-requires-clause-rest : goal.append-closed-requires-clause-rest
append-closed-requires-clause-rest c =
    let b = vectors_of c.args.self.now.entries in
    let t = c.task-task.ensures.outcome.close c.args.self.now.entries c.requires.1 in
    let r = subst (λ (x : Close). IsTrueOf b c.args.o.task x) (sym c.in-Rest.ensures) t in
    subst (λ (z : Task). IsRestOf b z (arc_value c.in-Rest.entry)) (sym c.task-task.ensures.is) r

pub returns-in-Rest : goal.returns-in-Rest
returns-in-Rest c =
    let old = c.args.self.now in
    let new = c.chain_behind.new.self in
    let closed = c.append-closed.result in
    let e : BasisEntry = arc_value c.in-Rest.entry in
    let n = c.count-number.ensures.is ∙ length-map old.entries (λ (x : BasisEntry). x.vector) in
    let T : Task → BasisEntry → Type 0 = λ z x. (IsTrue closed ↔ IsClosed (vectors_of (old.entries ++ x ∷ [])) z.kind z.i z.j)
    × ClosesChained (appended_by old z x closed) z closed new in
    let chained = subst (λ (h : Held). ClosesChained h c.task-task.result closed new) c.append-closed.ensures.new c.chain_behind.ensures in
    let here = subst (λ (z : Task). T z e) c.task-task.ensures.is (c.append-closed.ensures.closed, chained) in
    (c.requires, n, subst (λ (x : Close). OnRest x (λ y. T c.args.o.task y)) c.in-Rest.ensures here)
