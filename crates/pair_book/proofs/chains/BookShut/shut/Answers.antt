use Rattle.std.proofs.Common.{arith, sym, ap, ◌∙◌, ◌≡◌, ◌<◌, length, subst}
use Rattle.std.proofs.lemmas.List.{length-map}
use Rattle.task_table.specs.Tasks.{IsTask, is_closed_later}
use Rattle.task_table.specs.Tables.{state_of}
use Rattle.basis_entry.specs.Entries.{BasisEntry}
use Rattle.pair_book.specs.Chaining.{s_task}
use Rattle.pair_book.proofs.Dues.{among_is, closed_pairs}
use Rattle.pair_book.proofs.chains.BookShut.shut.Goals as goal
use Rattle.pair_book.proofs.chains.BookShut.shut.Goals.{then-task-via-then-task, then-task-via-else-task+then-task-count}

pub returns-then-task-clause-exact : goal.returns-then-task-clause-exact
returns-then-task-clause-exact c =
    let h = c.args.self.now in
    let n = length-map h.entries (λ (x : BasisEntry). x.vector) in (
      λ f. absurd (cc),
      λ a.
          let k = subst (IsTask (length h.entries)) (sym c.s_task_of-task.ensures) ((among_is h.entries h.tasks c.args.i c.args.j).0 a).0 in
          let k0 = k.0 in let k1 = k.1 in
          elim c.then-task.branch [
            | then-task-via-then-task w ↦ absurd (omega (arith, k0, w.if-task.true))
            | then-task-via-else-task+then-task-count w ↦ absurd (omega (arith, k1, w.if-task-count.true, w.count.ensures.is, n))
          ],
    )

pub returns-then-task-clause-closed : goal.returns-then-task-clause-closed
returns-then-task-clause-closed c = closed_pairs c.args.self.now c.known.ensures

pub state-requires : goal.state-requires
state-requires c =
    let n = length-map c.args.self.now.entries (λ (x : BasisEntry). x.vector) in
    (omega (arith, c.if-task.false), omega (arith, c.if-task-count.false, c.count.ensures.is, n))

pub returns-clause-exact : goal.returns-clause-exact
returns-clause-exact c =
    let h = c.args.self.now in
    let n = length-map h.entries (λ (x : BasisEntry). x.vector) in
    let task = c.s_task_of-task.result in
    let q : c.is_closed_state.result ≡ is_closed_later (state_of h.tasks (s_task c.args.i c.args.j)) =
    c.is_closed_state.ensures ∙ ap is_closed_later (c.state.ensures ∙ ap (state_of h.tasks) c.s_task_of-task.ensures) in
    let within : task.j < length h.entries = omega (arith, c.if-task-count.false, c.count.ensures.is, n) in
    let is : IsTask (length h.entries) task = (omega (arith, c.if-task.false), within) in
    let k = subst (IsTask (length h.entries)) c.s_task_of-task.ensures is in
    (λ r. (among_is h.entries h.tasks c.args.i c.args.j).1 (k, sym q ∙ r), λ a. q ∙ ((among_is h.entries h.tasks c.args.i c.args.j).0 a).1)

pub returns-clause-closed : goal.returns-clause-closed
returns-clause-closed c = closed_pairs c.args.self.now c.known.ensures
