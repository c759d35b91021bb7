use Rattle.std.proofs.Common.{arith, sym, ap, ◌∙◌, ◌<◌, length, subst}
use Rattle.task_table.specs.Tasks.{IsTask}
use Rattle.task_table.specs.Tables.{Table, state_of}
use Rattle.task_table.proofs.Counting.{number_within}
use Rattle.task_table.proofs.Reading.{is_state}
use Rattle.task_table.proofs.table.TaskTable.state.Goals as goal

pub index-requires : goal.index-requires
index-requires c =
    let P : Table → Type 0 = λ t. IsTask t.count c.args.task in let k = subst P (sym c.self.view_is) c.requires in
    let w = number_within c.args.task c.self.inside.count k in omega (arith, w, c.number.ensures, c.self.invariant.table.states)

pub returns : goal.returns
returns c =
    let P : Table → Type 0 = λ t. IsTask t.count c.args.task in let k = subst P (sym c.self.view_is) c.requires in
    let w = number_within c.args.task c.self.inside.count k in
    let at : c.number.result < length c.self.inside.states.items = omega (arith, w, c.number.ensures, c.self.invariant.table.states) in
    is_state c.self.inside.states.items c.args.task c.number.result c.index.result.now c.number.ensures at c.index.ensures
    ∙ ap (λ (t : Table). state_of t c.args.task) c.self.view_is
