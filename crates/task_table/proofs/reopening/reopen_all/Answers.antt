use Rattle.std.proofs.Common.{arith, sym, ap, ◌∙◌, ◌<◌, length, get_or}
use Rattle.std.proofs.lemmas.List.Edits.{map_over_more}
use Rattle.std.proofs.lemmas.List.Sums.{count_by_more_yes, count_by_more_no}
use Rattle.task_table.specs.declared.states.TaskState.TheVariants.{Open}
use Rattle.task_table.specs.Tasks.{reopened, is_reopened}
use Rattle.task_table.proofs.Reading.{read_ahead, any_default}
use Rattle.task_table.proofs.reopening.reopen_all.Goals as goal
use Rattle.task_table.proofs.reopening.reopen_all.Goals.{then-is, else-is}

pub loop-state-preserved : goal.loop-state-preserved
loop-state-preserved c =
    let lt : c.loop-state.state-index < length c.args.states.now = omega arith in
    let inv = c.loop-state.invariant.states_so_far in
    let ahead = read_ahead (reopened c.args.from) c.args.states.now c.loop-state.states c.loop-state.state-index Open lt inv in
    let test = c.is.ensures ∙ ap (is_reopened c.args.from) ahead in
    record {
      states_so_far = rw c.after.ensures (map_over_more (reopened c.args.from) c.args.states.now c.loop-state.states c.loop-state.state-index
          (get_or c.loop-state.states c.loop-state.state-index Open) lt inv (any_default c.loop-state.states c.loop-state.state-index Open
          (get_or c.loop-state.states c.loop-state.state-index Open) (omega arith)));
      count_so_far = elim c.if-is.branch [
        | then-is w ↦ let m = count_by_more_yes (is_reopened c.args.from) c.args.states.now c.loop-state.state-index Open lt (sym test ∙ w.if-is.true)
            in omega (arith, m, c.loop-state.invariant.count_so_far)
        | else-is w ↦ let m = count_by_more_no (is_reopened c.args.from) c.args.states.now c.loop-state.state-index Open lt (sym test ∙ w.if-is.false)
            in omega (arith, m, c.loop-state.invariant.count_so_far)
      ];
      within = elim c.if-is.branch [ then-is w ↦ omega arith | else-is w ↦ omega arith ];
    }
